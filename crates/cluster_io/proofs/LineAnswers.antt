-- What a reader of lines answers, by the bytes that it has looked at.
use Rattle.std.proofs.Common.{◌≡◌, ℕ, ◌+◌, ◌-◌, ◌≤◌, ◌<◌, nat_lt, nat_le, Bool, true, false, cond, List, [], ◌∷◌, ◌++◌, length, arith, refl, ap, sym, subst, ◌∙◌}
use Rattle.std.specs.List.{concat}
use Rattle.std.proofs.lemmas.Bool.{cond-true, cond-false, lt-ltb, le-ltb, le-leb, lt-leb}
use Rattle.std.proofs.lemmas.List.{append-nil, length-append, length_push}
use Rattle.std.proofs.lemmas.List.Folds.{concat-append}
use Rattle.crm_lex.specs.RawLines.{physical_lines, joined, goes_on, content, ends_in}
use Rattle.cluster_io.specs.NextLine.{has_feed, first_line_of, first_line, content_within, line_answer, reader_answer}
use Rattle.cluster_io.specs.Inner.Scanning.{Joins, physical_content_length}
use Rattle.cluster_io.specs.Inner.FoundLines.{before_feed}
use Rattle.cluster_io.specs.declared.line_step.LineStep.TheVariants.{Line, TooLong, TooLarge}
use Rattle.cluster_io.proofs.Texts.{content_at_feed, content_begun, content_begun_whole, content_without_feed, length-before_feed}
use Rattle.cluster_io.proofs.PhysicalLines.{content_within-append, content_within_none, continues_after, first_line_after, first_alone, first_ends, fronts, begun, physical_at_feed, physical_open, lines_more, Begun}
use Rattle.crm_lex.proofs.PhysicalLines.{concat-lines}

pub answer_some : (room longest : ℕ) (text : List ℕ) → 0 < length text
    → reader_answer room longest text ≡ line_answer room longest (first_line text)
answer_some room longest [] h = absurd (omega arith)
answer_some room longest (b ∷ bs) h = refl

pub answers_long : (room longest : ℕ) (lines : List (List ℕ)) → longest < content_within room lines → line_answer room longest lines ≡ TooLong
answers_long room longest lines h =
    cond-true (nat_lt longest (content_within room lines)) TooLong (cond (nat_le (length (concat lines)) room) Line TooLarge)
    (lt-ltb longest (content_within room lines) h)

pub answers_large : (room longest : ℕ) (lines : List (List ℕ)) → content_within room lines ≤ longest → room < length (concat lines)
    → line_answer room longest lines ≡ TooLarge
answers_large room longest lines h k =
    cond-false (nat_lt longest (content_within room lines)) TooLong (cond (nat_le (length (concat lines)) room) Line TooLarge)
    (le-ltb longest (content_within room lines) h)
    ∙ cond-false (nat_le (length (concat lines)) room) Line TooLarge (lt-leb (length (concat lines)) room k)

pub answers_line : (room longest : ℕ) (lines : List (List ℕ)) → content_within room lines ≤ longest → length (concat lines) ≤ room
    → line_answer room longest lines ≡ Line
answers_line room longest lines h k =
    cond-false (nat_lt longest (content_within room lines)) TooLong (cond (nat_le (length (concat lines)) room) Line TooLarge)
    (le-ltb longest (content_within room lines) h)
    ∙ cond-true (nat_le (length (concat lines)) room) Line TooLarge (le-leb (length (concat lines)) room k)

-- bytes that join stand before a text, of which these are the physical lines that follow in the first logical line
module _ (done text : List ℕ) (others : List (List ℕ)) (room longest : ℕ) (j : Joins done)
    (follow : first_line_of (joined (continues_after false (physical_lines done)) (physical_lines text)) ≡ others)
    (fits : length done ≤ room) where
  pub first_is : first_line (done ++ text) ≡ physical_lines done ++ others
  first_is = first_line_after done text j ∙ ap (λ lines. physical_lines done ++ lines) follow

  pub within_is : content_within room (first_line (done ++ text)) ≡ physical_content_length (physical_lines done) + content_within (room - length done) others
  within_is =
      let same = concat-lines done in
      ap (content_within room) first_is
      ∙ (content_within-append (physical_lines done) others room (rw same fits)
      ∙ ap (λ (t : List ℕ). physical_content_length (physical_lines done) + content_within (room - length t) others) same)

  pub length_is : length (concat (first_line (done ++ text))) ≡ length done + length (concat others)
  length_is =
      ap (λ lines. length (concat lines)) first_is
      ∙ (ap length (concat-append (physical_lines done) others)
      ∙ (ap (λ (t : List ℕ). length (t ++ concat others)) (concat-lines done) ∙ length-append done (concat others)))

some_bytes : (done text rest : List ℕ) (b : ℕ) → 0 < length (done ++ (text ++ b ∷ rest))
some_bytes done text rest b = omega (arith, length-append done (text ++ b ∷ rest), length-append text (b ∷ rest))

-- what follows in the first logical line where a line feed comes
module _ (done text rest : List ℕ) (none : has_feed text ≡ false) where
  feed_others : List (List ℕ)
  feed_others = (fronts (continues_after false (physical_lines done)) (text ++ 10 ∷ []) (physical_lines rest)).others

  feed_follows : first_line_of (joined (continues_after false (physical_lines done)) (physical_lines (text ++ 10 ∷ rest)))
      ≡ (text ++ 10 ∷ []) ∷ feed_others
  unfolding feed_others
  feed_follows =
      ap (λ lines. first_line_of (joined (continues_after false (physical_lines done)) lines)) (physical_at_feed text rest none)
      ∙ (fronts (continues_after false (physical_lines done)) (text ++ 10 ∷ []) (physical_lines rest)).is

-- the answers where bytes that join stand before a text with a line feed
module _ (done text rest : List ℕ) (room longest : ℕ) (j : Joins done) (none : has_feed text ≡ false)
    (fits : length done + length text ≤ room) where
  line_content : length (content (text ++ 10 ∷ [])) ≡ length (before_feed text)
  line_content = ap length (content_at_feed text)

  pub feed_too_long : longest < physical_content_length (physical_lines done) + length (before_feed text)
      → reader_answer room longest (done ++ (text ++ 10 ∷ rest)) ≡ TooLong
  feed_too_long h =
      let w = within_is done (text ++ 10 ∷ rest) ((text ++ 10 ∷ []) ∷ feed_others done text rest none) room longest j
      (feed_follows done text rest none) (omega arith) in
      let short = length-before_feed text in
      answer_some room longest (done ++ (text ++ 10 ∷ rest)) (some_bytes done text rest 10)
      ∙ answers_long room longest (first_line (done ++ (text ++ 10 ∷ rest))) (omega (arith, w, line_content, short.0))

  pub feed_too_large : physical_content_length (physical_lines done) + length (before_feed text) ≤ longest → length done + length text ≡ room
      → reader_answer room longest (done ++ (text ++ 10 ∷ rest)) ≡ TooLarge
  feed_too_large h k =
      let others = feed_others done text rest none in
      let w = within_is done (text ++ 10 ∷ rest) ((text ++ 10 ∷ []) ∷ others) room longest j
      (feed_follows done text rest none) (omega arith) in
      let l = length_is done (text ++ 10 ∷ rest) ((text ++ 10 ∷ []) ∷ others) room longest j
      (feed_follows done text rest none) (omega arith) in
      let both = length-append (text ++ 10 ∷ []) (concat others) in
      let short = length-before_feed text in
      let e : room - length done - length (text ++ 10 ∷ []) ≡ 0 = omega (arith, length_push text 10) in
      let z : content_within (room - length done - length (text ++ 10 ∷ [])) others ≡ 0 =
      ap (λ r. content_within r others) e ∙ content_within_none others in
      answer_some room longest (done ++ (text ++ 10 ∷ rest)) (some_bytes done text rest 10)
      ∙ answers_large room longest (first_line (done ++ (text ++ 10 ∷ rest))) (omega (arith, w, z, line_content, short.0))
      (omega (arith, l, both, length_push text 10))

  module _ (ends : goes_on (continues_after false (physical_lines done)) (text ++ 10 ∷ []) ≡ false) where
    ends_here : first_line_of (joined (continues_after false (physical_lines done)) (physical_lines (text ++ 10 ∷ rest))) ≡ (text ++ 10 ∷ []) ∷ []
    ends_here =
        ap (λ lines. first_line_of (joined (continues_after false (physical_lines done)) lines)) (physical_at_feed text rest none)
        ∙ first_ends (continues_after false (physical_lines done)) (text ++ 10 ∷ []) (physical_lines rest) ends

    pub feed_first : first_line (done ++ (text ++ 10 ∷ rest)) ≡ physical_lines (done ++ (text ++ 10 ∷ []))
    feed_first =
        first_is done (text ++ 10 ∷ rest) ((text ++ 10 ∷ []) ∷ []) room longest j ends_here (omega arith)
        ∙ sym (lines_more done text j none)

    pub feed_line : physical_content_length (physical_lines done) + length (before_feed text) ≤ longest → length done + length text < room
        → reader_answer room longest (done ++ (text ++ 10 ∷ rest)) ≡ Line
    feed_line h k =
        let w = within_is done (text ++ 10 ∷ rest) ((text ++ 10 ∷ []) ∷ []) room longest j ends_here (omega arith) in
        let l = length_is done (text ++ 10 ∷ rest) ((text ++ 10 ∷ []) ∷ []) room longest j ends_here (omega arith) in
        let both = length-append (text ++ 10 ∷ []) [] in
        let short = length-before_feed text in
        answer_some room longest (done ++ (text ++ 10 ∷ rest)) (some_bytes done text rest 10)
        ∙ answers_line room longest (first_line (done ++ (text ++ 10 ∷ rest))) (omega (arith, w, line_content, short.0))
        (omega (arith, l, both, length_push text 10))

-- the answers where bytes that join stand before a text that begins without a line feed
module _ (done : List ℕ) (b : ℕ) (bs rest : List ℕ) (room longest : ℕ) (j : Joins done) (none : has_feed (b ∷ bs) ≡ false)
    (fits : length done + length bs ≤ room) where
  open_begun : Begun (b ∷ bs) rest
  open_begun = begun b bs rest none

  open_line : List ℕ
  unfolding open_begun
  open_line = (b ∷ bs) ++ open_begun.more

  open_others : List (List ℕ)
  unfolding open_begun open_line
  open_others = (fronts (continues_after false (physical_lines done)) open_line open_begun.others).others

  open_follows : first_line_of (joined (continues_after false (physical_lines done)) (physical_lines ((b ∷ bs) ++ rest))) ≡ open_line ∷ open_others
  unfolding open_begun open_line open_others
  open_follows =
      ap (λ lines. first_line_of (joined (continues_after false (physical_lines done)) lines)) open_begun.is
      ∙ (fronts (continues_after false (physical_lines done)) open_line open_begun.others).is

  open_long : length (b ∷ bs) ≤ length open_line
  unfolding open_begun open_line
  open_long = omega (arith, length-append (b ∷ bs) open_begun.more)

  open_content : length (b ∷ bs) ≤ length (content open_line) + 1
  unfolding open_begun open_line
  open_content = content_begun (b ∷ bs) open_begun.more none

  pub open_too_long : longest < physical_content_length (physical_lines done) + length bs
      → reader_answer room longest (done ++ ((b ∷ bs) ++ rest)) ≡ TooLong
  open_too_long h =
      let w = within_is done ((b ∷ bs) ++ rest) (open_line ∷ open_others) room longest j open_follows (omega arith) in
      answer_some room longest (done ++ ((b ∷ bs) ++ rest)) (some_bytes done [] (bs ++ rest) b)
      ∙ answers_long room longest (first_line (done ++ ((b ∷ bs) ++ rest))) (omega (arith, w, open_content))

  -- where they don't end in a carriage return, each of them counts
  open_content_whole : ends_in 13 (b ∷ bs) ≡ false → length (b ∷ bs) ≤ length (content open_line)
  unfolding open_begun open_line
  open_content_whole return = content_begun_whole (b ∷ bs) open_begun.more none return

  pub open_too_long_whole : ends_in 13 (b ∷ bs) ≡ false → length done + length (b ∷ bs) ≤ room
      → longest < physical_content_length (physical_lines done) + length (b ∷ bs) → reader_answer room longest (done ++ ((b ∷ bs) ++ rest)) ≡ TooLong
  open_too_long_whole return within h =
      let w = within_is done ((b ∷ bs) ++ rest) (open_line ∷ open_others) room longest j open_follows (omega arith) in
      answer_some room longest (done ++ ((b ∷ bs) ++ rest)) (some_bytes done [] (bs ++ rest) b)
      ∙ answers_long room longest (first_line (done ++ ((b ∷ bs) ++ rest))) (omega (arith, w, open_content_whole return))

  pub open_too_large : physical_content_length (physical_lines done) + length bs ≤ longest → length done + length bs ≡ room
      → reader_answer room longest (done ++ ((b ∷ bs) ++ rest)) ≡ TooLarge
  open_too_large h k =
      let w = within_is done ((b ∷ bs) ++ rest) (open_line ∷ open_others) room longest j open_follows (omega arith) in
      let l = length_is done ((b ∷ bs) ++ rest) (open_line ∷ open_others) room longest j open_follows (omega arith) in
      let both = length-append open_line (concat open_others) in
      let e : room - length done - length open_line ≡ 0 = omega (arith, open_long) in
      let z : content_within (room - length done - length open_line) open_others ≡ 0 =
      ap (λ r. content_within r open_others) e ∙ content_within_none open_others in
      answer_some room longest (done ++ ((b ∷ bs) ++ rest)) (some_bytes done [] (bs ++ rest) b)
      ∙ answers_large room longest (first_line (done ++ ((b ∷ bs) ++ rest))) (omega (arith, w, z))
      (omega (arith, l, both, open_long))

-- the answers at the end of the source
pub last_joined : (done : List ℕ) (room longest : ℕ) → Joins done → 0 < length done → length done ≤ room
    → physical_content_length (physical_lines done) ≤ longest → reader_answer room longest done ≡ Line
last_joined done room longest j some fits h =
    let alone = append-nil done in
    let w = within_is done [] [] room longest j refl fits in
    let l = length_is done [] [] room longest j refl fits in
    let left : 0 < length (done ++ []) = rw alone some in
    subst (λ text. reader_answer room longest text ≡ Line) alone
    (answer_some room longest (done ++ []) left
    ∙ answers_line room longest (first_line (done ++ [])) (omega (arith, w)) (omega (arith, l)))

module _ (done : List ℕ) (b : ℕ) (bs : List ℕ) (room longest : ℕ) (j : Joins done) (none : has_feed (b ∷ bs) ≡ false)
    (fits : length done + length (b ∷ bs) ≤ room) where
  last_follows : first_line_of (joined (continues_after false (physical_lines done)) (physical_lines (b ∷ bs))) ≡ (b ∷ bs) ∷ []
  last_follows =
      ap (λ lines. first_line_of (joined (continues_after false (physical_lines done)) lines)) (physical_open b bs none)
      ∙ first_alone (continues_after false (physical_lines done)) (b ∷ bs)

  last_within : content_within room (first_line (done ++ b ∷ bs)) ≡ physical_content_length (physical_lines done) + length (b ∷ bs)
  last_within =
      let w = within_is done (b ∷ bs) ((b ∷ bs) ∷ []) room longest j last_follows (omega arith) in
      let c : length (content (b ∷ bs)) ≡ length (b ∷ bs) = ap length (content_without_feed (b ∷ bs) none) in
      omega (arith, w, c)

  pub last_too_long : longest < physical_content_length (physical_lines done) + length (b ∷ bs) → reader_answer room longest (done ++ b ∷ bs) ≡ TooLong
  last_too_long h =
      answer_some room longest (done ++ b ∷ bs) (some_bytes done [] bs b)
      ∙ answers_long room longest (first_line (done ++ b ∷ bs)) (omega (arith, last_within))

  pub last_line : physical_content_length (physical_lines done) + length (b ∷ bs) ≤ longest → reader_answer room longest (done ++ b ∷ bs) ≡ Line
  last_line h =
      let l = length_is done (b ∷ bs) ((b ∷ bs) ∷ []) room longest j last_follows (omega arith) in
      let both = length-append (b ∷ bs) [] in
      answer_some room longest (done ++ b ∷ bs) (some_bytes done [] bs b)
      ∙ answers_line room longest (first_line (done ++ b ∷ bs)) (omega (arith, last_within)) (omega (arith, l, both))

-- what isn't too long within the room isn't answered so
not_long : (room longest : ℕ) (lines : List (List ℕ)) → content_within room lines ≤ longest → line_answer room longest lines ≡ TooLong → ⊥
not_long room longest lines h e =
    by (nat_le (length (concat lines)) room)
    (sym (cond-false (nat_lt longest (content_within room lines)) TooLong (cond (nat_le (length (concat lines)) room) Line TooLarge)
    (le-ltb longest (content_within room lines) h)) ∙ e)
  where
    by : (t : Bool) → cond t Line TooLarge ≡ TooLong → ⊥
    by true e = cc
    by false e = cc

-- bytes that aren't too long with what stands before their line feed aren't with a line feed behind them
pub feed_not_long : (done text : List ℕ) (room longest : ℕ) → Joins done → has_feed text ≡ false → length done + length text ≤ room
    → physical_content_length (physical_lines done) + length (before_feed text) ≤ longest → reader_answer room longest (done ++ (text ++ 10 ∷ [])) ≡ TooLong → ⊥
feed_not_long done text room longest j none fits h e =
    let line = text ++ 10 ∷ [] in
    let follow : first_line_of (joined (continues_after false (physical_lines done)) (physical_lines line)) ≡ line ∷ []
    = ap (λ lines. first_line_of (joined (continues_after false (physical_lines done)) lines)) (physical_at_feed text [] none)
    ∙ first_alone (continues_after false (physical_lines done)) line in
    let w = within_is done line (line ∷ []) room longest j follow (omega arith) in
    let c : length (content line) ≡ length (before_feed text) = ap length (content_at_feed text) in
    not_long room longest (first_line (done ++ line)) (omega (arith, w, c)) (sym (answer_some room longest (done ++ line) (some_bytes done text [] 10)) ∙ e)
