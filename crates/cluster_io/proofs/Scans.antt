-- What a reader of lines finds, step by step.
use Rattle.std.proofs.Common.{◌≡◌, ℕ, ◌+◌, ◌-◌, ◌≤◌, ◌<◌, nat_lt, ◌==◌, Bool, true, false, not, ◌&&◌, ◌||◌, List, [], ◌∷◌, ◌++◌, length, take, drop, get_or, slice_range, arith, refl, ap, sym, subst, ◌∙◌, append_assoc}
use Rattle.std.proofs.Math.Seq.{take-add}
use Rattle.std.proofs.lemmas.Bool.{and_parts, or_from}
use Rattle.std.proofs.lemmas.List.Folds.{list_any-append}
use Rattle.std.proofs.lemmas.List.{append-nil, length-append, length-take-le, length-drop, take-append-drop, take_more, take_all, take_rest, drop_more, drop-drop, get_or-drop}
use Rattle.crm_lex.specs.RawLines.{physical_lines, joined, goes_on, content, ends_in, ends_in_backslash, begins_comment}
use Rattle.cluster_io.specs.NextLine.{has_feed, first_line_of, first_line, holds_line, reader_answer, IsUndecided}
use Rattle.cluster_io.specs.Inner.Scanning.{Joins, physical_content_length, Looked}
use Rattle.cluster_io.specs.Inner.FoundLines.{before_feed, FeedAt, FeedIn, IsLine, IsOpen, IsLast}
use Rattle.cluster_io.specs.declared.line_scan.Scan.{Scan}
use Rattle.cluster_io.specs.declared.line_scan.Bounds.{Bounds}
use Rattle.cluster_io.specs.declared.line_step.LineStep.TheVariants.{Line, TooLong, TooLarge}
use Rattle.cluster_io.proofs.Texts.{content_at_feed, length-before_feed, before_feed_whole, ends_in_some}
use Rattle.cluster_io.proofs.PhysicalLines.{continues_after, continues_by_length, lines_more, Joins-more, content_length-append, holds_line_after, open_not_whole, physical_open, first_line_after, first_alone}
use Rattle.cluster_io.proofs.LineAnswers.{feed_too_long, feed_too_large, feed_first, feed_line, open_too_long, open_too_long_whole, open_too_large, last_joined, last_too_long, last_line}

-- a list at one of its elements, with a cut before it
pub split_at : (xs : List ℕ) (i j b : ℕ) → i ≤ j → j < length xs → get_or xs j 0 ≡ b
    → xs ≡ take i xs ++ (slice_range xs i j ++ b ∷ drop (j + 1) xs)
split_at xs i j b order within here =
    let e : i + (j - i) ≡ j = omega arith in
    let rest : drop (j - i) (drop i xs) ≡ b ∷ drop (j + 1) xs =
    drop-drop (j - i) i xs ∙ (ap (λ n. drop n xs) e ∙ (drop_more xs j 0 within ∙ ap (λ d. d ∷ drop (j + 1) xs) here)) in
    sym (take-append-drop i xs)
    ∙ (ap (λ (t : List ℕ). take i xs ++ t) (sym (take-append-drop (j - i) (drop i xs)))
    ∙ ap (λ (t : List ℕ). take i xs ++ (slice_range xs i j ++ t)) rest)

-- the front of a list up to one of its elements
pub front_at : (xs : List ℕ) (i j b : ℕ) → i ≤ j → j < length xs → get_or xs j 0 ≡ b
    → take (j + 1) xs ≡ take i xs ++ (slice_range xs i j ++ b ∷ [])
front_at xs i j b order within here =
    let e : i + (j - i) ≡ j = omega arith in
    let front : take j xs ≡ take i xs ++ slice_range xs i j = ap (λ n. take n xs) (sym e) ∙ take-add i (j - i) xs in
    take_more xs j 0 within
    ∙ (ap (λ (t : List ℕ). t ++ get_or xs j 0 ∷ []) front
    ∙ (ap (λ d. (take i xs ++ slice_range xs i j) ++ d ∷ []) here ∙ append_assoc (take i xs) (slice_range xs i j) (b ∷ [])))

pub length-slice_range : (xs : List ℕ) (i j : ℕ) → i ≤ j → j ≤ length xs → length (slice_range xs i j) ≡ j - i
length-slice_range xs i j order within = length-take-le (j - i) (drop i xs) (omega (arith, length-drop i xs))

-- a physical line goes on by what stands before its line feed
pub goes_on_is : (done text : List ℕ) → goes_on (continues_after false (physical_lines done)) (text ++ 10 ∷ [])
    ≡ (ends_in_backslash (before_feed text) && (nat_lt 0 (length done) || not (begins_comment (before_feed text))))
goes_on_is done text =
    ap (λ (t : List ℕ). ends_in_backslash t && (continues_after false (physical_lines done) || not (begins_comment t))) (content_at_feed text)
    ∙ ap (λ c. ends_in_backslash (before_feed text) && (c || not (begins_comment (before_feed text)))) (continues_by_length done)

module _ (bounds : Bounds) (held : List ℕ) (s : Scan) (feed : ℕ) (l : Looked bounds held s) (f : FeedIn held s feed)
    (in_room : length held ≤ bounds.room + 1) where
  cut : held ≡ take s.line held ++ (slice_range held s.line feed ++ 10 ∷ drop (feed + 1) held)
  cut = split_at held s.line feed 10 (omega (arith, l.order, f.behind)) f.within f.here

  front : take (feed + 1) held ≡ take s.line held ++ (slice_range held s.line feed ++ 10 ∷ [])
  front = front_at held s.line feed 10 (omega (arith, l.order, f.behind)) f.within f.here

  cut_more : (rest : List ℕ) → held ++ rest ≡ take s.line held ++ (slice_range held s.line feed ++ 10 ∷ (drop (feed + 1) held ++ rest))
  cut_more rest =
      let done = take s.line held in
      let text = slice_range held s.line feed in
      let tail = drop (feed + 1) held in
      ap (λ (t : List ℕ). t ++ rest) cut
      ∙ (append_assoc done (text ++ 10 ∷ tail) rest
      ∙ ap (λ (t : List ℕ). done ++ t) (append_assoc text (10 ∷ tail) rest))

  done_length : length (take s.line held) ≡ s.line
  done_length = length-take-le s.line held (omega (arith, l.order, l.within))

  text_length : length (slice_range held s.line feed) ≡ feed - s.line
  text_length = length-slice_range held s.line feed (omega (arith, l.order, f.behind)) (omega (arith, f.within))

  pub at_feed_too_long : bounds.longest < s.content + length (before_feed (slice_range held s.line feed))
      → (rest : List ℕ) → reader_answer bounds.room bounds.longest (held ++ rest) ≡ TooLong
  at_feed_too_long h rest =
      ap (reader_answer bounds.room bounds.longest) (cut_more rest)
      ∙ feed_too_long (take s.line held) (slice_range held s.line feed) (drop (feed + 1) held ++ rest) bounds.room bounds.longest
      l.joins f.none (omega (arith, done_length, text_length, l.order, f.behind, f.within)) (omega (arith, l.content_counted))

  pub at_feed_too_large : s.content + length (before_feed (slice_range held s.line feed)) ≤ bounds.longest → bounds.room ≤ feed
      → (rest : List ℕ) → reader_answer bounds.room bounds.longest (held ++ rest) ≡ TooLarge
  at_feed_too_large h k rest =
      ap (reader_answer bounds.room bounds.longest) (cut_more rest)
      ∙ feed_too_large (take s.line held) (slice_range held s.line feed) (drop (feed + 1) held ++ rest) bounds.room bounds.longest
      l.joins f.none (omega (arith, done_length, text_length, l.order, f.behind, f.within)) (omega (arith, l.content_counted))
      (omega (arith, done_length, text_length, l.order, f.behind, f.within))

  counted : length (physical_lines (take (feed + 1) held)) ≡ s.lines + 1
  counted =
      ap (λ (t : List ℕ). length (physical_lines t)) front
      ∙ (ap length (lines_more (take s.line held) (slice_range held s.line feed) l.joins f.none)
      ∙ omega (arith, l.lines_counted, length-append (physical_lines (take s.line held)) ((slice_range held s.line feed ++ 10 ∷ []) ∷ [])))

  content_counted : physical_content_length (physical_lines (take (feed + 1) held)) ≡ s.content + length (before_feed (slice_range held s.line feed))
  content_counted =
      let done = physical_lines (take s.line held) in
      let line = slice_range held s.line feed ++ 10 ∷ [] in
      let c : length (content line) ≡ length (before_feed (slice_range held s.line feed)) = ap length (content_at_feed (slice_range held s.line feed)) in
      ap (λ (t : List ℕ). physical_content_length (physical_lines t)) front
      ∙ (ap physical_content_length (lines_more (take s.line held) (slice_range held s.line feed) l.joins f.none)
      ∙ omega (arith, l.content_counted, content_length-append done (line ∷ []), c))

  some_before : nat_lt 0 (length (take s.line held)) ≡ nat_lt 0 s.line
  some_before = ap (nat_lt 0) done_length

  module _ (t : Bool)
      (is : t ≡ (ends_in_backslash (before_feed (slice_range held s.line feed))
      && (nat_lt 0 s.line || not (begins_comment (before_feed (slice_range held s.line feed)))))) where
    goes_on_by : goes_on (continues_after false (physical_lines (take s.line held))) (slice_range held s.line feed ++ 10 ∷ []) ≡ t
    goes_on_by =
        goes_on_is (take s.line held) (slice_range held s.line feed)
        ∙ (ap (λ n. ends_in_backslash (before_feed (slice_range held s.line feed)) && (n || not (begins_comment (before_feed (slice_range held s.line feed))))) some_before
        ∙ sym is)

    pub at_feed_line : t ≡ false → s.content + length (before_feed (slice_range held s.line feed)) ≤ bounds.longest → feed < bounds.room
        → IsLine bounds held s.scanned (feed + 1) (s.lines + 1)
    at_feed_line ends h k =
        let fits : length (take s.line held) + length (slice_range held s.line feed) ≤ bounds.room =
        omega (arith, done_length, text_length, l.order, f.behind, f.within) in
        record {
          beyond = omega (arith, f.behind);
          within = omega (arith, f.within);
          in_room = omega arith;
          few_lines = omega (arith, l.few_lines, l.order, f.behind);
          lines_counted = sym counted;
          first = λ rest.
              ap first_line (cut_more rest)
              ∙ (feed_first (take s.line held) (slice_range held s.line feed) (drop (feed + 1) held ++ rest) bounds.room bounds.longest
              l.joins f.none fits (goes_on_by ∙ ends)
              ∙ ap physical_lines (sym front));
          answer = λ rest.
              ap (reader_answer bounds.room bounds.longest) (cut_more rest)
              ∙ feed_line (take s.line held) (slice_range held s.line feed) (drop (feed + 1) held ++ rest) bounds.room bounds.longest
              l.joins f.none fits (goes_on_by ∙ ends) (omega (arith, l.content_counted))
              (omega (arith, done_length, text_length, l.order, f.behind));
        }

    pub at_feed_next : t ≡ true → s.content + length (before_feed (slice_range held s.line feed)) ≤ bounds.longest → feed < bounds.room
        → Looked bounds held record { line = feed + 1; scanned = feed + 1; content = s.content + length (before_feed (slice_range held s.line feed)); lines = s.lines + 1 }
    at_feed_next goes h k =
        let text = slice_range held s.line feed in
        let backslash = (and_parts _ _ (sym is ∙ goes)).0 in
        let some : 0 < length (before_feed text) = ends_in_some 92 (before_feed text) backslash in
        let short = length-before_feed text in
        let zero : feed + 1 - (feed + 1) ≡ 0 = omega arith in
        record {
          order = omega arith;
          within = omega (arith, f.within);
          in_room = omega arith;
          short = h;
          none = ap (λ n. has_feed (take n (drop (feed + 1) held))) zero;
          joins = rw front (Joins-more (take s.line held) text l.joins f.none (goes_on_by ∙ goes));
          lines_counted = sym counted;
          content_counted = sym content_counted;
          few_lines = omega (arith, l.few_lines, l.order, f.behind);
          few_bytes = omega (arith, l.few_bytes, short.0, text_length, l.order, f.behind);
          few_ends = omega (arith, l.few_ends, short.1, text_length, l.order, f.behind, some);
        }

-- bytes that join, and a rest without a line feed
pub rest_too_long : (done text rest : List ℕ) (room longest : ℕ) → Joins done → has_feed text ≡ false → length done + length text ≤ room + 1
    → physical_content_length (physical_lines done) ≤ longest → longest < physical_content_length (physical_lines done) + length text - 1
    → reader_answer room longest (done ++ (text ++ rest)) ≡ TooLong
rest_too_long done [] rest room longest j none fits short h = absurd (omega arith)
rest_too_long done (b ∷ bs) rest room longest j none fits short h =
    open_too_long done b bs rest room longest j none (omega arith) (omega arith)

rest_too_long_whole : (done text rest : List ℕ) (room longest : ℕ) → Joins done → has_feed text ≡ false → ends_in 13 text ≡ false
    → length done + length text ≤ room → physical_content_length (physical_lines done) ≤ longest → longest < physical_content_length (physical_lines done) + length text
    → reader_answer room longest (done ++ (text ++ rest)) ≡ TooLong
rest_too_long_whole done [] rest room longest j none return fits short h = absurd (omega arith)
rest_too_long_whole done (b ∷ bs) rest room longest j none return fits short h =
    open_too_long_whole done b bs rest room longest j none (omega arith) return fits h

pub rest_too_large : (done text rest : List ℕ) (room longest : ℕ) → Joins done → has_feed text ≡ false → length done + length text ≡ room + 1
    → length done ≤ room → physical_content_length (physical_lines done) + length text - 1 ≤ longest
    → reader_answer room longest (done ++ (text ++ rest)) ≡ TooLarge
rest_too_large done [] rest room longest j none fits some h = absurd (omega arith)
rest_too_large done (b ∷ bs) rest room longest j none fits some h =
    open_too_large done b bs rest room longest j none (omega arith) (omega arith) (omega arith)

last_is_too_long : (done text : List ℕ) (room longest : ℕ) → Joins done → has_feed text ≡ false → length done + length text ≤ room
    → physical_content_length (physical_lines done) ≤ longest → longest < physical_content_length (physical_lines done) + length text
    → reader_answer room longest (done ++ text) ≡ TooLong
last_is_too_long done [] room longest j none fits short h = absurd (omega arith)
last_is_too_long done (b ∷ bs) room longest j none fits short h = last_too_long done b bs room longest j none fits h

last_is_line : (done text : List ℕ) (room longest : ℕ) → Joins done → has_feed text ≡ false → length done + length text ≤ room
    → 0 < length done + length text → physical_content_length (physical_lines done) + length text ≤ longest
    → reader_answer room longest (done ++ text) ≡ Line
last_is_line done [] room longest j none fits some h =
    subst (λ t. reader_answer room longest t ≡ Line) (sym (append-nil done))
    (last_joined done room longest j (omega arith) (omega arith) (omega arith))
last_is_line done (b ∷ bs) room longest j none fits some h = last_line done b bs room longest j none fits h

first_of_open : (c : Bool) (text : List ℕ) → has_feed text ≡ false → first_line_of (joined c (physical_lines text)) ≡ physical_lines text
first_of_open c [] h = refl
first_of_open c (b ∷ bs) h =
    ap (λ lines. first_line_of (joined c lines)) (physical_open b bs h) ∙ (first_alone c (b ∷ bs) ∙ sym (physical_open b bs h))

last_first : (done text : List ℕ) → Joins done → has_feed text ≡ false → first_line (done ++ text) ≡ physical_lines (done ++ text)
last_first done text j none =
    first_line_after done text j
    ∙ (ap (λ (lines : List (List ℕ)). physical_lines done ++ lines) (first_of_open (continues_after false (physical_lines done)) text none)
    ∙ sym (j.cut text))

last_counted : (done text : List ℕ) → Joins done → has_feed text ≡ false → 0 < length text
    → length (physical_lines (done ++ text)) ≡ length (physical_lines done) + 1
last_counted done [] j none some = absurd (omega arith)
last_counted done (b ∷ bs) j none some =
    ap length (j.cut (b ∷ bs))
    ∙ (ap (λ (lines : List (List ℕ)). length (physical_lines done ++ lines)) (physical_open b bs none)
    ∙ omega (arith, length-append (physical_lines done) ((b ∷ bs) ∷ [])))

module _ (bounds : Bounds) (held : List ℕ) (s : Scan) (l : Looked bounds held s) (none : has_feed (drop s.line held) ≡ false) where
  pub whole : take s.line held ++ drop s.line held ≡ held
  whole = take-append-drop s.line held

  pub whole_more : (rest : List ℕ) → held ++ rest ≡ take s.line held ++ (drop s.line held ++ rest)
  whole_more rest = ap (λ (t : List ℕ). t ++ rest) (sym whole) ∙ append_assoc (take s.line held) (drop s.line held) rest

  pub before_length : length (take s.line held) ≡ s.line
  before_length = length-take-le s.line held (omega (arith, l.order, l.within))

  pub rest_length : length (drop s.line held) ≡ length held - s.line
  rest_length = length-drop s.line held

  pub at_rest_too_long : length held ≤ bounds.room + 1 → bounds.longest < s.content + (length held - s.line) - 1
      → (rest : List ℕ) → reader_answer bounds.room bounds.longest (held ++ rest) ≡ TooLong
  at_rest_too_long k h rest =
      ap (reader_answer bounds.room bounds.longest) (whole_more rest)
      ∙ rest_too_long (take s.line held) (drop s.line held) rest bounds.room bounds.longest l.joins none
      (omega (arith, before_length, rest_length, l.order, l.within)) (omega (arith, l.content_counted, l.short))
      (omega (arith, rest_length, l.content_counted))

  pub at_rest_too_long_whole : length held ≤ bounds.room → s.content + (length held - s.line) - 1 ≤ bounds.longest
      → bounds.longest < s.content + length (before_feed (drop s.line held)) → (rest : List ℕ) → reader_answer bounds.room bounds.longest (held ++ rest) ≡ TooLong
  at_rest_too_long_whole k m h rest =
      let text = drop s.line held in
      let ends = length-before_feed text in
      ap (reader_answer bounds.room bounds.longest) (whole_more rest)
      ∙ rest_too_long_whole (take s.line held) text rest bounds.room bounds.longest l.joins none
      (before_feed_whole text (omega (arith, rest_length)))
      (omega (arith, before_length, rest_length, l.order, l.within)) (omega (arith, l.content_counted, l.short))
      (omega (arith, ends.0, l.content_counted))

  pub at_rest_too_large : length held ≤ bounds.room + 1 → s.content + (length held - s.line) - 1 ≤ bounds.longest → bounds.room < length held
      → (rest : List ℕ) → reader_answer bounds.room bounds.longest (held ++ rest) ≡ TooLarge
  at_rest_too_large k h m rest =
      ap (reader_answer bounds.room bounds.longest) (whole_more rest)
      ∙ rest_too_large (take s.line held) (drop s.line held) rest bounds.room bounds.longest l.joins none
      (omega (arith, before_length, rest_length, l.order, l.within)) (omega (arith, before_length, l.in_room))
      (omega (arith, rest_length, l.content_counted))

  pub at_rest_open : s.content + (length held - s.line) - 1 ≤ bounds.longest → length held ≤ bounds.room → IsUndecided bounds.room bounds.longest held
      → IsOpen bounds held record s { scanned = length held }
  at_rest_open h k undecided = record {
    unfinished =
        ap holds_line (sym whole)
        ∙ (holds_line_after (take s.line held) (drop s.line held) l.joins
        ∙ open_not_whole (continues_after false (physical_lines (take s.line held))) (drop s.line held) none);
    all_scanned = refl;
    in_room = k;
    short = omega arith;
    undecided = undecided;
  }

  pub at_rest_looked : Looked bounds held record s { scanned = length held }
  at_rest_looked = record {
    order = omega (arith, l.order, l.within);
    within = omega arith;
    in_room = l.in_room;
    short = l.short;
    none = ap has_feed (take_all (length held - s.line) (drop s.line held) (omega (arith, rest_length))) ∙ none;
    joins = l.joins;
    lines_counted = l.lines_counted;
    content_counted = l.content_counted;
    few_lines = l.few_lines;
    few_bytes = l.few_bytes;
    few_ends = l.few_ends;
  }

  pub at_end_too_long : length held ≤ bounds.room → bounds.longest < s.content + (length held - s.line)
      → reader_answer bounds.room bounds.longest held ≡ TooLong
  at_end_too_long k h =
      ap (reader_answer bounds.room bounds.longest) (sym whole)
      ∙ last_is_too_long (take s.line held) (drop s.line held) bounds.room bounds.longest l.joins none
      (omega (arith, before_length, rest_length, l.order, l.within)) (omega (arith, l.content_counted, l.short))
      (omega (arith, rest_length, l.content_counted))

  pub at_end_line : length held ≤ bounds.room → 0 < length held → s.content + (length held - s.line) ≤ bounds.longest
      → reader_answer bounds.room bounds.longest held ≡ Line
  at_end_line k some h =
      ap (reader_answer bounds.room bounds.longest) (sym whole)
      ∙ last_is_line (take s.line held) (drop s.line held) bounds.room bounds.longest l.joins none
      (omega (arith, before_length, rest_length, l.order, l.within)) (omega (arith, before_length, rest_length, l.order, l.within))
      (omega (arith, rest_length, l.content_counted))

  at_end_first : first_line held ≡ physical_lines held
  at_end_first =
      subst (λ t. first_line t ≡ physical_lines t) whole (last_first (take s.line held) (drop s.line held) l.joins none)

  pub at_end_joined : length held ≤ bounds.room → 0 < length held → s.content + (length held - s.line) ≤ bounds.longest
      → length held - s.line ≡ 0 → IsLast bounds held (length held) s.lines
  at_end_joined k some h zero =
      let all : take s.line held ≡ held = take_all s.line held (omega arith) in
      record {
        whole = refl;
        few_lines = omega (arith, l.few_lines, l.order, l.within);
        lines_counted = l.lines_counted ∙ ap (λ (t : List ℕ). length (physical_lines t)) all;
        first = at_end_first;
        answer = at_end_line k some h;
      }

  pub at_end_open : length held ≤ bounds.room → 0 < length held → s.content + (length held - s.line) ≤ bounds.longest
      → 0 < length held - s.line → IsLast bounds held (length held) (s.lines + 1)
  at_end_open k some h more = record {
    whole = refl;
    few_lines = omega (arith, l.few_lines, l.order, l.within);
    lines_counted =
        let c = last_counted (take s.line held) (drop s.line held) l.joins none (omega (arith, rest_length)) in
        let same : length (physical_lines (take s.line held ++ drop s.line held)) ≡ length (physical_lines held) =
        ap (λ (t : List ℕ). length (physical_lines t)) whole in
        omega (arith, l.lines_counted, c, same);
    first = at_end_first;
    answer = at_end_line k some h;
  }

-- where all was looked at, the rest of the line has no line feed
pub none_behind : (bounds : Bounds) (held : List ℕ) (s : Scan) → Looked bounds held s → s.scanned ≡ length held
    → has_feed (drop s.line held) ≡ false
none_behind bounds held s l e =
    let n : s.scanned - s.line ≡ length held - s.line = omega arith in
    let all : take (length held - s.line) (drop s.line held) ≡ drop s.line held =
    take_all (length held - s.line) (drop s.line held) (omega (arith, length-drop s.line held)) in
    ap has_feed (sym all ∙ ap (λ n. take n (drop s.line held)) (sym n)) ∙ l.none

-- the bytes of a line up to a place behind what was looked at
looked_and_more : (held : List ℕ) (line scanned n : ℕ) → line ≤ scanned
    → slice_range held line (scanned + n) ≡ slice_range held line scanned ++ take n (drop scanned held)
looked_and_more held line scanned n order =
    let sum : scanned + n - line ≡ (scanned - line) + n = omega arith in
    let e : line + (scanned - line) ≡ scanned = omega arith in
    ap (λ k. take k (drop line held)) sum
    ∙ (take-add (scanned - line) n (drop line held)
    ∙ ap (λ (t : List ℕ). slice_range held line scanned ++ take n t) (drop-drop (scanned - line) line held ∙ ap (λ k. drop k held) e))

-- the first line feed behind what was looked at
pub feed_in : (bounds : Bounds) (held : List ℕ) (s : Scan) (feed : ℕ) → Looked bounds held s
    → FeedAt (take (length held - s.scanned) (drop s.scanned held)) feed → FeedIn held s (s.scanned + feed)
feed_in bounds held s feed l f =
    let all : take (length held - s.scanned) (drop s.scanned held) ≡ drop s.scanned held = take_rest held s.scanned in
    let within : feed < length (drop s.scanned held) = subst (λ (t : List ℕ). feed < length t) all f.within in
    let fresh : has_feed (take feed (drop s.scanned held)) ≡ false = subst (λ (t : List ℕ). has_feed (take feed t) ≡ false) all f.none in
    let here : get_or (drop s.scanned held) feed 0 ≡ 10 = subst (λ (t : List ℕ). get_or t feed 0 ≡ 10) all f.here in
    record {
      behind = omega arith;
      within = omega (arith, length-drop s.scanned held);
      none =
          ap has_feed (looked_and_more held s.line s.scanned feed l.order)
          ∙ (list_any-append (λ b. b == 10) (slice_range held s.line s.scanned) (take feed (drop s.scanned held))
          ∙ or_from (has_feed (slice_range held s.line s.scanned)) (has_feed (take feed (drop s.scanned held))) l.none fresh);
      here = sym (get_or-drop s.scanned held feed 0) ∙ here;
    }

-- no line feed behind what was looked at
pub none_in_rest : (bounds : Bounds) (held : List ℕ) (s : Scan) → Looked bounds held s
    → has_feed (take (length held - s.scanned) (drop s.scanned held)) ≡ false → has_feed (drop s.line held) ≡ false
none_in_rest bounds held s l h =
    let e : s.scanned + (length held - s.scanned) ≡ length held = omega (arith, l.within) in
    let all : take (length held - s.line) (drop s.line held) ≡ drop s.line held = take_rest held s.line in
    let parts = looked_and_more held s.line s.scanned (length held - s.scanned) l.order in
    ap has_feed (sym all ∙ (ap (λ n. take (n - s.line) (drop s.line held)) (sym e) ∙ parts))
    ∙ (list_any-append (λ b. b == 10) (slice_range held s.line s.scanned) (take (length held - s.scanned) (drop s.scanned held))
    ∙ or_from (has_feed (slice_range held s.line s.scanned)) (has_feed (take (length held - s.scanned) (drop s.scanned held))) l.none h)
