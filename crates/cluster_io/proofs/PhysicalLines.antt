-- The first logical line of a text of which some physical lines are known.
use Rattle.std.proofs.Common.{◌≡◌, ℕ, ◌+◌, ◌-◌, ◌≤◌, nat_lt, Bool, true, false, ◌==◌, List, [], ◌∷◌, ◌++◌, length, arith, refl, ap, sym, ◌∙◌, append_assoc}
use Rattle.std.specs.List.{concat}
use Rattle.std.proofs.lemmas.Bool.{cond-true, cond-false, cond_both, or_parts, and_parts, and_from, lt-ltb}
use Rattle.std.proofs.lemmas.List.{length-append}
use Rattle.crm_lex.specs.RawLines.{physical_lines, onto_first, onto_group, joined, goes_on}
use Rattle.cluster_io.specs.NextLine.{has_feed, first_line_of, first_line, content_within, is_whole}
use Rattle.cluster_io.specs.Inner.Scanning.{Joins, all_go_on, physical_content_length}
use Rattle.crm_lex.proofs.Ends.{length-content}

-- bytes up to the first line feed are a physical line
pub physical_at_feed : (text rest : List ℕ) → has_feed text ≡ false
    → physical_lines (text ++ 10 ∷ rest) ≡ (text ++ 10 ∷ []) ∷ physical_lines rest
physical_at_feed [] rest h = refl
physical_at_feed (b ∷ bs) rest h =
    let p = or_parts (b == 10) (has_feed bs) h in
    cond-false (b == 10) ((b ∷ []) ∷ physical_lines (bs ++ 10 ∷ rest)) (onto_first b (physical_lines (bs ++ 10 ∷ rest))) p.0
    ∙ ap (onto_first b) (physical_at_feed bs rest p.1)

-- bytes without a line feed are one physical line
pub physical_open : (b : ℕ) (bs : List ℕ) → has_feed (b ∷ bs) ≡ false → physical_lines (b ∷ bs) ≡ (b ∷ bs) ∷ []
physical_open b [] h =
    cond-false (b == 10) ((b ∷ []) ∷ []) ((b ∷ []) ∷ []) (or_parts (b == 10) false h).0
physical_open b (d ∷ bs) h =
    let p = or_parts (b == 10) (has_feed (d ∷ bs)) h in
    cond-false (b == 10) ((b ∷ []) ∷ physical_lines (d ∷ bs)) (onto_first b (physical_lines (d ∷ bs))) p.0
    ∙ ap (onto_first b) (physical_open d bs p.1)

-- bytes without a line feed begin a physical line
pub record Begun (text rest : List ℕ) : Type 0 where
  pub more : List ℕ
  pub others : List (List ℕ)
  pub is : physical_lines (text ++ rest) ≡ (text ++ more) ∷ others

first_begun : (b : ℕ) (lines : List (List ℕ)) → (more : List ℕ) × ((others : List (List ℕ)) × (onto_first b lines ≡ (b ∷ more) ∷ others))
first_begun b [] = ([], ([], refl))
first_begun b (line ∷ lines) = (line, (lines, refl))

pub begun : (b : ℕ) (bs rest : List ℕ) → has_feed (b ∷ bs) ≡ false → Begun (b ∷ bs) rest
begun b [] rest h =
    let f = first_begun b (physical_lines rest) in
    record {
      more = f.0;
      others = f.1.0;
      is = cond-false (b == 10) ((b ∷ []) ∷ physical_lines rest) (onto_first b (physical_lines rest)) (or_parts (b == 10) false h).0 ∙ f.1.1;
    }
begun b (d ∷ bs) rest h =
    let p = or_parts (b == 10) (has_feed (d ∷ bs)) h in
    let f = begun d bs rest p.1 in
    record {
      more = f.more;
      others = f.others;
      is = cond-false (b == 10) ((b ∷ []) ∷ physical_lines (d ∷ (bs ++ rest))) (onto_first b (physical_lines (d ∷ (bs ++ rest)))) p.0
          ∙ ap (onto_first b) f.is;
    }

-- a line continues another where lines that go on stand before it
abbrev pub continues_after : Bool → List (List ℕ) → Bool
continues_after continues [] = continues
continues_after continues (line ∷ lines) = true

after_one : (lines : List (List ℕ)) → continues_after true lines ≡ true
after_one [] = refl
after_one (line ∷ lines) = refl

pub first_of-onto_group : (line : List ℕ) (groups : List (List (List ℕ))) → first_line_of (onto_group line groups) ≡ line ∷ first_line_of groups
first_of-onto_group line [] = refl
first_of-onto_group line (group ∷ groups) = refl

-- lines that go on stand at the front of the first logical line
pub first_joined : (c : Bool) (ps qs : List (List ℕ)) → all_go_on c ps ≡ true
    → first_line_of (joined c (ps ++ qs)) ≡ ps ++ first_line_of (joined (continues_after c ps) qs)
first_joined c [] qs h = refl
first_joined c (p ∷ ps) qs h =
    let g = and_parts (goes_on c p) (all_go_on true ps) h in
    ap first_line_of (cond-true (goes_on c p) (onto_group p (joined true (ps ++ qs))) ((p ∷ []) ∷ joined false (ps ++ qs)) g.0)
    ∙ (first_of-onto_group p (joined true (ps ++ qs))
    ∙ ap (λ (t : List (List ℕ)). p ∷ t)
    (first_joined true ps qs g.1 ∙ ap (λ c. ps ++ first_line_of (joined c qs)) (after_one ps)))

-- a line that doesn't go on ends the first logical line
pub first_ends : (c : Bool) (line : List ℕ) (lines : List (List ℕ)) → goes_on c line ≡ false
    → first_line_of (joined c (line ∷ lines)) ≡ line ∷ []
first_ends c line lines h = ap first_line_of (cond-false (goes_on c line) (onto_group line (joined true lines)) ((line ∷ []) ∷ joined false lines) h)

-- a line stands at the front of the first logical line
pub record Fronts (c : Bool) (line : List ℕ) (lines : List (List ℕ)) : Type 0 where
  pub others : List (List ℕ)
  pub is : first_line_of (joined c (line ∷ lines)) ≡ line ∷ others

fronts_by : (t : Bool) (c : Bool) (line : List ℕ) (lines : List (List ℕ)) → goes_on c line ≡ t → Fronts c line lines
fronts_by true c line lines h = record {
  others = first_line_of (joined true lines);
  is = ap first_line_of (cond-true (goes_on c line) (onto_group line (joined true lines)) ((line ∷ []) ∷ joined false lines) h)
      ∙ first_of-onto_group line (joined true lines);
}
fronts_by false c line lines h = record { others = []; is = first_ends c line lines h }

pub fronts : (c : Bool) (line : List ℕ) (lines : List (List ℕ)) → Fronts c line lines
fronts c line lines = fronts_by (goes_on c line) c line lines refl

-- a line alone is the first logical line
pub first_alone : (c : Bool) (line : List ℕ) → first_line_of (joined c (line ∷ [])) ≡ line ∷ []
first_alone c line =
    cond_both (goes_on c line) ((line ∷ []) ∷ []) ((line ∷ []) ∷ []) (λ groups. first_line_of groups ≡ line ∷ []) (λ _. refl) (λ _. refl)

-- lines that go on, and then the others
pub whole_joined : (c : Bool) (ps qs : List (List ℕ)) → all_go_on c ps ≡ true
    → is_whole c (ps ++ qs) ≡ is_whole (continues_after c ps) qs
whole_joined c [] qs h = refl
whole_joined c (p ∷ ps) qs h =
    let g = and_parts (goes_on c p) (all_go_on true ps) h in
    cond-true (goes_on c p) (is_whole true (ps ++ qs)) (has_feed p) g.0
    ∙ (whole_joined true ps qs g.1 ∙ ap (λ c. is_whole c qs) (after_one ps))

-- without a line feed a line isn't whole
pub open_not_whole : (c : Bool) (text : List ℕ) → has_feed text ≡ false → is_whole c (physical_lines text) ≡ false
open_not_whole c [] h = refl
open_not_whole c (b ∷ bs) h =
    ap (is_whole c) (physical_open b bs h)
    ∙ cond_both (goes_on c (b ∷ bs)) false (has_feed (b ∷ bs)) (λ t. t ≡ false) (λ _. refl) (λ _. h)

-- nothing is within no room
pub content_within_none : (lines : List (List ℕ)) → content_within 0 lines ≡ 0
content_within_none [] = refl
content_within_none (line ∷ lines) =
    let e : 0 - length line ≡ 0 = omega arith in
    let f : content_within (0 - length line) lines ≡ 0 = ap (λ r. content_within r lines) e ∙ content_within_none lines in
    omega arith

-- lines that lie within the room, and then the others
pub content_within-append : (ps qs : List (List ℕ)) (room : ℕ) → length (concat ps) ≤ room
    → content_within room (ps ++ qs) ≡ physical_content_length ps + content_within (room - length (concat ps)) qs
content_within-append [] qs room h =
    let e : room - 0 ≡ room = omega arith in
    let f : content_within (room - 0) qs ≡ content_within room qs = ap (λ r. content_within r qs) e in
    omega arith
content_within-append (p ∷ ps) qs room h =
    let both : length (p ++ concat ps) ≡ length p + length (concat ps) = length-append p (concat ps) in
    let short = length-content p in
    let rest = content_within-append ps qs (room - length p) (omega arith) in
    let e : room - length p - length (concat ps) ≡ room - length (p ++ concat ps) = omega arith in
    let f : content_within (room - length p - length (concat ps)) qs ≡ content_within (room - length (p ++ concat ps)) qs =
    ap (λ r. content_within r qs) e in
    omega arith

-- more joins what joins
pub all_go_on-append : (c : Bool) (ps : List (List ℕ)) (line : List ℕ) → all_go_on c ps ≡ true → goes_on (continues_after c ps) line ≡ true
    → all_go_on c (ps ++ line ∷ []) ≡ true
all_go_on-append c [] line h g = and_from (goes_on c line) true g refl
all_go_on-append c (p ∷ ps) line h g =
    let both = and_parts (goes_on c p) (all_go_on true ps) h in
    let last : goes_on (continues_after true ps) line ≡ true = ap (λ c. goes_on c line) (after_one ps) ∙ g in
    and_from (goes_on c p) (all_go_on true (ps ++ line ∷ [])) both.0 (all_go_on-append true ps line both.1 last)

pub content_length-append : (ps qs : List (List ℕ)) → physical_content_length (ps ++ qs) ≡ physical_content_length ps + physical_content_length qs
content_length-append [] qs = omega arith
content_length-append (p ∷ ps) qs = omega (arith, content_length-append ps qs)

-- the first logical line of bytes that join and of more behind them
pub first_line_after : (done text : List ℕ) → Joins done
    → first_line (done ++ text) ≡ physical_lines done ++ first_line_of (joined (continues_after false (physical_lines done)) (physical_lines text))
first_line_after done text j =
    ap (λ lines. first_line_of (joined false lines)) (j.cut text) ∙ first_joined false (physical_lines done) (physical_lines text) j.go_on

pub holds_line_after : (done text : List ℕ) → Joins done
    → is_whole false (physical_lines (done ++ text)) ≡ is_whole (continues_after false (physical_lines done)) (physical_lines text)
holds_line_after done text j =
    ap (is_whole false) (j.cut text) ∙ whole_joined false (physical_lines done) (physical_lines text) j.go_on

-- the lines of bytes that join, with one line more
pub lines_more : (done text : List ℕ) → Joins done → has_feed text ≡ false
    → physical_lines (done ++ (text ++ 10 ∷ [])) ≡ physical_lines done ++ (text ++ 10 ∷ []) ∷ []
lines_more done text j h =
    j.cut (text ++ 10 ∷ []) ∙ ap (λ lines. physical_lines done ++ lines) (physical_at_feed text [] h)

-- no bytes join
pub Joins-none : Joins []
Joins-none = record { cut = λ rest. refl; go_on = refl }

-- with one more line that goes on they still join
pub Joins-more : (done text : List ℕ) → Joins done → has_feed text ≡ false
    → goes_on (continues_after false (physical_lines done)) (text ++ 10 ∷ []) ≡ true → Joins (done ++ (text ++ 10 ∷ []))
Joins-more done text j h g = record {
  cut = λ rest.
      let line = text ++ 10 ∷ [] in
      let inner : line ++ rest ≡ text ++ 10 ∷ rest = append_assoc text (10 ∷ []) rest in
      let outer : (done ++ line) ++ rest ≡ done ++ (text ++ 10 ∷ rest) = append_assoc done line rest ∙ ap (λ t. done ++ t) inner in
      ap physical_lines outer
      ∙ (j.cut (text ++ 10 ∷ rest)
      ∙ (ap (λ lines. physical_lines done ++ lines) (physical_at_feed text rest h)
      ∙ (sym (append_assoc (physical_lines done) (line ∷ []) (physical_lines rest))
      ∙ ap (λ lines. lines ++ physical_lines rest) (sym (lines_more done text j h)))));
  go_on = rw (lines_more done text j h) (all_go_on-append false (physical_lines done) (text ++ 10 ∷ []) j.go_on g);
}

onto_first_continues : (b : ℕ) (lines : List (List ℕ)) → continues_after false (onto_first b lines) ≡ true
onto_first_continues b [] = refl
onto_first_continues b (line ∷ lines) = refl

-- a line continues another where bytes stand before it
pub continues_by_length : (done : List ℕ) → continues_after false (physical_lines done) ≡ nat_lt 0 (length done)
continues_by_length [] = refl
continues_by_length (b ∷ bs) =
    let some : nat_lt 0 (length (b ∷ bs)) ≡ true = lt-ltb 0 (length (b ∷ bs)) (omega arith) in
    cond_both (b == 10) ((b ∷ []) ∷ physical_lines bs) (onto_first b (physical_lines bs)) (λ lines. continues_after false lines ≡ true)
    (λ _. refl) (λ _. onto_first_continues b (physical_lines bs)) ∙ sym some
