-- The head of some logical lines, as it is found by steps, and as it is said without them.
use Rattle.std.proofs.Common.{◌≡◌, ◌↔◌, ℕ, ◌+◌, ◌-◌, List, [], ◌∷◌, ◌++◌, length, length-append, append-nil, append_assoc, refl, ap, subst, sym, ◌∙◌, arith}
use Rattle.std.specs.List.{concat}
use Rattle.std.proofs.lemmas.List.Sums.{sum_by-append, sum_by-cons}
use Rattle.std.proofs.lemmas.Grind.{flat_map-append}
use Rattle.input_reading.specs.declared.input.cause.InputCause.TheVariants.{Words}
use Rattle.live_run.specs.SourceFollowed.{bytes_of, count_lines}
use Rattle.live_run.specs.Heads.{AllGoOnBehind, HeadFound, IsHeadOfLines, LineOfHead, all_lines, at_bad_words, at_limit, ends_head, found_by, goes_on_behind, has_bad_words, head_found, head_of_lines, head_line_behind, line_of_head, passes_limit, refused, taken, too_large, up_to_results}
use Rattle.live_run.proofs.HeadBringing.{none_go_on, on_more}

-- what is found of a line and others, by what the line says
by_line : (longest room n : ℕ) (text : List ℕ) (lines : List (List ℕ)) (more : List (List (List ℕ))) (says : LineOfHead) → line_of_head longest room n lines ≡ says
    → head_found longest room n text (lines ∷ more)
    ≡ found_by says (taken (text ++ concat lines) (n + length lines) (room - length (concat lines)))
    (head_found longest (room - length (concat lines)) (n + length lines) (text ++ concat lines) more)
by_line longest room n text lines more says e =
    ap (λ (s : LineOfHead). found_by s (taken (text ++ concat lines) (n + length lines) (room - length (concat lines)))
    (head_found longest (room - length (concat lines)) (n + length lines) (text ++ concat lines) more)) e

-- a head that is found with equal counts
found_same : (longest room left n next : ℕ) (text other : List ℕ) (more : List (List (List ℕ))) → room ≡ left → n ≡ next → text ≡ other
    → head_found longest room n text more ≡ head_found longest left next other more
found_same longest room left n next text other more e f g =
    ap (λ (k : ℕ). head_found longest k n text more) e
    ∙ (ap (λ (k : ℕ). head_found longest left k text more) f ∙ ap (λ (t : List ℕ). head_found longest left next t more) g)

-- the counts that a line more leaves
module _ (room n : ℕ) (first : List (List ℕ)) (lines : List (List (List ℕ))) where
  room_on : room - length (concat first) - length (bytes_of lines) ≡ room - length (bytes_of (first ∷ lines))
  room_on = let size = length-append (concat first) (bytes_of lines) in omega (arith, size)

  number_on : n + length first + count_lines lines ≡ n + count_lines (first ∷ lines)
  number_on = let count = sum_by-cons (λ (one : List (List ℕ)). length one) first lines in omega (arith, count)

go_on_behind_first : (longest room n : ℕ) (first : List (List ℕ)) (lines : List (List (List ℕ))) → AllGoOnBehind longest room n (first ∷ lines)
    → AllGoOnBehind longest (room - length (concat first)) (n + length first) lines
go_on_behind_first longest room n first lines all before after one e =
    ap (λ (k : ℕ). line_of_head longest k (n + length first + count_lines before) one) (room_on room n first before)
    ∙ (ap (λ (k : ℕ). line_of_head longest (room - length (bytes_of (first ∷ before))) k one) (number_on room n first before)
    ∙ all (first ∷ before) after one (ap (λ (ls : List (List (List ℕ))). first ∷ ls) e))

go_on_at_first : (longest room n : ℕ) (first : List (List ℕ)) (lines : List (List (List ℕ))) → AllGoOnBehind longest room n (first ∷ lines)
    → line_of_head longest room n first ≡ goes_on_behind
go_on_at_first longest room n first lines all =
    let none : room ≡ room - length (bytes_of []) = omega arith in
    let same : n ≡ n + count_lines [] = omega arith in
    ap (λ (k : ℕ). line_of_head longest k n first) none
    ∙ (ap (λ (k : ℕ). line_of_head longest (room - length (bytes_of [])) k first) same ∙ all [] lines first refl)

-- behind lines behind which the head goes on, it is what is found of the others
passed : (longest room n : ℕ) (text : List ℕ) (before more : List (List (List ℕ))) → AllGoOnBehind longest room n before
    → head_found longest room n text (before ++ more)
    ≡ head_found longest (room - length (bytes_of before)) (n + count_lines before) (text ++ bytes_of before) more
passed longest room n text [] more all = found_same longest room (room - length (bytes_of [])) n (n + count_lines []) text (text ++ []) more (omega arith) (omega arith) (sym (append-nil text))
passed longest room n text (first ∷ before) more all =
    by_line longest room n text first (before ++ more) goes_on_behind (go_on_at_first longest room n first before all)
    ∙ (passed longest (room - length (concat first)) (n + length first) (text ++ concat first) before more (go_on_behind_first longest room n first before all)
    ∙ found_same longest (room - length (concat first) - length (bytes_of before)) (room - length (bytes_of (first ∷ before)))
    (n + length first + count_lines before) (n + count_lines (first ∷ before)) ((text ++ concat first) ++ bytes_of before) (text ++ bytes_of (first ∷ before)) more
    (room_on room n first before) (number_on room n first before) (append_assoc text (concat first) (bytes_of before)))

-- the head of some lines and one more
one_more : (room n : ℕ) (before : List (List (List ℕ))) (lines : List (List ℕ))
    → taken (bytes_of before ++ concat lines) (n + count_lines before + length lines) (room - length (bytes_of before) - length (concat lines))
    ≡ head_of_lines room n (before ++ lines ∷ [])
one_more room n before lines =
    let bytes : bytes_of before ++ concat lines ≡ bytes_of (before ++ lines ∷ [])
    = sym (flat_map-append concat before (lines ∷ []) ∙ ap (λ (t : List ℕ). bytes_of before ++ t) (append-nil (concat lines))) in
    let both = length-append (bytes_of before) (concat lines) in
    let size = ap length bytes in
    let left : room - length (bytes_of before) - length (concat lines) ≡ room - length (bytes_of (before ++ lines ∷ [])) = omega (arith, both, size) in
    let sum = sum_by-append (λ (one : List (List ℕ)). length one) before (lines ∷ []) in
    let single = sum_by-cons (λ (one : List (List ℕ)). length one) lines [] in
    let number : n + count_lines before + length lines ≡ n + count_lines (before ++ lines ∷ []) = omega (arith, sum, single) in
    ap (λ (t : List ℕ). taken t (n + count_lines before + length lines) (room - length (bytes_of before) - length (concat lines))) bytes
    ∙ (ap (λ (k : ℕ). taken (bytes_of (before ++ lines ∷ [])) k (room - length (bytes_of before) - length (concat lines))) number
    ∙ ap (λ (k : ℕ). taken (bytes_of (before ++ lines ∷ [])) (n + count_lines (before ++ lines ∷ [])) k) left)

module _ (longest room n : ℕ) where
  -- what is found of lines behind which the head goes on, one that says this, and others
  stopped : (all before after : List (List (List ℕ))) (lines : List (List ℕ)) (says : LineOfHead) → all ≡ before ++ lines ∷ after → AllGoOnBehind longest room n before
      → head_line_behind longest room n before lines ≡ says
      → head_found longest room n [] all
      ≡ found_by says (taken (bytes_of before ++ concat lines) (n + count_lines before + length lines) (room - length (bytes_of before) - length (concat lines)))
      (head_found longest (room - length (bytes_of before) - length (concat lines)) (n + count_lines before + length lines) (bytes_of before ++ concat lines) after)
  stopped all before after lines says e goes is =
      ap (head_found longest room n []) e
      ∙ (passed longest room n [] before (lines ∷ after) goes
      ∙ by_line longest (room - length (bytes_of before)) (n + count_lines before) (bytes_of before) lines after says is)

  head_found_so : (all : List (List (List ℕ))) (head : HeadFound) → IsHeadOfLines longest room n all head → head_found longest room n [] all ≡ head
  head_found_so all _ (all_lines goes) = ap (head_found longest room n []) (sym (append-nil all)) ∙ passed longest room n [] all [] goes
  head_found_so all _ (up_to_results before after lines e goes is) = stopped all before after lines ends_head e goes is ∙ one_more room n before lines
  head_found_so all _ (at_bad_words before after lines line why e goes is) = stopped all before after lines (has_bad_words line why) e goes is
  head_found_so all _ (at_limit before after lines e goes is) = stopped all before after lines passes_limit e goes is

  -- there is a head
  some_head : (before more : List (List (List ℕ))) → AllGoOnBehind longest room n before → (head : HeadFound) × IsHeadOfLines longest room n (before ++ more) head
  some_head before [] goes =
      (head_of_lines room n (before ++ []), all_lines (subst (AllGoOnBehind longest room n) (sym (append-nil before)) goes))
  some_head before (lines ∷ more) goes =
      by (λ is. some_head (before ++ lines ∷ []) more
      (on_more longest room n before lines (room - length (bytes_of before)) (n + count_lines before) refl refl is goes)) (head_line_behind longest room n before lines) refl
    where
      by : (head_line_behind longest room n before lines ≡ goes_on_behind → (head : HeadFound) × IsHeadOfLines longest room n ((before ++ lines ∷ []) ++ more) head)
          → (says : LineOfHead) → head_line_behind longest room n before lines ≡ says → (head : HeadFound) × IsHeadOfLines longest room n (before ++ lines ∷ more) head
      by on ends_head is = (head_of_lines room n (before ++ lines ∷ []), up_to_results before more lines refl goes is)
      by on goes_on_behind is =
          let rest = on is in
          (rest.0, subst (λ (all : List (List (List ℕ))). IsHeadOfLines longest room n all rest.0) (append_assoc before (lines ∷ []) more) rest.1)
      by on (has_bad_words line why) is = (refused line (Words why), at_bad_words before more lines line why refl goes is)
      by on passes_limit is = (too_large, at_limit before more lines refl goes is)

  is_head_found : (all : List (List (List ℕ))) → IsHeadOfLines longest room n all (head_found longest room n [] all)
  is_head_found all =
      let some = some_head [] all (none_go_on longest room n) in
      subst (IsHeadOfLines longest room n all) (sym (head_found_so all some.0 some.1)) some.1

  pub heads_are_said : (all : List (List (List ℕ))) (head : HeadFound) → (head_found longest room n [] all ≡ head) ↔ IsHeadOfLines longest room n all head
  heads_are_said all head = (λ e. subst (IsHeadOfLines longest room n all) e (is_head_found all), head_found_so all head)
