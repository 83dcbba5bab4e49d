-- What stands in an input before its results.
use Rattle.std.proofs.Common.{arith, ◌≡◌, ◌+◌, ◌==◌, ◌&&◌, not, if◌then◌else◌, ℕ, Bool, true, false, List, [], ◌∷◌, ◌++◌, length, codes, refl, sym, ap, subst, ◌∙◌}
use Rattle.std.specs.Prelude.{Some, None}
use Rattle.std.specs.List.{list_any}
use Rattle.std.proofs.lemmas.Bool.{or_parts}
use Rattle.std.proofs.lemmas.Bool.Decides.{nat_tests}
use Rattle.crm_lex.specs.LogicalLines.{line_text}
use Rattle.crm_lex.specs.Names.{is}
use Rattle.crm_lex.specs.Reading.{row, rows_from}
use Rattle.crm_lex.specs.Words.{words_of}
use Rattle.crm_lex.specs.declared.line.Line.{Line}
use Rattle.crm_lex.proofs.FaultOrder.{count_lines}
use Rattle.crm_parse.specs.Marks.{misplaced}
use Rattle.crm_parse.proofs.Binds.{is-true}
use Rattle.live_run.specs.Heads as heads
use Rattle.live_run.proofs.HeadRead.{results_row}
use Rattle.sim_core.specs.TraceSection.{lines_before_results}
use Rattle.sim_core.proofs.TraceSections.{results_line}

-- lines of which none begins results
pub all_before : (n : ℕ) (groups : List (List (List ℕ))) → list_any results_row (rows_from n groups) ≡ false → lines_before_results groups ≡ groups
all_before n [] none = refl
all_before n (group ∷ groups) none = by (words_of (line_text group)) refl none (λ more. ap (λ (gs : List (List (List ℕ))). group ∷ gs) (all_before (n + length group) groups more))
  where
    by : (words : List (List ℕ)) → words_of (line_text group) ≡ words → list_any results_row (row n words ++ rows_from (n + length group) groups) ≡ false
        → (list_any results_row (rows_from (n + length group) groups) ≡ false → group ∷ lines_before_results groups ≡ group ∷ groups)
        → lines_before_results (group ∷ groups) ≡ group ∷ groups
    by [] at none later = rw at (later none)
    by (word ∷ words) at none later =
        let parts = or_parts (is word (codes "%results")) (list_any results_row (rows_from (n + length group) groups)) none in
        let plain = parts.0 in
        rw (at, plain) (later parts.1)

-- the first lines of an input, of which the last with words begins the results: those before it, and it
pub record CutAtResults (n : ℕ) (first more : List (List (List ℕ))) (mark : Line) : Type 0 where
  pub before : List (List (List ℕ))
  pub rest : List (List (List ℕ))
  pub parts : first ≡ before ++ rest
  pub are_before : lines_before_results (first ++ more) ≡ before
  pub ends_in : rows_from (n + count_lines before) rest ≡ mark ∷ []

module _ (n : ℕ) (group : List (List ℕ)) (groups more : List (List (List ℕ))) (mark : Line) (there : results_row mark ≡ true) where
  abbrev Later : Type 0
  Later = (front : List Line) → rows_from (n + length group) groups ≡ front ++ mark ∷ [] → list_any results_row front ≡ false
      → CutAtResults (n + length group) groups more mark

  -- behind a line that begins no results
  behind_plain : heads.begins_results (words_of (line_text group)) ≡ false → CutAtResults (n + length group) groups more mark → CutAtResults n (group ∷ groups) more mark
  behind_plain plain c = record {
    before = group ∷ c.before;
    rest = c.rest;
    parts = ap (λ (gs : List (List (List ℕ))). group ∷ gs) c.parts;
    are_before = rw plain (ap (λ (gs : List (List (List ℕ))). group ∷ gs) c.are_before);
    ends_in = ap (λ (m : ℕ). rows_from m c.rest) (let same : n + (length group + count_lines c.before) ≡ n + length group + count_lines c.before = omega arith in same) ∙ c.ends_in;
  }

  -- at one
  at_it : (word : List ℕ) (words : List (List ℕ)) → words_of (line_text group) ≡ word ∷ words → is word (codes "%results") ≡ true
      → record { line = n; words = word ∷ words } ∷ rows_from (n + length group) groups ≡ mark ∷ [] → CutAtResults n (group ∷ groups) more mark
  at_it word words at begins e =
      let rows : rows_from n (group ∷ groups) ≡ mark ∷ [] = rw at e in
      record {
        before = [];
        rest = group ∷ groups;
        parts = refl;
        are_before = rw (at, begins) refl;
        ends_in = ap (λ (m : ℕ). rows_from m (group ∷ groups)) (let same : n + 0 ≡ n = omega arith in same) ∙ rows;
      }

  of_first : (b : Bool) (word : List ℕ) (words : List (List ℕ)) (front : List Line) → words_of (line_text group) ≡ word ∷ words → is word (codes "%results") ≡ b
      → record { line = n; words = word ∷ words } ∷ rows_from (n + length group) groups ≡ front ++ mark ∷ [] → list_any results_row front ≡ false → Later
      → CutAtResults n (group ∷ groups) more mark
  of_first true word words [] at begins e none later = at_it word words at begins e
  of_first true word words (line ∷ front) at begins e none later =
      let same : line ≡ record { line = n; words = word ∷ words } = cc in
      let other = (or_parts (results_row line) (list_any results_row front) none).0 in
      let plain : is word (codes "%results") ≡ false = subst (λ (l : Line). results_row l ≡ false) same other in
      absurd (let f : true ≡ false = sym begins ∙ plain in let wrong : ⊥ = cc in wrong)
  of_first false word words [] at plain e none later =
      let same : mark ≡ record { line = n; words = word ∷ words } = cc in
      let begins : is word (codes "%results") ≡ true = subst (λ (l : Line). results_row l ≡ true) same there in
      absurd (let f : true ≡ false = sym begins ∙ plain in let wrong : ⊥ = cc in wrong)
  of_first false word words (line ∷ front) at plain e none later =
      let rest : rows_from (n + length group) groups ≡ front ++ mark ∷ [] = cc in
      behind_plain (rw (at, plain) refl) (later front rest (or_parts (results_row line) (list_any results_row front) none).1)

  of_words : (words : List (List ℕ)) (front : List Line) → words_of (line_text group) ≡ words → row n words ++ rows_from (n + length group) groups ≡ front ++ mark ∷ []
      → list_any results_row front ≡ false → Later → CutAtResults n (group ∷ groups) more mark
  of_words [] front at e none later = behind_plain (rw at refl) (later front e none)
  of_words (word ∷ words) front at e none later = of_first (is word (codes "%results")) word words front at refl e none later

pub cut_at_results : (n : ℕ) (first more : List (List (List ℕ))) (front : List Line) (mark : Line) → rows_from n first ≡ front ++ mark ∷ [] → list_any results_row front ≡ false
    → results_row mark ≡ true → CutAtResults n first more mark
cut_at_results n [] more [] mark e none there = absurd (let wrong : ⊥ = cc in wrong)
cut_at_results n [] more (line ∷ front) mark e none there = absurd (let wrong : ⊥ = cc in wrong)
cut_at_results n (group ∷ groups) more front mark e none there =
    of_words n group groups more mark there (words_of (line_text group)) front refl e none (λ front rows plain. cut_at_results (n + length group) groups more front mark rows plain there)

-- a line that begins results in its place has one word
shut : (few rest : Bool) (n : ℕ) → few ≡ false → (if true && not (few && rest) then Some n else None) ≡ None → ⊥
shut true rest n e h = cc
shut false rest n e h = cc

pub one_word : (front : List Line) (n : ℕ) (words : List (List ℕ)) → results_line (record { line = n; words = words }) ≡ true
    → misplaced (codes "%results") front (record { line = n; words = words } ∷ []) ≡ None → words ≡ codes "%results" ∷ []
one_word front n [] begins placed = absurd (let wrong : ⊥ = cc in wrong)
one_word front n (word ∷ []) begins placed = ap (λ (w : List ℕ). w ∷ []) (is-true word (codes "%results") begins)
one_word front n (word ∷ other ∷ words) begins placed =
    let there = subst (λ (w : List ℕ). misplaced (codes "%results") front (record { line = n; words = w ∷ other ∷ words } ∷ []) ≡ None) (is-true word (codes "%results") begins) placed in
    let several : (length (codes "%results" ∷ other ∷ words) == 1) ≡ false = grind (arith, nat_tests) in
    absurd (shut (length (codes "%results" ∷ other ∷ words) == 1) _ n several there)
