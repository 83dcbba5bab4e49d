-- The sections of a text with a trace in the place of its results.
use Rattle.std.proofs.Common.{arith, ◌≡◌, ◌⊎◌, inl, inr, ◌<◌, ◌≤◌, ◌+◌, ◌-◌, ◌==◌, ◌&&◌, ◌||◌, not, min, ℕ, Bool, true, false, if◌then◌else◌, List, [], ◌∷◌, ◌++◌, length, length-append, take, drop, codes, append_assoc, append-nil, refl, sym, ap, subst, ◌∙◌}
use Rattle.std.specs.Prelude.{Option, Some, None, slice_range}
use Rattle.std.specs.Option.{option_or}
use Rattle.std.specs.List.{list_any, position_or_len}
use Rattle.std.proofs.lemmas.Bool.{cases_lt, or_parts}
use Rattle.std.proofs.Math.Seq.{drop-append_seam, take-append_seam, take-length}
use Rattle.std.proofs.lemmas.List.{drop-append-le, length-drop}
use Rattle.crm_lex.specs.declared.line.Line.{Line}
use Rattle.crm_parse.specs.Marks.{begins_with, first_word, is_in_place, is_mark, misplaced}
use Rattle.crm_parse.proofs.Binds.{is-true}

abbrev pub status_line : Line → Bool
status_line line = begins_with (codes "%status") line

abbrev pub results_line : Line → Bool
results_line line = begins_with (codes "%results") line

abbrev pub trace_line : Line → Bool
trace_line line = begins_with (codes "%trace") line

-- a section line of results isn't there, so each is in its place where a trace comes last
kept_place : (one status other : Bool) → (one && (status || false && other)) ≡ true → (found : Bool) → (one && (status || found)) ≡ true
kept_place true true other e found = refl
kept_place true false other e found = absurd (let f : ⊥ = cc in f)
kept_place false status other e found = absurd (let f : ⊥ = cc in f)

pub placed_traced : (before lines : List Line) → list_any results_line lines ≡ false → misplaced (codes "%results") before lines ≡ None
    → misplaced (codes "%trace") before lines ≡ None
placed_traced before [] none placed = refl
placed_traced before (line ∷ lines) none placed =
    by (is_mark line) (is_in_place (codes "%results") before line) refl placed (placed_traced (before ++ line ∷ []) lines others.1)
  where
    others : (results_line line ≡ false) × (list_any results_line lines ≡ false)
    others = or_parts (results_line line) (list_any results_line lines) none

    by : (mark there : Bool) → is_in_place (codes "%results") before line ≡ there
        → (if mark && not there then Some line.line else misplaced (codes "%results") (before ++ line ∷ []) lines) ≡ None
        → (misplaced (codes "%results") (before ++ line ∷ []) lines ≡ None → misplaced (codes "%trace") (before ++ line ∷ []) lines ≡ None)
        → (if mark && not (is_in_place (codes "%trace") before line) then Some line.line else misplaced (codes "%trace") (before ++ line ∷ []) lines) ≡ None
    by false there at e later = later e
    by true false at e later = absurd (let f : ⊥ = cc in f)
    by true true at e later =
        let unnamed : (length line.words == 1)
        && (status_line line && not (list_any is_mark before) || false && not (list_any results_line before)) ≡ true
        = subst (λ (b : Bool). (length line.words == 1) && (status_line line && not (list_any is_mark before) || b && not (list_any results_line before)) ≡ true) others.0 at in
        let there : is_in_place (codes "%trace") before line ≡ true
        = kept_place (length line.words == 1) (status_line line && not (list_any is_mark before)) (not (list_any results_line before)) unnamed
        (trace_line line && not (list_any trace_line before)) in
        rw there (later e)

-- a line of a trace is in no place of a text with results
trace_misplaced : (before : List Line) (line : Line) → trace_line line ≡ true → (is_mark line ≡ true) × (is_in_place (codes "%results") before line ≡ false)
trace_misplaced before line e =
    let word : first_word line.words ≡ codes "%trace" = is-true (first_word line.words) (codes "%trace") e in
    (rw word refl, rw word (none (length line.words == 1)))
  where
    none : (b : Bool) → b && false ≡ false
    none true = refl
    none false = refl

pub no_trace : (before lines : List Line) → misplaced (codes "%results") before lines ≡ None → list_any trace_line lines ≡ false
no_trace before [] placed = refl
no_trace before (line ∷ lines) placed = by (trace_line line) refl placed (no_trace (before ++ line ∷ []) lines)
  where
    by : (b : Bool) → trace_line line ≡ b
        → (if is_mark line && not (is_in_place (codes "%results") before line) then Some line.line else misplaced (codes "%results") (before ++ line ∷ []) lines) ≡ None
        → (misplaced (codes "%results") (before ++ line ∷ []) lines ≡ None → list_any trace_line lines ≡ false)
        → (b || list_any trace_line lines) ≡ false
    by true same e later =
        let m = trace_misplaced before line same in
        let wrong : (if true && not false then Some line.line else misplaced (codes "%results") (before ++ line ∷ []) lines) ≡ None
        = subst (λ (b : Bool). (if true && not b then Some line.line else misplaced (codes "%results") (before ++ line ∷ []) lines) ≡ None) m.1
        (subst (λ (b : Bool). (if b && not (is_in_place (codes "%results") before line) then Some line.line else misplaced (codes "%results") (before ++ line ∷ []) lines) ≡ None) m.0 e) in
        absurd (let f : ⊥ = cc in f)
    by false same e later = later (rest (is_mark line && not (is_in_place (codes "%results") before line)) e)
      where
        rest : (c : Bool) → (if c then Some line.line else misplaced (codes "%results") (before ++ line ∷ []) lines) ≡ None → misplaced (codes "%results") (before ++ line ∷ []) lines ≡ None
        rest true e = absurd (let f : ⊥ = cc in f)
        rest false e = e

module _ (last : List ℕ) where
  -- of some lines and others behind them, the first that is out of its place is that of the first, or else that of the others
  misplaced_append : (before xs ys : List Line) → misplaced last before (xs ++ ys) ≡ option_or (misplaced last before xs) (misplaced last (before ++ xs) ys)
  misplaced_append before [] ys = ap (λ (ls : List Line). misplaced last ls ys) (sym (append-nil before))
  misplaced_append before (x ∷ xs) ys =
      by (is_mark x && not (is_in_place last before x))
      (misplaced_append (before ++ x ∷ []) xs ys
      ∙ ap (λ (ls : List Line). option_or (misplaced last (before ++ x ∷ []) xs) (misplaced last ls ys)) (append_assoc before (x ∷ []) xs))
    where
      by : (c : Bool) → misplaced last (before ++ x ∷ []) (xs ++ ys) ≡ option_or (misplaced last (before ++ x ∷ []) xs) (misplaced last (before ++ x ∷ xs) ys)
          → (if c then Some x.line else misplaced last (before ++ x ∷ []) (xs ++ ys))
          ≡ option_or (if c then Some x.line else misplaced last (before ++ x ∷ []) xs) (misplaced last (before ++ x ∷ xs) ys)
      by true e = refl
      by false e = e

  pub misplaced_joined : (before xs ys : List Line) → misplaced last before xs ≡ None → misplaced last (before ++ xs) ys ≡ None → misplaced last before (xs ++ ys) ≡ None
  misplaced_joined before xs ys e f = misplaced_append before xs ys ∙ (ap (λ (z : Option ℕ). option_or z (misplaced last (before ++ xs) ys)) e ∙ f)

  pub misplaced_first : (before xs ys : List Line) (line : ℕ) → misplaced last before xs ≡ Some line → misplaced last before (xs ++ ys) ≡ Some line
  misplaced_first before xs ys line e = misplaced_append before xs ys ∙ ap (λ (z : Option ℕ). option_or z (misplaced last (before ++ xs) ys)) e

  pub misplaced_parts : (before xs ys : List Line) → misplaced last before (xs ++ ys) ≡ None → (misplaced last before xs ≡ None) × (misplaced last (before ++ xs) ys ≡ None)
  misplaced_parts before xs ys e = by (misplaced last before xs) (misplaced last (before ++ xs) ys) (sym (misplaced_append before xs ys) ∙ e)
    where
      by : (x y : Option ℕ) → option_or x y ≡ None → (x ≡ None) × (y ≡ None)
      by None y f = (refl, f)
      by (Some line) y f = absurd (let g : ⊥ = cc in g)

-- the first of some elements that passes, where others stand behind them
module _ {X : Type 0} (p : X → Bool) where
  pub first_in_front : (xs ys : List X) → min (position_or_len p (xs ++ ys)) (length xs) ≡ position_or_len p xs
  first_in_front [] ys = let e : min (position_or_len p ys) 0 ≡ 0 = omega arith in e
  first_in_front (x ∷ xs) ys = by (p x) (first_in_front xs ys)
    where
      by : (b : Bool) → min (position_or_len p (xs ++ ys)) (length xs) ≡ position_or_len p xs
          → min (if not b then 1 + position_or_len p (xs ++ ys) else 0) (length (x ∷ xs)) ≡ (if not b then 1 + position_or_len p xs else 0)
      by true h = let e : min 0 (length (x ∷ xs)) ≡ 0 = omega arith in e
      by false h = let e : min (1 + position_or_len p (xs ++ ys)) (length (x ∷ xs)) ≡ 1 + position_or_len p xs = omega (arith, h) in e

  pub first_nowhere : (xs : List X) → list_any p xs ≡ false → position_or_len p xs ≡ length xs
  first_nowhere [] none = refl
  first_nowhere (x ∷ xs) none =
      let parts = or_parts (p x) (list_any p xs) none in
      let other = parts.0 in
      let more = first_nowhere xs parts.1 in
      rw (other, more) (let e : 1 + length xs ≡ length (x ∷ xs) = omega arith in e)

-- a range of a front, up to its end
pub range_in_front : {X : Type 0} (a : ℕ) (xs ys : List X) → slice_range (xs ++ ys) a (length xs) ≡ slice_range xs a (length xs)
range_in_front a xs ys = by (cases_lt (length xs) a)
  where
    by : (length xs < a) ⊎ (a ≤ length xs) → take (length xs - a) (drop a (xs ++ ys)) ≡ take (length xs - a) (drop a xs)
    by (inl beyond) = let none : length xs - a ≡ 0 = omega (arith, beyond) in rw none refl
    by (inr within) =
        let size : length (drop a xs) ≡ length xs - a = length-drop a xs in
        let rest = drop-append-le a xs ys within in
        rw rest (subst (λ (n : ℕ). take n (drop a xs ++ ys) ≡ take n (drop a xs)) size (take-append_seam (drop a xs) ys ∙ sym (take-length (drop a xs))))

-- what stands behind an element, to the end
pub range_behind : {X : Type 0} (xs : List X) (y : X) (ys : List X) → slice_range (xs ++ y ∷ ys) (length xs + 1) (length (xs ++ y ∷ ys)) ≡ ys
range_behind xs y ys =
    let front : length (xs ++ y ∷ []) ≡ length xs + 1 = length-append xs (y ∷ []) in
    let joint : xs ++ y ∷ ys ≡ (xs ++ y ∷ []) ++ ys = sym (append_assoc xs (y ∷ []) ys) in
    let rest : drop (length xs + 1) (xs ++ y ∷ ys) ≡ ys
    = ap (λ (n : ℕ). drop n (xs ++ y ∷ ys)) (sym front) ∙ (ap (λ (ls : _). drop (length (xs ++ y ∷ [])) ls) joint ∙ drop-append_seam (xs ++ y ∷ []) ys) in
    let all = length-append xs (y ∷ ys) in
    let size : length (xs ++ y ∷ ys) - (length xs + 1) ≡ length ys = omega (arith, all) in
    rw (rest, size) (take-length ys)

-- nothing stands past the end
pub nothing_past : {X : Type 0} (xs : List X) → slice_range xs (length xs + 1) (length xs) ≡ []
nothing_past xs = let none : length xs - (length xs + 1) ≡ 0 = omega arith in rw none refl
