-- The first logical line of a text, physical line by physical line.
use Rattle.std.proofs.Common.{◌≡◌, ℕ, ◌+◌, ◌<◌, ◌≤◌, Bool, true, false, List, [], ◌∷◌, ◌++◌, length, take, drop, refl, sym, ap, ◌∙◌, subst, append_assoc, append-nil, arith}
use Rattle.std.proofs.lemmas.List.{length-append, length-drop}
use Rattle.std.proofs.Math.Seq.{take-add, drop-append_seam, take-append_seam}
use Rattle.std.proofs.lemmas.List.{drop-drop, take_all, drop_all}
use Rattle.std.specs.List.{concat}
use Rattle.crm_lex.specs.RawLines.{physical_lines, goes_on, onto_group, joined, raw_lines}
use Rattle.crm_lex.proofs.PhysicalLines.{Whole, Whole-physical, Whole-front, lines-concat, concat-lines, some_lines}

-- these lines stand at the front of what comes first in some groups of lines
abbrev pub onto_groups : List (List ℕ) → List (List (List ℕ)) → List (List (List ℕ))
onto_groups [] groups = groups
onto_groups (line ∷ lines) groups = onto_group line (onto_groups lines groups)

onto_groups-more : (lines : List (List ℕ)) (line : List ℕ) (groups : List (List (List ℕ)))
    → onto_groups lines (onto_group line groups) ≡ onto_groups (lines ++ line ∷ []) groups
onto_groups-more [] line groups = refl
onto_groups-more (first ∷ lines) line groups = ap (onto_group first) (onto_groups-more lines line groups)

onto_groups-group : (lines group : List (List ℕ)) (groups : List (List (List ℕ))) → onto_groups lines (group ∷ groups) ≡ (lines ++ group) ∷ groups
onto_groups-group [] group groups = refl
onto_groups-group (line ∷ lines) group groups = ap (onto_group line) (onto_groups-group lines group groups)

onto_groups-none : (line : List ℕ) (lines : List (List ℕ)) → onto_groups (line ∷ lines) [] ≡ (line ∷ lines) ∷ []
onto_groups-none line [] = refl
onto_groups-none line (next ∷ lines) = ap (onto_group line) (onto_groups-none next lines)

concat-push : (lines : List (List ℕ)) (line : List ℕ) → concat (lines ++ line ∷ []) ≡ concat lines ++ line
concat-push [] line = append-nil line
concat-push (first ∷ lines) line = ap (λ xs. first ++ xs) (concat-push lines line) ∙ sym (append_assoc first (concat lines) line)

-- lines up to a place of a text, of which the last continues another or doesn't, are the front of its first logical line
pub record Fronts (text : List ℕ) (at : ℕ) (continues : Bool) : Type 0 where
  pub within : at ≤ length text
  pub lines : physical_lines text ≡ physical_lines (take at text) ++ physical_lines (drop at text)
  pub groups : raw_lines text ≡ onto_groups (physical_lines (take at text)) (joined continues (physical_lines (drop at text)))

pub front-none : (text : List ℕ) → Fronts text 0 false
front-none text = record { within = omega arith; lines = refl; groups = refl }

-- the next physical line of a text
record Next (text : List ℕ) (at : ℕ) (line after : List ℕ) : Type 0 where
  pub taken : take (at + length line) text ≡ take at text ++ line
  pub left : drop (at + length line) text ≡ after
  pub within : at + length line ≤ length text
  pub lines : physical_lines (take (at + length line) text) ≡ physical_lines (take at text) ++ line ∷ []
  pub whole : physical_lines text ≡ physical_lines (take (at + length line) text) ++ physical_lines (drop (at + length line) text)

next_line : (text : List ℕ) (at : ℕ) (line after : List ℕ) → at ≤ length text → drop at text ≡ line ++ after → physical_lines (drop at text) ≡ line ∷ physical_lines after
    → physical_lines text ≡ physical_lines (take at text) ++ physical_lines (drop at text) → Next text at line after
next_line text at line after within cut first lines =
    let n = length line in
    let taken : take (at + n) text ≡ take at text ++ line = take-add at n text ∙ ap (λ xs. take at text ++ xs) (ap (take n) cut ∙ take-append_seam line after) in
    let left : drop (at + n) text ≡ after = sym (drop-drop n at text) ∙ (ap (drop n) cut ∙ drop-append_seam line after) in
    let front = physical_lines (take at text) ++ line ∷ [] in
    let split : physical_lines text ≡ front ++ physical_lines after =
    lines ∙ (ap (λ xs. physical_lines (take at text) ++ xs) first ∙ sym (append_assoc (physical_lines (take at text)) (line ∷ []) (physical_lines after))) in
    let whole : Whole (front ++ physical_lines after) = subst Whole split (Whole-physical text) in
    let bytes : concat front ≡ take at text ++ line =
    concat-push (physical_lines (take at text)) line ∙ ap (λ xs. xs ++ line) (concat-lines (take at text)) in
    let same : physical_lines (take (at + n) text) ≡ front = ap physical_lines (taken ∙ sym bytes) ∙ lines-concat front (Whole-front front (physical_lines after) whole) in
    record {
      taken = taken;
      left = left;
      within = let size = ap length cut in omega (arith, length-append line after, length-drop at text, size);
      lines = same;
      whole = split ∙ rw (left, same) refl;
    }

-- the line goes on
pub front_more : (text : List ℕ) (at : ℕ) (continues : Bool) (line after : List ℕ) → Fronts text at continues → drop at text ≡ line ++ after
    → physical_lines (drop at text) ≡ line ∷ physical_lines after → goes_on continues line ≡ true → Fronts text (at + length line) true
front_more text at continues line after front cut first goes =
    let next = next_line text at line after front.within cut first front.lines in
    let done = physical_lines (take at text) in
    let n = at + length line in
    let step : onto_groups done (joined continues (physical_lines (drop at text))) ≡ onto_groups (done ++ line ∷ []) (joined true (physical_lines after)) =
    rw (first, goes) (onto_groups-more done line (joined true (physical_lines after))) in
    let there : onto_groups (done ++ line ∷ []) (joined true (physical_lines after)) ≡ onto_groups (physical_lines (take n text)) (joined true (physical_lines (drop n text))) =
    rw (next.lines, next.left) refl in
    record { within = next.within; lines = next.whole; groups = front.groups ∙ (step ∙ there) }

-- the line ends its logical line
pub front_ends : (text : List ℕ) (at : ℕ) (continues : Bool) (line after : List ℕ) → Fronts text at continues → drop at text ≡ line ++ after
    → physical_lines (drop at text) ≡ line ∷ physical_lines after → goes_on continues line ≡ false
    → raw_lines text ≡ physical_lines (take (at + length line) text) ∷ raw_lines (drop (at + length line) text)
front_ends text at continues line after front cut first goes =
    let next = next_line text at line after front.within cut first front.lines in
    let done = physical_lines (take at text) in
    let n = at + length line in
    let step : onto_groups done (joined continues (physical_lines (drop at text))) ≡ (done ++ line ∷ []) ∷ raw_lines after =
    rw (first, goes) (onto_groups-group done (line ∷ []) (joined false (physical_lines after))) in
    let there : (done ++ line ∷ []) ∷ raw_lines after ≡ physical_lines (take n text) ∷ raw_lines (drop n text) = rw (next.lines, next.left) refl in
    front.groups ∙ (step ∙ there)

-- the text ends
pub front_all : (text : List ℕ) (continues : Bool) (n : ℕ) → 0 < length text → n ≡ length text → Fronts text n continues
    → raw_lines text ≡ physical_lines (take n text) ∷ raw_lines (drop n text)
front_all text continues n some all front =
    let taken : take n text ≡ text = take_all n text (omega arith) in
    let left : drop n text ≡ [] = drop_all n text (omega arith) in
    let groups : raw_lines text ≡ onto_groups (physical_lines text) [] = front.groups ∙ rw (taken, left) refl in
    let there : raw_lines text ≡ physical_lines text ∷ [] = groups ∙ last (physical_lines text) (some_lines text some) in
    there ∙ rw (taken, left) refl
  where
    last : (lines : List (List ℕ)) → 0 < length lines → onto_groups lines [] ≡ lines ∷ []
    last [] h = absurd (omega arith)
    last (line ∷ lines) h = onto_groups-none line lines
