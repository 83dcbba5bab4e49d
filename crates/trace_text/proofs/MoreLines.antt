-- Texts that grow by the lines of the next element.
use Rattle.std.proofs.Common.{arith, ◌≡◌, ◌+◌, ◌<◌, ℕ, List, [], ◌∷◌, ◌++◌, length, take, slice_index_or, refl, sym, ap, ◌∙◌}
use Rattle.std.specs.List.{enumerate_from, flat_map}
use Rattle.std.proofs.lemmas.List.{append_assoc}
use Rattle.std.proofs.lemmas.List.FromFn.{get_or-enumerate_from, length-enumerate_from}
use Rattle.std.proofs.lemmas.Grind.{flat_map-append}
use Rattle.lemmas.proofs.Grown.{elements_more}

-- by the line of one element more, with its number
pub numbered_more : {X : Type 0} (line : ℕ × X → List ℕ) (from : ℕ) (old before after : List ℕ) (xs : List X) (i k : ℕ) (x : X) → i < length xs
    → x ≡ slice_index_or xs i x → from + i ≡ k → before ≡ old ++ flat_map line (take i (enumerate_from from xs)) → after ≡ before ++ line (k, x)
    → after ≡ old ++ flat_map line (take (i + 1) (enumerate_from from xs))
numbered_more {X = X} line from old before after xs i k x lt is place was push =
    let size = length-enumerate_from from xs in
    let here : (k, x) ≡ slice_index_or (enumerate_from from xs) i (k, x)
    = sym (get_or-enumerate_from from xs i (k, x) lt ∙ ap {B = ℕ × X} (λ n. (n, slice_index_or xs i x)) place ∙ ap {B = ℕ × X} (λ y. (k, y)) (sym is)) in
    elements_more line (enumerate_from from xs) i (k, x) old before after (omega arith) here was push

-- the texts of lists of lines, in one list
pub lines_of_lines : {X Y : Type 0} (text : Y → List ℕ) (lines : X → List Y) (xs : List X)
    → flat_map text (flat_map lines xs) ≡ flat_map (λ x. flat_map text (lines x)) xs
lines_of_lines text lines [] = refl
lines_of_lines text lines (x ∷ xs) =
    flat_map-append text (lines x) (flat_map lines xs) ∙ ap (λ t. flat_map text (lines x) ++ t) (lines_of_lines text lines xs)

-- the text of five parts, one behind the other
module _ (old one two three four five first second third fourth last : List ℕ) where
  pub five_more : one ≡ old ++ first → two ≡ one ++ second → three ≡ two ++ third → four ≡ three ++ fourth → five ≡ four ++ last
      → five ≡ old ++ (first ++ second ++ third ++ fourth ++ last)
  five_more a b d e f =
      f ∙ ap (λ t. t ++ last) (e ∙ ap (λ t. t ++ fourth) (d ∙ ap (λ t. t ++ third) (b ∙ ap (λ t. t ++ second) a))) ∙ simp append_assoc

-- where some lines are written, and the rest of all lines is still to come
pub lines_to_come : {Y : Type 0} (text : Y → List ℕ) (now rest all : List Y) (before after : List ℕ) → after ≡ before ++ flat_map text now
    → all ≡ now ++ rest → after ++ flat_map text rest ≡ before ++ flat_map text all
lines_to_come text now rest all before after is whole =
    ap (λ t. t ++ flat_map text rest) is ∙ append_assoc before (flat_map text now) (flat_map text rest)
    ∙ ap (λ t. before ++ t) (sym (flat_map-append text now rest)) ∙ ap (λ ys. before ++ flat_map text ys) (sym whole)

-- the text of a first line, and of four lists of lines
pub lines_of_passed : {Y : Type 0} (text : Y → List ℕ) (first : Y) (goals events ends others : List Y)
    → text first ++ flat_map text goals ++ flat_map text events ++ flat_map text ends ++ flat_map text others
    ≡ flat_map text ((first ∷ goals ++ events ++ ends) ++ others)
lines_of_passed text first goals events ends others =
    sym (flat_map-append text (first ∷ goals ++ events ++ ends) others
    ∙ ap (λ t. t ++ flat_map text others)
    (flat_map-append text (first ∷ goals ++ events) ends ∙ ap (λ t. t ++ flat_map text ends) (flat_map-append text (first ∷ goals) events)))
