-- How the line of a statement is put together.
use Rattle.std.proofs.Common.{◌≡◌, ℕ, List, [], ◌∷◌, ◌++◌, ap, sym, ◌∙◌, append-nil, append_assoc}
use Rattle.std.proofs.lemmas.Grind.{flat_map-append}
use Rattle.std.specs.List.{flat_map}
use Rattle.crm_print.specs.Quoting.{Item, item_text, items_line, spaced}

pub spaced_append : (xs ys : List Item) → flat_map spaced (xs ++ ys) ≡ flat_map spaced xs ++ flat_map spaced ys
spaced_append xs ys = flat_map-append spaced xs ys

pub spaced_last : (xs : List Item) (item : Item) → flat_map spaced (xs ++ item ∷ []) ≡ flat_map spaced xs ++ spaced item
spaced_last xs item = flat_map-append spaced xs (item ∷ []) ∙ ap (λ text. flat_map spaced xs ++ text) (append-nil (spaced item))

-- a line of some items, before those of two lists
pub line_before : (item : Item) (items first second : List Item)
    → items_line (item ∷ items) ++ (flat_map spaced first ++ flat_map spaced second) ≡ items_line (item ∷ (items ++ (first ++ second)))
line_before item items first second =
    append_assoc (item_text item) (flat_map spaced items) (flat_map spaced first ++ flat_map spaced second)
    ∙ ap (λ text. item_text item ++ text) (ap (λ text. flat_map spaced items ++ text) (sym (spaced_append first second)) ∙ sym (spaced_append items (first ++ second)))

-- a text to which pieces were written one after another
pub two_pieces : (text one two first second : List ℕ) → one ≡ text ++ first → two ≡ one ++ second → two ≡ text ++ (first ++ second)
two_pieces text one two first second e f = f ∙ (ap (λ xs. xs ++ second) e ∙ append_assoc text first second)

pub three_pieces : (text one two three first second third : List ℕ) → one ≡ text ++ first → two ≡ one ++ second → three ≡ two ++ third
    → three ≡ text ++ (first ++ (second ++ third))
three_pieces text one two three first second third e f g =
    two_pieces text one three first (second ++ third) e (two_pieces one two three second third f g)
