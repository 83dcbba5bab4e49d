-- How the words of a canonical text are written (crmsh manual, quoting; when a word is quoted is a rule of this project).
use Rattle.std.specs.Prelude.{ℕ, ◌==◌, Bool, false, not, ◌&&◌, ◌||◌, if◌then◌else◌, List, ◌∷◌, ◌++◌, length, []}
use Rattle.std.specs.List.{flat_map, list_any}
use Rattle.crm_lex.specs.RawLines.{is_blank}

-- a byte that a word without quotes doesn't have: a blank, a quote or a backslash
abbrev pub needs_quotes : ℕ → Bool
needs_quotes b = is_blank b || b == 34 || b == 39 || b == 92

abbrev pub begins_with_hash : List ℕ → Bool
begins_with_hash [] = false
begins_with_hash (b ∷ bs) = b == 35

-- the word is written as it is
unfoldable pub is_plain : List ℕ → Bool
is_plain word = not (length word == 0) && not (begins_with_hash word) && not (list_any needs_quotes word)

-- a byte between double quotes: a backslash stands before a double quote and before a backslash
abbrev pub escaped : ℕ → List ℕ
escaped b = if b == 34 || b == 92 then 92 ∷ b ∷ [] else b ∷ []

-- how a word is written
abbrev pub quoted : List ℕ → List ℕ
quoted word = if is_plain word then word else 34 ∷ (flat_map escaped word ++ 34 ∷ [])

-- an item of a line: some texts that stand next to each other, as a key, `=` and a value. Each is quoted where it has to be
abbrev pub Item : Type 0
Item = List (List ℕ)

-- how an item is written
abbrev pub item_text : Item → List ℕ
item_text item = flat_map quoted item

-- an item behind a blank
abbrev pub spaced : Item → List ℕ
spaced item = 32 ∷ item_text item

-- the line that has these items
abbrev pub items_line : List Item → List ℕ
items_line [] = []
items_line (item ∷ items) = item_text item ++ flat_map spaced items
