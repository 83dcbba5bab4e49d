-- The word that is read of what is written.
use Rattle.std.specs.Prelude.{ℕ, List}
use Rattle.std.specs.List.{concat}
use Rattle.crm_print.specs.Quoting.{Item}

-- the word that an item is read as
abbrev pub item_word : Item → List ℕ
item_word item = concat item
