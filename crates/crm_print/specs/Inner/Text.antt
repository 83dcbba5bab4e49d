-- The words that are read of a canonical line.
use Rattle.std.specs.Prelude.{ℕ, List, map}
use Rattle.crm_parse.specs.declared.form.Form.{Form}
use Rattle.crm_print.specs.Items.{items_of}
use Rattle.crm_print.specs.Inner.Quoting.{item_word}

-- the words that the canonical line of a statement is read as
abbrev pub canonical_words : Form → List (List ℕ)
canonical_words form = map item_word (items_of form)
