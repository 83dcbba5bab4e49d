-- What `check` writes is read again (rule of this project).
use Rattle.std.specs.Prelude.{◌≡◌, ℕ, List}
use Rattle.crm_print.specs.PrintedAgain.{forms_of}
use Rattle.input_reading.specs.declared.input.reading.Input.{Input}
use Rattle.sim_core.specs.Check.{check_text}
use Rattle.input_reading.specs.Reading.{ReadsInput}

-- the text is read as an input with the statements of another, but for their lines, and with its cluster; and of it `check` writes the text itself
pub record IsReadAgain (text : List ℕ) (whole : Input) : Type 0 where
  pub again : Input
  pub reads : ReadsInput text again
  pub same_forms : forms_of again.head.crm ≡ forms_of whole.head.crm
  pub same_cluster : again.head.cluster ≡ whole.head.cluster
  pub same_text : check_text again ≡ text
