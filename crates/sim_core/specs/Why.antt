-- What is written by the word `why`.
use Rattle.std.specs.Prelude.{ℕ, List}
use Rattle.cluster_types.specs.declared.placement.Placed.{Placed}
use Rattle.decision_account.specs.Accounts.{IsWhyText}
use Rattle.input_reading.specs.declared.input.reading.Input.{Input}

-- the text tells how the decisions of the one placement of the cluster and the first journal that the input tells came about
pub record IsWhyOf (whole : Input) (text : List ℕ) : Type 0 where
  pub placed : Placed
  pub is : IsWhyText whole.head.cluster whole.head.journal.events whole.head.journal.promotions placed text
