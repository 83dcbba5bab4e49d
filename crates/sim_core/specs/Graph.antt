-- What is written by the word `graph`.
use Rattle.std.specs.Prelude.{◌≡◌, ℕ, List}
use Rattle.cluster_types.specs.declared.journal.Action.{Action}
use Rattle.cluster_types.specs.declared.placement.Placed.{Placed}
use Rattle.cluster_types.specs.Plans.{IsPlan, precedes_by_number}
use Rattle.cluster_types.specs.Steps.{numbered}
use Rattle.cluster_types.specs.Texts.{graph_text}
use Rattle.input_reading.specs.declared.input.reading.Input.{Input}

-- the text has the actions of the one plan for the cluster and the first journal that the input tells, and of each those that must precede it
pub record IsGraphText (whole : Input) (text : List ℕ) : Type 0 where
  pub placed : Placed
  pub actions : List Action
  pub is : IsPlan whole.head.cluster whole.head.journal.events whole.head.journal.promotions placed actions
  pub printed : text
      ≡ graph_text whole.head.cluster actions (λ j k. precedes_by_number whole.head.cluster actions (numbered actions j) (numbered actions k))
