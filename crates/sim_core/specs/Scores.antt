-- What is written by the word `scores`.
use Rattle.std.specs.Prelude.{◌≡◌, ℕ, List}
use Rattle.cluster_types.specs.declared.placement.Placed.{Placed}
use Rattle.cluster_types.specs.Plans.{IsPlaced}
use Rattle.cluster_types.specs.Texts.{scores_text}
use Rattle.input_reading.specs.declared.input.reading.Input.{Input}

-- the text has the totals, the targets and the reasons of the one placement of the cluster and the first journal that the input tells
pub record IsScoresText (whole : Input) (text : List ℕ) : Type 0 where
  pub placed : Placed
  pub is : IsPlaced whole.head.cluster whole.head.journal.events whole.head.journal.promotions placed
  pub printed : text ≡ scores_text whole.head.cluster placed
