-- Of which transitions the laws of safety speak (rule of this project).
use Rattle.std.specs.Prelude.{◌≡◌, ℕ, List}
use Rattle.cluster_types.specs.declared.journal.Promotion.{Promotion}
use Rattle.cluster_types.specs.declared.placement.Placed.{Placed}
use Rattle.cluster_types.specs.Plans.{IsPlan, precedes_by_number}
use Rattle.cluster_types.specs.Safety.{IsAtRest}
use Rattle.cluster_types.specs.Steps.{Transition, numbered}
use Rattle.cluster_types.specs.Valid.{IsValid}

-- the transition is that of a plan of a valid cluster, made of a journal in order with nothing in flight: its actions are those of the plan, and of two of
-- them the one precedes the other just when it must
pub record IsOfPlan (promotions : List Promotion) (placed : Placed) (t : Transition) : Type 0 where
  pub valid : IsValid t.cluster
  pub at_rest : IsAtRest t.planned_at
  pub plan : IsPlan t.cluster t.planned_at promotions placed t.actions
  pub pairs : (j k : ℕ) → t.precedes j k ≡ precedes_by_number t.cluster t.actions (numbered t.actions j) (numbered t.actions k)
