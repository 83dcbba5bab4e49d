-- A plan serves each journal that tells the states that it was made for.
use Rattle.std.proofs.Common.{◌≡◌, List, sym, ◌∙◌, subst}
use Rattle.cluster_types.specs.declared.cluster.Cluster.{Cluster}
use Rattle.cluster_types.specs.declared.journal.Event.{Event}
use Rattle.cluster_types.specs.declared.journal.Promotion.{Promotion}
use Rattle.cluster_types.specs.declared.plan.Plan.{Plan}
use Rattle.cluster_types.specs.declared.states.States.{States}
use Rattle.cluster_types.specs.Graphs.{GraphOf}
use Rattle.cluster_types.specs.Plans.{CarriesOut}
use Rattle.cluster_types.specs.UnpackedStates.{states_of}
use Rattle.planner.specs.PlanForJournal.{AreTold, IsPlanned}
use Rattle.graph_exec.specs.Inner.Turns.{Serves}

-- a plan that was made for some states
module _ (c : Cluster) (states : States) (plan : Plan) (told : AreTold c states)
    (made : (es : List Event) (promotions : List Promotion) → states ≡ states_of c es promotions → IsPlanned c es promotions plan) where
  pub made_for : plan.states ≡ states
  made_for = (made told.events told.promotions told.told).states ∙ sym told.told

  pub serves_made : Serves c plan
  serves_made es promotions tells = (made es promotions (sym made_for ∙ tells)).carries_out

pub serves_again : (c : Cluster) (plan : Plan) (graph : GraphOf) → graph ≡ plan.graph → Serves c plan
    → Serves c (record { states = plan.states; rights = plan.rights; placed = plan.placed; graph = graph })
serves_again c plan graph same serves es promotions tells =
    subst (λ (g : GraphOf). CarriesOut c es promotions plan.placed g) (sym same) (serves es promotions tells)
