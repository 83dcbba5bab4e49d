-- What a plan that is made has to do with a journal (Pacemaker Administration, "Transitions").
use Rattle.std.specs.Prelude.{◌≡◌, List}
use Rattle.cluster_types.specs.declared.cluster.Cluster.{Cluster}
use Rattle.cluster_types.specs.declared.journal.Action.{Action}
use Rattle.cluster_types.specs.declared.journal.Event.{Event}
use Rattle.cluster_types.specs.declared.journal.Promotion.{Promotion}
use Rattle.cluster_types.specs.declared.placement.Placed.{Placed}
use Rattle.cluster_types.specs.declared.plan.Plan.{Plan}
use Rattle.cluster_types.specs.declared.states.States.{States}
use Rattle.cluster_types.specs.Plans.{CarriesOut, IsPlan}
use Rattle.cluster_types.specs.Rights.{rights_of}
use Rattle.cluster_types.specs.UnpackedStates.{states_of}

-- some journal and promotion scores tell these states of the cluster
pub record AreTold (c : Cluster) (states : States) : Type 0 where
  pub events : List Event
  pub promotions : List Promotion
  pub told : states ≡ states_of c events promotions

-- there is a plan
pub record HasPlan (c : Cluster) (es : List Event) (promotions : List Promotion) : Type 0 where
  pub placed : Placed
  pub actions : List Action
  pub is : IsPlan c es promotions placed actions

-- the plan has what the journal tells and what the cluster may do, and its graph carries out the plan for the journal
pub record IsPlanned (c : Cluster) (es : List Event) (promotions : List Promotion) (plan : Plan) : Type 0 where
  pub states : plan.states ≡ states_of c es promotions
  pub rights : plan.rights ≡ rights_of c es
  pub carries_out : CarriesOut c es promotions plan.placed plan.graph
