-- What a watcher is told of a run, line by line, and what it is shown of it (rule of this project).
use Rattle.std.specs.Prelude.{◌≡◌, ℕ, Bool, true, false, Option, Some, None, List, ◌∷◌, ◌++◌, count_by, slice_get}
use Rattle.std.specs.Option.{option_map_or}
use Rattle.cluster_types.specs.declared.cluster.Cluster.{Cluster}
use Rattle.cluster_types.specs.declared.journal.Action.{Action}
use Rattle.cluster_types.specs.declared.journal.Event.{Event}
use Rattle.cluster_types.specs.declared.journal.Promotion.{Promotion}
use Rattle.cluster_types.specs.declared.placement.NoReason.TheVariants.{Held}
use Rattle.cluster_types.specs.declared.placement.Placed.{Placed}
use Rattle.cluster_types.specs.declared.run.RunLine.{RunLine}
use Rattle.cluster_types.specs.declared.run.RunLine.TheVariants as line
use Rattle.cluster_types.specs.Steps.{numbered}
use Rattle.cluster_types.specs.Tables.{targets_of}
use Rattle.cluster_types.specs.Texts.{target_lines}
use Rattle.crm_lex.specs.Names.{is_name}

-- the lines of a plan: the number of its transition in the run, and where everything goes
abbrev pub plan_lines : Cluster → ℕ → Placed → List RunLine
plan_lines c number placed = line.Transition number ∷ target_lines c placed.pins (targets_of placed.table) placed.none

-- the line of the end of a transition
abbrev pub closing_line : ℕ → Bool → RunLine
closing_line number true = line.Complete number
closing_line number false = line.Aborted number

-- a transition begins with this line
abbrev pub begins_transition : RunLine → Bool
begins_transition (line.Transition number) = true
begins_transition _ = false

-- how many transitions begin with these lines
abbrev pub transitions_in : List RunLine → ℕ
transitions_in lines = count_by begins_transition lines

-- a watcher that stops in the midst of some lines stops at one of them, and was told those before it
pub record StopsAmong (Stopped : List RunLine → RunLine → Type 0) (lines : List RunLine) : Type 0 where
  pub before : List RunLine
  pub at : RunLine
  pub behind : List RunLine
  pub parts : lines ≡ before ++ at ∷ behind
  pub stopped : Stopped before at

-- the id of each rule that holds a leaf back is a name, so that each line is short
abbrev pub ReasonsHaveNames : Placed → Type 0
ReasonsHaveNames placed = (r : ℕ) (id : List ℕ) → slice_get placed.none r ≡ Some (Some (Held id)) → is_name id ≡ true

-- a run as it is shown: the journal of a cluster so far, with the promotion scores of its status, and the actions of the plan that is being carried out, if one is
pub record RunView : Type 0 where
  pub cluster : Cluster
  pub promotions : List Promotion
  pub plan : Option (List Action)
  pub events : List Event

-- no plan is being carried out
abbrev pub view_between : Cluster → List Promotion → List Event → RunView
view_between c promotions es = record { cluster = c; promotions = promotions; plan = None; events = es }

-- the plan with these actions is being carried out
abbrev pub view_amid : Cluster → List Promotion → List Action → List Event → RunView
view_amid c promotions actions es = record { cluster = c; promotions = promotions; plan = Some actions; events = es }

-- the same, some events later
abbrev pub view_later : RunView → List Event → RunView
view_later v events = record { cluster = v.cluster; promotions = v.promotions; plan = v.plan; events = v.events ++ events }

-- the action of this number in the plan that is being carried out
abbrev pub view_action : RunView → ℕ → Option Action
view_action v number = option_map_or (λ actions. numbered actions number) v.plan None
