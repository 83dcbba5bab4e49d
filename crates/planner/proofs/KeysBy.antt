-- By which cell an action stands on a side, where it is known whether its leaf migrates.
use Rattle.std.proofs.Common.{◌≡◌, ℕ, Bool, false, List, Option, Some, None, get_or, refl, sym, ap, ◌∙◌}
use Rattle.std.specs.List.{slice_get}
use Rattle.std.specs.Option.{option_map_or}
use Rattle.planner.specs.Inner.Gates.{key_at}
use Rattle.loops.specs.Ranks.{AreMigrating}
use Rattle.cluster_types.specs.declared.cluster.Cluster.{Cluster}
use Rattle.cluster_types.specs.declared.journal.Action.{Action}
use Rattle.cluster_types.specs.declared.journal.Action.TheVariants.{Fence, Probe, Operation, MigrateTo, MigrateFrom}
use Rattle.cluster_types.specs.declared.leaf.Op.{Op}
use Rattle.cluster_types.specs.declared.leaf.Op.TheVariants as op
use Rattle.planner.specs.declared.precedence.sides.Side.{Side}
use Rattle.planner.specs.declared.precedence.sides.Side.TheVariants as side
use Rattle.cluster_types.specs.Precedence.{LeafOnNode, as_later, is_migrating}
use Rattle.planner.specs.Joins.{in_leaf, side_key_of, later_demote, later_taker}
use Rattle.planner.specs.Inner.Leaves.{key_by, later_by, later_demote_by, later_stop, later_taker_by, action_leaf}

module _ (actions : List Action) where
  abbrev moves : Action → Bool
  moves a = is_migrating actions (action_leaf a)

  stop_by : (a : Action) → later_stop (moves a) a ≡ as_later actions op.Stop a
  stop_by (Fence n) = refl
  stop_by (Probe r n) = refl
  stop_by (Operation op.Start r n i role) = refl
  stop_by (Operation op.Stop r n i role) = refl
  stop_by (Operation op.Promote r n i role) = refl
  stop_by (Operation op.Demote r n i role) = refl
  stop_by (Operation op.Monitor r n i role) = refl
  stop_by (MigrateTo r s t) = refl
  stop_by (MigrateFrom r s t) = refl

  word_by : (o : Op) (a : Action) → later_by (moves a) o a ≡ as_later actions o a
  word_by op.Start a = refl
  word_by op.Stop a = stop_by a
  word_by op.Promote a = refl
  word_by op.Demote a = refl
  word_by op.Monitor a = refl

  demote_by : (a : Action) → later_demote_by (moves a) a ≡ later_demote actions a
  demote_by (Fence n) = refl
  demote_by (Probe r n) = refl
  demote_by (Operation op.Start r n i role) = refl
  demote_by (Operation op.Stop r n i role) = refl
  demote_by (Operation op.Promote r n i role) = refl
  demote_by (Operation op.Demote r n i role) = refl
  demote_by (Operation op.Monitor r n i role) = refl
  demote_by (MigrateTo r s t) = refl
  demote_by (MigrateFrom r s t) = refl

  taker_by : (o : Op) (a : Action) → later_taker_by (moves a) o a ≡ later_taker actions o a
  taker_by op.Start a = stop_by a
  taker_by op.Stop a = refl
  taker_by op.Promote a = demote_by a
  taker_by op.Demote a = refl
  taker_by op.Monitor a = refl

  pub key-by : (c : Cluster) (s : Side) (a : Action) → key_by c (moves a) s a ≡ side_key_of c actions s a
  key-by c (side.Later r word local) a = ap (in_leaf r local) (word_by word a)
  key-by c (side.LaterTakers r word local) a = ap (in_leaf r local) (taker_by word a)
  key-by c side.Probes a = refl
  key-by c side.Gives a = refl
  key-by c side.StopsAlone a = refl
  key-by c side.StartsAlone a = refl
  key-by c side.Fences a = refl
  key-by c side.GivesAnything a = refl
  key-by c side.BeforeStops a = refl
  key-by c side.Stops a = refl
  key-by c side.Starts a = refl
  key-by c side.Promotes a = refl
  key-by c side.BeforeMonitors a = refl
  key-by c side.Monitors a = refl
  key-by c side.Takes a = refl
  key-by c side.PromotesOf a = refl
  key-by c side.Sends a = refl
  key-by c side.TakesIn a = refl
  key-by c (side.Parts r role) a = refl
  key-by c (side.GivesRole r role) a = refl
  key-by c (side.Earlier r word local) a = refl
  key-by c (side.EarlierTakers r word local) a = refl

pub key_at_is : (c : Cluster) (actions : List Action) (migrating : List Bool) (s : Side) (place : ℕ) (a : Action) (m : Bool) (u : Option LeafOnNode)
    → slice_get actions place ≡ Some a → AreMigrating actions migrating → m ≡ get_or migrating (action_leaf a) false → u ≡ key_by c m s a
    → u ≡ key_at c actions s place
key_at_is c actions migrating s place a m u at known is h =
    let knows : m ≡ is_migrating actions (action_leaf a) = is ∙ known (action_leaf a) in
    h ∙ (ap (λ v. key_by c v s a) knows ∙ (key-by actions c s a ∙ sym (ap (λ v. option_map_or (side_key_of c actions s) v None) at)))
