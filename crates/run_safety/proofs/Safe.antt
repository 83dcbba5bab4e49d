-- The promises of a transition of a plan, together.
use Rattle.std.proofs.Common.{arith, ◌≡◌, ◌≢◌, ◌<◌, ℕ, Bool, false, List, [], ◌∷◌, ◌++◌, length}
use Rattle.std.specs.Prelude.{Option}
use Rattle.cluster_types.specs.declared.journal.Action.TheVariants.{Operation}
use Rattle.cluster_types.specs.declared.journal.Answer.{Answer}
use Rattle.cluster_types.specs.declared.journal.Event.{Event}
use Rattle.cluster_types.specs.declared.journal.Event.TheVariants.{Begin}
use Rattle.cluster_types.specs.declared.journal.Promotion.{Promotion}
use Rattle.cluster_types.specs.declared.leaf.Op.TheVariants as op
use Rattle.cluster_types.specs.declared.leaf.Role.{Role}
use Rattle.cluster_types.specs.declared.placement.Placed.{Placed}
use Rattle.cluster_types.specs.Fields.{copies, is_cloned, promoted_copies}
use Rattle.cluster_types.specs.Journals.{Orderly, in_flight_by_begin}
use Rattle.cluster_types.specs.May.{may_be_running, may_be_promoted}
use Rattle.cluster_types.specs.Safety.{EndsInTargets, IsSafe, MigrationsAlone, NoForbiddenNeighbour, NoSecondCopy, NoSecondPromotion, count_of_others}
use Rattle.cluster_types.specs.Steps.{Transition, GoesBySteps, HasEnded, numbers_in_flight, has_aborted, journal}
use Rattle.cluster_types.specs.Tables.{Targets, targets_of}
use Rattle.cluster_types.proofs.SafetyLaws.{eager}
use Rattle.cluster_types.proofs.StepLaws.{begins-its_own, predecessors-first}
use Rattle.plan_laws.proofs.NeededActions.{bounds_of_cell}
use Rattle.run_safety.specs.OfPlans.{IsOfPlan}
use Rattle.run_safety.proofs.Alone.{migrations_alone}
use Rattle.run_safety.proofs.Apart.{no_forbidden_neighbour}
use Rattle.run_safety.proofs.AtRest.{nothing_left}
use Rattle.run_safety.proofs.Carried.{Carries, IsSound}
use Rattle.run_safety.proofs.Copies.{no_second_copy}
use Rattle.run_safety.proofs.Counting.{none_elsewhere}
use Rattle.run_safety.proofs.EndsIn.{ends_in_targets}
use Rattle.run_safety.proofs.Losses.{stands_always}
use Rattle.run_safety.proofs.Migrations.{one_copy}
use Rattle.run_safety.proofs.Nodes.{keeps_to_nodes}
use Rattle.run_safety.proofs.Planned.{carries_plan, sound_plan, upward}
use Rattle.run_safety.proofs.Promotions.{no_second_promotion}

module _ (promotions : List Promotion) (placed : Placed) (t : Transition) (of : IsOfPlan promotions placed t)
    (whole : Bool) (rest left : Option (List Answer)) (later : List Event) (goes : GoesBySteps t whole [] rest later left) where
  abbrev targets : Targets
  targets = targets_of placed.table

  carries : Carries t targets
  carries = carries_plan promotions placed t of

  sound : IsSound t targets
  sound = sound_plan promotions placed t of

  pub stays_in_order : Orderly (journal t later)
  stays_in_order = (stands_always t (keeps_to_nodes t targets carries sound) whole rest left later of.at_rest.0 goes).orderly

  pub leaves_nothing : numbers_in_flight t later ≡ [] → in_flight_by_begin (journal t later) ≡ []
  leaves_nothing idle = nothing_left t whole rest left later of.at_rest.1 goes idle

  pub adds_no_copy : NoSecondCopy t later
  adds_no_copy = no_second_copy t targets carries sound of.at_rest.0 whole rest left later goes

  pub adds_no_promotion : NoSecondPromotion t later
  adds_no_promotion = no_second_promotion t targets carries sound of.at_rest.0 whole rest left later goes

  pub meets_no_neighbour : NoForbiddenNeighbour t later
  meets_no_neighbour = no_forbidden_neighbour t targets carries sound of.at_rest.0 of.valid.colocations whole rest left later goes

  pub migrates_alone : MigrationsAlone t later
  migrates_alone = migrations_alone t targets carries sound of.valid whole rest left later goes

  pub is_safe : IsSafe t later
  is_safe = record {
    predecessors = predecessors-first t whole rest left later goes;
    copies = adds_no_copy;
    promotions = adds_no_promotion;
    neighbours = meets_no_neighbour;
    migrations = migrates_alone;
    eager = eager t whole rest left later (upward promotions placed t of) goes;
  }

  pub reaches_targets : HasEnded t later → has_aborted t later ≡ false → EndsInTargets t targets later
  reaches_targets ended unaborted =
      ends_in_targets t targets carries sound of.valid of.at_rest.0 (upward promotions placed t of) whole rest left later goes ended unaborted

  -- where a leaf that has one copy is started, it may run on no other node; and where one of a single promoted copy is promoted, it may be so on none
  module _ (before after : List Event) (k r n i m : ℕ) (held : Role) (low : m < length t.cluster.nodes) (other : m ≢ n) where
    pub is_only_copy : later ≡ before ++ Begin k (Operation op.Start r n i held) ∷ after → is_cloned t.cluster r ≡ false → may_be_running t.cluster r m (journal t before) ≡ false
    is_only_copy split plain =
        let own = begins-its_own t whole rest left later goes before after k (Operation op.Start r n i held) split in
        let within = bounds_of_cell t.cluster t.planned_at targets op.Start r n i held (carries.needed k (Operation op.Start r n i held) own) in
        let few : count_of_others t.cluster n (λ m. may_be_running t.cluster r m (journal t before)) < copies t.cluster r = (adds_no_copy before after k (Operation op.Start r n i held) split).0 in
        let one = one_copy t.cluster r of.valid within.0 plain in
        none_elsewhere (λ m. may_be_running t.cluster r m (journal t before)) n m (length t.cluster.nodes) (omega (arith, few, one)) low other

    pub is_only_promoted : later ≡ before ++ Begin k (Operation op.Promote r n i held) ∷ after → promoted_copies t.cluster r ≡ 1
        → may_be_promoted t.cluster r m (journal t before) ≡ false
    is_only_promoted split one =
        let few : count_of_others t.cluster n (λ m. may_be_promoted t.cluster r m (journal t before)) < promoted_copies t.cluster r =
        adds_no_promotion before after k (Operation op.Promote r n i held) split in
        none_elsewhere (λ m. may_be_promoted t.cluster r m (journal t before)) n m (length t.cluster.nodes) (omega (arith, few, one)) low other
