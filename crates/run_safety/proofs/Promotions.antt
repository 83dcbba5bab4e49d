-- No promoted copy too many.
use Rattle.std.proofs.Common.{arith, inr, ◌≡◌, ◌<◌, ◌≤◌, ◌||◌, if◌then◌else◌, min, ℕ, Bool, true, false, List, [], length, refl}
use Rattle.std.specs.Prelude.{Option, IfSome}
use Rattle.std.proofs.lemmas.Bool.{both_ways, true_from_ne_false}
use Rattle.lemmas.proofs.Booleans.{later, number_itself}
use Rattle.cluster_types.specs.declared.cluster.Cluster.{Cluster}
use Rattle.cluster_types.specs.declared.journal.Action.{Action}
use Rattle.cluster_types.specs.declared.journal.Action.TheVariants.{Fence, Probe, Operation, MigrateTo, MigrateFrom}
use Rattle.cluster_types.specs.declared.journal.Answer.{Answer}
use Rattle.cluster_types.specs.declared.journal.Event.{Event}
use Rattle.cluster_types.specs.declared.leaf.Op.TheVariants as op
use Rattle.cluster_types.specs.declared.leaf.Role.{Role}
use Rattle.cluster_types.specs.declared.leaf.Role.TheVariants as role
use Rattle.cluster_types.specs.declared.placement.Decision.TheVariants.{Promote}
use Rattle.cluster_types.specs.Choice.{cap_of, is_stopped_role, is_unpromoted_role}
use Rattle.cluster_types.specs.Fields.{copies, is_promotable, promoted_copies, target_role_of}
use Rattle.cluster_types.specs.Journals.{Orderly}
use Rattle.cluster_types.specs.LawfulTables.{role_count}
use Rattle.cluster_types.specs.May.{may_be_promoted, is_left_promoted}
use Rattle.cluster_types.specs.Precedence.{op_cell}
use Rattle.cluster_types.specs.Safety.{MayBePromotedOnFewOthers, NoSecondPromotion}
use Rattle.cluster_types.specs.Steps.{Transition, Begins, GoesBySteps, journal}
use Rattle.cluster_types.specs.Tables.{Targets, is_promoted_target}
use Rattle.run_safety.proofs.Begins.{each_begin}
use Rattle.run_safety.proofs.Calm.{Calm}
use Rattle.run_safety.proofs.Carried.{Carries, IsSound}
use Rattle.run_safety.proofs.Copies.{is_given, is_able, before_promote}
use Rattle.run_safety.proofs.Counting.{others_fewer}
use Rattle.run_safety.proofs.Demoted.{elsewhere_down}
use Rattle.run_safety.proofs.Givers.{promoted_gives}
use Rattle.run_safety.proofs.Leads.{Must, by_demote}
use Rattle.run_safety.proofs.Needing.{Done, succeeded}
use Rattle.run_safety.proofs.Placing.{IsGiven}
use Rattle.run_safety.proofs.Truths.{own_cell}

cap_promoted : (c : Cluster) (es : List Event) (r : ℕ) → cap_of c es (Promote r) ≤ promoted_copies c r
cap_promoted c es r = by (is_stopped_role (target_role_of c r) || is_unpromoted_role (target_role_of c r))
  where
    by : (b : Bool) → (if b then 0 else min (copies c r) (promoted_copies c r)) ≤ promoted_copies c r
    by true = omega arith
    by false = omega arith

module _ (t : Transition) (targets : Targets) (carries : Carries t targets) (sound : IsSound t targets) (orderly : Orderly t.planned_at) where
  module _ (since : List Event) (k r n i : ℕ) (held : Role) (calm : Calm t since) (begins : Begins t since k (Operation op.Promote r n i held)) where
    given_here : IsGiven t.cluster t.planned_at targets r n
    given_here = is_given t targets carries sound orderly since k (Operation op.Promote r n i held) calm begins (record { leaf = r; node = n }) refl

    promoted_here : is_promoted_target (targets r n) ≡ true
    promoted_here =
        promoted_gives t.cluster t.planned_at targets r n (Operation op.Promote r n i held) (carries.needed k _ begins.action) (own_cell r n)

    done : (x : Action) → Must t x (Operation op.Promote r n i held) → Done t since x
    done x must = succeeded t targets carries since k x (Operation op.Promote r n i held) begins must

    targeted : (m : ℕ) → m < length t.cluster.nodes → may_be_promoted t.cluster r m (journal t since) ≡ true → is_promoted_target (targets r m) ≡ true
    targeted m low up = true_from_ne_false (is_promoted_target (targets r m)) never
      where
        never : is_promoted_target (targets r m) ≡ false → ⊥
        never e =
            let first = before_promote t targets carries sound orderly r n i held m in
            let demoted = by_demote t (Operation op.Demote r m 0 role.Started) (Operation op.Promote r n i held) (rw (number_itself r) refl) in
            both_ways (is_left_promoted t.cluster r m (journal t since))
            (elsewhere_down t targets carries r m e since calm given_here.leaf low given_here.free orderly
            (inr (is_able t targets carries sound orderly since k (Operation op.Promote r n i held) calm begins (record { leaf = r; node = n }) refl))
            (sound.promotable r n given_here.leaf given_here.node promoted_here) (done (Probe r m) first.probed) (done (Operation op.Stop r m 0 role.Started) first.stopped)
            (done (Operation op.Demote r m 0 role.Started) demoted) (done (Fence m) first.fenced))
            (later (is_promotable t.cluster r) _ up)

    adds_no_promoted : MayBePromotedOnFewOthers t.cluster (record { leaf = r; node = n }) (journal t since)
    adds_no_promoted =
        let counted = others_fewer (λ m. may_be_promoted t.cluster r m (journal t since)) (λ m. is_promoted_target (targets r m)) n (length t.cluster.nodes) given_here.node
        promoted_here (λ m low other up. targeted m low up) in
        let capped : role_count t.cluster t.planned_at targets r role.Promoted ≤ cap_of t.cluster t.planned_at (Promote r) = sound.lawful.promoted_copies r given_here.leaf given_here.free in
        let within = cap_promoted t.cluster t.planned_at r in
        omega (arith, counted, capped, within)

  no_promotion : (since : List Event) (k : ℕ) (a : Action) → Calm t since → Begins t since k a → IfSome (op_cell op.Promote a) (λ at. MayBePromotedOnFewOthers t.cluster at (journal t since))
  no_promotion since k (Operation op.Promote r n i held) calm begins = adds_no_promoted since k r n i held calm begins
  no_promotion since k (Operation op.Start r n i held) calm begins = tt
  no_promotion since k (Operation op.Stop r n i held) calm begins = tt
  no_promotion since k (Operation op.Demote r n i held) calm begins = tt
  no_promotion since k (Operation op.Monitor r n i held) calm begins = tt
  no_promotion since k (Fence n) calm begins = tt
  no_promotion since k (Probe r n) calm begins = tt
  no_promotion since k (MigrateTo r n m) calm begins = tt
  no_promotion since k (MigrateFrom r n m) calm begins = tt

  pub no_second_promotion : (whole : Bool) (rest left : Option (List Answer)) (later : List Event) → GoesBySteps t whole [] rest later left → NoSecondPromotion t later
  no_second_promotion = each_begin t (λ before k a. IfSome (op_cell op.Promote a) (λ at. MayBePromotedOnFewOthers t.cluster at (journal t before))) no_promotion
