-- What the transition of a plan has from it: its actions are the needed ones, each once, and wait for those of lower numbers alone; its table is lawful.
use Rattle.std.proofs.Common.{arith, ◌≡◌, ◌<◌, ◌+◌, ◌-◌, ◌==◌, if◌then◌else◌, ℕ, Bool, true, false, List, slice_get, refl, sym, ap, ◌∙◌}
use Rattle.std.specs.Prelude.{Some, None, Contains}
use Rattle.std.proofs.lemmas.Option.{slice_get_within, get_or_from_slice_get, slice_get-get_or}
use Rattle.cluster_types.specs.declared.cluster.Cluster.{Cluster}
use Rattle.cluster_types.specs.declared.journal.Action.{Action}
use Rattle.cluster_types.specs.declared.journal.Event.{Event}
use Rattle.cluster_types.specs.declared.journal.Promotion.{Promotion}
use Rattle.cluster_types.specs.declared.leaf.Op.TheVariants as op
use Rattle.cluster_types.specs.declared.leaf.Role.TheVariants as role
use Rattle.cluster_types.specs.declared.placement.Placed.{Placed}
use Rattle.cluster_types.specs.Graphs.{GraphOf}
use Rattle.plan_laws.proofs.NeededSteps.{started, promoted}
use Rattle.cluster_types.specs.NeededActions.{NeededBeforeMigration, fence, probe, step, monitor, Needed, kept, sent, taken_in}
use Rattle.cluster_types.specs.Plans.{CarriesOut, IsPlaced, IsPlan, precedes_by_number, transition_of, transition_on}
use Rattle.cluster_types.specs.Precedence.{gives_any, is_some_cell}
use Rattle.cluster_types.specs.Rights.{may_start}
use Rattle.cluster_types.specs.Safety.{IsAtRest}
use Rattle.cluster_types.specs.Steps.{Transition, action_at, numbered}
use Rattle.cluster_types.specs.Tables.{Targets, targets_of}
use Rattle.cluster_types.specs.Valid.{IsValid}
use Rattle.cluster_types.proofs.NumberLaws.{one_number}
use Rattle.plan_laws.proofs.LawfulTable.{lawful}
use Rattle.plan_laws.proofs.NeededTargets.{gives}
use Rattle.plan_laws.proofs.LowerNumbers.{lower_number, promotable_target}
use Rattle.run_safety.specs.OfPlans.{IsOfPlan}
use Rattle.run_safety.proofs.Carried.{HasNumber, Carries, IsSound}
use Rattle.run_safety.proofs.InFlight.{number_within}
use Rattle.run_safety.proofs.PinnedTargets.{pinned_stays}

pub number_of : (t : Transition) (i : ℕ) (a : Action) → slice_get t.actions i ≡ Some a → action_at t (i + 1) ≡ Some a
number_of t i a e =
    let positive : (i + 1 == 0) ≡ false = grind arith in
    let back : (i + 1) - 1 ≡ i = omega arith in
    rw positive (rw back e)

pub place_of : (actions : List Action) (k : ℕ) (a : Action) → numbered actions k ≡ Some a → slice_get actions (k - 1) ≡ Some a
place_of actions k a e = by (k == 0) e
  where
    by : (b : Bool) → (if b then None else slice_get actions (k - 1)) ≡ Some a → slice_get actions (k - 1) ≡ Some a
    by true e = cc
    by false e = e

-- what gives a role is needed only where the cluster may start
module _ (c : Cluster) (es : List Event) (promotions : List Promotion) (placed : Placed) (is : IsPlaced c es promotions placed) where
  first_starts : (y : Action) → NeededBeforeMigration c es (targets_of placed.table) y → is_some_cell (gives_any y) ≡ true → may_start c es ≡ true
  first_starts _ (fence n l e) h = cc
  first_starts _ (probe r n g l e) h = cc
  first_starts _ (step r n op.Start g l gets) h = (gives c es promotions placed is r n op.Start role.Started g l started gets).may
  first_starts _ (step r n op.Promote g l gets) h = (gives c es promotions placed is r n op.Promote role.Promoted g l promoted gets).may
  first_starts _ (step r n op.Stop g l gets) h = cc
  first_starts _ (step r n op.Demote g l gets) h = cc
  first_starts _ (step r n op.Monitor g l gets) h = cc
  first_starts _ (monitor r n w g l has needs) h = cc

  starts : (y : Action) → Needed c es (targets_of placed.table) y → is_some_cell (gives_any y) ≡ true → may_start c es ≡ true
  starts y (kept _ f others) h = first_starts y f h
  starts _ (sent r n m g) h = first_starts _ g.started refl
  starts _ (taken_in r n m g) h = cc

-- the transition of a plan is such, and so is that of a graph that carries a plan out
pub of_plan : (c : Cluster) (es : List Event) (promotions : List Promotion) (placed : Placed) (actions : List Action) → IsValid c → IsAtRest es
    → IsPlan c es promotions placed actions → IsOfPlan promotions placed (transition_of c es actions)
of_plan c es promotions placed actions valid at_rest plan = record { valid = valid; at_rest = at_rest; plan = plan; pairs = λ j k. refl }

pub of_graph : (c : Cluster) (es : List Event) (promotions : List Promotion) (placed : Placed) (g : GraphOf) → IsValid c → IsAtRest es
    → CarriesOut c es promotions placed g → IsOfPlan promotions placed (transition_on c g es)
of_graph c es promotions placed g valid at_rest out = record { valid = valid; at_rest = at_rest; plan = out.plan; pairs = out.pairs }

module _ (promotions : List Promotion) (placed : Placed) (t : Transition) (of : IsOfPlan promotions placed t) where
  abbrev targets : Targets
  targets = targets_of placed.table

  pub carries_plan : Carries t targets
  carries_plan = record {
    needed = λ k a is.
        let there = place_of t.actions k a is in
        (of.plan.numbered.needed a).0 (k - 1, slice_get_within t.actions (k - 1) a there, get_or_from_slice_get t.actions (k - 1) a a there);
    once = λ j k a is_j is_k.
        let low = number_within t.actions j a is_j in
        let high = number_within t.actions k a is_k in
        let same = one_number t.cluster (Needed t.cluster t.planned_at targets) t.actions (j - 1) (k - 1) a of.plan.numbered (place_of t.actions j a is_j) (place_of t.actions k a is_k) in
        omega (arith, low.0, high.0, same);
    numbered = λ a needs. of_list a ((of.plan.numbered.needed a).1 needs);
    precede = λ j k x y is_x is_y must.
        let by : precedes_by_number t.cluster t.actions (numbered t.actions j) (numbered t.actions k) ≡ true = rw (is_x, is_y) must in of.pairs j k ∙ by;
  }
    where
      of_list : (a : Action) → Contains t.actions a → HasNumber t a
      of_list a (i, low, e) = record {
        number = i + 1;
        is = number_of t i a (slice_get-get_or t.actions i a low ∙ ap Some e);
      }

  pub upward : (j k : ℕ) → t.precedes j k ≡ true → j < k
  upward j k h = lower_number t.cluster t.planned_at promotions placed t.actions of.valid of.plan j k (sym (of.pairs j k) ∙ h)

  pub sound_plan : IsSound t targets
  sound_plan = record {
    lawful = lawful t.cluster t.planned_at promotions placed of.valid of.plan.goals;
    pinned = λ r n h l pin. pinned_stays t.cluster t.planned_at promotions placed of.plan.goals r n h l pin;
    promotable = λ r n h l e. promotable_target t.cluster t.planned_at promotions placed of.plan.goals r n h l e;
    may_start = starts t.cluster t.planned_at promotions placed of.plan.goals;
  }
