-- The edges of numbered actions say by numbers what must precede what.
use Rattle.std.proofs.Common.{arith, ◌≡◌, ◌<◌, ◌-◌, ◌==◌, nat_lt, nat_le, if◌then◌else◌, ℕ, true, false, Option, Some, None, length, get_or, refl, ap, ◌∙◌}
use Rattle.std.specs.List.{slice_get}
use Rattle.std.proofs.lemmas.Bool.{and_from}
use Rattle.std.proofs.lemmas.Option.{slice_get-get_or, slice_get_within}
use Rattle.lemmas.proofs.Booleans.{later, same_test, sooner}
use Rattle.cluster_types.specs.declared.cluster.Cluster.{Cluster}
use Rattle.cluster_types.specs.declared.journal.Action.{Action}
use Rattle.cluster_types.specs.declared.journal.Action.TheVariants.{Fence}
use Rattle.cluster_types.specs.Graphs.{GraphOf, IsBefore, IsGraph, is_before, is_action_number}
use Rattle.cluster_types.specs.Numbers.{is_earlier}
use Rattle.cluster_types.specs.Plans.{precedes_by_number}
use Rattle.cluster_types.specs.Steps.{numbered}
use Rattle.cluster_types.proofs.Paths.{before-computed, before-from_computed}
use Rattle.plan_laws.proofs.LowerNumbers.{OneBelow, one_below}
use Rattle.planner.specs.PrecedenceEdges.{AreEdges}

module _ (c : Cluster) (g : GraphOf) (is : IsGraph g) (are : AreEdges c g.actions (is_earlier c g.actions) g.edges) where
  abbrev at : ℕ → Action
  at k = get_or g.actions (k - 1) (Fence 0)

  number_within : (k : ℕ) → is_action_number g k ≡ true → (0 < k) × (k - 1 < length g.actions)
  number_within k h =
      let positive : nat_lt 0 k ≡ true = sooner (nat_lt 0 k) (nat_le k (length g.actions)) h in
      let low : nat_le k (length g.actions) ≡ true = later (nat_lt 0 k) (nat_le k (length g.actions)) h in
      (grind arith, grind arith)

  numbered_at : (k : ℕ) → 0 < k → k - 1 < length g.actions → numbered g.actions k ≡ Some (at k)
  numbered_at k l m =
      let some : (k == 0) ≡ false = grind arith in
      ap (λ b. if b then None else slice_get g.actions (k - 1)) some ∙ slice_get-get_or g.actions (k - 1) (Fence 0) m

  is_number_by : (k : ℕ) → 0 < k → k - 1 < length g.actions → is_action_number g k ≡ true
  is_number_by k l m =
      let positive : nat_lt 0 k ≡ true = grind arith in
      let low : nat_le k (length g.actions) ≡ true = grind arith in
      and_from (nat_lt 0 k) (nat_le k (length g.actions)) positive low

  only : (j k : ℕ) → is_before g j k ≡ true → precedes_by_number c g.actions (numbered g.actions j) (numbered g.actions k) ≡ true
  only j k h =
      let b : IsBefore g j k = before-from_computed g j k h in
      let first = number_within j b.earlier in
      let other = number_within k b.later in
      rw (numbered_at j first.0 first.1)
      (rw (numbered_at k other.0 other.1)
      ((are.leads (j - 1) (k - 1) (at j) (at k) first.1 other.1 (slice_get-get_or g.actions (j - 1) (Fence 0) first.1)
      (slice_get-get_or g.actions (k - 1) (Fence 0) other.1)).0 b.leads))

  all_by : (j k : ℕ) (u v : Option Action) → numbered g.actions j ≡ u → numbered g.actions k ≡ v → precedes_by_number c g.actions u v ≡ true → is_before g j k ≡ true
  all_by j k (Some a) (Some b) e f h =
      let first : OneBelow g.actions j a = one_below g.actions j a e in
      let other : OneBelow g.actions k b = one_below g.actions k b f in
      let low = slice_get_within g.actions (j - 1) a first.at in
      let up = slice_get_within g.actions (k - 1) b other.at in
      before-computed g j k is record {
        earlier = is_number_by j first.positive low;
        later = is_number_by k other.positive up;
        leads = (are.leads (j - 1) (k - 1) a b low up first.at other.at).1 h;
      }
  all_by j k (Some a) None e f h = cc
  all_by j k None v e f h = cc

  pub pairs_are : (j k : ℕ) → is_before g j k ≡ precedes_by_number c g.actions (numbered g.actions j) (numbered g.actions k)
  pairs_are j k =
      same_test (is_before g j k) (precedes_by_number c g.actions (numbered g.actions j) (numbered g.actions k)) (only j k)
      (all_by j k (numbered g.actions j) (numbered g.actions k) refl refl)
