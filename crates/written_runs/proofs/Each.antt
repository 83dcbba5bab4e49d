-- What holds of each element of lists that are joined, of those that are made of the numbers of a range, and of the target lines of a leaf.
use Rattle.std.proofs.Common.{arith, ◌≡◌, ◌<◌, ◌≤◌, ◌+◌, ℕ, suc, zero, Option, Some, None, List, [], ◌∷◌, ◌++◌, length, Contains, slice_get, refl}
use Rattle.std.specs.Prelude.{unwrap_or}
use Rattle.std.specs.List.{AllByRecursion, flat_map, range_with_len}
use Rattle.std.proofs.lemmas.Option.{get_or_from_slice_get, slice_get_within}
use Rattle.lemmas.proofs.Members.{all_append}
use Rattle.cluster_types.specs.declared.cluster.Cluster.{Cluster}
use Rattle.cluster_types.specs.declared.placement.NoReason.{NoReason}
use Rattle.cluster_types.specs.declared.placement.Pin.{Pin}
use Rattle.cluster_types.specs.declared.placement.Target.{Target}
use Rattle.cluster_types.specs.declared.placement.Target.TheVariants as target
use Rattle.cluster_types.specs.declared.run.RunLine.{RunLine}
use Rattle.cluster_types.specs.declared.run.RunLine.TheVariants as line
use Rattle.cluster_types.specs.Tables.{Targets}
use Rattle.cluster_types.specs.Texts.{goal_lines, lacking_lines, leaf_lines, pin_lines}
use Rattle.input_reading.specs.PrintedLines.{IsSomewhere}

module _ {X : Type 0} (P : X → Type 0) where
  pub all_later : (xs ys : List X) → AllByRecursion P (xs ++ ys) → AllByRecursion P ys
  all_later [] ys h = h
  all_later (x ∷ xs) ys h = all_later xs ys h.1

  pub all_in_range : (f : ℕ → List X) (from count : ℕ) → ((j : ℕ) → from ≤ j → j < from + count → AllByRecursion P (f j))
      → AllByRecursion P (flat_map f (range_with_len from count))
  all_in_range f from zero h = tt
  all_in_range f from (suc count) h =
      all_append P (f from) (flat_map f (range_with_len (from + 1) count)) (h from (omega arith) (omega arith))
      (all_in_range f (from + 1) count (λ j low high. h j (omega (arith, low)) (omega (arith, high))))

-- what is read of a list is in it
pub read_in : {X : Type 0} (xs : List X) (k : ℕ) (x : X) → slice_get xs k ≡ Some x → Contains xs x
read_in xs k x e = (k, slice_get_within xs k x e, get_or_from_slice_get xs k x x e)

-- what holds of a line whatever it says of the leaf holds of each of its target lines
module _ (P : RunLine → Type 0) (c : Cluster) (pins : List (Option Pin)) (targets : Targets) (reasons : List (Option NoReason)) (r : ℕ) (of_pin : (pin : Pin) → P (line.Pinned r pin))
    (of_goal : (n : ℕ) → n < length c.nodes → (goal : Target) → IsSomewhere goal → P (line.Goal r n goal))
    (of_reason : (reason : NoReason) → slice_get reasons r ≡ Some (Some reason) → P (line.Lacking r reason)) where
  each_pin : (pin : Option Pin) → AllByRecursion P (pin_lines c r pin)
  each_pin None = tt
  each_pin (Some pin) = (of_pin pin, tt)

  each_goal : (n : ℕ) → n < length c.nodes → (goal : Target) → AllByRecursion P (goal_lines c r n goal)
  each_goal n low target.Nowhere = tt
  each_goal n low goal = (of_goal n low goal tt, tt)

  each_reason : (found : Option (Option NoReason)) → slice_get reasons r ≡ found → AllByRecursion P (lacking_lines c r (unwrap_or found None))
  each_reason None e = tt
  each_reason (Some None) e = tt
  each_reason (Some (Some reason)) e = (of_reason reason e, tt)

  pub all_of_leaf : AllByRecursion P (leaf_lines c pins targets reasons r)
  all_of_leaf =
      let pinned = pin_lines c r (unwrap_or (slice_get pins r) None) in
      let placed = flat_map (λ n. goal_lines c r n (targets r n)) (range_with_len 0 (length c.nodes)) in
      all_append P (pinned ++ placed) (lacking_lines c r (unwrap_or (slice_get reasons r) None))
      (all_append P pinned placed (each_pin (unwrap_or (slice_get pins r) None))
      (all_in_range P (λ n. goal_lines c r n (targets r n)) 0 (length c.nodes) (λ n up high. each_goal n (omega (arith, high)) (targets r n))))
      (each_reason (slice_get reasons r) refl)
