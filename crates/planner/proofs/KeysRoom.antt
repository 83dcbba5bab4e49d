-- Each cell of a join has a gate within its room, where its actions are within the cluster.
use Rattle.std.proofs.Common.{arith, ◌≡◌, ◌<◌, ◌+◌, ◌*◌, ℕ, List, Option, Some, None, Contains, IfSome, refl, sym, subst}
use Rattle.std.specs.List.{slice_get}
use Rattle.std.specs.Option.{option_map_or}
use Rattle.std.proofs.lemmas.Nat.{mul-add-lt}
use Rattle.std.proofs.lemmas.Option.{get_or_from_slice_get, slice_get_within}
use Rattle.cluster_types.specs.declared.cluster.Cluster.{Cluster}
use Rattle.cluster_types.specs.declared.journal.Action.{Action}
use Rattle.cluster_types.specs.Precedence.{LeafOnNode}
use Rattle.planner.specs.declared.precedence.sides.Join.{Join}
use Rattle.planner.specs.declared.precedence.sides.Side.{Side}
use Rattle.planner.specs.Inner.Gates.{gate_of, key_at}
use Rattle.planner.specs.Joins.{side_key_of}
use Rattle.planner.specs.Inner.Rooms.{GatesHaveRoom, IsEven, rows_of, width_of}
use Rattle.planner.specs.ActionNames.{IsActionWithin}
use Rattle.planner.proofs.KeysWithin.{key_within}

module _ (c : Cluster) (actions : List Action) (inside : (a : Action) → Contains actions a → IsActionWithin c a) where
  within_on : (s : Side) (place : ℕ) (v : Option Action) → slice_get actions place ≡ v → (a : LeafOnNode) → option_map_or (side_key_of c actions s) v None ≡ Some a
      → (a.leaf < rows_of c s) × (a.node < width_of c s)
  within_on s place (Some act) at a h =
      let l = slice_get_within actions place act at in
      let k = key_within c actions s act (inside act (place, l, get_or_from_slice_get actions place act act at)) in
      subst (λ u. IfSome u (λ k. (k.leaf < rows_of c s) × (k.node < width_of c s))) h k
  within_on s place None at a h = cc

  pub place_within : (s : Side) (place : ℕ) (a : LeafOnNode) → key_at c actions s place ≡ Some a → (a.leaf < rows_of c s) × (a.node < width_of c s)
  place_within s place a h = within_on s place (slice_get actions place) refl a h

  below_room : (base width rows : ℕ) (a : LeafOnNode) → base + width * rows < 4294967296 → a.leaf < rows → a.node < width → gate_of base width a < 4294967296
  below_room base width rows a room l m = let h = mul-add-lt a.leaf width a.node rows l m in omega arith

  room_for : (j : Join) (base : ℕ) → IsEven c j → base + width_of c j.from * rows_of c j.from < 4294967296 → GatesHaveRoom c actions j base (width_of c j.from)
  room_for j base even room = record {
    from = λ place a h. let k = place_within j.from place a h in below_room base (width_of c j.from) (rows_of c j.from) a room k.0 k.1;
    to = λ place a h.
        let k = place_within j.to place a h in
        below_room base (width_of c j.from) (rows_of c j.from) a room (subst (λ v. a.leaf < v) even.rows k.0) (subst (λ v. a.node < v) even.width k.1);
  }

pub has_room : (c : Cluster) (actions : List Action) (j : Join) (base width : ℕ) → ((a : Action) → Contains actions a → IsActionWithin c a) → IsEven c j
    → base + width_of c j.from * rows_of c j.from < 4294967296 → width ≡ width_of c j.from → GatesHaveRoom c actions j base width
has_room c actions j base width inside even room is = subst (GatesHaveRoom c actions j base) (sym is) (room_for c actions inside j base even room)
