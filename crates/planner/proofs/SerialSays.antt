-- The chains of an order say what it says, and an order of another kind says nothing.
use Rattle.std.proofs.Common.{arith, ◌≡◌, ◌<◌, ◌≤◌, ◌*◌, ◌&&◌, ◌||◌, if◌then◌else◌, ℕ, true, false, Option, Some, None, List, length, count_by, get_or, sym, ap, ◌∙◌}
use Rattle.std.specs.List.{slice_get}
use Rattle.std.proofs.lemmas.Option.{slice_get-get_or}
use Rattle.cluster_types.specs.declared.cluster.Cluster.{Cluster}
use Rattle.edges.specs.declared.edge.Edge.{Edge}
use Rattle.cluster_types.specs.declared.journal.Action.{Action}
use Rattle.cluster_types.specs.declared.journal.Action.TheVariants.{Fence}
use Rattle.cluster_types.specs.declared.rules.Order.{Order}
use Rattle.cluster_types.specs.Numbers.{is_earlier, action_place}
use Rattle.cluster_types.proofs.NumberLaws.{not_both}
use Rattle.cluster_types.specs.Precedence.{is_across, is_serialize, is_serialized}
use Rattle.cluster_types.specs.Plans.{is_of_either}
use Rattle.planner.specs.Chains.{earlier_of, is_earlier_at}
use Rattle.planner.specs.Inner.Chains.{IsChainedSomewhere, serialized_at, serialized_of}
use Rattle.planner.specs.Inner.Groups.{AddsGroup}
use Rattle.planner.specs.Inner.Serials.{AreSerials, most_serial}
use Rattle.planner.proofs.Adding.{adds_none, adds_says}
use Rattle.planner.proofs.Serialized.{chained_says, says_chained}

once_of : (c : Cluster) (actions : List Action) (u v : Option Action) → earlier_of actions (is_earlier c actions) u v ≡ true
    → earlier_of actions (is_earlier c actions) v u ≡ true → ⊥
once_of c actions (Some a) (Some b) h k = not_both (action_place c actions a) (action_place c actions b) h k
once_of c actions (Some a) None h k = cc
once_of c actions None v h k = cc

pub once_at : (c : Cluster) (actions : List Action) (x y : ℕ) → is_earlier_at actions (is_earlier c actions) x y ≡ true
    → is_earlier_at actions (is_earlier c actions) y x ≡ true → ⊥
once_at c actions x y h k = once_of c actions (slice_get actions x) (slice_get actions y) h k

module _ (c : Cluster) (actions : List Action) (o : Order) where
  abbrev Says : ℕ → ℕ → Type 0
  Says x y = serialized_at actions (is_earlier c actions) x y o ≡ true

  abbrev at : ℕ → Action
  at x = get_or actions x (Fence 0)

  at_is : (x y : ℕ) → x < length actions → y < length actions → serialized_at actions (is_earlier c actions) x y o ≡ is_serialized (is_earlier c actions) o (at x) (at y)
  at_is x y l m =
      ap (λ v. serialized_of actions (is_earlier c actions) o v (slice_get actions y)) (slice_get-get_or actions x (Fence 0) l)
      ∙ ap (λ v. serialized_of actions (is_earlier c actions) o (Some (at x)) v) (slice_get-get_or actions y (Fence 0) m)

  pub serial_adds : is_serialize o.kind ≡ true → (places : List ℕ) → AreSerials actions (is_earlier c actions) o places → (old new : List Edge) (from upto : ℕ)
      → AddsGroup (length actions) old new from upto (3 * length places) (IsChainedSomewhere actions o places) → AddsGroup (length actions) old new from upto (most_serial actions o) Says
  serial_adds kind places serial old new from upto h =
      let few = serial.few in
      let most : most_serial actions o ≡ 4 * count_by (is_of_either o.first o.then_leaf) actions =
      ap (λ b. if b then 4 * count_by (is_of_either o.first o.then_leaf) actions else 0) kind in
      adds_says (length actions) old new from upto (3 * length places) (most_serial actions o) (IsChainedSomewhere actions o places) Says only all (omega arith) h
    where
      only : (x y : ℕ) → x < length actions → y < length actions → IsChainedSomewhere actions o places x y → Says x y
      only x y l m (k, d) =
          at_is x y l m
          ∙ chained_says actions (is_earlier c actions) (once_at c actions) o places serial.in_order x y (at x) (at y) l m (slice_get-get_or actions x (Fence 0) l)
          (slice_get-get_or actions y (Fence 0) m) kind k d

      all : (x y : ℕ) → x < length actions → y < length actions → Says x y → IsChainedSomewhere actions o places x y
      all x y l m s =
          let r = says_chained actions (is_earlier c actions) (once_at c actions) o places serial.in_order x y (at x) (at y) l m (slice_get-get_or actions x (Fence 0) l)
          (slice_get-get_or actions y (Fence 0) m) (sym (at_is x y l m) ∙ s) in
          (r.node, r.chained)

  says_none : is_serialize o.kind ≡ false → (u v : Option Action) → serialized_of actions (is_earlier c actions) o u v ≡ true → ⊥
  says_none kind (Some a) (Some b) h =
      let e : false ≡ true = sym (ap (λ k. k && (is_across o a b || is_across o b a) && is_earlier c actions a b) kind) ∙ h in cc
  says_none kind (Some a) None h = cc
  says_none kind None v h = cc

  pub other_adds : is_serialize o.kind ≡ false → (list : List Edge) (from : ℕ) → length actions ≤ from → AddsGroup (length actions) list list from from (most_serial actions o) Says
  other_adds kind list from le =
      adds_says (length actions) list list from from 0 (most_serial actions o) (λ x y. ⊥) Says (λ x y l m h. absurd h)
      (λ x y l m h. says_none kind (slice_get actions x) (slice_get actions y) h) (omega arith) (adds_none (length actions) list from le)
