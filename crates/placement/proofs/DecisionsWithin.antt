-- What is decided is of a leaf of the cluster.
use Rattle.std.proofs.Common.{◌≡◌, ℕ, ◌*◌, ◌<◌, ◌≤◌, Bool, true, false, if◌then◌else◌, Option, List, [], ◌∷◌, length, sym, ap, subst, inl, inr, Contains, arith}
use Rattle.std.specs.List.{flat_map, range_with_len}
use Rattle.std.proofs.lemmas.List.{length-append}
use Rattle.std.proofs.lemmas.List.FromFn.{length-range_with_len}
use Rattle.std.proofs.lemmas.List.Elements.{Contains-append_cases}
use Rattle.lemmas.proofs.Members.{Flat, head_or_rest, in_none, of_flat, of_range}
use Rattle.cluster_types.specs.declared.cluster.Cluster.{Cluster}
use Rattle.cluster_types.specs.declared.placement.Decision.{Decision}
use Rattle.cluster_types.specs.declared.placement.Decision.TheVariants.{Place, Promote}
use Rattle.cluster_types.specs.declared.placement.Pin.{Pin}
use Rattle.cluster_types.specs.Decisions.{Key, leaf_of}
use Rattle.cluster_types.specs.Fields.{is_promotable}
use Rattle.placement.specs.Inner.DecisionLists.{decisions_in, decisions_in_leaf}
use Rattle.cluster_types.specs.Pins.{is_pinned_in}
use Rattle.placement.specs.Inner.Turns.{WereMade, none_made, one_more}

of-leaf : (r : ℕ) (pinned promotable : Bool) (d : Decision)
    → Contains (if pinned then [] else Place r ∷ (if promotable then Promote r ∷ [] else [])) d → leaf_of d ≡ r
of-leaf r true promotable d h = absurd (in_none d h)
of-leaf r false promotable d h = elim (head_or_rest (Place r) (if promotable then Promote r ∷ [] else []) d h) [
  | inl e ↦ ap leaf_of (sym e)
  | inr rest ↦ second promotable rest
]
  where
    second : (b : Bool) → Contains (if b then Promote r ∷ [] else []) d → leaf_of d ≡ r
    second true h = elim (head_or_rest (Promote r) [] d h) [
      | inl e ↦ ap leaf_of (sym e)
      | inr none ↦ absurd (in_none d none)
    ]
    second false h = absurd (in_none d h)

pub decisions-within : (c : Cluster) (pins : List (Option Pin)) (d : Decision) → Contains (decisions_in c pins) d → leaf_of d < length c.leaves
decisions-within c pins d h =
    let flat : Flat (decisions_in_leaf c pins) (range_with_len 0 (length c.leaves)) d = of_flat (decisions_in_leaf c pins) (range_with_len 0 (length c.leaves)) d h in
    let low = of_range 0 (length c.leaves) flat.source flat.among in
    let is = of-leaf flat.source (is_pinned_in pins flat.source) (is_promotable c flat.source) d flat.gives in
    omega (arith, low, is)

-- and so is what was made of it
pub made-within : (c : Cluster) (pins : List (Option Pin)) (key : Decision → Key) (order : List Decision) → WereMade c (decisions_in c pins) key order
    → (d : Decision) → Contains order d → leaf_of d < length c.leaves
made-within c pins key _ none_made d h = absurd (in_none d h)
made-within c pins key _ (one_more made e before first) d h = elim (Contains-append_cases made (e ∷ []) d h) [
  | inl old ↦ made-within c pins key made before d old
  | inr new ↦ elim (head_or_rest e [] d new) [
    | inl same ↦ subst (λ (x : Decision). leaf_of x < length c.leaves) same (decisions-within c pins e first.among)
    | inr none ↦ absurd (in_none d none)
  ]
]

-- at most two are decided of a leaf
few-of : (pinned promotable : Bool) (r : ℕ) → length (if pinned then [] else Place r ∷ (if promotable then Promote r ∷ [] else [])) ≤ 2
few-of true promotable r = omega arith
few-of false true r = omega arith
few-of false false r = omega arith

few-in : (f : ℕ → List Decision) → ((r : ℕ) → length (f r) ≤ 2) → (rs : List ℕ) → length (flat_map f rs) ≤ length rs * 2
few-in f few [] = omega arith
few-in f few (r ∷ rs) =
    let one = few r in
    let rest = few-in f few rs in
    let all = length-append (f r) (flat_map f rs) in
    omega arith

pub decisions-few : (c : Cluster) (pins : List (Option Pin)) → length (decisions_in c pins) ≤ length c.leaves * 2
decisions-few c pins =
    let few = few-in (decisions_in_leaf c pins) (λ r. few-of (is_pinned_in pins r) (is_promotable c r) r) (range_with_len 0 (length c.leaves)) in
    let long = length-range_with_len 0 (length c.leaves) in
    omega arith
