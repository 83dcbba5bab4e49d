-- Own terms and usable nodes by the states that a journal tells are those of the journal.
use Rattle.std.proofs.Common.{◌≡◌, inl, inr, ℕ, suc, ◌<◌, Bool, true, false, ◌&&◌, not, if◌then◌else◌, ℤ, pos, negsuc, Option, Some, List, [], ◌∷◌, ◌++◌, length, nat_le, slice_get, refl, ap, ◌∙◌, arith}
use Rattle.std.specs.Prelude.{int_le}
use Rattle.std.specs.Int.{is_negative}
use Rattle.std.specs.Option.{option_map_or}
use Rattle.std.proofs.lemmas.Bool.{lt-ltb}
use Rattle.std.proofs.lemmas.Option.{slice_get_cases}
use Rattle.score.specs.Total.{minus_infinity}
use Rattle.cluster_types.specs.declared.cluster.Cluster.{Cluster}
use Rattle.cluster_types.specs.declared.journal.Event.{Event}
use Rattle.cluster_types.specs.declared.journal.Promotion.{Promotion}
use Rattle.cluster_types.specs.declared.leaf.Leaf.{Leaf}
use Rattle.cluster_types.specs.declared.states.Cell.{Cell}
use Rattle.cluster_types.specs.CellStates.{cell_state}
use Rattle.cluster_types.specs.Failures.{is_banned}
use Rattle.cluster_types.specs.NodeStates.{is_online_state, is_standby, is_usable}
use Rattle.cluster_types.specs.Terms.{is_active, is_started, location_scores, opt_in_scores, own_terms, stickiness_scores}
use Rattle.cluster_types.specs.UnpackedStates.{states_of}
use Rattle.cluster_types.proofs.StatesKept.{cell_kept, node_kept}
use Rattle.placement.specs.OwnRows.{is_active_by, is_banned_by, own_by, stickiness_of}
use Rattle.placement.specs.UsableNodes.{is_usable_by}

-- 0 or more is not below 0
pub from-zero : (z : ℤ) → not (is_negative z) ≡ int_le (pos 0) z
from-zero (pos n) =
    let within : nat_le 0 n ≡ true = grind arith in
    let over : nat_le (suc n) 0 ≡ false = grind arith in
    rw (within, over) refl
from-zero (negsuc n) = refl

module _ (c : Cluster) (es : List Event) (ps : List Promotion) where
  pub usable-is : (n : ℕ) → n < length c.nodes → is_usable_by c (states_of c es ps) n ≡ is_usable c n es
  usable-is n low =
      ap (λ b. b && (option_map_or is_online_state (slice_get (states_of c es ps).nodes n) false && not (is_standby c n))) (lt-ltb n (length c.nodes) low)
      ∙ ap (λ s. option_map_or is_online_state s false && not (is_standby c n)) (node_kept c es ps n low)

  module _ (r n : ℕ) (leaf : r < length c.leaves) (node : n < length c.nodes) where
    pub active-is : is_active_by c (states_of c es ps) r n ≡ is_active (cell_state c r n es)
    active-is = ap (λ s. option_map_or (λ (cell : Cell). is_active cell.state) s false) (cell_kept c es ps r n leaf node)

    banned-is : is_banned_by c (states_of c es ps) r n ≡ is_banned c r n es
    banned-is = ap (λ s. option_map_or (λ (cell : Cell). cell.banned) s false) (cell_kept c es ps r n leaf node)

    one-leaf : (active : Bool) (there : Option Leaf) (l : Leaf) → there ≡ Some l
        → (if active then option_map_or (λ (leaf : Leaf). leaf.stickiness) there (pos 0) ∷ [] else []) ≡ (if active then option_map_or (λ (leaf : Leaf). leaf.stickiness ∷ []) there [] else [])
    one-leaf true there l e = rw e refl
    one-leaf false there l e = refl

    sticky-is : (if is_active_by c (states_of c es ps) r n then stickiness_of c r ∷ [] else []) ≡ stickiness_scores c es r n
    sticky-is = ap (λ b. if b then stickiness_of c r ∷ [] else []) active-is ∙ elim (slice_get_cases c.leaves r).1 [
      | inl (l, low, there, at) ↦ one-leaf (is_active (cell_state c r n es)) (slice_get c.leaves r) l there
      | inr (high, none) ↦ absurd (let f : ⊥ = omega (arith, leaf, high) in f)
    ]

    pub own-is : own_by c (states_of c es ps) r n ≡ own_terms c es r n
    own-is =
        ap (λ stay. location_scores c es is_started r n ++ stay ++ (if is_banned_by c (states_of c es ps) r n then minus_infinity ∷ [] else []) ++ opt_in_scores c es r n) sticky-is
        ∙ ap (λ ban. location_scores c es is_started r n ++ stickiness_scores c es r n ++ (if ban then minus_infinity ∷ [] else []) ++ opt_in_scores c es r n) banned-is
