-- The parts by the states that a journal tells are those of the journal.
use Rattle.std.proofs.Common.{◌≡◌, inl, inr, ℕ, ◌<◌, Bool, true, false, if◌then◌else◌, ℤ, pos, Option, Some, List, [], ◌∷◌, ◌++◌, length, map, slice_get, refl, ap, ◌∙◌, arith}
use Rattle.std.specs.List.{AllByRecursion, flat_map}
use Rattle.std.specs.Option.{option_map_or}
use Rattle.std.proofs.lemmas.Option.{slice_get_cases}
use Rattle.score.specs.Total.{minus_infinity}
use Rattle.cluster_types.specs.declared.cluster.Cluster.{Cluster}
use Rattle.cluster_types.specs.declared.journal.Event.{Event}
use Rattle.cluster_types.specs.declared.journal.Promotion.{Promotion}
use Rattle.cluster_types.specs.declared.leaf.Leaf.{Leaf}
use Rattle.cluster_types.specs.declared.placement.Decision.{Decision}
use Rattle.cluster_types.specs.declared.placement.Decision.TheVariants.{Place, Promote}
use Rattle.cluster_types.specs.declared.states.Cell.{Cell}
use Rattle.cluster_types.specs.CellStates.{cell_state}
use Rattle.cluster_types.specs.Decisions.{leaf_of}
use Rattle.cluster_types.specs.Failures.{is_banned}
use Rattle.cluster_types.specs.Journals.{moment_of}
use Rattle.cluster_types.specs.Terms.{ban_scores, is_active, is_started, opt_in_scores, stickiness_scores, with_lenders}
use Rattle.cluster_types.specs.UnpackedStates.{states_of}
use Rattle.cluster_types.proofs.StatesKept.{cell_kept}
use Rattle.decision_account.specs.Parts.{Origin, ScorePart, base_parts, from_ban, from_opt_in, from_stickiness, lender_of, location_parts, own_parts, part_of}
use Rattle.placement.specs.OwnRows.{is_active_by, is_banned_by, stickiness_of}
use Rattle.placement.specs.Locations.{is_unnamed}
use Rattle.placement.proofs.JoinedOfStates.{all-joins}
use Rattle.placement.proofs.OwnOfStates.{active-is}
use Rattle.account_text.specs.Inner.PartsByStates.{base_parts_by, own_part_where, own_parts_by}

as_map : (counts : Bool) (lender : Option ℕ) (origin : Origin) (score : ℤ)
    → own_part_where counts lender origin score ≡ map (part_of lender origin) (if counts then score ∷ [] else [])
as_map true lender origin score = refl
as_map false lender origin score = refl

one_leaf : (active : Bool) (lender : Option ℕ) (there : Option Leaf) (l : Leaf) → there ≡ Some l
    → own_part_where active lender from_stickiness (option_map_or (λ (leaf : Leaf). leaf.stickiness) there (pos 0))
    ≡ map (part_of lender from_stickiness) (if active then option_map_or (λ (leaf : Leaf). leaf.stickiness ∷ []) there [] else [])
one_leaf true lender there l e = rw e refl
one_leaf false lender there l e = refl

module _ (c : Cluster) (es : List Event) (ps : List Promotion) where
  module _ (lender : Option ℕ) (r n : ℕ) (leaf : r < length c.leaves) (node : n < length c.nodes) where
    sticky_is : own_part_where (is_active_by c (states_of c es ps) r n) lender from_stickiness (stickiness_of c r)
        ≡ map (part_of lender from_stickiness) (stickiness_scores c es r n)
    sticky_is = ap (λ b. own_part_where b lender from_stickiness (stickiness_of c r)) (active-is c es ps r n leaf node) ∙ elim (slice_get_cases c.leaves r).1 [
      | inl (l, low, there, at) ↦ one_leaf (is_active (cell_state c r n es)) lender (slice_get c.leaves r) l there
      | inr (high, none) ↦ absurd (let f : ⊥ = omega (arith, leaf, high) in f)
    ]

    ban_is : own_part_where (is_banned_by c (states_of c es ps) r n) lender from_ban minus_infinity ≡ map (part_of lender from_ban) (ban_scores c es r n)
    ban_is =
        ap (λ b. own_part_where b lender from_ban minus_infinity) (ap (λ s. option_map_or (λ (cell : Cell). cell.banned) s false) (cell_kept c es ps r n leaf node))
        ∙ as_map (is_banned c r n es) lender from_ban minus_infinity

    opt_in_is : own_part_where (is_unnamed c (moment_of es) r n) lender from_opt_in minus_infinity ≡ map (part_of lender from_opt_in) (opt_in_scores c es r n)
    opt_in_is = as_map (is_unnamed c (moment_of es) r n) lender from_opt_in minus_infinity

    pub own_parts_are : own_parts_by c (states_of c es ps) lender r n ≡ own_parts c es lender r n
    own_parts_are =
        let given = location_parts c es lender is_started r n in
        ap (λ (xs : List ScorePart). given ++ xs ++ own_part_where (is_banned_by c (states_of c es ps) r n) lender from_ban minus_infinity
        ++ own_part_where (is_unnamed c (moment_of es) r n) lender from_opt_in minus_infinity) sticky_is
        ∙ ap (λ (xs : List ScorePart). given ++ map (part_of lender from_stickiness) (stickiness_scores c es r n) ++ xs
        ++ own_part_where (is_unnamed c (moment_of es) r n) lender from_opt_in minus_infinity) ban_is
        ∙ ap (λ (xs : List ScorePart). given ++ map (part_of lender from_stickiness) (stickiness_scores c es r n)
        ++ map (part_of lender from_ban) (ban_scores c es r n) ++ xs) opt_in_is

  all_parts_are : (r n : ℕ) → n < length c.nodes → (ss : List ℕ) → AllByRecursion (λ s. s < length c.leaves) ss
      → flat_map (λ s. own_parts_by c (states_of c es ps) (lender_of r s) s n) ss ≡ flat_map (λ s. own_parts c es (lender_of r s) s n) ss
  all_parts_are r n node [] below = refl
  all_parts_are r n node (s ∷ ss) below =
      ap (λ (xs : List ScorePart). xs ++ flat_map (λ s. own_parts_by c (states_of c es ps) (lender_of r s) s n) ss) (own_parts_are (lender_of r s) s n below.0 node)
      ∙ ap (λ (xs : List ScorePart). own_parts c es (lender_of r s) s n ++ xs) (all_parts_are r n node ss below.1)

  pub base_parts_are : (d : Decision) (n : ℕ) → leaf_of d < length c.leaves → n < length c.nodes
      → base_parts_by c (states_of c es ps) d n ≡ base_parts c es ps d n
  base_parts_are (Place r) n leaf node =
      let joins = all-joins c es ps r leaf in
      ap (λ (ss : List ℕ). flat_map (λ s. own_parts_by c (states_of c es ps) (lender_of r s) s n) ss) joins.same
      ∙ all_parts_are r n node (with_lenders c es r) joins.below
  base_parts_are (Promote r) n leaf node = refl
