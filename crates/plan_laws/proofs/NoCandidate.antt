-- Where the reason is that no node may have the leaf, no node was a candidate when the leaf was placed.
use Rattle.std.proofs.Common.{arith, ◌≡◌, ◌<◌, ◌==◌, ◌||◌, not, nat_lt, ℕ, Bool, true, false, if◌then◌else◌, Some, None, List, [], ◌∷◌, ◌++◌, refl, sym, ◌∙◌, ap, subst, length}
use Rattle.std.proofs.lemmas.List.Sums.{fold-append}
use Rattle.std.specs.List.{range_with_len}
use Rattle.std.proofs.lemmas.Option.{slice_get_within}
use Rattle.std.specs.Prelude.{slice_get}
use Rattle.std.proofs.lemmas.Bool.{and_from, false_from_ne_true}
use Rattle.lemmas.proofs.Searches.{each_passes}
use Rattle.lemmas.proofs.Members.{in_range}
use Rattle.loops.proofs.Needs.{same_decision}
use Rattle.cluster_types.specs.declared.cluster.Cluster.{Cluster}
use Rattle.cluster_types.specs.declared.journal.Event.{Event}
use Rattle.cluster_types.specs.declared.journal.Promotion.{Promotion}
use Rattle.cluster_types.specs.declared.leaf.Role.TheVariants as role
use Rattle.cluster_types.specs.declared.placement.Decision.{Decision}
use Rattle.cluster_types.specs.declared.placement.Decision.TheVariants.{Place}
use Rattle.cluster_types.specs.declared.placement.NoReason.TheVariants as none
use Rattle.cluster_types.specs.declared.placement.Placed.{Placed}
use Rattle.cluster_types.specs.Choice.{after_decision, after_decisions, cap_of, is_candidate, is_chosen, is_stopped_role}
use Rattle.cluster_types.specs.Decisions.{Decides, is_among, is_same_decision}
use Rattle.cluster_types.specs.Failures.{is_fail_stopped}
use Rattle.cluster_types.specs.Fields.{copies, target_role_of}
use Rattle.cluster_types.specs.Pins.{is_pinned, pinned_targets}
use Rattle.cluster_types.specs.Reasons.{HasReason, is_chosen_nowhere, plain_reason, leaf_reason}
use Rattle.cluster_types.specs.Plans.{IsPlaced}
use Rattle.cluster_types.specs.Rights.{may_start}
use Rattle.cluster_types.specs.Tables.{Targets, holds_role, is_somewhere, targets_of}
use Rattle.cluster_types.specs.Valid.{IsValid}
use Rattle.cluster_types.proofs.LeafReasons.{reason_there, reason_told}
use Rattle.plan_laws.specs.Placing.{NoNodeFits}
use Rattle.plan_laws.proofs.FewChosen.{FirstCandidate, first_candidate}
use Rattle.plan_laws.proofs.Following.{Follow, First, first_of_rest, follow_later, follow_of}
use Rattle.plan_laws.proofs.MadeOnes.{is_placed}
use Rattle.plan_laws.proofs.SomeReady.{each_is_made}
use Rattle.plan_laws.proofs.StayHeld.{IsUntouched, stay_held, untouched_first, untouched_later, untouched_next}

-- where a made decision stands among the others
pub record Stands (ds : List Decision) (d : Decision) : Type 0 where
  pub before : List Decision
  pub later : List Decision
  pub split : ds ≡ before ++ d ∷ later

pub stands : (ds : List Decision) (d : Decision) → is_among ds d ≡ true → Stands ds d
stands [] d h = cc
stands (x ∷ ds) d h = go (is_same_decision d x) refl h (stands ds d)
  where
    go : (b : Bool) → is_same_decision d x ≡ b → b || is_among ds d ≡ true → (is_among ds d ≡ true → Stands ds d) → Stands (x ∷ ds) d
    go true e g more = record { before = []; later = ds; split = ap (λ (y : Decision). y ∷ ds) (sym (same_decision d x e)) }
    go false e g more = let s = more g in record { before = x ∷ s.before; later = s.later; split = ap (λ (xs : List Decision). x ∷ xs) s.split }

-- that this reason is the first that holds says of those before it that they don't
module _ (c : Cluster) (es : List Event) (table : Targets) (r : ℕ) where
  pub record NoNodeMeans : Type 0 where
    pub has_copies : (copies c r == 0) ≡ false
    pub wanted : is_stopped_role (target_role_of c r) ≡ false
    pub unstopped : is_fail_stopped c r es ≡ false
    pub nowhere : is_chosen_nowhere c es table r ≡ true

  pub no_node_means : plain_reason c es table r ≡ Some none.NoNode → NoNodeMeans
  no_node_means h =
      go (copies c r == 0) refl (is_stopped_role (target_role_of c r)) refl (is_fail_stopped c r es) refl c.properties.stop_all (may_start c es)
      (is_chosen_nowhere c es table r) refl h
    where
      go : (a : Bool) → (copies c r == 0) ≡ a → (b : Bool) → is_stopped_role (target_role_of c r) ≡ b → (d : Bool) → is_fail_stopped c r es ≡ d → (e f : Bool)
          → (g : Bool) → is_chosen_nowhere c es table r ≡ g
          → (if a then Some none.NoCopies
          else (if b then Some none.Stopped
          else (if d then Some none.OnFail
          else (if e then Some none.StopAll
          else (if not f then Some none.NoQuorum
          else (if g then Some none.NoNode else None)))))) ≡ Some none.NoNode → NoNodeMeans
      go true i b j d k e f g l h = cc
      go false i true j d k e f g l h = cc
      go false i false j true k e f g l h = cc
      go false i false j false k true f g l h = cc
      go false i false j false k false false g l h = cc
      go false i false j false k false true false l h = cc
      go false i false j false k false true true l h = record { has_copies = i; wanted = j; unstopped = k; nowhere = l }

  some_cap : NoNodeMeans → 0 < cap_of c es (Place r)
  some_cap m = rw (m.wanted, m.unstopped) (positive (copies c r) m.has_copies)
    where
      positive : (n : ℕ) → (n == 0) ≡ false → 0 < n
      positive n h = grind arith

-- a candidate is chosen where the cap isn't 0
module _ (c : Cluster) (es : List Event) (ps : List Promotion) where
  pub record SomeChosen (at : Targets) (d : Decision) : Type 0 where
    pub node : ℕ
    pub within : node < length c.nodes
    pub chosen : is_chosen c es ps at d node ≡ true

  pub some_chosen : (at : Targets) (d : Decision) (n : ℕ) → n < length c.nodes → is_candidate c es ps at d n ≡ true → 0 < cap_of c es d → SomeChosen at d
  some_chosen at d n within fits cap =
      let f : FirstCandidate c es ps at d = first_candidate c es ps at d n within fits in
      record {
        node = f.node;
        within = f.within;
        chosen = and_from (is_candidate c es ps at d f.node) _ f.candidate (less _ (cap_of c es d) f.none_before cap);
      }
    where
      less : (k cap : ℕ) → k ≡ 0 → 0 < cap → nat_lt k cap ≡ true
      less k cap e h = grind arith

  now_there : (at : Targets) (r n : ℕ) → n < length c.nodes → is_chosen c es ps at (Place r) n ≡ true → holds_role (after_decision c es ps at (Place r)) r role.Started n ≡ true
  now_there at r n within chosen =
      let e : (r == r) ≡ true = grind arith in
      let f : nat_lt n (length c.nodes) ≡ true = grind arith in
      rw (e, f, chosen) refl

  module _ (valid : IsValid c) (ds : List Decision) (in_order : Decides c es ps [] ds) (r : ℕ) (low : r < length c.leaves) (free : is_pinned c es r ≡ false)
      (reason : plain_reason c es (after_decisions c es ps (pinned_targets c es) ds) r ≡ Some none.NoNode) where
    s : Stands ds (Place r)
    s = stands ds (Place r) (each_is_made c valid es ps [] ds in_order (Place r) (is_placed c es r low free))

    abbrev first : Targets
    first = pinned_targets c es

    abbrev at : Targets
    at = after_decisions c es ps first s.before

    abbrev table : Targets
    table = after_decisions c es ps first ds

    m : NoNodeMeans c es table r
    m = no_node_means c es table r reason

    cut : Follow c es ps [] first (s.before ++ Place r ∷ s.later)
    cut = subst (λ (xs : List Decision). Follow c es ps [] first xs) s.split (follow_of c es ps ds first in_order)

    from : First c es ps s.before at (Place r) s.later
    from = first_of_rest c es ps s.before s.later at (Place r) (follow_later c es ps [] s.before (Place r ∷ s.later) first cut)

    untouched : IsUntouched c es (s.before ++ Place r ∷ []) (after_decision c es ps at (Place r))
    untouched =
        untouched_next c es ps s.before at (Place r) from.next.ready
        (untouched_later c es ps [] s.before (Place r ∷ s.later) first cut (untouched_first c es))

    same : table ≡ after_decisions c es ps (after_decision c es ps at (Place r)) s.later
    same =
        ap (λ (xs : List Decision). after_decisions c es ps first xs) s.split
        ∙ fold-append (after_decision c es ps) first s.before (Place r ∷ s.later)

    -- a chosen node would have a target in the end
    never_chosen : SomeChosen at (Place r) → ⊥
    never_chosen k =
        let there = now_there at r k.node k.within k.chosen in
        let held : holds_role (after_decisions c es ps (after_decision c es ps at (Place r)) s.later) r role.Started k.node ≡ true
        = stay_held c es ps (s.before ++ Place r ∷ []) s.later (after_decision c es ps at (Place r)) from.follow untouched r k.node role.Started there in
        let final : is_somewhere (table r k.node) ≡ true = subst (λ (t : Targets). is_somewhere (t r k.node) ≡ true) (sym same) held in
        let none : not (is_somewhere (table r k.node)) ≡ true
        = each_passes (λ n. not (is_somewhere (table r n))) (range_with_len 0 (length c.nodes)) k.node m.nowhere
        (in_range 0 (length c.nodes) k.node (omega arith) (let l = k.within in omega arith)) in
        let no : not true ≡ true = rw final at none in cc

    none_there : (n : ℕ) → n < length c.nodes → is_candidate c es ps at (Place r) n ≡ false
    none_there n within =
        false_from_ne_true (is_candidate c es ps at (Place r) n)
        (λ fits. never_chosen (some_chosen at (Place r) n within fits (some_cap c es table r m)))

    pub no_node_fits : NoNodeFits c es ps ds r
    no_node_fits = record { before = s.before; later = s.later; split = s.split; none = none_there }

  -- the reason in a placement
  pub reason_no_node : (placed : Placed) (is : IsPlaced c es ps placed) (r : ℕ) → IsValid c → leaf_reason placed.none r ≡ Some none.NoNode
      → NoNodeFits c es ps is.decisions r
  reason_no_node placed is r valid reason =
      let there : slice_get placed.none r ≡ Some (Some none.NoNode) = reason_there (slice_get placed.none r) none.NoNode reason in
      let told : HasReason c es (after_decisions c es ps (pinned_targets c es) is.decisions) (targets_of placed.table) r (Some none.NoNode)
      = reason_told c es ps placed is r (Some none.NoNode) there in
      let lt = slice_get_within placed.none r (Some none.NoNode) there in
      let size = is.leaves in
      no_node_fits valid is.decisions is.in_order r (omega arith) told.0 told.2
