-- The reason of a leaf, and the list of a placement that has it.
use Rattle.std.proofs.Common.{arith, ◌≡◌, ◌<◌, ℕ, Option, Some, None, List, sym, ap, subst, length, get_or}
use Rattle.std.proofs.lemmas.Option.{slice_get-get_or, slice_get_within}
use Rattle.std.specs.Prelude.{slice_get, unwrap_or}
use Rattle.cluster_types.specs.declared.cluster.Cluster.{Cluster}
use Rattle.cluster_types.specs.declared.journal.Event.{Event}
use Rattle.cluster_types.specs.declared.journal.Promotion.{Promotion}
use Rattle.cluster_types.specs.declared.placement.NoReason.{NoReason}
use Rattle.cluster_types.specs.declared.placement.Placed.{Placed}
use Rattle.cluster_types.specs.Choice.{after_decisions}
use Rattle.cluster_types.specs.Pins.{pinned_targets}
use Rattle.cluster_types.specs.Plans.{IsPlaced}
use Rattle.cluster_types.specs.Reasons.{HasReason, leaf_reason}
use Rattle.cluster_types.specs.Tables.{targets_of}

-- what holds of each entry of the list holds of the reason of each leaf
pub reason_by_list : (P : Option NoReason → Type 0) (reasons : List (Option NoReason)) (r : ℕ) → r < length reasons
    → ((reason : Option NoReason) → slice_get reasons r ≡ Some reason → P reason) → P (leaf_reason reasons r)
reason_by_list P reasons r within each =
    let there = slice_get-get_or reasons r None within in
    subst P (sym (ap (λ found. unwrap_or found None) there)) (each (get_or reasons r None) there)

-- a leaf that has a reason has an entry of the list
pub reason_there : (found : Option (Option NoReason)) (reason : NoReason) → unwrap_or found None ≡ Some reason → found ≡ Some (Some reason)
reason_there None reason h = cc
reason_there (Some entry) reason h = ap Some h

-- what a placement says of a leaf's entry
pub reason_told : (c : Cluster) (es : List Event) (ps : List Promotion) (placed : Placed) (is : IsPlaced c es ps placed) (r : ℕ) (reason : Option NoReason)
    → slice_get placed.none r ≡ Some reason
    → HasReason c es (after_decisions c es ps (pinned_targets c es) is.decisions) (targets_of placed.table) r reason
reason_told c es ps placed is r reason h =
    let within = slice_get_within placed.none r reason h in
    let size = is.leaves in
    subst (HasReason c es (after_decisions c es ps (pinned_targets c es) is.decisions) (targets_of placed.table) r) (ap (λ found. unwrap_or found None) h)
    (is.reasons r (omega arith))
