-- Statements that say the same say the same cluster.
use Rattle.std.proofs.Common.{◌≡◌, ℕ, ◌+◌, is_none, List, [], ◌∷◌, ◌++◌, map, codes, Ok, refl, sym, ap, ◌∙◌}
use Rattle.std.proofs.lemmas.List.{map-append}
use Rattle.crm_parse.specs.declared.statement.Statement.{Statement}
use Rattle.crm_parse.specs.Values.{bool_of, count_of}
use Rattle.cluster_model.specs.declared.expansion.leaves.Leaves.{Leaves}
use Rattle.cluster_model.specs.Settings.{node_names_in}
use Rattle.cluster_types.specs.declared.cluster.Cluster.{Cluster}
use Rattle.cluster_types.specs.declared.leaf.Leaf.{Leaf}
use Rattle.cluster_model.specs.declared.resolution.counts.Counts.{Counts}
use Rattle.cluster_model.specs.declared.resolution.directory.Directory.{Directory}
use Rattle.cluster_model.specs.Inner.Colocations.{colocations_in}
use Rattle.cluster_model.specs.Inner.Counting.{all_counted, counted_with, counts_of, nothing_counted}
use Rattle.cluster_model.specs.Inner.Directories.{directory_of, grouped_from, members_in, numbered_from}
use Rattle.cluster_model.specs.FirstFaults.{first_fault}
use Rattle.cluster_model.specs.Inner.Locations.{location_in, rule_locations_in}
use Rattle.cluster_model.specs.Nodes.{node_in}
use Rattle.cluster_model.specs.Options.{policy_of, properties_of}
use Rattle.cluster_model.specs.Inner.Orders.{orders_in}
use Rattle.cluster_model.specs.Inner.Resolution.{cause_after, cluster_of, resolution_by}
use Rattle.cluster_model.specs.Resolution.{resolution_of}
use Rattle.faults.specs.Reading.{unless}
use Rattle.faults.proofs.Steps.{unless-ok}
use Rattle.crm_parse.proofs.SameForms.{IsLineless, alike, clear, cleared, each-lineless, forms, unless-none}
use Rattle.cluster_model.proofs.RulesSaid.{resolution_is}
use Rattle.cluster_model.proofs.SameLeaves.{none-at, option-lineless}

properties-lineless : IsLineless properties_of
unfolding properties_of
properties-lineless statements =
    rw (
      option-lineless bool_of (codes "symmetric-cluster") statements,
      option-lineless bool_of (codes "stonith-enabled") statements,
      option-lineless bool_of (codes "startup-fencing") statements,
      option-lineless policy_of (codes "no-quorum-policy") statements,
      option-lineless bool_of (codes "start-failure-is-fatal") statements,
      option-lineless bool_of (codes "stop-all-resources") statements,
      option-lineless count_of (codes "batch-limit") statements,
    ) refl

members-lineless : (n : ℕ) → IsLineless (grouped_from n)
members-lineless n [] = refl
members-lineless n (s ∷ statements) = ap (λ (more : List (List ℕ × ℕ)). map (λ member. (member, n)) (members_in s.form) ++ more) (members-lineless (n + 1) statements)

directory-lineless : (leaves : Leaves) → IsLineless (directory_of leaves)
unfolding directory_of
directory-lineless leaves statements =
    rw (ap (λ (names : List (List ℕ)). numbered_from 0 names) (each-lineless node_names_in statements), members-lineless 0 statements) refl

cluster-lineless : (d : Directory) (leaves : List Leaf) → IsLineless (cluster_of d leaves)
unfolding cluster_of
cluster-lineless d leaves statements =
    rw (
      each-lineless node_in statements,
      each-lineless (location_in d) statements,
      each-lineless (rule_locations_in d) statements,
      each-lineless (colocations_in d) statements,
      each-lineless (orders_in d) statements,
      properties-lineless statements,
    ) refl

counted-lineless : (counts : Counts) → IsLineless (all_counted counts)
counted-lineless counts [] = refl
counted-lineless counts (s ∷ statements) = counted-lineless (counted_with counts s.form) statements

module _ (d : Directory) (leaves : List Leaf) where
  one-more : (before : List Statement) (s : Statement) → cleared before ++ clear s ∷ [] ≡ cleared (before ++ s ∷ [])
  one-more before s = sym (map-append clear before (s ∷ []))

  cause-lineless : (before : List Statement) (s : Statement) → cause_after d leaves (cleared before) (clear s) ≡ cause_after d leaves before s
  cause-lineless before s =
      let more = one-more before s in
      let counts = ap counts_of more ∙ counted-lineless nothing_counted (before ++ s ∷ []) in
      let cluster = ap (cluster_of d leaves) more ∙ cluster-lineless d leaves (before ++ s ∷ []) in
      rw (counts, cluster) refl

  sound-lineless : (before : List Statement) → (statements : List Statement)
      → is_none (first_fault (cause_after d leaves) (cleared before) (cleared statements)) ≡ is_none (first_fault (cause_after d leaves) before statements)
  sound-lineless before [] = refl
  sound-lineless before (s ∷ statements) =
      let rest = ap (λ done. is_none (first_fault (cause_after d leaves) done (cleared statements))) (one-more before s) ∙ sound-lineless (before ++ s ∷ []) statements in
      none-at s.line 0 (cause_after d leaves before s) (cause_after d leaves (cleared before) (clear s))
      (first_fault (cause_after d leaves) (before ++ s ∷ []) statements)
      (first_fault (cause_after d leaves) (cleared before ++ clear s ∷ []) (cleared statements)) (cause-lineless before s) rest

same-by : (leaves : Leaves) (one other : List Statement) (cluster : Cluster) → forms one ≡ forms other
    → resolution_by leaves one ≡ Ok cluster → resolution_by leaves other ≡ Ok cluster
unfolding resolution_by
same-by leaves one other cluster same e =
    let d = directory_of leaves one in
    let there = alike (directory_of leaves) (directory-lineless leaves) one other same in
    let found = unless-ok (first_fault (cause_after d leaves.leaves) [] one) (cluster_of d leaves.leaves one) cluster e in
    let none = sym (alike (λ statements. is_none (first_fault (cause_after d leaves.leaves) [] statements)) (sound-lineless d leaves.leaves []) one other same) ∙ ap is_none found.0 in
    let given = sym (alike (cluster_of d leaves.leaves) (cluster-lineless d leaves.leaves) one other same) ∙ found.1 in
    ap (λ d. unless (first_fault (cause_after d leaves.leaves) [] other) (cluster_of d leaves.leaves other)) (sym there)
    ∙ (unless-none (first_fault (cause_after d leaves.leaves) [] other) (cluster_of d leaves.leaves other) none ∙ ap Ok given)

-- statements that say the same say the same cluster
pub same-resolution : (leaves : Leaves) (one other : List Statement) (cluster : Cluster) → forms one ≡ forms other
    → resolution_of leaves one ≡ Ok cluster → resolution_of leaves other ≡ Ok cluster
same-resolution leaves one other cluster same e =
    resolution_is leaves other ∙ same-by leaves one other cluster same (sym (resolution_is leaves one) ∙ e)
