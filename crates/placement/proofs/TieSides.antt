-- The sides of ties are leaves, and the order of ties doesn't matter.
use Rattle.std.proofs.Common.{◌<◌, List, length, filter, subst}
use Rattle.std.specs.List.Sorted.{IsPermutation}
use Rattle.std.proofs.lemmas.List.Sorted.{Contains-permutation, IsPermutation-sym}
use Rattle.lemmas.proofs.Members.{of_map, of_filter}
use Rattle.edges.specs.declared.edge.Edge.{Edge}
use Rattle.edges.specs.Loops.{EndsWithin}
use Rattle.cluster_types.specs.declared.cluster.Cluster.{Cluster}
use Rattle.cluster_types.specs.Terms.{is_tie}
use Rattle.cluster_types.specs.Valid.{IsValid}
use Rattle.cluster_types.proofs.RuleLeaves.{role_leaf}
use Rattle.placement.specs.Ties.{AreTies, tie_of, ties_of}

pub end-at-leaves : (c : Cluster) → IsValid c → EndsWithin (length c.leaves) (ties_of c)
end-at-leaves c valid tie among =
    let of_colocation = of_map tie_of (filter (is_tie c) c.colocations) tie among in
    let col = of_colocation.source in
    let kept = of_filter (is_tie c) c.colocations col of_colocation.among in
    let known = valid.colocations col kept.among in (
      subst (λ (t : Edge). t.before < length c.leaves) of_colocation.gives (role_leaf c col.primary col.primary_role known.primary),
      subst (λ (t : Edge). t.after < length c.leaves) of_colocation.gives (role_leaf c col.dependent col.dependent_role known.dependent),
    )

pub in-any-order : (c : Cluster) (ties : List Edge) → IsPermutation (ties_of c) ties → AreTies c ties
in-any-order c ties same = record {
  exact = λ tie. (Contains-permutation ties (ties_of c) tie (IsPermutation-sym (ties_of c) ties same), Contains-permutation (ties_of c) ties tie same);
}
