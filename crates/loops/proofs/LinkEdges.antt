-- Edges of links, and of more of them.
use Rattle.std.proofs.Common.{arith, ◌≡◌, ◌<◌, ◌+◌, ℕ, List, length, take, slice_index_or, [], ◌∷◌, ◌++◌, map, filter, sym, ◌∙◌, ap}
use Rattle.std.specs.List.{flat_map, range_with_len}
use Rattle.std.proofs.lemmas.Grind.{flat_map-append}
use Rattle.std.proofs.lemmas.List.{take_more, append_assoc, append-nil, map-append}
use Rattle.std.proofs.lemmas.List.FromFn.{map-range_with_len_more}
use Rattle.std.proofs.lemmas.List.Elements.{filter-append}
use Rattle.lemmas.proofs.Ranges.{range-more}
use Rattle.edges.specs.declared.edge.Edge.{Edge}
use Rattle.cluster_types.specs.declared.cluster.Cluster.{Cluster}
use Rattle.cluster_types.specs.declared.rules.Order.{Order}
use Rattle.cluster_types.specs.Numbers.{Link, leaf_links, order_links}
use Rattle.loops.specs.Inner.Edges.{counts_link, edges_of, link_edge, step_edges}
use Rattle.loops.specs.FirstLoops.{with_first_orders}

pub edges_joined : (c : Cluster) (some more : List Link) → edges_of c (some ++ more) ≡ edges_of c some ++ edges_of c more
edges_joined c some more =
    ap (map link_edge) (filter-append (counts_link c) some more) ∙ map-append link_edge (filter (counts_link c) some) (filter (counts_link c) more)

pub then_more : (c : Cluster) (before between after : List Edge) (some more : List Link) → between ≡ before ++ edges_of c some
    → after ≡ between ++ edges_of c more
    → after ≡ before ++ edges_of c (some ++ more)
then_more c before between after some more e f =
    let j = edges_joined c some more in
    let a = append_assoc before (edges_of c some) (edges_of c more) in
    cc

-- the links of one leaf more
pub leaf_then : (c : Cluster) (n : ℕ) (before after : List Edge) → before ≡ edges_of c (flat_map leaf_links (range_with_len 0 n))
    → after ≡ before ++ edges_of c (leaf_links n)
    → after ≡ edges_of c (flat_map leaf_links (range_with_len 0 (n + 1)))
leaf_then c n before after h more =
    let so_far : List Link = flat_map leaf_links (range_with_len 0 n) in
    let whole : flat_map leaf_links (range_with_len 0 (n + 1)) ≡ flat_map leaf_links (range_with_len 0 n) ++ leaf_links n
    = ap (flat_map leaf_links) (range-more n) ∙ flat_map-append leaf_links (range_with_len 0 n) (n ∷ []) in
    more ∙ ap (λ t. t ++ edges_of c (leaf_links n)) h ∙ sym (edges_joined c (flat_map leaf_links (range_with_len 0 n)) (leaf_links n))
    ∙ ap (edges_of c) (sym whole)

-- the links of one order more
pub order_then : (c : Cluster) (i : ℕ) (o : Order) (before after : List Edge) → i < length c.orders → o ≡ slice_index_or c.orders i o
    → before ≡ step_edges (with_first_orders c i)
    → after ≡ before ++ edges_of c (order_links o)
    → after ≡ step_edges (with_first_orders c (i + 1))
order_then c i o before after lt is h more =
    let own : List Link = flat_map leaf_links (range_with_len 0 (length c.leaves)) in
    let some : List Link = flat_map order_links (take i c.orders) in
    let t : take (i + 1) c.orders ≡ take i c.orders ++ o ∷ [] = rw (← is) at (take_more c.orders i o lt) in
    let f : flat_map order_links (take (i + 1) c.orders) ≡ flat_map order_links (take i c.orders) ++ order_links o
    = ap (flat_map order_links) t ∙ flat_map-append order_links (take i c.orders) (o ∷ [])
    ∙ ap (λ t. flat_map order_links (take i c.orders) ++ t) (append-nil (order_links o)) in
    let whole = ap (λ t. own ++ t) f ∙ sym (append_assoc own some (order_links o)) in
    more ∙ ap (λ t. t ++ edges_of c (order_links o)) h ∙ sym (edges_joined c (own ++ some) (order_links o)) ∙ ap (edges_of c) (sym whole)

-- one end more
pub end_then : (c : Cluster) (i end : ℕ) (before after : List ℕ)
    → before ≡ map (λ k. length (step_edges (with_first_orders c (k + 1)))) (range_with_len 0 i)
    → after ≡ before ++ end ∷ []
    → end ≡ length (step_edges (with_first_orders c (i + 1)))
    → after ≡ map (λ k. length (step_edges (with_first_orders c (k + 1)))) (range_with_len 0 (i + 1))
end_then c i end before after h more is =
    let m = map-range_with_len_more (λ k. length (step_edges (with_first_orders c (k + 1)))) 0 i i (omega arith) in
    more ∙ ap (λ t. t ++ end ∷ []) h ∙ ap (λ x. map (λ k. length (step_edges (with_first_orders c (k + 1)))) (range_with_len 0 i) ++ x ∷ []) is
    ∙ sym m
