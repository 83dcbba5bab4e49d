use Rattle.std.proofs.Common.{rules, arith, ◌≡◌, ◌*◌, List, length, sym, subst}
use Rattle.std.specs.List.Sorted.{IsPermutation}
use Rattle.std.proofs.lemmas.List.Sorted.{IsPermutation-reverse, IsPermutation-trans}
use Rattle.edges.specs.declared.edge.Edge.{Edge}
use Rattle.edges.specs.Loops.{EndsWithin}
use Rattle.placement.specs.Inner.Links.{links_in}
use Rattle.placement.proofs.LinkedNeeds.{links-within}
use Rattle.placement.proofs.order.link_order.links_in_order.Goals as goal

pub put_in_order-requires-clause-within : goal.put_in_order-requires-clause-within
put_in_order-requires-clause-within c =
    let set = c.args.set.now in
    let cluster = set.cluster.now in
    let links : c.in_ok-links.links.items ≡ links_in cluster set.list.items = search rules in
    let count : length cluster.leaves * 2 ≡ 2 * c.len.result = omega arith in
    subst (λ k. EndsWithin k c.in_ok-links.links.items) count
    (subst (λ es. EndsWithin (length cluster.leaves * 2) es) (sym links) (links-within cluster c.requires set.list.items set.within))

pub returns : goal.returns
returns c =
    let set = c.args.set.now in
    let links : c.in_ok-links.links.items ≡ links_in set.cluster.now set.list.items = search rules in
    let same : IsPermutation c.in_ok-links.links.items c.put_in_order.new.edges.items = search rules in
    let turned : IsPermutation c.put_in_order.new.edges.items c.reverse.new.self.items = rw c.reverse.ensures.items (IsPermutation-reverse _) in
    subst (λ (es : List Edge). IsPermutation es c.reverse.new.self.items) links (IsPermutation-trans _ _ _ same turned)
