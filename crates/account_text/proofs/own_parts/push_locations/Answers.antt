use Rattle.std.proofs.Common.{rules}
use Rattle.placement.specs.Inner.Locations.{is_role}
use Rattle.account_text.proofs.OwnTexts.{locations_more}
use Rattle.account_text.proofs.own_parts.push_locations.Goals as goal

pub returns : goal.returns
returns c =
    let s = c.args.sources.now in
    locations_more s.cluster.now c.args.cell.now c.args.lender (is_role c.args.role) c.args.leaf c.args.node s.states.now.moment c.requires.node
    c.of_leaf-of_leaf.result.now c.of_leaf-of_leaf.ensures c.args.text.now.items c.push_all_located.new.text.items c.push_all_ruled.new.text.items
    c.deref.result.now c.deref-2.result.now c.deref.ensures.value c.deref-2.ensures.value (search rules) (search rules)
