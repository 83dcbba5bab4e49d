use Rattle.std.proofs.Common.{rules, ◌≡◌, ◌++◌, ◌∷◌, [], length, arith}
use Rattle.placement.specs.OwnRows.{own_by}
use Rattle.placement.specs.Rows.{IsRow}
use Rattle.placement.proofs.MoreRows.{each-more}
use Rattle.placement.proofs.totals.own_rows.all_rows.Goals as goal

pub push_reserved-requires : goal.push_reserved-requires
push_reserved-requires c = omega (arith, c.loop-leaf.invariant.size, c.loop-leaf.invariant.room, c.loop-leaf-test.true)

pub loop-leaf-preserved : goal.loop-leaf-preserved
loop-leaf-preserved c =
    let l = c.loop-leaf in
    let cluster = c.args.cluster.now in
    let states = c.args.states.now in
    let made : IsRow (length cluster.nodes) (own_by cluster states l.leaf) c.in_ok-row.row = search rules in
    let more : c.push_reserved.new.self.items ≡ l.rows.items ++ c.in_ok-row.row ∷ [] = search rules in
    record {
      size = search rules;
      room = search rules;
      each = each-more cluster states l.rows.items c.push_reserved.new.self.items c.in_ok-row.row l.leaf l.invariant.size more l.invariant.each made;
    }
