use Rattle.std.proofs.Common.{rules, ◌≡◌, ◌++◌, ◌∷◌, []}
use Rattle.account_text.specs.Inner.Sources.{IsSourceOf}
use Rattle.account_text.proofs.SourceRows.{each_source}
use Rattle.account_text.proofs.sources.of_leaves.Goals as goal

pub loop-leaf-preserved : goal.loop-leaf-preserved
loop-leaf-preserved c =
    let l = c.loop-leaf in
    let cluster = c.args.cluster.now in
    let made : IsSourceOf cluster c.args.moment l.leaf c.in_ok-of_leaf.of_leaf = search rules in
    let more : c.push_reserved.new.self.items ≡ l.leaves.items ++ c.in_ok-of_leaf.of_leaf ∷ [] = search rules in
    record {
      size = search rules;
      room = search rules;
      each = each_source cluster c.args.moment l.leaves.items c.push_reserved.new.self.items c.in_ok-of_leaf.of_leaf l.leaf l.invariant.size more l.invariant.each made;
    }
