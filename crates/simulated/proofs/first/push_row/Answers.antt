use Rattle.std.proofs.Common.{rules, ◌≡◌, ◌<◌, ◌+◌, ◌*◌, ◌++◌, ◌∷◌, [], is_some, Some, length, length-append, slice_get, sym, ap, subst, arith}
use Rattle.cluster_types.specs.CellStates.{last_outcome}
use Rattle.simulated.specs.RealWorlds.{first_real}
use Rattle.simulated.specs.Inner.Firsts.{IsFilled}
use Rattle.simulated.proofs.Firsts.{filled-push}
use Rattle.simulated.proofs.first.push_row.Goals as goal

pub loop-node-preserved : goal.loop-node-preserved
loop-node-preserved c =
    let l = c.loop-node in
    let of = c.args.known.now.cluster in
    let leaf = c.args.leaf in
    let x = c.real_of.result in
    let count : c.len-nodes.result ≡ length of.nodes = rw c.cluster.ensures at c.len-nodes.ensures in
    let has_node : l.node < length of.nodes = omega (arith, count, c.loop-node-test.true) in
    let items : c.push.new.self.items ≡ l.cells.items ++ x ∷ [] = search rules in
    record {
      len = let e = ap length items in let m = length-append l.cells.items (x ∷ []) in let i = l.invariant.len in omega arith;
      filled = λ es k h f.
          let place : slice_get c.args.heard.now (leaf * length of.nodes + l.node) ≡ Some c.heard_at.result =
          rw (c.cell_place-place.ensures, count) at c.heard_at.ensures in
          let told = h.each leaf l.node c.requires.leaf has_node in
          let heard : c.heard_at.result ≡ is_some (last_outcome of leaf l.node es) = cc in
          subst (λ xs. IsFilled of xs (first_real of es)) (sym items)
          (filled-push of l.cells.items (first_real of es) leaf l.node x l.invariant.len has_node (c.real_of.ensures es k heard) (l.invariant.filled es k h f));
    }
