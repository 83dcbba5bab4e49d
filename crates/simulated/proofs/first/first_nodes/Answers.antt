use Rattle.std.proofs.Common.{rules, ◌≡◌, ℕ, ◌+◌, ◌++◌, ◌∷◌, [], length, length-append, sym, ap, subst, arith}
use Rattle.cluster_types.specs.Journals.{last_sign}
use Rattle.simulated.specs.KeptReality.{ListsNodes}
use Rattle.simulated.specs.RealWorlds.{standing_by}
use Rattle.simulated.proofs.Firsts.{nodes-push}
use Rattle.simulated.proofs.first.first_nodes.Goals as goal

pub loop-node-preserved : goal.loop-node-preserved
loop-node-preserved c =
    let l = c.loop-node in
    let of = c.args.known.now.cluster in
    let x = c.standing_of.result in
    let items : c.push.new.self.items ≡ l.nodes.items ++ x ∷ [] = search rules in
    record {
      len = let e = ap length items in let m = length-append l.nodes.items (x ∷ []) in let i = l.invariant.len in omega arith;
      held = λ es k.
          subst (λ xs. ListsNodes (l.node + 1) xs (λ (n : ℕ). standing_by of (last_sign n es))) (sym items)
          (nodes-push l.nodes.items (λ (n : ℕ). standing_by of (last_sign n es)) l.node x l.invariant.len (c.standing_of.ensures es k) (l.invariant.held es k));
    }
