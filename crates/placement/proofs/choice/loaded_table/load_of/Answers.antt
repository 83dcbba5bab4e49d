use Rattle.std.proofs.Common.{◌≡◌, true, false, sym, ◌∙◌, arith}
use Rattle.lemmas.proofs.Ranges.{count-no, count-yes}
use Rattle.cluster_types.specs.Tables.{is_somewhere, targets_of}
use Rattle.placement.proofs.choice.loaded_table.load_of.Goals as goal

pub loop-leaf-preserved-then-not-holds_role : goal.loop-leaf-preserved-then-not-holds_role
loop-leaf-preserved-then-not-holds_role c =
    let l = c.loop-leaf in
    let at : c.holds_role.result ≡ false = let t = c.if-not-holds_role.true in cc in
    record {
      counted = count-no (λ r. is_somewhere (targets_of c.args.table.now r c.args.node)) l.leaf l.load l.invariant.counted (sym c.holds_role.ensures ∙ at);
      few = let f = l.invariant.few in omega arith;
    }

pub loop-leaf-preserved : goal.loop-leaf-preserved
loop-leaf-preserved c =
    let l = c.loop-leaf in
    let at : c.holds_role.result ≡ true = let t = c.if-not-holds_role.false in cc in
    record {
      counted = count-yes (λ r. is_somewhere (targets_of c.args.table.now r c.args.node)) l.leaf l.load l.invariant.counted (sym c.holds_role.ensures ∙ at);
      few = let f = l.invariant.few in omega arith;
    }
