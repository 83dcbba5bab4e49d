use Rattle.std.proofs.Common.{ℕ, sym, ◌∙◌, subst}
use Rattle.cluster_types.specs.declared.placement.Table.{Table}
use Rattle.cluster_types.specs.Tables.{targets_of}
use Rattle.placement.specs.Inner.Taking.{IsRuleSettled, TakenAway}
use Rattle.placement.proofs.TakenSteps.{taken_on}
use Rattle.placement.proofs.held_targets.passes.settled.Goals as goal

pub loop-left-preserved : goal.loop-left-preserved
loop-left-preserved c =
    let first = c.args.table in
    let now = c.loop-left.left.table in
    let on = c.pass-left-in-loop-left in
    let inv = c.loop-left.invariant in
    let rules = c.args.rules.now in
    record {
      nodes = on.ensures.nodes ∙ inv.nodes;
      size = on.ensures.size ∙ inv.size;
      taken = taken_on rules first.nodes (targets_of first) (targets_of now) (targets_of on.result.table) inv.taken
          (subst (λ (n : ℕ). TakenAway rules n (targets_of now) (targets_of on.result.table)) inv.nodes on.ensures.taken);
      settled = λ e rule among.
          subst (λ (n : ℕ). IsRuleSettled n (targets_of on.result.table) rule) inv.nodes
          (subst (λ (t : Table). IsRuleSettled now.nodes (targets_of t) rule) (sym (on.ensures.same e)) (on.ensures.settled e rule among));
    }
