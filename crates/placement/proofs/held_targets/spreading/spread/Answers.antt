use Rattle.std.proofs.Common.{ℕ, ◌∙◌, subst}
use Rattle.cluster_types.specs.Tables.{targets_of}
use Rattle.placement.specs.Inner.Taking.{TakenAway}
use Rattle.placement.proofs.TakenSteps.{taken_on}
use Rattle.placement.proofs.held_targets.spreading.spread.Goals as goal

pub loop-looked-preserved : goal.loop-looked-preserved
loop-looked-preserved c =
    let first = c.args.table in
    let now = c.loop-looked.left in
    let new = c.in_ok-left-2.left in
    let on = c.in_ok-left-2.ensures in
    let inv = c.loop-looked.invariant in
    let rules = c.args.rules.now in
    record {
      nodes = on.nodes ∙ inv.nodes;
      size = on.size ∙ inv.size;
      taken = taken_on rules first.nodes (targets_of first) (targets_of now) (targets_of new) inv.taken
          (subst (λ (n : ℕ). TakenAway rules n (targets_of now) (targets_of new)) inv.nodes (on.taken rules (λ rule among. c.rules_of.ensures rule among)));
    }
