use Rattle.std.proofs.Common.{◌≡◌, ◌==◌, ◌&&◌, ℤ, List, true, nat_lt, if◌then◌else◌, length, sym, ap, subst, ◌∙◌, arith}
use Rattle.cluster_types.specs.declared.placement.Decided.{Decided}
use Rattle.cluster_types.specs.Choice.{after_decision, is_chosen, target_by}
use Rattle.cluster_types.specs.Decisions.{leaf_of}
use Rattle.cluster_types.specs.Tables.{is_somewhere, targets_of}
use Rattle.score.specs.NodeSet.{has}
use Rattle.plan_laws.proofs.TablesWithin.{whole}
use Rattle.placement.proofs.CellsAfter.{cells-alike, gives}
use Rattle.placement.proofs.choice.deciding.decide.Goals as goal

pub with_targets-loaded-requires-clause-leaf : goal.with_targets-loaded-requires-clause-leaf
with_targets-loaded-requires-clause-leaf c = omega (arith, c.leaf.ensures, c.requires.leaf)

pub with_targets-loaded-requires-clause-target : goal.with_targets-loaded-requires-clause-target
with_targets-loaded-requires-clause-target c = subst (λ t. is_somewhere t ≡ true) (sym c.target_by-target.ensures) (gives c.args.decision)

pub returns-clause-made : goal.returns-clause-made
returns-clause-made c = λ es ps tell.
    let cluster = c.args.known.now.cluster.now in
    let nodes = length cluster.nodes in
    let d = c.args.decision in
    let table = targets_of c.args.loaded.table in
    let chosen = c.in_ok-chosen.ensures es ps tell in
    let set = c.in_ok-chosen.chosen.nodes in
    record {
      cells = whole _ (after_decision cluster es ps table d) (λ r n.
          c.with_targets-loaded.ensures.targets r n
          ∙ (ap (λ l. if r == l && nat_lt n nodes && has set n then c.target_by-target.result else table r n) c.leaf.ensures
          ∙ (ap (λ t. if r == leaf_of d && nat_lt n nodes && has set n then t else table r n) c.target_by-target.ensures
          ∙ cells-alike nodes n (has set n) (is_chosen cluster es ps table d n) (target_by d) (table r n) (r == leaf_of d) (chosen.chosen n))));
      totals = let whole_of : List ℤ → Decided = λ ts. record { decision = d; totals = ts } in ap whole_of (c.from.ensures ∙ chosen.each);
    }
