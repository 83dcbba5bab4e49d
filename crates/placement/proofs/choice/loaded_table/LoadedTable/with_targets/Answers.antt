use Rattle.std.proofs.Common.{rules, ◌≡◌, ◌==◌, ◌&&◌, nat_lt, if◌then◌else◌, length, sym, ap, ◌∙◌}
use Rattle.cluster_types.specs.Tables.{targets_of}
use Rattle.score.specs.NodeSet.{has}
use Rattle.placement.proofs.CellsAfter.{cells-more, cells-none}
use Rattle.placement.proofs.choice.loaded_table.LoadedTable.with_targets.Goals as goal

pub loop-node-init : goal.loop-node-init
loop-node-init c = record {
  loaded = c.requires.loaded;
  targets = λ r n. cells-none (has c.args.nodes.now) c.args.target (targets_of c.args.self.table r n) (r == c.args.leaf) n;
}

pub loop-node-preserved : goal.loop-node-preserved
loop-node-preserved c =
    let l = c.loop-node in
    let p = has c.args.nodes.now in
    record {
      loaded = c.with_target_if-loaded.ensures.loaded;
      targets = λ r n.
          let old = targets_of c.args.self.table r n in
          c.with_target_if-loaded.ensures.targets r n
          ∙ (ap (λ t. if c.has-wanted.result && (r == c.args.leaf && n == l.node) then c.args.target else t) (l.invariant.targets r n)
          ∙ cells-more l.node p c.args.target old c.has-wanted.result (sym c.has-wanted.ensures) (r == c.args.leaf) n);
    }

pub returns-clause-targets : goal.returns-clause-targets
returns-clause-targets c = λ r n.
    let l = c.loop-node in
    let done : l.node ≡ length c.args.cluster.now.nodes = search rules in
    l.invariant.targets r n
    ∙ ap (λ k. if r == c.args.leaf && nat_lt n k && has c.args.nodes.now n then c.args.target else targets_of c.args.self.table r n) done
