use Rattle.std.proofs.Common.{◌==◌, ◌&&◌, ◌++◌, nat_lt, if◌then◌else◌, length, sym, ap, ◌∙◌}
use Rattle.std.proofs.lemmas.List.{append-nil}
use Rattle.cluster_types.specs.Choice.{after_decision, is_chosen, target_by}
use Rattle.cluster_types.specs.Decisions.{leaf_of}
use Rattle.cluster_types.specs.Tables.{targets_of}
use Rattle.score.specs.NodeSet.{has}
use Rattle.plan_laws.proofs.TablesWithin.{whole}
use Rattle.decision_account.specs.Accounts.{decision_lines, why_text}
use Rattle.placement.proofs.CellsAfter.{cells-alike}
use Rattle.account_text.proofs.account.push_made.Goals as goal

pub returns-clause-text : goal.returns-clause-text
returns-clause-text c = λ es ps tell.
    let cluster = c.args.read.now.known.cluster.now in
    let nodes = length cluster.nodes in
    let d = c.args.decision in
    let table = targets_of c.args.loaded.table in
    let chosen = c.in_ok-chosen.ensures es ps tell in
    let set = c.in_ok-chosen.chosen.nodes in
    record {
      left = whole _ (after_decision cluster es ps table d) (λ r n.
          c.with_targets.ensures.targets r n
          ∙ (ap (λ l. if r == l && nat_lt n nodes && has set n then c.target_by-target.result else table r n) c.leaf.ensures
          ∙ (ap (λ t. if r == leaf_of d && nat_lt n nodes && has set n then t else table r n) c.target_by-target.ensures
          ∙ cells-alike nodes n (has set n) (is_chosen cluster es ps table d n) (target_by d) (table r n) (r == leaf_of d) (chosen.chosen n))));
      added = c.in_ok-push_account.ensures es ps tell
          ∙ ap (λ ls. c.args.text.now.items ++ why_text cluster ls) (sym (append-nil (decision_lines cluster es ps table d)));
    }
