use Rattle.std.proofs.Common.{rules, ◌≡◌, true}
use Rattle.lemmas.proofs.Results.{on_both}
use Rattle.cluster_types.specs.Choice.{is_separation}
use Rattle.planner.proofs.RuleBuilds.{colocation_more}
use Rattle.planner.proofs.precedence.colocations.add_colocation.Goals as goal

pub returns-clause-builds : goal.returns-clause-builds
returns-clause-builds c = λ js b.
    let separate : is_separation c.args.colocation.now ≡ true = search rules in
    on_both c.add_rule-2.result
    (λ g h. colocation_more c.args.known.now.cluster.now c.args.known.now.actions.now c.args.known.now.index.now c.args.colocation.now c.args.known.now.indexed c.requires.dependent c.requires.primary separate
    js _ c.add_rule.new.building.list.items c.add_rule-2.new.building.list.items _ c.add_rule.new.building.base c.add_rule-2.new.building.base b
    c.in_ok-add_rule.ensures.edges c.in_ok-add_rule.ensures.gates g h)
    c.add_rule-2.ensures.edges c.add_rule-2.ensures.gates
