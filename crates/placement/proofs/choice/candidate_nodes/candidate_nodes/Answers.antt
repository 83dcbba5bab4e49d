use Rattle.std.proofs.Common.{◌&&◌, sym, ap, ◌∙◌, arith}
use Rattle.lemmas.proofs.Booleans.{sooner}
use Rattle.cluster_types.specs.Choice.{has_primaries, is_apart}
use Rattle.cluster_types.specs.Tables.{targets_of}
use Rattle.score.specs.Choice.{has_enough}
use Rattle.score.specs.NodeSet.{has}
use Rattle.placement.proofs.Within.{open-within}
use Rattle.placement.proofs.choice.candidate_nodes.candidate_nodes.Goals as goal

pub allowed_nodes-allowed-requires-clause-there : goal.allowed_nodes-allowed-requires-clause-there
allowed_nodes-allowed-requires-clause-there c = λ n h.
    let known = c.args.known.now in
    open-within known.cluster.now known.states.now known.rights (targets_of c.args.table.now) c.args.decision n (sym (c.open_nodes-open.ensures n) ∙ h)

pub candidates-requires : goal.candidates-requires
candidates-requires c = λ n h.
    let known = c.args.known.now in
    let opened = sooner (has c.open_nodes-open.result n) _ (sym (c.allowed_nodes-allowed.ensures n) ∙ h) in
    let low = open-within known.cluster.now known.states.now known.rights (targets_of c.args.table.now) c.args.decision n (sym (c.open_nodes-open.ensures n) ∙ opened) in
    omega (arith, low, c.requires)

pub returns-clause-passed : goal.returns-clause-passed
returns-clause-passed c = λ n.
    let cluster = c.args.known.now.cluster.now in
    let table = targets_of c.args.table.now in
    let d = c.args.decision in
    c.candidates.ensures n
    ∙ ap (λ b. b && has_enough c.args.totals.now n)
    (c.allowed_nodes-allowed.ensures n ∙ ap (λ b. b && (has_primaries cluster table d n && is_apart cluster table d n)) (c.open_nodes-open.ensures n))

pub returns-clause-there : goal.returns-clause-there
returns-clause-there c = λ n h.
    let known = c.args.known.now in
    let allowed = sooner (has c.allowed_nodes-allowed.result n) (has_enough c.args.totals.now n) (sym (c.candidates.ensures n) ∙ h) in
    let opened = sooner (has c.open_nodes-open.result n) _ (sym (c.allowed_nodes-allowed.ensures n) ∙ allowed) in
    open-within known.cluster.now known.states.now known.rights (targets_of c.args.table.now) c.args.decision n (sym (c.open_nodes-open.ensures n) ∙ opened)
