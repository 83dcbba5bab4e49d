use Rattle.std.proofs.Common.{ℕ, length, sym, subst}
use Rattle.cluster_types.specs.Journals.{last_sign}
use Rattle.state_unpack.specs.KeptKnowledge.{Knows}
use Rattle.simulated.specs.KeptReality.{ListsCells, ListsNodes}
use Rattle.simulated.specs.RealWorlds.{first_real, standing_by}
use Rattle.simulated.specs.Inner.Firsts.{HearsOutcomes}
use Rattle.simulated.proofs.Firsts.{first_shows}
use Rattle.simulated.proofs.first.first_reality.Goals as goal

pub returns-clause-shows : goal.returns-clause-shows
returns-clause-shows c =
    let of = c.args.cluster.now in
    let es = c.args.events.now in
    let known = c.in_ok-known.known in
    let knows = c.in_ok-known.ensures in
    let own : Knows known.cluster es known = subst (λ d. Knows d es known) (sym knows.same) knows in
    let hears : HearsOutcomes known.cluster es c.as_slice.result.now =
    rw c.as_slice.ensures.value (subst (λ d. HearsOutcomes d es c.in_ok-heard.heard.items) (sym knows.same) c.in_ok-heard.ensures) in
    let nodes = subst (λ d. ListsNodes (length d.nodes) c.in_ok-nodes.nodes.items (λ (n : ℕ). standing_by d (last_sign n es))) knows.same (c.in_ok-nodes.ensures.held es own) in
    let cells = subst (λ d. ListsCells d c.in_ok-cells.cells.items (first_real d es)) knows.same (c.in_ok-cells.ensures.held es own hears) in
    rw c.new-2.ensures (first_shows of es c.in_ok-nodes.nodes.items c.in_ok-cells.cells.items c.args.number nodes cells)
