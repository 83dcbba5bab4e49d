use Rattle.std.proofs.Common.{◌<◌, ◌+◌, ◌^◌}
use Rattle.cluster_types.specs.Journals.{moment_of, seconds_of}
use Rattle.graph_exec.proofs.Logged.{reflects-more, parts}
use Rattle.graph_exec.proofs.transition.log.Log.add.Goals as goal

pub invariant_of-self : goal.invariant_of-self
invariant_of-self c =
    let r = c.self.invariant in
    let fits : 0 < seconds_of c.args.event → moment_of c.self.inside.events.items + seconds_of c.args.event < 2 ^ 64
    = rw (parts _ _ _ _ _ _ r) at (rw (← c.self.view_is) at c.requires.moment) in
    rw c.push_reserved.ensures.items (reflects-more _ _ _ _ _ _ r c.args.event c.tell.new.self (c.tell.ensures.known _ _ r.knows) fits _ c.outside_after-self-inside.ensures
    _ c.abort_after-self-inside.ensures)
