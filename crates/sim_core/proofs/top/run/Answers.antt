use Rattle.sim_core.proofs.Completeness.{complete}
use Rattle.sim_core.proofs.Promised.{promise_kept}
use Rattle.sim_core.proofs.top.run.Goals as goal

pub returns-in-Some-clause-complete : goal.returns-in-Some-clause-complete
returns-in-Some-clause-complete g c =
    let run = c.carry_out in
    rw (← c.command_of.ensures, c.in-Some.is)
    (complete c.in-Some.word (g.S.Source.left c.args.src.now) (g.S.Source.left run.new.src) (g.W.Sink.written c.args.out.now) (g.W.Sink.written run.new.out)
    run.result _ _ _ _ run.ensures.answers run.ensures.reads.cause run.ensures.writes.cause)

pub returns-in-Some-clause-promise : goal.returns-in-Some-clause-promise
returns-in-Some-clause-promise g c =
    let run = c.carry_out in
    rw (← c.command_of.ensures, c.in-Some.is)
    (promise_kept c.in-Some.word (g.S.Source.left c.args.src.now) (g.S.Source.left run.new.src) (g.W.Sink.written c.args.out.now) (g.W.Sink.written run.new.out) run.result run.ensures.answers)
