use Rattle.graph_exec.proofs.Losses.{still_few}
use Rattle.graph_exec.proofs.transition.course.Course.lose.Goals as goal

pub tell-requires-clause-few : goal.tell-requires-clause-few
tell-requires-clause-few c =
    let same = still_few c.args.self.now c.args.node in
    rw (c.end_all_on.ensures, same) c.requires
