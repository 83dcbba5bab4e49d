use Rattle.std.proofs.Common.{◌≡◌, ◌==◌, ◌∙◌, false, nat_lt, ap, ℕ}
use Rattle.std.proofs.lemmas.Bool.{ne_eqb}
use Rattle.graph_exec.proofs.Beginning.{counted_flight}
use Rattle.graph_exec.proofs.transition.course.Course.has_room.Goals as goal

pub returns-else-limit-eq0 : goal.returns-else-limit-eq0
returns-else-limit-eq0 c =
    let limit = c.self.inside.log.cluster.properties.batch_limit in
    let known = c.cluster.ensures in
    let bounded : (limit == 0) ≡ false = ne_eqb limit 0 (rw known at c.if-limit-eq0.false) in
    rw (← c.self.view_is) (rw (bounded, known) (ap (λ (m : ℕ). nat_lt m limit) (c.count.ensures ∙ counted_flight _ _ c.self.invariant)))
