use Rattle.edges.proofs.Heights.{rise_somehow}
use Rattle.edges.proofs.Paths.{none_where_rising}
use Rattle.edges.proofs.laws.edges_without_a_loop_rise.Goals as goal

pub returns : goal.returns
returns c = λ positions edges ends. (rise_somehow positions edges ends, λ r. none_where_rising edges r.height r.rises)
