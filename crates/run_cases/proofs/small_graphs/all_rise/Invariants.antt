use Rattle.std.proofs.Common.{◌≡◌, drop}
use Rattle.std.specs.List.{list_all}
use Rattle.run_cases.specs.RisingEdges.{rises}
use Rattle.run_cases.proofs.small_graphs.all_rise.Given as goal

abbrev pub invariant-loop-edge : goal.invariant-loop-edge
invariant-loop-edge l = list_all (rises l.count) l.edges ≡ list_all (rises l.count) (drop l.edge-index l.edges)
