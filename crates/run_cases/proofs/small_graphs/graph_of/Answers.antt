use Rattle.std.proofs.Common.{arith, ◌≡◌, ◌∙◌, length, sym}
use Rattle.run_cases.proofs.RisingGraphs.{rising_is_graph}
use Rattle.run_cases.proofs.small_graphs.graph_of.Goals as goal

pub new-requires : goal.new-requires
new-requires g c =
    rw c.from.ensures (rising_is_graph _ _ _ (omega arith) (rw c.as_slice.ensures.value at (sym c.all_rise.ensures ∙ c.if-not-all_rise.false)))
