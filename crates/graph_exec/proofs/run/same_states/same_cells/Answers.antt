use Rattle.std.proofs.Common.{rules}
use Rattle.std.proofs.lemmas.Slice.Eq.{slice_eq-Decides}
use Rattle.graph_exec.proofs.run.same_states.same_cells.Goals as goal

pub returns : goal.returns
returns c = λ h. (slice_eq-Decides (λ a b. search rules) _ _ _ c.eq.ensures).0 h
