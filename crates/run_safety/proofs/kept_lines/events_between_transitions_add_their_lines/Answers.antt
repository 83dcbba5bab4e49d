use Rattle.run_safety.proofs.Kept.{between_passed}
use Rattle.run_safety.proofs.kept_lines.events_between_transitions_add_their_lines.Goals as goal

pub returns : goal.returns
returns c = λ cl es ys passed p within. between_passed es ys cl 1 p passed within
