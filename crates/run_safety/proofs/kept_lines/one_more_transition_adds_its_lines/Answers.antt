use Rattle.std.proofs.Common.{refl}
use Rattle.std.specs.Prelude.{◌+◌, length}
use Rattle.run_safety.proofs.Kept.{one_passed_more}
use Rattle.run_safety.proofs.kept_lines.one_more_transition_adds_its_lines.Goals as goal

pub returns : goal.returns
returns c = λ cl es ys passed p within begins ends. one_passed_more es ys cl p begins ends 1 (1 + length passed) passed refl within
