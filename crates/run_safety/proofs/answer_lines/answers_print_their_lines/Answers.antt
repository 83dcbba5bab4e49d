use Rattle.run_safety.proofs.Printed.{answer_line}
use Rattle.run_safety.proofs.answer_lines.answers_print_their_lines.Goals as goal

pub returns : goal.returns
returns c = λ t since given h. answer_line t since given h
