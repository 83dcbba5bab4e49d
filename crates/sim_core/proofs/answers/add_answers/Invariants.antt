use Rattle.std.proofs.Common.{◌≡◌, ◌++◌, take}
use Rattle.std.specs.List.{flat_map}
use Rattle.input_reading.specs.declared.run.text.RunTextLine.{RunTextLine}
use Rattle.sim_core.specs.LawfulRuns.{answer_in}
use Rattle.sim_core.proofs.answers.add_answers.Given as goal

abbrev pub invariant-loop-line : goal.invariant-loop-line
invariant-loop-line l = l.answers.items ≡ l.fn.answers.items ++ flat_map (λ (x : RunTextLine). answer_in x.what) (take l.line-index l.lines)
