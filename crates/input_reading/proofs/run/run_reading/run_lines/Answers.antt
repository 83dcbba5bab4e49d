use Rattle.std.proofs.Common.{arith, ◌≡◌, drop, [], Ok, sym, subst, ap, ◌∙◌}
use Rattle.std.specs.Prelude.{IfOk}
use Rattle.std.proofs.lemmas.List.{drop_all}
use Rattle.input_reading.specs.RunReading.{read_run_lines, with_run_lines}
use Rattle.input_reading.specs.PrintedLines.{AreNamed}
use Rattle.input_reading.proofs.NamedLines.{read_named}
use Rattle.input_reading.proofs.run.run_reading.run_lines.Goals as goal

pub returns-clause-named : goal.returns-clause-named
returns-clause-named c =
    let l = c.loop-line in
    let full : drop l.line-index c.args.lines.now ≡ [] = drop_all l.line-index c.args.lines.now (omega (arith, c.loop-line-test.false)) in
    let all : read_run_lines c.args.names.now c.args.lines.now ≡ Ok l.read.items = l.invariant ∙ ap (with_run_lines c.args.names.now l.read.items) full in
    subst AreNamed (sym c.from.ensures) (subst (λ r. IfOk r AreNamed) all (read_named c.args.names.now c.args.lines.now))
