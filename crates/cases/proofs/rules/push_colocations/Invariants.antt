use Rattle.std.proofs.Common.{◌≡◌, ◌+◌, ◌++◌}
use Rattle.std.specs.String.{string_bytes}
use Rattle.cases.specs.Case.{colocation_line, lines}
use Rattle.cases.proofs.rules.push_colocations.Given as goal

abbrev pub invariant-loop-number : goal.invariant-loop-number
invariant-loop-number l = record {
  so_far : string_bytes l.text ≡ string_bytes l.fn.text ++ lines (colocation_line l.fn.draws.number) 1 l.number;
  number : l.draws.number ≡ l.fn.draws.number;
  drawn : l.draws.drawn ≡ l.number + 1000;
}
