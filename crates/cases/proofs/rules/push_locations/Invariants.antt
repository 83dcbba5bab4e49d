use Rattle.std.proofs.Common.{◌≡◌, ◌+◌, ◌*◌, ◌++◌}
use Rattle.std.specs.String.{string_bytes}
use Rattle.cases.specs.Case.{location_line, lines}
use Rattle.cases.proofs.rules.push_locations.Given as goal

abbrev pub invariant-loop-number : goal.invariant-loop-number
invariant-loop-number l = record {
  so_far : string_bytes l.text ≡ string_bytes l.fn.text ++ lines (location_line l.fn.draws.number) 101 l.number;
  number : l.draws.number ≡ l.fn.draws.number;
  drawn : l.draws.drawn ≡ 2 * l.number + 199;
}
