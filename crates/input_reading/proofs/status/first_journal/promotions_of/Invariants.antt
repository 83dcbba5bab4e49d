use Rattle.std.proofs.Common.{◌≡◌, ◌++◌, drop}
use Rattle.std.specs.List.{filter_map}
use Rattle.input_reading.specs.FirstJournal.{promotion_in}
use Rattle.input_reading.proofs.status.first_journal.promotions_of.Given as goal

abbrev pub invariant-loop-line : goal.invariant-loop-line
invariant-loop-line l = filter_map promotion_in l.told ≡ l.promotions ++ filter_map promotion_in (drop l.line-index l.told)
