use Rattle.std.proofs.Common.{rules, eqb}
use Rattle.std.proofs.lemmas.List.Filters.{dedup_is}
use Rattle.planner.specs.Inner.Index.{places_in}
use Rattle.planner.proofs.Ascending.{are_ascending}
use Rattle.planner.proofs.precedence.serials.ascending.Goals as goal

pub returns : goal.returns
returns c =
    are_ascending (places_in c.args.index.now c.args.one c.args.other) c.sort.new.self.items c.dedup.new.self.items (search rules) c.in_ok-sort.ensures.sorted
    (dedup_is eqb c.sort.new.self.items c.dedup.new.self.items c.dedup.ensures.filtered) (search rules)
