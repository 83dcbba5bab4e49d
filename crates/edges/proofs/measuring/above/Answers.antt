use Rattle.std.proofs.Common.{slice_index_or}
use Rattle.std.proofs.lemmas.List.Elements.{Contains-get_or}
use Rattle.edges.proofs.measuring.above.Goals as goal

pub bounds-ways-place : goal.bounds-ways-place
bounds-ways-place c =
    c.requires.within (slice_index_or c.args.places.now c.loop-place.place-index 0)
    (Contains-get_or c.args.places.now c.loop-place.place-index 0 c.loop-place-test.true)
