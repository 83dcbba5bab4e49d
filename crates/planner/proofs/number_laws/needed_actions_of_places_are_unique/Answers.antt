use Rattle.planner.proofs.OwnPlaces.{own_place}
use Rattle.planner.proofs.number_laws.needed_actions_of_places_are_unique.Goals as goal

pub returns : goal.returns
returns c = λ cl es ps placed actions x y valid is needed h k e.
    own_place cl es ps placed actions valid is needed x y ((needed x).0 h) ((needed y).0 k) e
