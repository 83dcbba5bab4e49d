use Rattle.cluster_types.proofs.Loads.{load_grows, loads_stay, other_loads_stay}
use Rattle.cluster_types.proofs.laws.loads_after_a_cell.Goals as goal

pub returns-clause-first : goal.returns-clause-first
returns-clause-first c = load_grows

pub returns-clause-role : goal.returns-clause-role
returns-clause-role c = loads_stay

pub returns-clause-elsewhere : goal.returns-clause-elsewhere
returns-clause-elsewhere c = other_loads_stay
