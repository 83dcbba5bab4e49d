use Rattle.crm_parse.proofs.Grammar.LocationRelated.{location-is_read, location-is_said}
use Rattle.crm_parse.proofs.laws.locations_are_read_as_they_say.Goals as goal

pub returns : goal.returns
returns c = λ words form. (location-is_said words form, location-is_read words form)
