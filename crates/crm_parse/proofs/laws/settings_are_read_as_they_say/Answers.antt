use Rattle.crm_parse.proofs.Grammar.SettingsRelated.{settings-are_read, settings-are_said}
use Rattle.crm_parse.proofs.laws.settings_are_read_as_they_say.Goals as goal

pub returns : goal.returns
returns c = λ what before words form. (settings-are_said what before words form, settings-are_read what before words form)
