-- What holds of each statement that was read.
use Rattle.crm_parse.specs.declared.form.Form.{Form}
use Rattle.crm_parse.specs.Inner.Monitors.{KeepsMonitors}
use Rattle.crm_parse.specs.Inner.StatementNames.{HasNames}

-- its names are names, and its monitors may stand beside each other
pub record IsRead (f : Form) : Type 0 where
  pub names : HasNames f
  pub monitors : KeepsMonitors f
