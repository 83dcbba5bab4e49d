-- The recurring monitors of a statement of any form.
use Rattle.crm_parse.specs.declared.form.Form.{Form}
use Rattle.crm_parse.specs.declared.form.Form.TheVariants as form
use Rattle.crm_parse.specs.Monitors.{recurring, MayStandTogether}

-- the recurring monitors of a statement may stand beside each other
abbrev pub KeepsMonitors : Form → Type 0
KeepsMonitors (form.Primitive id agent description params meta utilization operations ops) = MayStandTogether (recurring ops)
KeepsMonitors _ = Unit {0}
