-- `node [ID:] NAME [attributes KEY=VALUE..] [utilization KEY=VALUE..]` (crmsh manual, node).
use Rattle.std.specs.Prelude.{Result, Ok}
use Rattle.crm_parse.specs.declared.fault.ParseCause.{ParseCause}
use Rattle.crm_parse.specs.declared.form.Form.{Form}
use Rattle.crm_parse.specs.declared.form.Form.TheVariants as form
use Rattle.crm_parse.specs.declared.owner.Owner.TheVariants as owner
use Rattle.crm_parse.specs.Reading.{Words, given_at, name_at}
use Rattle.faults.specs.Reading.{◌>>=◌}
use Rattle.crm_parse.specs.Sections.{sections_at}

unfoldable pub node_statement_at : Words → Result Form ParseCause
node_statement_at words = do
  id ← given_at words
  name ← name_at id.1
  sections ← sections_at owner.Node name.1
  Ok (form.Node id.0 name.0 sections.attributes sections.utilization)
