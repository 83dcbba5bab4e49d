-- How many rules statements have (their limit is a rule of this project).
use Rattle.std.specs.Prelude.{ℕ, ◌+◌, ◌-◌, length}
use Rattle.crm_parse.specs.declared.form.Form.{Form}
use Rattle.crm_parse.specs.declared.form.Form.TheVariants as form

abbrev pub location_count : Form → ℕ
location_count (form.Location id resource role discovery score node) = 1
location_count (form.RuledLocation id resource role discovery rules) = length rules
location_count _ = 0

-- a group has one for each member after the first
abbrev pub colocation_count : Form → ℕ
colocation_count (form.Colocation id score dependent primary) = 1
colocation_count (form.Group id members description params meta) = length members - 1
colocation_count _ = 0

-- an order has one for each resource after the first, and a group one for each member after the first
abbrev pub order_count : Form → ℕ
order_count (form.Order id kind steps symmetrical) = length steps - 1
order_count (form.Group id members description params meta) = length members - 1
order_count _ = 0

abbrev pub rule_count : Form → ℕ
rule_count form = location_count form + colocation_count form + order_count form
