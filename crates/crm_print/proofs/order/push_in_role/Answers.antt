use Rattle.std.proofs.Common.{◌≡◌, ◌++◌, OnOk, sym, subst}
use Rattle.crm_print.specs.Quoting.{spaced}
use Rattle.crm_print.specs.Items.{in_role}
use Rattle.crm_print.proofs.order.push_in_role.Goals as goal

pub returns-in-Promoted : goal.returns-in-Promoted
returns-in-Promoted c =
    subst (λ role. OnOk c.push_parted.result (c.push_parted.new.text.items ≡ c.args.text.now.items ++ spaced (in_role c.args.resource.now role)))
    (sym c.in-Promoted.is) c.push_parted.ensures
