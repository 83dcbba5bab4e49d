use Rattle.std.proofs.Common.{◌≡◌, ◌++◌, take}
use Rattle.std.specs.List.{flat_map}
use Rattle.crm_print.specs.Quoting.{spaced}
use Rattle.crm_print.specs.Items.{operation_items}
use Rattle.crm_print.proofs.item.push_operations.Given as goal

abbrev pub invariant-loop-op : goal.invariant-loop-op
invariant-loop-op l = l.text.items ≡ l.fn.text.items ++ flat_map spaced (flat_map operation_items (take l.op-index l.ops))
