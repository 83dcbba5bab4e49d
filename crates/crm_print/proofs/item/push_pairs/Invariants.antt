use Rattle.std.proofs.Common.{◌≡◌, ◌++◌, take, map}
use Rattle.std.specs.List.{flat_map}
use Rattle.crm_print.specs.Quoting.{spaced}
use Rattle.crm_print.specs.Items.{pair}
use Rattle.crm_print.proofs.item.push_pairs.Given as goal

abbrev pub invariant-loop-kv : goal.invariant-loop-kv
invariant-loop-kv l = l.text.items ≡ l.fn.text.items ++ flat_map spaced (map pair (take l.kv-index l.pairs))
