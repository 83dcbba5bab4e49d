-- What a leaf says of its operations.
use Rattle.std.specs.Prelude.{ℕ}
use Rattle.cluster_types.specs.declared.leaf.Leaf.{Leaf}
use Rattle.cluster_types.specs.declared.leaf.OnFail.{OnFail}
use Rattle.cluster_types.specs.declared.leaf.Op.{Op}
use Rattle.cluster_types.specs.declared.leaf.Op.TheVariants.{Start, Stop, Promote, Demote, Monitor}
use Rattle.cluster_types.specs.Outcomes.{on_fail_of_monitor}

-- what the failure of an operation of the leaf leads to
abbrev pub on_fail_of_leaf : Leaf → Op → ℕ → OnFail
on_fail_of_leaf leaf Start interval = leaf.start_fail
on_fail_of_leaf leaf Stop interval = leaf.stop_fail
on_fail_of_leaf leaf Promote interval = leaf.promote_fail
on_fail_of_leaf leaf Demote interval = leaf.demote_fail
on_fail_of_leaf leaf Monitor interval = on_fail_of_monitor leaf.monitors interval
