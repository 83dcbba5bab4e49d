-- A flag for each decision that there may be: two for each leaf, in their order.
use Rattle.std.specs.Prelude.{◌≡◌, ℕ, ◌+◌, ◌*◌, ◌<◌, Bool, false, Some, List, length, slice_get, unwrap_or}
use Rattle.cluster_types.specs.declared.placement.Decision.{Decision}
use Rattle.cluster_types.specs.declared.placement.Decision.TheVariants.{Place, Promote}
use Rattle.cluster_types.specs.Decisions.{leaf_of}

abbrev pub slot_of : Decision → ℕ
slot_of (Place r) = r * 2 + 0
slot_of (Promote r) = r * 2 + 1

abbrev pub flag_at : List Bool → Decision → Bool
flag_at flags d = unwrap_or (slice_get flags (slot_of d)) false

-- the flags of the decisions of so many leaves, where the test passes
pub record AreFlags (leaves : ℕ) (passes : Decision → Bool) (flags : List Bool) : Type 0 where
  pub size : length flags ≡ leaves * 2
  pub each : (d : Decision) → leaf_of d < leaves → slice_get flags (slot_of d) ≡ Some (passes d)
