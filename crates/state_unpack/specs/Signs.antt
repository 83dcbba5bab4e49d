-- What is kept of each node: the last that the events show of it (rule of this project).
use Rattle.std.specs.Prelude.{◌≡◌, ℕ, ◌<◌, Option, Some, List, length, slice_get}
use Rattle.std.specs.Option.{option_map}
use Rattle.cluster_types.specs.declared.journal.Event.{Event}
use Rattle.cluster_types.specs.Journals.{NodeSign, joined, went_down, was_lost, was_fenced, last_sign}
use Rattle.state_unpack.specs.declared.signs.Sign.{Sign}
use Rattle.state_unpack.specs.declared.signs.Sign.TheVariants as sign

abbrev pub as_sign : Sign → NodeSign
as_sign sign.Joined = joined
as_sign sign.WentDown = went_down
as_sign sign.WasLost = was_lost
as_sign sign.WasFenced = was_fenced

-- the list has for each of so many nodes the last that the events show of it
pub record ShowsSigns (nodes : ℕ) (es : List Event) (signs : List (Option Sign)) : Type 0 where
  pub len : length signs ≡ nodes
  pub last : (n : ℕ) → n < nodes → option_map (option_map as_sign) (slice_get signs n) ≡ Some (last_sign n es)
