-- What is read of the last that is shown of a node (rule of this project).
use Rattle.std.specs.Prelude.{ℕ, ◌==◌, Bool, if◌then◌else◌, Option, Some, None}
use Rattle.cluster_types.specs.declared.states.NodeState.{NodeState}
use Rattle.cluster_types.specs.declared.states.NodeState.TheVariants.{Online, Offline, Unclean}
use Rattle.cluster_types.specs.Journals.{NodeSign}
use Rattle.state_unpack.specs.declared.signs.Sign.{Sign}
use Rattle.state_unpack.specs.declared.signs.Sign.TheVariants as sign
use Rattle.state_unpack.specs.Signs.{as_sign}

-- what is shown of this node, of a node of which something is shown
abbrev pub shown_of : ℕ → Option (ℕ × Sign) → Option NodeSign
shown_of n None = None
shown_of n (Some (node, sign)) = if node == n then Some (as_sign sign) else None

-- the state of a node by the last that is shown of it, where a failure wants it fenced or doesn't
abbrev pub state_by_sign : Bool → Bool → Option Sign → NodeState
state_by_sign fencing to_blame None = Offline
state_by_sign fencing to_blame (Some sign.Joined) = if to_blame then Unclean else Online
state_by_sign fencing to_blame (Some sign.WentDown) = Offline
state_by_sign fencing to_blame (Some sign.WasLost) = if fencing then Unclean else Offline
state_by_sign fencing to_blame (Some sign.WasFenced) = Offline

-- the first of two, if there is one
abbrev pub or_else : Option NodeSign → Option NodeSign → Option NodeSign
or_else None before = before
or_else (Some sign) before = Some sign
