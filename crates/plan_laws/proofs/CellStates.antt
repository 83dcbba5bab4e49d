-- What the state of a cell says of its node, of what may run there, and of what is known of it.
use Rattle.std.proofs.Common.{arith, ◌≡◌, ◌<◌, ◌&&◌, not, if◌then◌else◌, ℕ, Bool, true, false, List, length, refl, subst}
use Rattle.std.specs.Prelude.{Some, None, is_none, is_some}
use Rattle.std.specs.List.{list_any, range_with_len}
use Rattle.lemmas.proofs.Ranges.{some_in_range}
use Rattle.cluster_types.specs.declared.cluster.Cluster.{Cluster}
use Rattle.cluster_types.specs.declared.journal.Event.{Event}
use Rattle.cluster_types.specs.declared.placement.Pin.TheVariants.{Unmanaged, Blocked}
use Rattle.cluster_types.specs.declared.states.CellState.{CellState}
use Rattle.cluster_types.specs.declared.states.CellState.TheVariants as cell
use Rattle.cluster_types.specs.CellStates.{cell_state, is_blocked, is_unclear, last_outcome}
use Rattle.cluster_types.specs.Fields.{is_managed}
use Rattle.cluster_types.specs.May.{may_be_running, may_be_promoted}
use Rattle.cluster_types.specs.NodeStates.{is_online}
use Rattle.cluster_types.specs.Pins.{is_blocked_state, is_pinned}

-- the state by what it is made of
abbrev pub state_by : (online unseen blocked left promoted run : Bool) → CellState
state_by online unseen blocked left promoted run =
    if not online then cell.Away
    else (if unseen then cell.Unprobed
    else (if blocked then cell.Blocked
    else (if run && left then cell.Failed
    else (if promoted then cell.Promoted
    else (if run then cell.On
    else cell.Off)))))

-- what each state says
abbrev pub Says : CellState → (online unseen blocked left promoted run : Bool) → Type 0
Says cell.Away online unseen blocked left promoted run = online ≡ false
Says cell.Unprobed online unseen blocked left promoted run = (online ≡ true) × (unseen ≡ true)
Says cell.Blocked online unseen blocked left promoted run = (online ≡ true) × (unseen ≡ false) × (blocked ≡ true)
Says cell.Failed online unseen blocked left promoted run = (online ≡ true) × (unseen ≡ false) × (blocked ≡ false) × (run ≡ true) × (left ≡ true)
Says cell.Promoted online unseen blocked left promoted run = (online ≡ true) × (unseen ≡ false) × (blocked ≡ false) × (run && left ≡ false) × (promoted ≡ true)
Says cell.On online unseen blocked left promoted run = (online ≡ true) × (unseen ≡ false) × (blocked ≡ false) × (promoted ≡ false) × (run ≡ true) × (left ≡ false)
Says cell.Off online unseen blocked left promoted run = (online ≡ true) × (unseen ≡ false) × (blocked ≡ false) × (promoted ≡ false) × (run ≡ false)

said : (online unseen blocked left promoted run : Bool) → Says (state_by online unseen blocked left promoted run) online unseen blocked left promoted run
said false u b o p r = refl
said true true b o p r = (refl, refl)
said true false true o p r = (refl, refl, refl)
said true false false true p true = (refl, refl, refl, refl, refl)
said true false false false true true = (refl, refl, refl, refl, refl)
said true false false false false true = (refl, refl, refl, refl, refl, refl)
said true false false o true false = (refl, refl, refl, refl, refl)
said true false false o false false = (refl, refl, refl, refl, refl)

module _ (c : Cluster) (r n : ℕ) (es : List Event) where
  pub says_of : (s : CellState) → cell_state c r n es ≡ s
      → Says s (is_online c n es) (is_none (last_outcome c r n es)) (is_blocked c r n es) (is_unclear c r n es) (may_be_promoted c r n es) (may_be_running c r n es)
  says_of s e =
      subst (λ z. Says z (is_online c n es) (is_none (last_outcome c r n es)) (is_blocked c r n es) (is_unclear c r n es) (may_be_promoted c r n es) (may_be_running c r n es)) e
      (said (is_online c n es) (is_none (last_outcome c r n es)) (is_blocked c r n es) (is_unclear c r n es) (may_be_promoted c r n es) (may_be_running c r n es))

  -- a blocked cell pins its leaf
  pub blocked_pins : n < length c.nodes → is_blocked_state (cell_state c r n es) ≡ true → is_pinned c es r ≡ true
  blocked_pins low h =
      by (is_managed c r) (list_any (λ m. is_blocked_state (cell_state c r m es)) (range_with_len 0 (length c.nodes)))
      (some_in_range (λ m. is_blocked_state (cell_state c r m es)) 0 (length c.nodes) n (omega arith) (omega (arith, low)) h)
    where
      by : (managed blocked : Bool) → blocked ≡ true → is_some (if not managed then Some Unmanaged else (if blocked then Some Blocked else None)) ≡ true
      by true true h = refl
      by true false h = cc
      by false b h = refl
