-- The monitors that are listed for a cell are those that it needs.
use Rattle.std.proofs.Common.{arith, ◌≡◌, ◌+◌, ◌*◌, ◌/◌, ◌%◌, ◌==◌, ◌&&◌, ◌||◌, not, ℕ, Bool, true, false, if◌then◌else◌, cond, List, [], ◌∷◌, ◌++◌, map, filter, refl, ◌∙◌, ap}
use Rattle.cluster_types.specs.declared.cluster.Cluster.{Cluster}
use Rattle.cluster_types.specs.declared.journal.Event.{Event}
use Rattle.cluster_types.specs.declared.leaf.Monitor.{Monitor as MonitorOf}
use Rattle.cluster_types.specs.declared.placement.Target.{Target}
use Rattle.cluster_types.specs.CellStates.{is_monitor_running}
use Rattle.cluster_types.specs.NeededActions.{is_monitor_for}
use Rattle.cluster_types.specs.UnpackedStates.{as_bits}
use Rattle.planner.specs.Inner.Actions.{is_wanted, wanted}

low_bit : (b : Bool) (rest : ℕ) → (((if b then 1 else 0) + 2 * rest) % 2 == 0) ≡ not b
low_bit true rest = grind arith
low_bit false rest = grind arith

high_bits : (b : Bool) (rest : ℕ) → ((if b then 1 else 0) + 2 * rest) / 2 ≡ rest
high_bits true rest = omega arith
high_bits false rest = omega arith

abbrev pub needs_it : Target → Bool → (MonitorOf → Bool) → MonitorOf → Bool
needs_it target any runs m = is_monitor_for m.role target && (any || not (runs m))

put : (b : Bool) (m : MonitorOf) (ms : List MonitorOf) → (if b then m ∷ [] else []) ++ ms ≡ cond b (m ∷ ms) ms
put true m ms = refl
put false m ms = refl

pub wanted_is : (target : Target) (any : Bool) (runs : MonitorOf → Bool) (ms : List MonitorOf)
    → wanted target any (as_bits (map runs ms)) ms ≡ filter (needs_it target any runs) ms
wanted_is target any runs [] = refl
wanted_is target any runs (m ∷ ms) =
    ap (λ left. (if is_wanted target any (as_bits (map runs (m ∷ ms))) m then m ∷ [] else []) ++ wanted target any left ms) (high_bits (runs m) (as_bits (map runs ms)))
    ∙ ap (λ ns. (if is_wanted target any (as_bits (map runs (m ∷ ms))) m then m ∷ [] else []) ++ ns) (wanted_is target any runs ms)
    ∙ ap (λ b. (if is_monitor_for m.role target && (any || b) then m ∷ [] else []) ++ filter (needs_it target any runs) ms) (low_bit (runs m) (as_bits (map runs ms)))
    ∙ put (needs_it target any runs m) m (filter (needs_it target any runs) ms)

module _ (c : Cluster) (es : List Event) (r n : ℕ) where
  abbrev pub runs : MonitorOf → Bool
  runs m = is_monitor_running r n m.interval_ms es
