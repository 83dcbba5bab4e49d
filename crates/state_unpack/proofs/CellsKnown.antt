-- What is known of cells and nodes is what the events tell, where what is kept is what they tell.
use Rattle.std.proofs.Common.{◌≡◌, ℕ, suc, zero, ◌+◌, ◌*◌, ◌<◌, ◌≤◌, nat_lt, nat_le, Bool, true, false, not, ◌&&◌, if◌then◌else◌, is_some, is_none, Option, Some, None, unwrap_or, List, [], ◌∷◌, length, map, slice_get, refl, ap, ◌∙◌, arith}
use Rattle.std.proofs.lemmas.Bool.Decides.{nat_tests}
use Rattle.std.proofs.lemmas.List.FromFn.{get_or-map-range_with_len, length-map-range_with_len}
use Rattle.std.proofs.lemmas.Option.{slice_get-get_or, slice_get_within, get_or_from_slice_get}
use Rattle.std.specs.List.{list_all, list_any, last_or, flat_map, range_with_len}
use Rattle.std.specs.Option.{option_map, option_map_or}
use Rattle.std.proofs.lemmas.Bool.{and_parts}
use Rattle.lemmas.proofs.Ranges.{map-same, any-same, flat_map-same}
use Rattle.cluster_types.specs.declared.cluster.Cluster.{Cluster}
use Rattle.cluster_types.specs.declared.journal.Event.{Event}
use Rattle.cluster_types.specs.declared.leaf.Leaf.{Leaf}
use Rattle.cluster_types.specs.declared.leaf.Monitor.{Monitor}
use Rattle.cluster_types.specs.declared.states.NodeState.{NodeState}
use Rattle.cluster_types.specs.CellStates.{last_outcome, cell_state, is_monitor_running}
use Rattle.cluster_types.specs.Failures.{failures_in_force, counted, is_forgotten, has_code, fatal_codes, has_somewhere, is_fail_stopped, asks_for_stop, ended_at}
use Rattle.cluster_types.specs.Fields.{failure_timeout, monitors}
use Rattle.cluster_types.specs.Journals.{NodeSign, joined, went_down, was_lost, was_fenced, moment_of, last_sign}
use Rattle.cluster_types.specs.NodeStates.{node_state, state_by, is_online_state, is_online_in, is_online, has_failure_to_fence}
use Rattle.cluster_types.specs.UnpackedStates.{as_bits, cell_at}
use Rattle.cluster_types.specs.Valid.{IsValid}
use Rattle.state_unpack.specs.Tally.{tally_of}
use Rattle.state_unpack.specs.Inner.Tally.{tally_counted, has_passed}
use Rattle.state_unpack.specs.declared.facts.Facts.{Facts}
use Rattle.state_unpack.specs.declared.signs.Sign.{Sign}
use Rattle.state_unpack.specs.declared.signs.Sign.TheVariants as sign
use Rattle.state_unpack.specs.Facts.{facts_of}
use Rattle.state_unpack.specs.Inner.Facts.{no_facts}
use Rattle.state_unpack.specs.KeptCells.{KeepsFacts, cell_in}
use Rattle.state_unpack.specs.Signs.{as_sign, ShowsSigns}
use Rattle.state_unpack.specs.Inner.Signs.{state_by_sign}
use Rattle.state_unpack.specs.Inner.CellsKept.{bits_of, counted_of, state_from, cell_from, somewhere, is_fatal, is_stopping, is_blamed, node_from, row_from}
use Rattle.state_unpack.specs.Knowledge.{has_few_monitors}

-- the failures that count, by those in force
module _ (c : Cluster) (r n : ℕ) (es : List Event) where
  passed : (o : Option Event) (timeout now : ℕ)
      → has_passed timeout now (option_map ended_at o) ≡ (nat_lt 0 timeout && option_map_or (λ e. nat_lt (1000 * ended_at e + timeout) (1000 * now)) o false)
  passed None timeout now = refl
  passed (Some e) timeout now = refl

  pub counted-is : tally_counted c r (moment_of es) (tally_of c (failures_in_force c r n es)) ≡ tally_of c (counted c r n es)
  counted-is =
      let found = failures_in_force c r n es in
      rw (passed (last_or None found) (failure_timeout c r) (moment_of es)) (split (is_forgotten (failure_timeout c r) (moment_of es) found))
    where
      split : (t : Bool) → (if t then tally_of c [] else tally_of c (failures_in_force c r n es)) ≡ tally_of c (if t then [] else failures_in_force c r n es)
      split true = refl
      split false = refl

-- the bits of the monitors that are running
bits-is : (running : Monitor → Bool) (ms : List Monitor) → length ms ≤ 8
    → bits_of (map (λ i. option_map_or running (slice_get ms i) false) (range_with_len 0 8)) ≡ as_bits (map running ms)
bits-is running [] few = refl
bits-is running (a ∷ []) few = omega arith
bits-is running (a ∷ b ∷ []) few = omega arith
bits-is running (a ∷ b ∷ d ∷ []) few = omega arith
bits-is running (a ∷ b ∷ d ∷ e ∷ []) few = omega arith
bits-is running (a ∷ b ∷ d ∷ e ∷ f ∷ []) few = omega arith
bits-is running (a ∷ b ∷ d ∷ e ∷ f ∷ g ∷ []) few = omega arith
bits-is running (a ∷ b ∷ d ∷ e ∷ f ∷ g ∷ h ∷ []) few = omega arith
bits-is running (a ∷ b ∷ d ∷ e ∷ f ∷ g ∷ h ∷ i ∷ []) few = omega arith
bits-is running (a ∷ b ∷ d ∷ e ∷ f ∷ g ∷ h ∷ i ∷ j ∷ more) few = absurd (omega arith)

is_none-is : {X : Type 0} (o : Option X) → not (is_some o) ≡ is_none o
is_none-is None = refl
is_none-is (Some x) = refl

module _ (c : Cluster) (r n : ℕ) (es : List Event) (few : length (monitors c r) ≤ 8) where
  state-is : (online : Bool) → online ≡ is_online c n es → state_from c r (moment_of es) online (facts_of c r n es) ≡ cell_state c r n es
  state-is online is = rw (is, is_none-is (last_outcome c r n es), counted-is c r n es) refl

  pub cell-is : (fatal online : Bool) → fatal ≡ has_somewhere (has_code fatal_codes) c r es → online ≡ is_online c n es
      → cell_from c r (moment_of es) fatal online (facts_of c r n es) ≡ cell_at c es r n
  cell-is fatal online f is =
      rw (state-is online is, counted-is c r n es, f, bits-is (λ m. is_monitor_running r n m.interval_ms es) (monitors c r) few) refl

module _ (c : Cluster) (es : List Event) (cells : List Facts) (keeps : KeepsFacts c es cells) where
  -- failures of a leaf that count somewhere
  fatal-there : (r n : ℕ) → r < length c.leaves → n < length c.nodes
      → option_map_or (λ facts. is_fatal (counted_of c r (moment_of es) facts)) (cell_in c cells r n) false ≡ list_any (has_code fatal_codes) (counted c r n es)
  fatal-there r n h k = rw (keeps.told r n h k, counted-is c r n es) refl

  fatal-is : (r : ℕ) → r < length c.leaves → somewhere is_fatal c r (moment_of es) cells ≡ has_somewhere (has_code fatal_codes) c r es
  fatal-is r h = any-same _ _ (length c.nodes) (λ n k. fatal-there r n h k)

  stop-there : (r n : ℕ) → r < length c.leaves → n < length c.nodes
      → option_map_or (λ facts. is_stopping (counted_of c r (moment_of es) facts)) (cell_in c cells r n) false ≡ list_any (asks_for_stop c) (counted c r n es)
  stop-there r n h k = rw (keeps.told r n h k, counted-is c r n es) refl

  pub stops-are : map (λ r. somewhere is_stopping c r (moment_of es) cells) (range_with_len 0 (length c.leaves)) ≡ map (λ r. is_fail_stopped c r es) (range_with_len 0 (length c.leaves))
  stops-are = map-same _ _ (length c.leaves) (λ r h. any-same _ _ (length c.nodes) (λ n k. stop-there r n h k))

  -- the states of the nodes
  pub blamed-is : (n : ℕ) → n < length c.nodes → is_blamed c n cells ≡ has_failure_to_fence c n es
  blamed-is n k = any-same _ _ (length c.leaves) (λ r h. rw (keeps.told r n h k) refl)

  module _ (signs : List (Option Sign)) (shows : ShowsSigns (length c.nodes) es signs) where
    pub by-sign : (n : ℕ) (blamed : Bool) (found : Option (Option Sign)) (last : Option NodeSign) → blamed ≡ has_failure_to_fence c n es → option_map (option_map as_sign) found ≡ Some last
        → state_by_sign c.properties.fencing blamed (unwrap_or found None) ≡ state_by c n es last
    by-sign n blamed None last b e = cc
    by-sign n blamed (Some None) last b e = let is : last ≡ None = cc in rw is refl
    by-sign n blamed (Some (Some sign.Joined)) last b e = let is : last ≡ Some joined = cc in rw (is, b) refl
    by-sign n blamed (Some (Some sign.WentDown)) last b e = let is : last ≡ Some went_down = cc in rw is refl
    by-sign n blamed (Some (Some sign.WasLost)) last b e = let is : last ≡ Some was_lost = cc in rw is refl
    by-sign n blamed (Some (Some sign.WasFenced)) last b e = let is : last ≡ Some was_fenced = cc in rw is refl

    pub nodes-are : map (node_from c cells signs) (range_with_len 0 (length c.nodes)) ≡ map (λ n. node_state c n es) (range_with_len 0 (length c.nodes))
    nodes-are = map-same _ _ (length c.nodes) (λ n k. by-sign n (is_blamed c n cells) (slice_get signs n) (last_sign n es) (blamed-is n k) (shows.last n k))

  -- the cells of a leaf, and all cells
  module _ (nodes : List NodeState) (are : nodes ≡ map (λ n. node_state c n es) (range_with_len 0 (length c.nodes))) (few : (r : ℕ) → length (monitors c r) ≤ 8) where
    online-is : (n : ℕ) → n < length c.nodes → is_online_in nodes n ≡ is_online c n es
    online-is n k =
        let all = map (λ m. node_state c m es) (range_with_len 0 (length c.nodes)) in
        let low : n < length all = omega (arith, k, length-map-range_with_len (λ m. node_state c m es) 0 (length c.nodes)) in
        let here = slice_get-get_or all n (node_state c n es) low ∙ ap Some (get_or-map-range_with_len (λ m. node_state c m es) 0 (length c.nodes) n n (node_state c n es) k (omega arith)) in
        ap (λ xs. is_online_in xs n) are ∙ ap (λ o. option_map_or is_online_state o false) here

    row-is : (r : ℕ) → r < length c.leaves → row_from c cells nodes (moment_of es) r ≡ map (cell_at c es r) (range_with_len 0 (length c.nodes))
    row-is r h = map-same _ _ (length c.nodes) (λ n k.
        ap (λ o. cell_from c r (moment_of es) (somewhere is_fatal c r (moment_of es) cells) (is_online_in nodes n) (unwrap_or o no_facts)) (keeps.told r n h k)
        ∙ cell-is c r n es (few r) _ _ (fatal-is r h) (online-is n k))

    pub cells-are : flat_map (row_from c cells nodes (moment_of es)) (range_with_len 0 (length c.leaves))
        ≡ flat_map (λ r. map (cell_at c es r) (range_with_len 0 (length c.nodes))) (range_with_len 0 (length c.leaves))
    cells-are = flat_map-same _ _ (length c.leaves) row-is

-- a leaf has few monitors, where each one has
pub few-monitors : (c : Cluster) → has_few_monitors c ≡ true → (r : ℕ) → length (monitors c r) ≤ 8
few-monitors c all r = split c.leaves r all
  where
    split : (leaves : List Leaf) (i : ℕ) → list_all (λ (leaf : Leaf). nat_le (length leaf.monitors) 8) leaves ≡ true
        → length (option_map_or (λ (leaf : Leaf). leaf.monitors) (slice_get leaves i) []) ≤ 8
    split [] i h = omega arith
    split (leaf ∷ leaves) zero h = let here = (and_parts (nat_le (length leaf.monitors) 8) _ h).0 in grind (arith, nat_tests)
    split (leaf ∷ leaves) (suc i) h = split leaves i (and_parts (nat_le (length leaf.monitors) 8) _ h).1

-- a valid cluster has few
pub valid-few : (c : Cluster) → IsValid c → has_few_monitors c ≡ true
valid-few c valid = split c.leaves (λ i leaf e. (valid.leaves leaf (i, slice_get_within c.leaves i leaf e, get_or_from_slice_get c.leaves i leaf leaf e)).few_monitors)
  where
    split : (leaves : List Leaf) → ((i : ℕ) (leaf : Leaf) → slice_get leaves i ≡ Some leaf → length leaf.monitors ≤ 8) → list_all (λ (leaf : Leaf). nat_le (length leaf.monitors) 8) leaves ≡ true
    split [] h = refl
    split (leaf ∷ leaves) h =
        let few = h 0 leaf refl in
        let here : nat_le (length leaf.monitors) 8 ≡ true = grind (arith, nat_tests) in
        rw here (split leaves (λ i other e. h (suc i) other e))
