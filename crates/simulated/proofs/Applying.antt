-- Ends of actions in flight apply, and where fewer others may run a leaf, fewer others run it.
use Rattle.std.proofs.Common.{◌≡◌, ℕ, suc, zero, ◌<◌, ◌≤◌, ◌==◌, ◌&&◌, not, nat_lt, Bool, true, false, if◌then◌else◌, Option, Some, None, IfSome, List, [], ◌∷◌, length, slice_get, refl, sym, ap, ◌∙◌, arith}
use Rattle.std.specs.List.{list_any, range_with_len}
use Rattle.std.proofs.lemmas.Bool.{and_parts}
use Rattle.lemmas.proofs.Counts.{count_more}
use Rattle.cluster_types.specs.declared.cluster.Cluster.{Cluster}
use Rattle.cluster_types.specs.declared.journal.Answer.TheVariants as answer
use Rattle.cluster_types.specs.declared.states.NodeState.TheVariants as state
use Rattle.cluster_types.specs.NodeStates.{node_state, state_by}
use Rattle.cluster_types.specs.Journals.{NodeSign, joined, went_down, was_lost, was_fenced, last_sign}
use Rattle.simulated.specs.declared.real.Standing.TheVariants as standing
use Rattle.simulated.specs.declared.turn.Turn.TheVariants as turn
use Rattle.simulated.proofs.NextTurn.{joining, leaving}
use Rattle.std.proofs.lemmas.Bool.Decides.{nat_tests}
use Rattle.std.proofs.Math.Bool.{or-true}
use Rattle.cluster_types.specs.declared.journal.Action.{Action}
use Rattle.cluster_types.specs.declared.journal.Event.{Event}
use Rattle.cluster_types.specs.AnswersThatApply.{applies_after, is_joined_sign, is_number_of, is_offline_state}
use Rattle.cluster_types.specs.May.{may_be_running}
use Rattle.cluster_types.specs.Precedence.{LeafOnNode, op_cell}
use Rattle.cluster_types.specs.Fields.{copies}
use Rattle.cluster_types.specs.Safety.{MayRunOnFewOthers, NoSecondCopy, count_of_others}
use Rattle.cluster_types.specs.Steps.{Transition, journal}
use Rattle.simulated.specs.declared.turn.Fate.{Fate}
use Rattle.simulated.specs.declared.turn.Fate.TheVariants as fate
use Rattle.simulated.specs.Lives.{IsWorldWithin, NoSecondCopyReally, ReallyAddsNoCopy}
use Rattle.simulated.proofs.Within.{always}
use Rattle.cluster_types.specs.declared.leaf.Op.TheVariants as op
use Rattle.simulated.specs.Turns.{answer_by_fate, next_turn}
use Rattle.simulated.specs.RealWorlds.{RealWorld, found_at, is_cell, is_node_off, is_there, is_node_up, standing_by}

flies : (flight : List (ℕ × Action)) (place k : ℕ) (a : Action) → slice_get flight place ≡ Some (k, a) → list_any (is_number_of k) flight ≡ true
flies [] place k a at = cc
flies (p ∷ ps) zero k a at = let is : p ≡ (k, a) = cc in let same : (k == k) ≡ true = grind arith in rw is (rw same refl)
flies (p ∷ ps) (suc place) k a at = rw (flies ps place k a at) (or-true (p.0 == k))

pub ends_apply : (c : Cluster) (es : List Event) (w : RealWorld) (flight : List (ℕ × Action)) (taken place k : ℕ) (f : Fate) (a : Action)
    → slice_get flight place ≡ Some (k, a) → applies_after c es flight taken (answer_by_fate c w f k a) ≡ true
ends_apply c es w flight taken place k fate.True a at = flies flight place k a at
ends_apply c es w flight taken place k fate.DoneBadly a at = flies flight place k a at
ends_apply c es w flight taken place k fate.Undone a at = flies flight place k a at
ends_apply c es w flight taken place k fate.TimedOut a at = flies flight place k a at

module _ (t : Transition) (before : List Event) (w : RealWorld) (within : IsWorldWithin t.cluster (journal t before) w) where
  found_may : (r m : ℕ) → is_there (found_at t.cluster w.cells r m) ≡ true → may_be_running t.cluster r m (journal t before) ≡ true
  found_may r m h = on (is_cell t.cluster r m) refl h where
    on : (b : Bool) → is_cell t.cluster r m ≡ b → is_there (found_at t.cluster w.cells r m) ≡ true → may_be_running t.cluster r m (journal t before) ≡ true
    on true e g = within.runs r m e (rw e at g)
    on false e g = let none = rw e at g in cc

  pub fewer : (at : LeafOnNode) → MayRunOnFewOthers t.cluster at (journal t before)
      → count_of_others t.cluster at.node (λ m. is_there (found_at t.cluster w.cells at.leaf m)) < copies t.cluster at.leaf
  fewer at adds =
      let less = count_more (λ m. not (m == at.node) && is_there (found_at t.cluster w.cells at.leaf m)) (λ m. not (m == at.node) && may_be_running t.cluster at.leaf m (journal t before))
      (λ m h. let parts = and_parts (not (m == at.node)) (is_there (found_at t.cluster w.cells at.leaf m)) h in rw (parts.0, found_may at.leaf m parts.1) refl)
      (range_with_len 0 (length t.cluster.nodes)) in
      omega (arith, less, adds)

pub none_second : (number : ℕ) (first : List Event) (t : Transition) (events : List Event) → NoSecondCopy t events → NoSecondCopyReally number first t events
none_second number first t events safe before after k a at = on (op_cell op.Start a) ((safe before after k a at).0)
  where
    on : (o : Option LeafOnNode) → IfSome o (λ at. MayRunOnFewOthers t.cluster at (journal t before)) → IfSome o (ReallyAddsNoCopy number first t before)
    on None h = tt
    on (Some cell) h = λ w life. fewer t before w (always t.cluster number first (journal t before) w life) cell h

module _ (c : Cluster) (number : ℕ) (es : List Event) (w : RealWorld) (flight : List (ℕ × Action)) (taken : ℕ) (within : IsWorldWithin c es w) (few : taken ≤ w.faults) where
  room : w.faults < 16 → nat_lt taken 256 ≡ true
  room early = grind (arith, nat_tests)

  up_joined : (s : Option NodeSign) → is_node_up (standing_by c s) ≡ true → is_joined_sign s ≡ true
  up_joined None h = cc
  up_joined (Some joined) h = refl
  up_joined (Some went_down) h = cc
  up_joined (Some was_fenced) h = cc
  up_joined (Some was_lost) h = on c.properties.fencing h
    where
      on : (t : Bool) → is_node_up (if t then standing.Lost else standing.Off) ≡ true → is_joined_sign (Some was_lost) ≡ true
      on true i = cc
      on false i = cc

  pub leaves_apply : (node : ℕ) → next_turn c number w (length flight) ≡ turn.Leaves node → applies_after c es flight taken (answer.Lost node) ≡ true
  leaves_apply node e =
      let so = leaving c number w (length flight) node e in
      let there : nat_lt node (length c.nodes) ≡ true = let low = so.within in grind (arith, nat_tests) in
      let up : is_joined_sign (last_sign node es) ≡ true = up_joined (last_sign node es) (ap is_node_up (sym (within.stands node)) ∙ so.is_so) in
      rw (room so.early, there, up) refl

  off_offline : (node : ℕ) (s : Option NodeSign) → is_node_off (standing_by c s) ≡ true → is_offline_state (state_by c node es s) ≡ true
  off_offline node None h = refl
  off_offline node (Some joined) h = cc
  off_offline node (Some went_down) h = refl
  off_offline node (Some was_fenced) h = refl
  off_offline node (Some was_lost) h = on c.properties.fencing h
    where
      on : (t : Bool) → is_node_off (if t then standing.Lost else standing.Off) ≡ true → is_offline_state (if t then state.Unclean else state.Offline) ≡ true
      on true i = cc
      on false i = refl

  pub joins_apply : (node : ℕ) → next_turn c number w (length flight) ≡ turn.Joins node → applies_after c es flight taken (answer.Up node) ≡ true
  joins_apply node e =
      let so = joining c number w (length flight) node e in
      let there : nat_lt node (length c.nodes) ≡ true = let low = so.within in grind (arith, nat_tests) in
      let off : is_offline_state (node_state c node es) ≡ true = off_offline node (last_sign node es) (ap is_node_off (sym (within.stands node)) ∙ so.is_so) in
      rw (room so.early, there, off) refl
