-- A leaf migrates from the node that is found, and only from there.
use Rattle.std.proofs.Common.{arith, ◌≡◌, ◌≢◌, ◌<◌, ◌==◌, ◌&&◌, ◌||◌, not, ℕ, Bool, true, false, if◌then◌else◌, Option, Some, None, List, length, refl, sym, ◌∙◌, ap}
use Rattle.std.specs.Prelude.{find}
use Rattle.std.specs.List.{list_all, range_with_len}
use Rattle.std.proofs.lemmas.Bool.{and_from, both_ways, eq-eqb, ne_eqb, not-true, not_from_false}
use Rattle.std.proofs.Math.Bool.{or_comm}
use Rattle.lemmas.proofs.Booleans.{first_passes, later, sooner}
use Rattle.lemmas.proofs.Members.{in_range, of_range}
use Rattle.lemmas.proofs.Searches.{each_passes, all_pass}
use Rattle.cluster_types.specs.declared.cluster.Cluster.{Cluster}
use Rattle.cluster_types.specs.declared.journal.Event.{Event}
use Rattle.cluster_types.specs.declared.leaf.Op.TheVariants as op
use Rattle.cluster_types.specs.declared.states.CellState.{CellState}
use Rattle.cluster_types.specs.declared.states.CellState.TheVariants as cell
use Rattle.cluster_types.specs.CellStates.{cell_state, is_blocked, is_unclear, last_outcome}
use Rattle.cluster_types.specs.Fields.{is_cloned, is_promotable, may_migrate}
use Rattle.cluster_types.specs.May.{may_be_running, may_be_promoted}
use Rattle.cluster_types.specs.NeededActions.{GetsStep}
use Rattle.cluster_types.specs.NodeStates.{is_online}
use Rattle.cluster_types.specs.Tables.{Targets}
use Rattle.planner.specs.Inner.Actions.{first_node, is_alone, is_on_state, is_source, may_be_sent, source_at, migration_source, steps_in}
use Rattle.planner.specs.CycledCells.{MarkedCells}
use Rattle.planner.specs.declared.needed_actions.steps.CellNeed.{CellNeed}
use Rattle.planner.proofs.StepTests.{found_is, has_it, it_is, only_found}
use Rattle.planner.proofs.StepsGot.{Tells, gets, got}

-- what runs in a cell may run there
on_may : (away unknown blocked failed promoted runs : Bool)
    → (if away then cell.Away else (if unknown then cell.Unprobed else (if blocked then cell.Blocked else (if failed then cell.Failed
    else (if promoted then cell.Promoted else (if runs then cell.On else cell.Off)))))) ≡ cell.On → runs ≡ true
on_may true u b f p o h = cc
on_may false true b f p o h = cc
on_may false false true f p o h = cc
on_may false false false true p o h = cc
on_may false false false false true o h = cc
on_may false false false false false true h = refl
on_may false false false false false false h = cc

on_state : (s : CellState) → is_on_state s ≡ true → s ≡ cell.On
on_state cell.Away h = cc
on_state cell.Unprobed h = cc
on_state cell.Blocked h = cc
on_state cell.Failed h = cc
on_state cell.Promoted h = cc
on_state cell.On h = refl
on_state cell.Off h = cc

state_on : (s : CellState) → s ≡ cell.On → is_on_state s ≡ true
state_on s e = rw e refl

either_passes : (a b : Bool) → (a ≡ false → b ≡ true) → (a || b) ≡ true
either_passes true b f = refl
either_passes false b f = f refl

module _ (c : Cluster) (es : List Event) (targets : Targets) where
  pub runs_may : (r n : ℕ) → cell_state c r n es ≡ cell.On → may_be_running c r n es ≡ true
  runs_may r n h =
      on_may (not (is_online c n es)) (Rattle.std.specs.Prelude.is_none (last_outcome c r n es)) (is_blocked c r n es)
      (may_be_running c r n es && is_unclear c r n es) (may_be_promoted c r n es) (may_be_running c r n es) h

  -- the leaf is sent from the node, wherever it is started
  pub record Leaves (r n : ℕ) (free : Bool) : Type 0 where
    pub allowed : may_migrate c r ≡ true
    pub uncloned : is_cloned c r ≡ false
    pub not_promotable : is_promotable c r ≡ false
    pub is_free : free ≡ true
    pub within : n < length c.nodes
    pub running : cell_state c r n es ≡ cell.On
    pub nowhere_else : (k : ℕ) → k < length c.nodes → k ≢ n → may_be_running c r k es ≡ false
    pub stopped : GetsStep c es targets r n op.Stop

  module _ (need : ℕ → ℕ → CellNeed) (marked : MarkedCells) (told : Tells c es targets need marked) (r : ℕ) (lr : r < length c.leaves) where
    may_known : (n : ℕ) → n < length c.nodes → (need r n).may ≡ may_be_running c r n es
    may_known n ln = ap (λ (w : CellNeed). w.may) (told.needs r n lr ln)

    state_known : (n : ℕ) → n < length c.nodes → (need r n).state ≡ cell_state c r n es
    state_known n ln = ap (λ (w : CellNeed). w.state) (told.needs r n lr ln)

    alone_of : (n : ℕ) → is_alone c need r n ≡ true → (k : ℕ) → k < length c.nodes → k ≢ n → may_be_running c r k es ≡ false
    alone_of n h k lk d =
        let p = each_passes (λ k. n == k || not (need r k).may) (range_with_len 0 (length c.nodes)) k h
        (in_range 0 (length c.nodes) k (omega arith) (omega arith)) in
        sym (may_known k lk) ∙ not-true (need r k).may
        (first_passes (not (need r k).may) (n == k) (or_comm (not (need r k).may) (n == k) ∙ p) (ne_eqb n k (λ s. d (sym s))))

    is_alone_where : (n : ℕ) → ((k : ℕ) → k < length c.nodes → k ≢ n → may_be_running c r k es ≡ false) → is_alone c need r n ≡ true
    is_alone_where n f = all_pass (λ k. n == k || not (need r k).may) (range_with_len 0 (length c.nodes)) (λ k h. (
        let w = of_range 0 (length c.nodes) k h in
        let lk : k < length c.nodes = omega arith in
        either_passes (n == k) (not (need r k).may) (λ e.
        not_from_false (need r k).may (may_known k lk ∙ f k lk (λ s. both_ways (n == k) e (eq-eqb n k (sym s)))))))

    leaves_of : (n : ℕ) (free : Bool) → n < length c.nodes → may_be_sent c r free ≡ true → is_source c need marked r n ≡ true → Leaves r n free
    leaves_of n free ln m s =
        let three : may_migrate c r && not (is_cloned c r) && not (is_promotable c r) ≡ true
        = sooner (may_migrate c r && not (is_cloned c r) && not (is_promotable c r)) free m in
        let two : may_migrate c r && not (is_cloned c r) ≡ true = sooner (may_migrate c r && not (is_cloned c r)) _ three in
        let alone : is_alone c need r n && is_on_state (need r n).state ≡ true = sooner (is_alone c need r n && is_on_state (need r n).state) _ s in
        record {
          allowed = sooner (may_migrate c r) _ two;
          uncloned = not-true (is_cloned c r) (later (may_migrate c r) _ two);
          not_promotable = not-true (is_promotable c r) (later (may_migrate c r && not (is_cloned c r)) _ three);
          is_free = later (may_migrate c r && not (is_cloned c r) && not (is_promotable c r)) free m;
          within = ln;
          running = sym (state_known n ln) ∙ on_state (need r n).state (later (is_alone c need r n) _ alone);
          nowhere_else = alone_of n (sooner (is_alone c need r n) _ alone);
          stopped =
              gets c es targets need marked told r n op.Stop lr ln
              (it_is op.Stop (steps_in need marked r n) (later (is_alone c need r n && is_on_state (need r n).state) _ s));
        }

    pub sent_from : (n : ℕ) (free : Bool) → migration_source c need marked free r ≡ Some n → Leaves r n free
    sent_from n free h = on (may_be_sent c r free) refl h where
      source : (b : Bool) (k : ℕ) → is_source c need marked r k ≡ b → k < length c.nodes → may_be_sent c r free ≡ true
          → (if b then Some k else None) ≡ Some n → Leaves r n free
      source true k s lk m e = let same : k ≡ n = cc in rw same at (leaves_of k free lk m s)
      source false k s lk m e = cc

      node : (o : Option ℕ) → first_node c need r ≡ o → may_be_sent c r free ≡ true → source_at c need marked r o ≡ Some n → Leaves r n free
      node None e m f = cc
      node (Some k) e m f =
          let at = found_is (λ n. (need r n).may) (range_with_len 0 (length c.nodes)) k e in
          let w = of_range 0 (length c.nodes) k at.among in
          source (is_source c need marked r k) k refl (omega arith) m f

      on : (b : Bool) → may_be_sent c r free ≡ b → (if b then source_at c need marked r (first_node c need r) else None) ≡ Some n → Leaves r n free
      on true m f = node (first_node c need r) refl m f
      on false m f = cc

    pub is_sent_from : (n : ℕ) (free : Bool) → Leaves r n free → migration_source c need marked free r ≡ Some n
    is_sent_from n free l =
        let ln = l.within in
        let sent : may_be_sent c r free ≡ true
        = and_from (may_migrate c r && not (is_cloned c r) && not (is_promotable c r)) free
        (and_from (may_migrate c r && not (is_cloned c r)) _
        (and_from (may_migrate c r) _ l.allowed (not_from_false (is_cloned c r) l.uncloned)) (not_from_false (is_promotable c r) l.not_promotable)) l.is_free in
        let node : first_node c need r ≡ Some n
        = only_found (λ n. (need r n).may) (range_with_len 0 (length c.nodes)) n (in_range 0 (length c.nodes) n (omega arith) (omega arith))
        (may_known n ln ∙ runs_may r n l.running) (λ k h d.
        let w = of_range 0 (length c.nodes) k h in
        let lk : k < length c.nodes = omega arith in
        may_known k lk ∙ l.nowhere_else k lk d) in
        let source : is_source c need marked r n ≡ true
        = and_from (is_alone c need r n && is_on_state (need r n).state) _
        (and_from (is_alone c need r n) _ (is_alone_where n l.nowhere_else)
        (state_on (need r n).state (state_known n ln ∙ l.running)))
        (has_it op.Stop (steps_in need marked r n) (got c es targets need marked told r n op.Stop lr ln l.stopped)) in
        ap (λ b. if b then source_at c need marked r (first_node c need r) else None) sent
        ∙ ap (source_at c need marked r) node
        ∙ ap (λ b. if b then Some n else None) source
