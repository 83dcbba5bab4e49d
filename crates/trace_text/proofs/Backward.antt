-- What a walk back finds: the actions that lead to its end.
use Rattle.std.proofs.Common.{arith, ◌≡◌, ◌⊎◌, inl, inr, ◌<◌, ◌≤◌, ◌+◌, ◌-◌, ◌||◌, ℕ, Bool, true, false, List, [], length, take, slice_index_or, refl, sym, ap, subst, ◌∙◌}
use Rattle.std.specs.Prelude.{Contains}
use Rattle.std.specs.List.{list_any}
use Rattle.std.proofs.Math.Bool.{or-false}
use Rattle.std.proofs.lemmas.Bool.{cases_lt, false_from_ne_true}
use Rattle.std.proofs.lemmas.List.{length_push, length-append, take_at}
use Rattle.lemmas.proofs.Ranges.{filter-alike}
use Rattle.edges.specs.declared.edge.Edge.{Edge}
use Rattle.edges.specs.Sources.{is_in_list}
use Rattle.cluster_types.specs.Graphs.{GraphOf, IsGraph, LeadUpward}
use Rattle.cluster_types.specs.Inner.Walks.{AreMarked, joins}
use Rattle.cluster_types.proofs.Walks.{are_befores, at_first, by_edge, one_gate_more}
use Rattle.listed.specs.Flags.{is_marked}
use Rattle.listed.specs.Sets.{is_member, members}
use Rattle.listed.proofs.Blocks.{block}
use Rattle.trace_text.specs.Inner.Walk.{GoesBack, IsLastFound, NoneFound, befores, found_below, source_rows}
use Rattle.trace_text.proofs.Places.{parts}
use Rattle.trace_text.proofs.TurnedEdges.{sources_are}

-- where none was found below some position, nothing is to be done there
skipped : (actions : ℕ) (edges : List Edge) (y low high : ℕ) (found : List Bool) → AreMarked actions edges y high found
    → ((x : ℕ) → low ≤ x → x < high → is_marked found x ≡ false) → AreMarked actions edges y low found
skipped actions edges y low high found made none = record {
  leading = made.leading;
  direct = made.direct;
  through = λ e c gate above h. on e c gate above h (cases_lt e.after high);
}
  where
    on : (e : Edge) → Contains edges e → actions ≤ e.after → low ≤ e.after → is_marked found e.after ≡ true → (e.after < high) ⊎ (high ≤ e.after)
        → is_marked found e.before ≡ true
    on e c gate above h (inl lt) = let gone = none e.after above lt in cc
    on e c gate above h (inr ge) = made.through e c gate ge h

module _ (g : GraphOf) (graph : IsGraph g) (actions : ℕ) (count : actions ≡ length g.actions) (rows : List (List ℕ)) (sources : rows ≡ source_rows g.edges) where
  upward : LeadUpward actions g.edges.list
  upward = subst (λ n. LeadUpward n g.edges.list) (sym count) graph.gates_upward

  -- the edges to a gate come from below it
  source_below : (x gate : ℕ) → actions ≤ gate → list_any (joins x gate) g.edges.list ≡ true → x < gate
  source_below x gate is_gate h = on (by_edge g.edges.list x gate h) where
    on : (e : Edge) × Contains g.edges.list e × (e.after ≡ gate) × (e.before ≡ x) → x < gate
    on (e, c, to, from) = let up = upward e c (rw to is_gate) in omega arith

  module _ (y : ℕ) where
    -- what edges lead to y from
    pub walk_begun : y < g.edges.positions → (cleared found : List Bool) → length found ≡ g.edges.positions → ((x : ℕ) → is_marked cleared x ≡ false)
        → ((x : ℕ) → is_marked found x ≡ (is_marked cleared x || is_in_list (slice_index_or rows y []) x)) → GoesBack actions g.edges.list y 0 found
    walk_begun within cleared found size none made =
        let enough = graph.positions in
        record {
          lowest = length found;
          gates = omega arith;
          within = omega arith;
          are_behind = omega arith;
          marked = rw size (at_first actions g.edges.positions g.edges.list y graph.within upward cleared found none
              (λ x. made x ∙ ap (λ b. is_marked cleared x || b) (sources_are g.edges rows sources y within x)));
        }

    -- a gate is gone through
    module _ (behind gate : ℕ) (old new : List Bool) (back : GoesBack actions g.edges.list y behind old) (last : IsLastFound old actions back.lowest gate)
        (old_size : length old ≡ g.edges.positions) (new_size : length new ≡ g.edges.positions)
        (found : (x : ℕ) → is_marked new x ≡ (is_marked old x || is_in_list (slice_index_or rows (gate - 1) []) x)) where
      is_gate : actions ≤ gate - 1
      is_gate = let above = last.above in omega arith

      stands : gate - 1 < g.edges.positions
      stands = let above = last.above in let high = last.high in let low = back.within in omega arith

      made : (x : ℕ) → is_marked new x ≡ (is_marked old x || list_any (joins x (gate - 1)) g.edges.list)
      made x = found x ∙ ap (λ b. is_marked old x || b) (sources_are g.edges rows sources (gate - 1) stands x)

      kept : (x : ℕ) → gate - 1 ≤ x → is_marked new x ≡ is_marked old x
      kept x ge =
          let none = false_from_ne_true (list_any (joins x (gate - 1)) g.edges.list)
          (λ h. let below = source_below x (gate - 1) is_gate h in let f : ⊥ = omega arith in f) in
          made x ∙ (ap (λ b. is_marked old x || b) none ∙ or-false (is_marked old x))

      same_behind : block new (gate - 1) (length old - (gate - 1)) ≡ block old (gate - 1) (length old - (gate - 1))
      same_behind =
          filter-alike (is_member new) (is_member old) (gate - 1 + 1) (length old - (gate - 1)) (λ k ge lt. kept (k - 1) (omega arith))

      pub gate_passed : GoesBack actions g.edges.list y (behind + 1) new
      gate_passed =
          let sizes : length new ≡ length old = new_size ∙ sym old_size in
          let was = ap length (parts old (gate - 1) (omega (arith, stands))) ∙ length-append (found_below old (gate - 1)) (block old (gate - 1) (length old - (gate - 1))) in
          let now = ap length (parts new (gate - 1) (omega (arith, stands))) ∙ length-append (found_below new (gate - 1)) (block new (gate - 1) (length new - (gate - 1))) in
          let same = ap (λ n. length (block new (gate - 1) (n - (gate - 1)))) sizes ∙ ap length same_behind in
          let one = ap length last.last ∙ length_push (found_below old (gate - 1)) gate in
          let before : gate - 1 + 1 ≡ gate = let above = last.above in omega arith in
          record {
            lowest = gate - 1;
            gates = is_gate;
            within = omega (arith, stands);
            are_behind = omega (arith, was, now, same, one, back.are_behind);
            marked = one_gate_more actions g.edges.positions g.edges.list y graph.within upward (gate - 1) old is_gate
                (rw before (skipped actions g.edges.list y gate back.lowest old back.marked last.none)) new last.is made;
          }

-- once no gate is left, the numbers of the actions that come before stand first
pub befores_found : (g : GraphOf) (actions number behind : ℕ) (found : List Bool) → IsGraph g → actions ≡ length g.actions → 0 < number → number ≤ length g.actions
    → (back : GoesBack actions g.edges.list (number - 1) behind found) → NoneFound found actions back.lowest
    → take (length (members found) - behind) (members found) ≡ befores g number
befores_found g actions number behind found graph count low high back none =
    let size : length (found_below found back.lowest) ≡ length (members found) - behind = omega (arith, back.are_behind) in
    let first : take (length (members found) - behind) (members found) ≡ found_below found actions
    = ap (take (length (members found) - behind)) (parts found back.lowest back.within)
    ∙ (take_at (found_below found back.lowest) (block found back.lowest (length found - back.lowest)) (length (members found) - behind) size ∙ none.same) in
    are_befores g g.edges actions number found found (take (length (members found) - behind) (members found)) graph refl count low high
    (skipped actions g.edges.list (number - 1) actions back.lowest found back.marked none.none) refl first
