-- What the summary of a run counts is said by its lines: how many transitions there are, and how many cells have a target in the last.
use Rattle.std.proofs.Common.{arith, ◌≡◌, ◌<◌, ◌≤◌, ◌+◌, ◌*◌, ◌-◌, ℕ, zero, suc, Bool, Option, Some, None, List, [], ◌∷◌, ◌++◌, length, map, slice_get, filter, refl, sym, ap, ◌∙◌}
use Rattle.std.specs.Prelude.{count_by, cond, sum_by, unwrap_or}
use Rattle.std.specs.List.{AllByRecursion, flat_map, range_with_len}
use Rattle.std.specs.Option.{option_map_or}
use Rattle.std.proofs.lemmas.Bool.{lt-ltb}
use Rattle.std.proofs.lemmas.List.Sums.{length-filter, sum_by-cons}
use Rattle.std.proofs.lemmas.List.Folds.{fold-map}
use Rattle.std.proofs.lemmas.List.FromFn.{fill_by_all}
use Rattle.std.proofs.lemmas.Option.{unwrap_or-slice_get}
use Rattle.lemmas.proofs.Counts.{count-append, count-cons, count-is}
use Rattle.lemmas.proofs.Members.{all_append}
use Rattle.cluster_types.specs.declared.cluster.Cluster.{Cluster}
use Rattle.cluster_types.specs.declared.journal.Action.TheVariants.{Operation}
use Rattle.cluster_types.specs.declared.journal.Event.{Event}
use Rattle.cluster_types.specs.declared.journal.Event.TheVariants as event
use Rattle.cluster_types.specs.declared.journal.Outcome.TheVariants.{Code, Gone}
use Rattle.cluster_types.specs.declared.leaf.Op.TheVariants.{Monitor}
use Rattle.cluster_types.specs.declared.placement.NoReason.{NoReason}
use Rattle.cluster_types.specs.declared.placement.Pin.{Pin}
use Rattle.cluster_types.specs.declared.placement.Table.{Table}
use Rattle.cluster_types.specs.declared.placement.Target.{Target}
use Rattle.cluster_types.specs.declared.placement.Target.TheVariants.{Nowhere, Started, Promoted}
use Rattle.cluster_types.specs.declared.run.Passed.{Passed}
use Rattle.cluster_types.specs.declared.run.PassedEnd.{PassedEnd}
use Rattle.cluster_types.specs.declared.run.PassedEnd.TheVariants.{Complete, Aborted, Cut}
use Rattle.cluster_types.specs.declared.run.RunLine.{RunLine}
use Rattle.cluster_types.specs.declared.run.RunLine.TheVariants as line
use Rattle.cluster_types.specs.Tables.{Targets, is_somewhere, targets_of}
use Rattle.sim_core.specs.Summary.{cells_with_targets, last_targets}
use Rattle.cluster_types.specs.Texts.{all_passed_lines, begin_of, between, end_lines, event_lines, goal_lines, lacking_lines, leaf_lines, passed_lines, pin_lines, target_lines}

-- how many transitions some lines begin, and how many targets stand behind the last of these beginnings
pub record Tally : Type 0 where
  pub transitions : ℕ
  pub targets : ℕ

abbrev pub nothing : Tally
nothing = record { transitions = 0; targets = 0 }

abbrev tallied : Tally → RunLine → Tally
tallied t (line.Transition k) = record { transitions = t.transitions + 1; targets = 0 }
tallied t (line.Goal r n goal) = record { transitions = t.transitions; targets = t.targets + 1 }
tallied t _ = t

abbrev pub tally : Tally → List RunLine → Tally
tally t [] = t
tally t (l ∷ lines) = tally (tallied t l) lines

tally-append : (t : Tally) (xs ys : List RunLine) → tally t (xs ++ ys) ≡ tally (tally t xs) ys
tally-append t [] ys = refl
tally-append t (x ∷ xs) ys = tally-append (tallied t x) xs ys

-- some targets more
abbrev with_targets : Tally → ℕ → Tally
with_targets t n = record { transitions = t.transitions; targets = t.targets + n }

no_targets : (t : Tally) → t ≡ with_targets t 0
no_targets t = ap (λ n. record { transitions = t.transitions; targets = n }) (let e : t.targets ≡ t.targets + 0 = omega arith in e)

more_targets : (t : Tally) (m n : ℕ) → with_targets (with_targets t m) n ≡ with_targets t (m + n)
more_targets t m n = ap (λ k. record { transitions = t.transitions; targets = k }) (let e : t.targets + m + n ≡ t.targets + (m + n) = omega arith in e)

-- lines that begin no transition and say no target
abbrev IsBeside : RunLine → Type 0
IsBeside (line.Transition k) = ⊥
IsBeside (line.Goal r n goal) = ⊥
IsBeside _ = Unit {0}

beside : (t : Tally) (lines : List RunLine) → AllByRecursion IsBeside lines → tally t lines ≡ t
beside t [] h = refl
beside t (line.Transition k ∷ lines) h = absurd h.0
beside t (line.Goal r n goal ∷ lines) h = absurd h.0
beside t (_ ∷ lines) h = beside t lines h.1

-- what happens says no target
event_beside : (e : Event) → AllByRecursion IsBeside (event_lines e)
event_beside (event.Ended zero (Operation Monitor r n interval role) (Code code) moment) = (tt, tt)
event_beside (event.Ended k a Gone moment) = tt
event_beside (event.Down n) = tt
event_beside (event.Cleanup r n) = tt
event_beside _ = (tt, tt)

events_beside : (es : List Event) → AllByRecursion IsBeside (flat_map event_lines es)
events_beside [] = tt
events_beside (e ∷ es) = all_append IsBeside (event_lines e) (flat_map event_lines es) (event_beside e) (events_beside es)

module _ (c : Cluster) where
  tally_goal : (t : Tally) (r n : ℕ) (goal : Target) → tally t (goal_lines c r n goal) ≡ with_targets t (cond (is_somewhere goal) 1 0)
  tally_goal t r n Nowhere = no_targets t
  tally_goal t r n Started = refl
  tally_goal t r n Promoted = refl

  pin_beside : (r : ℕ) (pin : Option Pin) → AllByRecursion IsBeside (pin_lines c r pin)
  pin_beside r None = tt
  pin_beside r (Some pin) = (tt, tt)

  lacking_beside : (r : ℕ) (reason : Option NoReason) → AllByRecursion IsBeside (lacking_lines c r reason)
  lacking_beside r None = tt
  lacking_beside r (Some reason) = (tt, tt)

  ends_beside : (k : ℕ) (end : PassedEnd) → AllByRecursion IsBeside (end_lines c k end)
  ends_beside k Complete = (tt, tt)
  ends_beside k Aborted = (tt, tt)
  ends_beside k Cut = tt

  module _ (targets : Targets) where
    tally_row : (t : Tally) (r from n : ℕ) → tally t (flat_map (λ m. goal_lines c r m (targets r m)) (range_with_len from n))
        ≡ with_targets t (count_by (λ m. is_somewhere (targets r m)) (range_with_len from n))
    tally_row t r from zero = no_targets t
    tally_row t r from (suc n) =
        let has : ℕ → Bool = λ m. is_somewhere (targets r m) in
        let rest = flat_map (λ m. goal_lines c r m (targets r m)) (range_with_len (from + 1) n) in
        tally-append t (goal_lines c r from (targets r from)) rest
        ∙ (ap (λ z. tally z rest) (tally_goal t r from (targets r from))
        ∙ (tally_row (with_targets t (cond (has from) 1 0)) r (from + 1) n
        ∙ (more_targets t (cond (has from) 1 0) (count_by has (range_with_len (from + 1) n))
        ∙ ap (with_targets t) (sym (count-cons has from (range_with_len (from + 1) n))))))

    abbrev in_row : ℕ → ℕ
    in_row r = count_by (λ n. is_somewhere (targets r n)) (range_with_len 0 (length c.nodes))

    module _ (pins : List (Option Pin)) (reasons : List (Option NoReason)) where
      tally_leaf : (t : Tally) (r : ℕ) → tally t (leaf_lines c pins targets reasons r) ≡ with_targets t (in_row r)
      tally_leaf t r =
          let pin = unwrap_or (slice_get pins r) None in
          let reason = unwrap_or (slice_get reasons r) None in
          let row = flat_map (λ n. goal_lines c r n (targets r n)) (range_with_len 0 (length c.nodes)) in
          tally-append t (pin_lines c r pin ++ row) (lacking_lines c r reason)
          ∙ (beside (tally t (pin_lines c r pin ++ row)) (lacking_lines c r reason) (lacking_beside r reason)
          ∙ (tally-append t (pin_lines c r pin) row ∙ (ap (λ z. tally z row) (beside t (pin_lines c r pin) (pin_beside r pin)) ∙ tally_row t r 0 (length c.nodes))))

      -- target lines say as many targets as cells have one
      tally_rows : (t : Tally) (from n : ℕ) → tally t (flat_map (leaf_lines c pins targets reasons) (range_with_len from n)) ≡ with_targets t (sum_by in_row (range_with_len from n))
      tally_rows t from zero = no_targets t
      tally_rows t from (suc n) =
          let rest = flat_map (leaf_lines c pins targets reasons) (range_with_len (from + 1) n) in
          tally-append t (leaf_lines c pins targets reasons from) rest
          ∙ (ap (λ z. tally z rest) (tally_leaf t from)
          ∙ (tally_rows (with_targets t (in_row from)) (from + 1) n
          ∙ (more_targets t (in_row from) (sum_by in_row (range_with_len (from + 1) n))
          ∙ ap (with_targets t) (sym (sum_by-cons in_row from (range_with_len (from + 1) n))))))

  abbrev cells : Passed → ℕ
  cells p = cells_with_targets c (targets_of p.table)

  -- the cells with a target in the last of some transitions, or so many where there is none
  abbrev cells_at_last : ℕ → List Passed → ℕ
  cells_at_last none [] = none
  cells_at_last none (p ∷ ps) = cells_at_last (cells p) ps

  last_is : (none other : ℕ) (p : Passed) (ps : List Passed) → cells_at_last none (p ∷ ps) ≡ option_map_or cells (slice_get (p ∷ ps) (length ps)) other
  last_is none other p [] = refl
  last_is none other p (q ∷ ps) = last_is (cells p) other q ps

  at_last : (ps : List Passed) → cells_at_last 0 ps ≡ last_targets c ps
  at_last [] = refl
  at_last (p ∷ ps) =
      last_is 0 0 p ps ∙ ap (λ i. option_map_or cells (slice_get (p ∷ ps) i) 0) (let e : length ps ≡ length (p ∷ ps) - 1 = omega arith in e)

  module _ (es : List Event) where
    tally_one : (t : Tally) (k : ℕ) (p : Passed) → tally t (passed_lines c es k p) ≡ record { transitions = t.transitions + 1; targets = cells p }
    tally_one t k p =
        let began = tallied t (line.Transition k) in
        let goals = target_lines c p.pins (targets_of p.table) p.none in
        let events = flat_map event_lines (between p.begins_at p.ends_at es) in
        tally-append began (goals ++ events) (end_lines c k p.end)
        ∙ (beside (tally began (goals ++ events)) (end_lines c k p.end) (ends_beside k p.end)
        ∙ (tally-append began goals events
        ∙ (beside (tally began goals) events (events_beside (between p.begins_at p.ends_at es))
        ∙ (tally_rows (targets_of p.table) p.pins p.none began 0 (length c.leaves)
        ∙ ap (λ z. record { transitions = t.transitions + 1; targets = z }) (let e : 0 + cells p ≡ cells p = omega arith in e)))))

    tally_on : (t : Tally) (k : ℕ) (ps : List Passed) → tally t (all_passed_lines c es k ps) ≡ record { transitions = t.transitions + length ps; targets = cells_at_last t.targets ps }
    tally_on t k [] = ap (λ z. record { transitions = z; targets = t.targets }) (let e : t.transitions ≡ t.transitions + 0 = omega arith in e)
    tally_on t k (p ∷ ps) =
        let own = passed_lines c es k p in
        let gap = flat_map event_lines (between p.ends_at (begin_of c es ps) es) in
        let rest = all_passed_lines c es (k + 1) ps in
        let now : Tally = record { transitions = t.transitions + 1; targets = cells p } in
        tally-append t (own ++ gap) rest
        ∙ (ap (λ z. tally z rest) (tally-append t own gap ∙ (beside (tally t own) gap (events_beside (between p.ends_at (begin_of c es ps) es)) ∙ tally_one t k p))
        ∙ (tally_on now (k + 1) ps
        ∙ ap (λ z. record { transitions = z; targets = cells_at_last now.targets ps }) (let e : t.transitions + 1 + length ps ≡ t.transitions + suc (length ps) = omega arith in e)))

    -- the lines of a run that is kept say what its summary counts of them
    pub tally_all : (ps : List Passed) → tally nothing (all_passed_lines c es 1 ps) ≡ record { transitions = length ps; targets = last_targets c ps }
    tally_all ps =
        tally_on nothing 1 ps ∙ (ap (λ z. record { transitions = z; targets = cells_at_last 0 ps }) (let e : 0 + length ps ≡ length ps = omega arith in e)
        ∙ ap (λ z. record { transitions = length ps; targets = z }) (at_last ps))

-- the numbers of a range, and those behind them
range_more : (from a b : ℕ) → range_with_len from (a + b) ≡ range_with_len from a ++ range_with_len (from + a) b
range_more from zero b = ap (range_with_len from) (let e : 0 + b ≡ b = omega arith in e) ∙ ap (λ z. range_with_len z b) (let e : from ≡ from + 0 = omega arith in e)
range_more from (suc a) b =
    ap (range_with_len from) (let e : suc a + b ≡ suc (a + b) = omega arith in e)
    ∙ ap (λ (ns : List ℕ). from ∷ ns)
    (range_more (from + 1) a b ∙ ap (λ z. range_with_len (from + 1) a ++ range_with_len z b) (let e : from + 1 + a ≡ from + suc a = omega arith in e))

-- how many of so many numbers from one on pass
abbrev passing : (ℕ → Bool) → ℕ → ℕ → ℕ
passing p from n = count_by p (range_with_len from n)

passing_more : (p : ℕ → Bool) (from a b : ℕ) → passing p from (a + b) ≡ passing p from a + passing p (from + a) b
passing_more p from a b = ap (count_by p) (range_more from a b) ∙ count-append p (range_with_len from a) (range_with_len (from + a) b)

-- the cells of a list that have a target
abbrev has_target : List Target → ℕ → Bool
has_target cells i = is_somewhere (unwrap_or (slice_get cells i) Nowhere)

all_cells : (cells : List Target) → passing (has_target cells) 0 (length cells) ≡ count_by is_somewhere cells
all_cells cells =
    let at : ℕ → Target = λ i. unwrap_or (slice_get cells i) Nowhere in
    let all : cells ≡ map at (range_with_len 0 (length cells)) = fill_by_all at cells (length cells) Nowhere refl (λ k low. sym (unwrap_or-slice_get cells k Nowhere)) in
    sym (ap (count_by is_somewhere) all ∙ fold-map (λ (n : ℕ) (goal : Target). n + cond (is_somewhere goal) 1 0) at 0 (range_with_len 0 (length cells)))

module _ (c : Cluster) (table : Table) (nodes : table.nodes ≡ length c.nodes) where
  cell_is : (r n : ℕ) → n < table.nodes → targets_of table r n ≡ unwrap_or (slice_get table.targets (r * table.nodes + n)) Nowhere
  cell_is r n low = rw (lt-ltb n table.nodes low) refl

  count_row : (r from n : ℕ) → from + n ≤ table.nodes
      → count_by (λ m. is_somewhere (targets_of table r m)) (range_with_len from n) ≡ passing (has_target table.targets) (r * table.nodes + from) n
  count_row r from zero low = refl
  count_row r from (suc n) low =
      let p = has_target table.targets in
      let has : ℕ → Bool = λ m. is_somewhere (targets_of table r m) in
      let here : has from ≡ p (r * table.nodes + from) = ap is_somewhere (cell_is r from (omega (arith, low))) in
      let counted = count-is has from (range_with_len (from + 1) n) (p (r * table.nodes + from)) here in
      let rest = count_row r (from + 1) n (omega (arith, low)) in
      let step = count-cons p (r * table.nodes + from) (range_with_len (r * table.nodes + from + 1) n) in
      let next : passing p (r * table.nodes + (from + 1)) n ≡ passing p (r * table.nodes + from + 1) n
      = ap (λ z. passing p z n) (let e : r * table.nodes + (from + 1) ≡ r * table.nodes + from + 1 = omega arith in e) in
      omega (arith, counted, rest, next, step)

  abbrev on_row : ℕ → ℕ
  on_row r = count_by (λ n. is_somewhere (targets_of table r n)) (range_with_len 0 table.nodes)

  count_rows : (from n : ℕ) → sum_by on_row (range_with_len from n) ≡ passing (has_target table.targets) (from * table.nodes) (n * table.nodes)
  count_rows from zero = ap (passing (has_target table.targets) (from * table.nodes)) (let e : 0 ≡ 0 * table.nodes = grind arith in e)
  count_rows from (suc n) =
      let width = table.nodes in
      let p = has_target table.targets in
      let below : (from + 1) * width ≡ from * width + width = grind arith in
      let all : suc n * width ≡ width + n * width = grind arith in
      let row : on_row from ≡ passing p (from * width) width
      = count_row from 0 width (omega arith) ∙ ap (λ z. passing p z width) (let e : from * width + 0 ≡ from * width = omega arith in e) in
      let rest : sum_by on_row (range_with_len (from + 1) n) ≡ passing p (from * width + width) (n * width)
      = count_rows (from + 1) n ∙ ap (λ z. passing p z (n * width)) below in
      let both = passing_more p (from * width) width (n * width) in
      let sum : sum_by on_row (range_with_len from (suc n)) ≡ on_row from + sum_by on_row (range_with_len (from + 1) n) = sum_by-cons on_row from (range_with_len (from + 1) n) in
      let whole : passing p (from * width) (suc n * width) ≡ passing p (from * width) (width + n * width) = ap (passing p (from * width)) all in
      omega (arith, row, rest, both, sum, whole)

  -- a table that fits has as many targets as cells of the cluster have one
  pub cells_are : length table.targets ≡ length c.leaves * length c.nodes → cells_with_targets c (targets_of table) ≡ length (filter is_somewhere table.targets)
  cells_are size =
      let p = has_target table.targets in
      let all : length c.leaves * table.nodes ≡ length table.targets = ap (λ z. length c.leaves * z) nodes ∙ sym size in
      ap (λ z. sum_by (λ r. count_by (λ n. is_somewhere (targets_of table r n)) (range_with_len 0 z)) (range_with_len 0 (length c.leaves))) (sym nodes)
      ∙ (count_rows 0 (length c.leaves)
      ∙ (ap (λ z. passing p z (length c.leaves * table.nodes)) (let e : 0 * table.nodes ≡ 0 = grind arith in e)
      ∙ (ap (passing p 0) all ∙ (all_cells table.targets ∙ sym (length-filter is_somewhere table.targets)))))
