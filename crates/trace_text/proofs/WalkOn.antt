-- The target lines from a place on: that of the place, and then those from the place behind it.
use Rattle.std.proofs.Common.{arith, ◌≡◌, ◌⊎◌, inl, inr, ◌<◌, ◌≤◌, ◌+◌, ◌*◌, ◌-◌, if◌then◌else◌, nat_lt, ℕ, zero, suc, Bool, true, false, Option, List, [], ◌++◌, length, append_assoc, refl, sym, ap, ◌∙◌}
use Rattle.std.specs.List.{flat_map, range_with_len}
use Rattle.std.proofs.lemmas.Bool.{cases_lt, lt-ltb, le-ltb}
use Rattle.cluster_types.specs.declared.cluster.Cluster.{Cluster}
use Rattle.cluster_types.specs.declared.placement.NoReason.{NoReason}
use Rattle.cluster_types.specs.declared.placement.Pin.{Pin}
use Rattle.cluster_types.specs.declared.placement.Target.{Target}
use Rattle.cluster_types.specs.declared.run.RunLine.{RunLine}
use Rattle.cluster_types.specs.Texts.{goal_lines, leaf_lines, target_lines}
use Rattle.trace_text.specs.declared.target_walk.LineColumn.{LineColumn}
use Rattle.trace_text.specs.declared.target_walk.LineColumn.TheVariants as column
use Rattle.trace_text.specs.declared.target_walk.LinePlace.{LinePlace}
use Rattle.trace_text.specs.Inner.TargetWalk.{all_lines_from, goal_lines_from, leaf_lines_from, lines_in, next_place, places_left, reason_lines, target_lines_from}

range_more : {X : Type 0} (f : ℕ → List X) (from to : ℕ) → from < to → flat_map f (range_with_len from (to - from)) ≡ f from ++ flat_map f (range_with_len (from + 1) (to - (from + 1)))
range_more f from to lt =
    let e : to - from ≡ suc (to - (from + 1)) = omega arith in
    ap (λ (n : ℕ). flat_map f (range_with_len from n)) e

range_none : {X : Type 0} (f : ℕ → List X) (from to : ℕ) → to ≤ from → flat_map f (range_with_len from (to - from)) ≡ []
range_none f from to le =
    let e : to - from ≡ zero = omega arith in
    ap (λ (n : ℕ). flat_map f (range_with_len from n)) e

module _ (c : Cluster) (pins : List (Option Pin)) (targets : ℕ → ℕ → Target) (none : List (Option NoReason)) where
  abbrev lines_of_leaf_at : ℕ → List RunLine
  lines_of_leaf_at = leaf_lines c pins targets none

  -- a place of a leaf that is there
  lines_there : (r : ℕ) (k : LineColumn) → r < length c.leaves → target_lines_from c pins targets none (record { leaf = r; column = k }) ≡ leaf_lines_from c pins targets none r k ++ all_lines_from c pins targets none (r + 1)
  lines_there r k lt = ap (λ b. if b then leaf_lines_from c pins targets none r k ++ all_lines_from c pins targets none (r + 1) else []) (lt-ltb r (length c.leaves) lt)

  -- none is left
  pub lines_gone : (r : ℕ) (k : LineColumn) → length c.leaves ≤ r → target_lines_from c pins targets none (record { leaf = r; column = k }) ≡ []
  lines_gone r k le = ap (λ b. if b then leaf_lines_from c pins targets none r k ++ all_lines_from c pins targets none (r + 1) else []) (le-ltb r (length c.leaves) le)

  -- the next leaf
  next_leaf : (r : ℕ) → target_lines_from c pins targets none (record { leaf = r; column = column.Pin }) ≡ all_lines_from c pins targets none r
  next_leaf r = by (cases_lt r (length c.leaves)) where
    by : (r < length c.leaves) ⊎ (length c.leaves ≤ r) → target_lines_from c pins targets none (record { leaf = r; column = column.Pin }) ≡ all_lines_from c pins targets none r
    by (inl lt) = lines_there r column.Pin lt ∙ sym (range_more lines_of_leaf_at r (length c.leaves) lt)
    by (inr le) = lines_gone r column.Pin le ∙ sym (range_none lines_of_leaf_at r (length c.leaves) le)

  -- all of them
  pub all_lines_first : target_lines_from c pins targets none (record { leaf = 0; column = column.Pin }) ≡ target_lines c pins targets none
  all_lines_first =
      let whole : length c.leaves - 0 ≡ length c.leaves = omega arith in
      next_leaf 0 ∙ ap (λ (n : ℕ). flat_map lines_of_leaf_at (range_with_len 0 n)) whole

  module _ (r : ℕ) (lt : r < length c.leaves) where
    abbrev goal_at : ℕ → List RunLine
    goal_at n = goal_lines c r n (targets r n)

    goals_on : (n : ℕ) → (n < length c.nodes) ⊎ (length c.nodes ≤ n)
        → leaf_lines_from c pins targets none r (column.Goal n) ++ all_lines_from c pins targets none (r + 1)
        ≡ lines_in c pins targets none r (column.Goal n) ++ target_lines_from c pins targets none (next_place c (record { leaf = r; column = column.Goal n }))
    goals_on n (inl here) =
        let test : nat_lt n (length c.nodes) ≡ true = lt-ltb n (length c.nodes) here in
        rw (test, lines_there r (column.Goal (n + 1)) lt)
        (ap (λ (ls : List RunLine). (ls ++ reason_lines c pins targets none r) ++ all_lines_from c pins targets none (r + 1)) (range_more goal_at n (length c.nodes) here)
        ∙ ap (λ (ls : List RunLine). ls ++ all_lines_from c pins targets none (r + 1)) (append_assoc (goal_at n) (goal_lines_from c pins targets none r (n + 1)) (reason_lines c pins targets none r))
        ∙ append_assoc (goal_at n) (goal_lines_from c pins targets none r (n + 1) ++ reason_lines c pins targets none r) (all_lines_from c pins targets none (r + 1)))
    goals_on n (inr gone) =
        let test : nat_lt n (length c.nodes) ≡ false = le-ltb n (length c.nodes) gone in
        rw (test, lines_there r column.Reason lt)
        (ap (λ (ls : List RunLine). (ls ++ reason_lines c pins targets none r) ++ all_lines_from c pins targets none (r + 1)) (range_none goal_at n (length c.nodes) gone))

    pub walk_on : (k : LineColumn) → target_lines_from c pins targets none (record { leaf = r; column = k })
        ≡ lines_in c pins targets none r k ++ target_lines_from c pins targets none (next_place c (record { leaf = r; column = k }))
    walk_on column.Pin =
        let whole : length c.nodes - 0 ≡ length c.nodes = omega arith in
        let goals : flat_map goal_at (range_with_len 0 (length c.nodes)) ≡ goal_lines_from c pins targets none r 0 = ap (λ (n : ℕ). flat_map goal_at (range_with_len 0 n)) (sym whole) in
        lines_there r column.Pin lt
        ∙ (ap (λ (ls : List RunLine). (lines_in c pins targets none r column.Pin ++ ls ++ reason_lines c pins targets none r) ++ all_lines_from c pins targets none (r + 1)) goals
        ∙ (ap (λ (ls : List RunLine). ls ++ all_lines_from c pins targets none (r + 1)) (append_assoc (lines_in c pins targets none r column.Pin) (goal_lines_from c pins targets none r 0) (reason_lines c pins targets none r))
        ∙ append_assoc (lines_in c pins targets none r column.Pin) (goal_lines_from c pins targets none r 0 ++ reason_lines c pins targets none r) (all_lines_from c pins targets none (r + 1))))
        ∙ ap (λ (ls : List RunLine). lines_in c pins targets none r column.Pin ++ ls) (sym (lines_there r (column.Goal 0) lt))
    walk_on (column.Goal n) = lines_there r (column.Goal n) lt ∙ goals_on n (cases_lt n (length c.nodes))
    walk_on column.Reason =
        lines_there r column.Reason lt ∙ ap (λ (ls : List RunLine). reason_lines c pins targets none r ++ ls) (sym (next_leaf (r + 1)))

  -- the lines at the place, of which there may be none, and those from the place behind it
  pub walk_from : (at : LinePlace) (here : List RunLine) → at.leaf < length c.leaves → lines_in c pins targets none at.leaf at.column ≡ here
      → target_lines_from c pins targets none at ≡ here ++ target_lines_from c pins targets none (next_place c at)
  walk_from at here lt is = walk_on at.leaf lt at.column ∙ ap (λ (ls : List RunLine). ls ++ target_lines_from c pins targets none (next_place c at)) is

one_row : (n width : ℕ) → suc n * width ≡ width + n * width
one_row n width = omega arith

-- fewer places are left behind it
module _ (c : Cluster) (r : ℕ) (lt : r < length c.leaves) where
  rows : (length c.leaves - r) * (length c.nodes + 3) ≡ (length c.nodes + 3) + (length c.leaves - (r + 1)) * (length c.nodes + 3)
  rows =
      let e : length c.leaves - r ≡ suc (length c.leaves - (r + 1)) = omega arith in
      ap (λ (n : ℕ). n * (length c.nodes + 3)) e ∙ one_row (length c.leaves - (r + 1)) (length c.nodes + 3)

  fewer_goals : (n : ℕ) → (n < length c.nodes) ⊎ (length c.nodes ≤ n)
      → places_left c (next_place c (record { leaf = r; column = column.Goal n })) < places_left c (record { leaf = r; column = column.Goal n })
  fewer_goals n (inl here) =
      let test : nat_lt n (length c.nodes) ≡ true = lt-ltb n (length c.nodes) here in
      rw test (more (nat_lt (n + 1) (length c.nodes)) refl)
    where
      more : (b : Bool) → nat_lt (n + 1) (length c.nodes) ≡ b
          → (length c.leaves - r) * (length c.nodes + 3) - (1 + (if b then n + 1 else length c.nodes)) < (length c.leaves - r) * (length c.nodes + 3) - (1 + n)
      more true e = omega (arith, rows, here)
      more false e = omega (arith, rows, here)
  fewer_goals n (inr gone) =
      let test : nat_lt n (length c.nodes) ≡ false = le-ltb n (length c.nodes) gone in
      rw test (omega (arith, rows))

  pub fewer_places : (k : LineColumn) → places_left c (next_place c (record { leaf = r; column = k })) < places_left c (record { leaf = r; column = k })
  fewer_places column.Pin = first (nat_lt 0 (length c.nodes)) where
    first : (b : Bool) → (length c.leaves - r) * (length c.nodes + 3) - (1 + (if b then 0 else length c.nodes)) < (length c.leaves - r) * (length c.nodes + 3) - 0
    first true = omega (arith, rows)
    first false = omega (arith, rows)
  fewer_places (column.Goal n) = fewer_goals n (cases_lt n (length c.nodes))
  fewer_places column.Reason = omega (arith, rows)
