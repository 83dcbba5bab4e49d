-- What a list of cells holds after one was set, or all of a node.
use Rattle.std.proofs.Common.{◌≡◌, ℕ, ◌+◌, ◌*◌, ◌<◌, ◌≤◌, ◌==◌, ◌&&◌, nat_lt, Bool, true, false, if◌then◌else◌, Option, Some, None, List, length, get_or, set, refl, sym, ap, ◌∙◌, eqb-true, arith}
use Rattle.std.proofs.lemmas.Bool.{and_parts}
use Rattle.std.proofs.lemmas.Bool.Decides.{nat_tests}
use Rattle.std.proofs.lemmas.List.{length-set}
use Rattle.std.proofs.lemmas.Option.{slice_get-get_or, slice_get_within}
use Rattle.std.proofs.Math.Bool.{and-false}
use Rattle.std.specs.Option.{option_map_or}
use Rattle.cluster_types.specs.declared.cluster.Cluster.{Cluster}
use Rattle.cluster_types.specs.declared.journal.Action.{Action}
use Rattle.cluster_types.specs.declared.journal.Action.TheVariants.{Fence, Probe, Operation, MigrateTo, MigrateFrom}
use Rattle.cluster_types.specs.declared.leaf.Op.{Op}
use Rattle.cluster_types.specs.declared.leaf.Op.TheVariants.{Start, Stop, Promote, Demote, Monitor}
use Rattle.cluster_types.specs.Fields.{is_promotable}
use Rattle.cluster_types.specs.Cells.{is_same_cell}
use Rattle.cluster_types.proofs.TableCells.{ordered, same_place, get-at, same_cell}
use Rattle.simulated.specs.declared.real.Real.{Real}
use Rattle.simulated.specs.declared.real.Real.TheVariants as real
use Rattle.simulated.specs.declared.real.Standing.{Standing}
use Rattle.simulated.specs.Turns.{with_node}
use Rattle.simulated.specs.KeptReality.{ListsCells, ListsNodes, IsAlone}
use Rattle.simulated.specs.RealWorlds.{Cells, after_op, begun, demoted, done, found_at, is_really_promoted, is_rising, is_there, risen, rising_from, undone, with_changed_cell, without_node}

module _ (c : Cluster) where
  -- the place of a cell that is there
  pub place_within : (kept : List Real) (r n : ℕ) → length kept ≡ length c.leaves * length c.nodes → r < length c.leaves → n < length c.nodes
      → r * length c.nodes + n < length kept
  place_within kept r n full leaf node = let low = ordered (length c.nodes) r n (length c.leaves) 0 node leaf in omega (arith, low, full)

  -- the same cells, said otherwise
  pub holds_as : (kept : List Real) (one other : Cells) → ListsCells c kept one → ((r n : ℕ) → r < length c.leaves → n < length c.nodes → one r n ≡ other r n)
      → ListsCells c kept other
  holds_as kept one other h same = record { each = λ r n l m. h.each r n l m ∙ ap Some (same r n l m) }

  pub holds_set : (kept : List Real) (leaf node : ℕ) (x : Real) (held : Cells) → length kept ≡ length c.leaves * length c.nodes → leaf < length c.leaves → node < length c.nodes → ListsCells c kept held
      → ListsCells c (set kept (leaf * length c.nodes + node) x) (with_changed_cell leaf node (λ y. x) held)
  holds_set kept leaf node x held full has_leaf has_node h = let at = leaf * length c.nodes + node in record {
    each = λ r n l m.
        let place = r * length c.nodes + n in
        let in_old = place_within kept r n full l m in
        let in_new : place < length (set kept at x) = omega (arith, in_old, length-set kept at x) in
        let same = same_place (length c.nodes) r n leaf node m has_node (r == leaf) refl ∙ same_cell r n leaf node in
        slice_get-get_or (set kept at x) place x in_new ∙ (ap Some (get-at kept place at x x (place_within kept leaf node full has_leaf has_node) (place == at) refl)
        ∙ split r n l m in_old (is_same_cell r n leaf node) (place == at) same refl);
  }
    where
      split : (r n : ℕ) → r < length c.leaves → n < length c.nodes → r * length c.nodes + n < length kept → (cell there : Bool) → there ≡ cell
          → is_same_cell r n leaf node ≡ cell
          → Some (if there then x else get_or kept (r * length c.nodes + n) x) ≡ Some (if is_same_cell r n leaf node then x else held r n)
      split r n l m low true true t s = rw s refl
      split r n l m low false false t s = rw s (sym (slice_get-get_or kept (r * length c.nodes + n) x low) ∙ h.each r n l m)
      split r n l m low true false t s = cc
      split r n l m low false true t s = cc

  -- what is found in a cell of the cluster is what it holds
  pub found_is : (held : Cells) (leaf node : ℕ) → leaf < length c.leaves → node < length c.nodes → found_at c held leaf node ≡ held leaf node
  found_is held leaf node l m =
      let has_leaf : nat_lt leaf (length c.leaves) ≡ true = grind (arith, nat_tests) in
      let has_node : nat_lt node (length c.nodes) ≡ true = grind (arith, nat_tests) in
      rw (has_leaf, has_node) refl

-- the cells of a node, leaf by leaf
abbrev pub so_far : ℕ → ℕ → Cells → Cells
so_far node leaf held r n = if nat_lt r leaf && node == n then real.Off else held r n

pub none_yet : (node : ℕ) (held : Cells) (r n : ℕ) → held r n ≡ so_far node 0 held r n
none_yet node held r n = let none : nat_lt r 0 ≡ false = grind (arith, nat_tests) in rw none refl

pub one_more : (node leaf : ℕ) (held : Cells) (r n : ℕ) → with_changed_cell leaf node (λ x. real.Off) (so_far node leaf held) r n ≡ so_far node (leaf + 1) held r n
one_more node leaf held r n = on (node == n) (leaf == r) (nat_lt r leaf) refl refl refl
  where
    on : (t here before : Bool) → (node == n) ≡ t → (leaf == r) ≡ here → nat_lt r leaf ≡ before
        → (if leaf == r && node == n then real.Off else (if nat_lt r leaf && node == n then real.Off else held r n))
        ≡ (if nat_lt r (leaf + 1) && node == n then real.Off else held r n)
    on true true before t h b = let more : nat_lt r (leaf + 1) ≡ true = grind (arith, nat_tests) in rw (t, h, more) refl
    on true false true t h b = let more : nat_lt r (leaf + 1) ≡ true = grind (arith, nat_tests) in rw (t, h, b, more) refl
    on true false false t h b = let more : nat_lt r (leaf + 1) ≡ false = grind (arith, nat_tests) in rw (t, h, b, more) refl
    on false here before t h b = let more = and-false (nat_lt r (leaf + 1)) in rw (t, and-false (leaf == r), and-false (nat_lt r leaf), more) refl

pub all_done : (node leaf : ℕ) (held : Cells) (r n : ℕ) → r < leaf → so_far node leaf held r n ≡ without_node node held r n
all_done node leaf held r n l = let here : nat_lt r leaf ≡ true = grind (arith, nat_tests) in rw here refl

abbrev cell_of : ℕ → ℕ → Option (ℕ × ℕ)
cell_of a b = Some (a, b)

one_pair : (a b x y : ℕ) → cell_of a b ≡ cell_of x y → (a ≡ x) × (b ≡ y)
one_pair a b x y e = (ap (λ (o : Option (ℕ × ℕ)). option_map_or (λ (p : ℕ × ℕ). p.0) o 0) e, ap (λ (o : Option (ℕ × ℕ)). option_map_or (λ (p : ℕ × ℕ). p.1) o 0) e)

-- what is found in a cell, of one that is there
module _ (c : Cluster) (leaf node : ℕ) (held : Cells) where
  same_found : (r n : ℕ) → r < length c.leaves → n < length c.nodes → is_same_cell r n leaf node ≡ true → found_at c held leaf node ≡ held r n
  same_found r n l m s =
      let parts = and_parts (leaf == r) (node == n) s in
      let here : leaf ≡ r = eqb-true leaf r parts.0 in
      let there : node ≡ n = eqb-true node n parts.1 in
      rw (here, there) (found_is c held r n l m)

  -- a cell that changes, by what is found there
  pub changed_to : (x : Real) (change : Real → Real) → x ≡ change (found_at c held leaf node) → (r n : ℕ) → r < length c.leaves → n < length c.nodes
      → with_changed_cell leaf node (λ y. x) held r n ≡ with_changed_cell leaf node change held r n
  changed_to x change is r n l m = on (is_same_cell r n leaf node) refl
    where
      on : (t : Bool) → is_same_cell r n leaf node ≡ t → (if t then x else held r n) ≡ (if t then change (held r n) else held r n)
      on true s = is ∙ ap change (same_found r n l m s)
      on false s = refl

  pub not_changed : (change : Real → Real) → found_at c held leaf node ≡ change (found_at c held leaf node) → (r n : ℕ) → r < length c.leaves → n < length c.nodes
      → held r n ≡ with_changed_cell leaf node change held r n
  not_changed change is r n l m = on (is_same_cell r n leaf node) refl
    where
      on : (t : Bool) → is_same_cell r n leaf node ≡ t → held r n ≡ (if t then change (held r n) else held r n)
      on true s = rw (same_found r n l m s) at is
      on false s = refl

  -- all that comes up has come up, where one cell alone did
  pub one_risen : IsAlone c (Some (leaf, node)) held → found_at c held leaf node ≡ real.Rising → (r n : ℕ) → r < length c.leaves → n < length c.nodes
      → with_changed_cell leaf node (λ y. real.Started) held r n ≡ risen (held r n)
  one_risen alone is r n l m = on (is_same_cell r n leaf node) refl
    where
      other : (x : Real) → (x ≡ real.Rising → ⊥) → x ≡ risen x
      other real.Off h = refl
      other real.Rising h = absurd (h refl)
      other real.Started h = refl
      other real.Promoted h = refl

      on : (t : Bool) → is_same_cell r n leaf node ≡ t → (if t then real.Started else held r n) ≡ risen (held r n)
      on true s = let here : held r n ≡ real.Rising = sym (same_found r n l m s) ∙ is in rw here refl
      on false s = other (held r n) (λ e.
          let pair = one_pair leaf node r n (alone r n l m e) in
          let here : leaf ≡ r = pair.0 in
          let there : node ≡ n = pair.1 in
          let same : is_same_cell r n leaf node ≡ true = let a : (r == r) ≡ true = grind arith in let b : (n == n) ≡ true = grind arith in rw (here, there, a, b) refl in
          cc)

  pub none_risen : IsAlone c (Some (leaf, node)) held → is_rising (found_at c held leaf node) ≡ false → (r n : ℕ) → r < length c.leaves → n < length c.nodes
      → held r n ≡ risen (held r n)
  none_risen alone isnt r n l m = other (held r n) refl
    where
      never : held r n ≡ real.Rising → ⊥
      never e =
          let pair = one_pair leaf node r n (alone r n l m e) in
          let here : leaf ≡ r = pair.0 in
          let there : node ≡ n = pair.1 in
          let found : found_at c held leaf node ≡ real.Rising = rw (here, there) (found_is c held r n l m ∙ e) in
          let no = rw found at isnt in
          cc

      other : (x : Real) → held r n ≡ x → x ≡ risen x
      other real.Off e = refl
      other real.Rising e = absurd (never e)
      other real.Started e = refl
      other real.Promoted e = refl

pub is_promoted_found : (x : Real) → is_really_promoted x ≡ true → real.Started ≡ demoted x
is_promoted_found real.Off h = cc
is_promoted_found real.Rising h = cc
is_promoted_found real.Started h = cc
is_promoted_found real.Promoted h = refl

pub not_promoted_found : (x : Real) → is_really_promoted x ≡ false → x ≡ demoted x
not_promoted_found real.Off h = refl
not_promoted_found real.Rising h = refl
not_promoted_found real.Started h = refl
not_promoted_found real.Promoted h = cc

pub is_rising_found : (x : Real) → is_rising x ≡ true → x ≡ real.Rising
is_rising_found real.Off h = cc
is_rising_found real.Rising h = refl
is_rising_found real.Started h = cc
is_rising_found real.Promoted h = cc

pub nothing_found : (x : Real) → is_there x ≡ false → real.Rising ≡ rising_from x
nothing_found real.Off h = refl
nothing_found real.Rising h = cc
nothing_found real.Started h = cc
nothing_found real.Promoted h = cc

pub something_found : (x : Real) → is_there x ≡ true → x ≡ rising_from x
something_found real.Off h = cc
something_found real.Rising h = refl
something_found real.Started h = refl
something_found real.Promoted h = refl

-- what an action makes of the cells lets none come up
module _ (c : Cluster) (held : Cells) (r n : ℕ) where
  set_rising : (leaf node : ℕ) (some : Bool) (x : Real) → is_rising x ≡ false → (if some then with_changed_cell leaf node (λ y. x) held else held) r n ≡ real.Rising
      → held r n ≡ real.Rising
  set_rising leaf node false x isnt e = e
  set_rising leaf node true x isnt e = on (is_same_cell r n leaf node) e
    where
      on : (t : Bool) → (if t then x else held r n) ≡ real.Rising → held r n ≡ real.Rising
      on true i = let no = ap is_rising i in cc
      on false i = i

  pub begun_rising : (a : Action) → begun c a held r n ≡ real.Rising → held r n ≡ real.Rising
  begun_rising (MigrateTo leaf source target) e = set_rising leaf target (is_there (found_at c held leaf source)) real.Started refl e
  begun_rising (Fence node) e = e
  begun_rising (Probe leaf node) e = e
  begun_rising (Operation op leaf node interval role) e = e
  begun_rising (MigrateFrom leaf source target) e = e

  pub undone_rising : (a : Action) → undone c a held r n ≡ real.Rising → held r n ≡ real.Rising
  undone_rising (MigrateTo leaf source target) e = set_rising leaf target (is_there (found_at c held leaf source)) real.Off refl e
  undone_rising (Fence node) e = e
  undone_rising (Probe leaf node) e = e
  undone_rising (Operation op leaf node interval role) e = e
  undone_rising (MigrateFrom leaf source target) e = e

  pub cleared_rising : (node : ℕ) → without_node node held r n ≡ real.Rising → held r n ≡ real.Rising
  cleared_rising node e = on (node == n) e
    where
      on : (t : Bool) → (if t then real.Off else held r n) ≡ real.Rising → held r n ≡ real.Rising
      on true i = let no = ap is_rising i in cc
      on false i = i

  op_rising : (op : Op) (leaf : ℕ) (x : Real) → after_op c op leaf x ≡ real.Rising → x ≡ real.Rising
  op_rising Start leaf x e = let no = ap is_rising e in cc
  op_rising Stop leaf x e = let no = ap is_rising e in cc
  op_rising Promote leaf x e = on (is_promotable c leaf) e
    where
      on : (t : Bool) → (if t then real.Promoted else real.Started) ≡ real.Rising → x ≡ real.Rising
      on true i = let no = ap is_rising i in cc
      on false i = let no = ap is_rising i in cc
  op_rising Demote leaf real.Off e = e
  op_rising Demote leaf real.Rising e = refl
  op_rising Demote leaf real.Started e = e
  op_rising Demote leaf real.Promoted e = let no = ap is_rising e in cc
  op_rising Monitor leaf x e = e

  pub done_rising : (a : Action) → done c a held r n ≡ real.Rising → held r n ≡ real.Rising
  done_rising (Fence node) e = cleared_rising node e
  done_rising (Probe leaf node) e = e
  done_rising (Operation op leaf node interval role) e = on (is_same_cell r n leaf node) e
    where
      on : (t : Bool) → (if t then after_op c op leaf (held r n) else held r n) ≡ real.Rising → held r n ≡ real.Rising
      on true i = op_rising op leaf (held r n) i
      on false i = i
  done_rising (MigrateTo leaf source target) e = set_rising leaf source (is_there (found_at c held leaf target)) real.Off refl e
  done_rising (MigrateFrom leaf source target) e = e

-- what a list of nodes holds after one was set
pub holds_node : (kept : List Standing) (node count : ℕ) (x : Standing) (held : ℕ → Standing) → node < length kept → ListsNodes count kept held
    → ListsNodes count (set kept node x) (with_node node x held)
holds_node kept node count x held there h n low =
    let in_old = slice_get_within kept n (held n) (h n low) in
    let in_new : n < length (set kept node x) = omega (arith, in_old, length-set kept node x) in
    let turned : (n == node) ≡ (node == n) = grind arith in
    slice_get-get_or (set kept node x) n x in_new ∙ (ap Some (get-at kept n node x x there (n == node) refl) ∙ on in_old (node == n) turned)
  where
    on : n < length kept → (t : Bool) → (n == node) ≡ t → Some (if n == node then x else get_or kept n x) ≡ Some (if t then x else held n)
    on in_old true e = rw e refl
    on in_old false e = rw e (sym (slice_get-get_or kept n x in_old) ∙ h n low)

pub holds_no_node : (kept : List Standing) (node count : ℕ) (x : Standing) (held : ℕ → Standing) → length kept ≤ node → ListsNodes count kept held
    → ListsNodes count kept (with_node node x held)
holds_no_node kept node count x held past h n low =
    let in_old = slice_get_within kept n (held n) (h n low) in
    let other : (node == n) ≡ false = grind arith in
    h n low ∙ rw other refl

-- without fencing nothing runs on where a node has left
pub holds_left : (c : Cluster) (kept : List Real) (held : Cells) (node : ℕ) → c.properties.fencing ≡ false → ListsCells c kept (without_node node held)
    → ListsCells c kept (if c.properties.fencing then held else without_node node held)
holds_left c kept held node off h =
    holds_as c kept (without_node node held) (if c.properties.fencing then held else without_node node held) h (λ r n l m. rw off refl)
