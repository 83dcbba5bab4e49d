-- The loads of nodes after one cell was set.
use Rattle.std.proofs.Common.{◌≡◌, ℕ, ◌+◌, ◌<◌, ◌≤◌, ◌==◌, Bool, true, false, not, ◌&&◌, if◌then◌else◌, List, length, map, set, refl, sym, ap, ◌∙◌, arith}
use Rattle.std.specs.Prelude.{slice_index, slice_set}
use Rattle.std.specs.List.{range_with_len}
use Rattle.std.proofs.lemmas.List.FromFn.{get_or-map-range_with_len, length-map-range_with_len, length-range_with_len}
use Rattle.std.proofs.lemmas.List.Sums.{count_by-le-length}
use Rattle.lemmas.proofs.Ranges.{map-same, map-set-range}
use Rattle.cluster_types.specs.declared.cluster.Cluster.{Cluster}
use Rattle.cluster_types.specs.declared.placement.Table.{Table}
use Rattle.cluster_types.specs.declared.placement.Target.{Target}
use Rattle.cluster_types.specs.Tables.{is_somewhere, load_of, targets_of, with_cell}
use Rattle.cluster_types.proofs.Loads.{load_grows, loads_stay, other_loads_stay}
use Rattle.plan_laws.proofs.TablesWithin.{whole}
use Rattle.placement.specs.Loads.{IsLoaded}

module _ (c : Cluster) (old : Table) (loads : List ℕ) (is : IsLoaded c old loads) where
  pub loads-fit : length loads ≡ length c.nodes
  loads-fit = ap length is.each ∙ length-map-range_with_len (load_of c (targets_of old)) 0 (length c.nodes)

  pub load-at : (n : ℕ) → n < length c.nodes → slice_index loads n ≡ load_of c (targets_of old) n
  load-at n low = ap (λ (xs : List ℕ). slice_index xs n) is.each ∙ get_or-map-range_with_len (load_of c (targets_of old)) 0 (length c.nodes) n n 0 low (omega arith)

  -- a load is no more than there are leaves
  pub few-loads : (n : ℕ) → n < length c.nodes → slice_index loads n ≤ length c.leaves
  few-loads n low =
      let at = load-at n low in
      let few = count_by-le-length (λ r. is_somewhere (targets_of old r n)) (range_with_len 0 (length c.leaves)) in
      let long = length-range_with_len 0 (length c.leaves) in
      omega (arith, at, few, long)

  module _ (r n : ℕ) (goal : Target) (new : Table) (after : List ℕ) (leaf : r < length c.leaves) (node : n < length c.nodes) (some : is_somewhere goal ≡ true)
      (wide : new.nodes ≡ old.nodes) (size : length new.targets ≡ length old.targets)
      (cells : (s m : ℕ) → targets_of new s m ≡ (if s == r && m == n then goal else targets_of old s m)) where
    changed : targets_of new ≡ with_cell (targets_of old) r n goal
    changed = whole (targets_of new) (with_cell (targets_of old) r n goal) cells

    abbrev before : ℕ → ℕ
    before = load_of c (targets_of old)

    abbrev behind : ℕ → ℕ
    behind = load_of c (with_cell (targets_of old) r n goal)

    -- a first target is counted
    grown : is_somewhere (targets_of old r n) ≡ false → slice_set loads n (slice_index loads n + 1) ≡ map behind (range_with_len 0 (length c.nodes))
    grown none =
        ap (λ (xs : List ℕ). set xs n (slice_index loads n + 1)) is.each
        ∙ map-set-range 0 before behind (length c.nodes) n (slice_index loads n + 1) node
        (load_grows c (targets_of old) r n goal leaf none some ∙ ap (λ (k : ℕ). k + 1) (sym (load-at n node)))
        (λ m other. other_loads_stay c (targets_of old) r n goal m other)

    -- another role isn't
    stayed : is_somewhere (targets_of old r n) ≡ true → loads ≡ map behind (range_with_len 0 (length c.nodes))
    stayed there =
        is.each ∙ map-same before behind (length c.nodes) (λ m low. sym (loads_stay c (targets_of old) r n goal (there ∙ sym some) m))

    by-first : (there : Bool) → is_somewhere (targets_of old r n) ≡ there
        → (if not there then slice_set loads n (slice_index loads n + 1) else loads) ≡ map behind (range_with_len 0 (length c.nodes))
    by-first true e = stayed e
    by-first false e = grown e

    pub loaded-after : after ≡ (if not (is_somewhere (targets_of old r n)) then slice_set loads n (slice_index loads n + 1) else loads) → IsLoaded c new after
    loaded-after counted = record {
      nodes = wide ∙ is.nodes;
      cells = size ∙ is.cells;
      each = counted ∙ (by-first (is_somewhere (targets_of old r n)) refl ∙ ap (λ t. map (load_of c t) (range_with_len 0 (length c.nodes))) (sym changed));
    }
