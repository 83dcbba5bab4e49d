-- What one more event changes of what is kept of all cells.
use Rattle.std.proofs.Common.{◌≡◌, ℕ, ◌+◌, ◌*◌, ◌<◌, ◌==◌, nat_lt, Bool, true, false, ◌&&◌, ◌||◌, if◌then◌else◌, Some, List, [], ◌∷◌, ◌++◌, length, get_or, set, refl, sym, ap, ◌∙◌, eqb-true, arith, Option, None, slice_get, replicate}
use Rattle.std.proofs.lemmas.Bool.Decides.{nat_tests}
use Rattle.std.proofs.lemmas.List.{length-set, length-replicate, get_or-replicate}
use Rattle.std.proofs.lemmas.Option.{slice_get-get_or}
use Rattle.std.specs.Option.{option_map, option_map_or}
use Rattle.std.proofs.lemmas.Bool.{and_parts}
use Rattle.cluster_types.specs.declared.cluster.Cluster.{Cluster}
use Rattle.cluster_types.specs.declared.journal.Event.{Event}
use Rattle.cluster_types.specs.Cells.{is_same_cell}
use Rattle.cluster_types.proofs.TableCells.{ordered, same_place, get-at, same_cell}
use Rattle.state_unpack.specs.declared.facts.Facts.{Facts}
use Rattle.state_unpack.specs.Facts.{facts_of}
use Rattle.state_unpack.specs.Inner.Facts.{facts_after}
use Rattle.state_unpack.specs.KeptCells.{IsFull, cell_in, KeepsFacts}
use Rattle.state_unpack.specs.Inner.ToldCells.{TellsEvent}
use Rattle.state_unpack.specs.Inner.Touching.{touches}
use Rattle.state_unpack.proofs.MoreFacts.{facts-after}
use Rattle.state_unpack.proofs.StillFacts.{facts-stay}

-- the place of a cell that is there
pub within : (c : Cluster) (cells : List Facts) (r n : ℕ) → IsFull c cells → r < length c.leaves → n < length c.nodes → r * length c.nodes + n < length cells
within c cells r n full leaf node = let low = ordered (length c.nodes) r n (length c.leaves) 0 node leaf in omega (arith, low, full)

module _ (c : Cluster) (e : Event) where
  -- one cell was told
  module _ (leaf node : ℕ) (cells : List Facts) (x d : Facts) (full : IsFull c cells) (has_leaf : leaf < length c.leaves) (has_node : node < length c.nodes)
      (is : x ≡ facts_after c leaf node (get_or cells (leaf * length c.nodes + node) d) e) where
    pub tells-one : TellsEvent c e (λ r n. is_same_cell r n leaf node) cells (set cells (leaf * length c.nodes + node) x)
    tells-one = let at = leaf * length c.nodes + node in record {
      len = length-set cells at x;
      told = λ r n h k.
          let place = r * length c.nodes + n in
          let in_old = within c cells r n full h k in
          let in_new : place < length (set cells at x) = omega (arith, in_old, length-set cells at x) in
          let same = same_place (length c.nodes) r n leaf node k has_node (r == leaf) refl ∙ same_cell r n leaf node in
          slice_get-get_or (set cells at x) place d in_new ∙ (ap Some (get-at cells place at x d (within c cells leaf node full has_leaf has_node) (place == at) refl)
          ∙ split r n in_old (is_same_cell r n leaf node) (place == at) same refl);
    }
      where
        split : (r n : ℕ) → r * length c.nodes + n < length cells → (cell there : Bool) → there ≡ cell → is_same_cell r n leaf node ≡ cell
            → Some (if there then x else get_or cells (r * length c.nodes + n) d)
            ≡ (if is_same_cell r n leaf node then option_map (λ facts. facts_after c r n facts e) (cell_in c cells r n) else cell_in c cells r n)
        split r n low true true t s =
            let parts = and_parts (leaf == r) (node == n) s in
            let leaves : leaf ≡ r = eqb-true leaf r parts.0 in
            let nodes : node ≡ n = eqb-true node n parts.1 in
            rw (s, slice_get-get_or cells (r * length c.nodes + n) d low, ← leaves, ← nodes) (ap Some is)
        split r n low false false t s = rw (s, slice_get-get_or cells (r * length c.nodes + n) d low) refl
        split r n low true false t s = cc
        split r n low false true t s = cc

  -- so what is kept is what the events tell with this one
  pub keeps-more : (es : List Event) (old new : List Facts) → KeepsFacts c es old → TellsEvent c e (λ r n. touches r n e) old new → KeepsFacts c (es ++ e ∷ []) new
  keeps-more es old new k t = record {
    full = t.len ∙ k.full;
    told = λ r n h m. t.told r n h m ∙ (rw (k.told r n h m) (split r n (touches r n e) refl));
  }
    where
      split : (r n : ℕ) (x : Bool) → touches r n e ≡ x
          → (if touches r n e then Some (facts_after c r n (facts_of c r n es) e) else Some (facts_of c r n es)) ≡ Some (facts_of c r n (es ++ e ∷ []))
      split r n true x = rw x (ap Some (sym (facts-after c r n es e)))
      split r n false x = rw x (ap Some (sym (facts-stay c r n e x es)))

-- the cells of a node, leaf by leaf
pub leaf_by_leaf : (r n leaf node : ℕ) → (nat_lt r (leaf + 1) && node == n) ≡ (nat_lt r leaf && node == n || is_same_cell r n leaf node)
leaf_by_leaf r n leaf node = split (node == n) refl
  where
    more : nat_lt r (leaf + 1) ≡ (nat_lt r leaf || leaf == r)
    more = grind (arith, nat_tests)

    split : (t : Bool) → (node == n) ≡ t → (nat_lt r (leaf + 1) && node == n) ≡ (nat_lt r leaf && node == n || leaf == r && node == n)
    split true e = rw e (last (nat_lt r (leaf + 1)) (nat_lt r leaf) (leaf == r) more)
      where
        last : (a b d : Bool) → a ≡ (b || d) → (a && true) ≡ (b && true || d && true)
        last a true d h = rw h refl
        last a false true h = rw h refl
        last a false false h = rw h refl
    split false e = rw e (none (nat_lt r (leaf + 1)) (nat_lt r leaf) (leaf == r))
      where
        none : (a b d : Bool) → (a && false) ≡ (b && false || d && false)
        none true true true = refl
        none true true false = refl
        none true false true = refl
        none true false false = refl
        none false true true = refl
        none false true false = refl
        none false false true = refl
        none false false false = refl
