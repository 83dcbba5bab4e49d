-- What a simulated cluster is made of at first is what the journal says.
use Rattle.std.proofs.Common.{◌≡◌, ℕ, ◌+◌, ◌*◌, ◌<◌, ◌==◌, Bool, true, false, if◌then◌else◌, is_some, is_none, Option, Some, None, List, [], ◌∷◌, ◌++◌, length, length-append, slice_get, refl, sym, ap, ◌∙◌, eqb-true, arith}
use Rattle.std.proofs.lemmas.Bool.{and_parts}
use Rattle.std.proofs.lemmas.List.{get_or_push}
use Rattle.std.proofs.lemmas.Option.{slice_get-get_or}
use Rattle.lemmas.proofs.Members.{slice_get_left}
use Rattle.cluster_types.specs.declared.cluster.Cluster.{Cluster}
use Rattle.cluster_types.specs.declared.journal.Event.{Event}
use Rattle.cluster_types.specs.CellStates.{last_outcome}
use Rattle.cluster_types.specs.Journals.{last_sign}
use Rattle.cluster_types.specs.May.{may_be_running, may_be_promoted}
use Rattle.cluster_types.proofs.TableCells.{same_place}
use Rattle.simulated.specs.declared.real.Real.{Real}
use Rattle.simulated.specs.declared.real.Real.TheVariants as real
use Rattle.simulated.specs.declared.real.Standing.{Standing}
use Rattle.cases.specs.Draws.{state_after}
use Rattle.simulated.specs.KeptReality.{ListsCells, ListsNodes, ShowsWorld, reality}
use Rattle.simulated.specs.RealWorlds.{Cells, first_real, first_world, is_rising, standing_by}
use Rattle.simulated.specs.Inner.Firsts.{IsFilled}
use Rattle.simulated.proofs.Hearing.{place_within}

-- one element more is found where the list ended
module _ {X : Type 0} (xs : List X) (x : X) where
  new_found : (i : ℕ) → length xs ≡ i → slice_get (xs ++ x ∷ []) i ≡ Some x
  new_found i is = slice_get-get_or (xs ++ x ∷ []) i x (omega (arith, is, length-append xs (x ∷ []))) ∙ ap Some (get_or_push xs x x i is)

module _ (c : Cluster) where
  pub filled-push : (kept : List Real) (cells : Cells) (leaf node : ℕ) (x : Real) → length kept ≡ leaf * length c.nodes + node → node < length c.nodes
      → x ≡ cells leaf node → IsFilled c kept cells → IsFilled c (kept ++ x ∷ []) cells
  filled-push kept cells leaf node x len has_node is f =
      record { each = λ r n l m low. on r n l m low (r * length c.nodes + n == leaf * length c.nodes + node) refl }
    where
      on : (r n : ℕ) → r < length c.leaves → n < length c.nodes → r * length c.nodes + n < length (kept ++ x ∷ []) → (last : Bool)
          → (r * length c.nodes + n == leaf * length c.nodes + node) ≡ last → slice_get (kept ++ x ∷ []) (r * length c.nodes + n) ≡ Some (cells r n)
      on r n l m low true e =
          let parts = and_parts (r == leaf) (n == node) (sym (same_place (length c.nodes) r n leaf node m has_node (r == leaf) refl) ∙ e) in
          let leaves : r ≡ leaf = eqb-true r leaf parts.0 in
          let nodes : n ≡ node = eqb-true n node parts.1 in
          rw (leaves, nodes) (new_found kept x (leaf * length c.nodes + node) len ∙ ap Some is)
      on r n l m low false e =
          let earlier : r * length c.nodes + n < length kept = grind (arith, length-append kept (x ∷ [])) in
          slice_get_left kept (x ∷ []) (r * length c.nodes + n) earlier ∙ f.each r n l m earlier

  pub holds-filled : (kept : List Real) (cells : Cells) → length kept ≡ length c.leaves * length c.nodes → IsFilled c kept cells → ListsCells c kept cells
  holds-filled kept cells full f = record { each = λ r n l m. f.each r n l m (place_within c (length kept) r n full l m) }

-- how the nodes stand, with one more
pub nodes-push : (kept : List Standing) (held : ℕ → Standing) (count : ℕ) (x : Standing) → length kept ≡ count → x ≡ held count → ListsNodes count kept held
    → ListsNodes (count + 1) (kept ++ x ∷ []) held
nodes-push kept held count x len is h n low = on (n == count) refl
  where
    on : (last : Bool) → (n == count) ≡ last → slice_get (kept ++ x ∷ []) n ≡ Some (held n)
    on true e = let same : n ≡ count = eqb-true n count e in rw same (new_found kept x count len ∙ ap Some is)
    on false e = let earlier : n < length kept = grind arith in slice_get_left kept (x ∷ []) n earlier ∙ h n (omega (arith, earlier, len))

-- nothing comes up at first
never_rising : (c : Cluster) (es : List Event) (r n : ℕ) → first_real c es r n ≡ real.Rising → ⊥
never_rising c es r n = on (is_none (last_outcome c r n es)) (may_be_promoted c r n es) (may_be_running c r n es)
  where
    on : (unheard promoted runs : Bool)
        → (if unheard then real.Off else (if promoted then real.Promoted else (if runs then real.Started else real.Off))) ≡ real.Rising → ⊥
    on true promoted runs e = let no = ap is_rising e in cc
    on false true runs e = let no = ap is_rising e in cc
    on false false true e = let no = ap is_rising e in cc
    on false false false e = let no = ap is_rising e in cc

pub first_shows : (c : Cluster) (es : List Event) (nodes : List Standing) (cells : List Real) (number : ℕ)
    → ListsNodes (length c.nodes) nodes (λ n. standing_by c (last_sign n es)) → ListsCells c cells (first_real c es)
    → ShowsWorld (reality c nodes cells None number (state_after number 0) 0) (first_world c es)
first_shows c es nodes cells number n h = record {
  nodes = n;
  cells = h;
  alone = λ r m l k e. absurd (never_rising c es r m e);
  state = refl;
  faults = refl;
}
