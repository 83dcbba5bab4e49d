-- Of which cells a journal has heard, with one event more.
use Rattle.std.proofs.Common.{◌≡◌, ℕ, ◌+◌, ◌*◌, ◌<◌, ◌≤◌, ◌==◌, Bool, true, false, not, ◌&&◌, ◌||◌, if◌then◌else◌, is_some, Some, List, [], ◌∷◌, ◌++◌, length, get_or, set, slice_get, replicate, refl, sym, ap, ◌∙◌, arith}
use Rattle.std.proofs.Math.Bool.{and-false, or-false}
use Rattle.std.proofs.lemmas.List.{length-set, length-replicate, get_or-replicate}
use Rattle.std.proofs.lemmas.Option.{slice_get-get_or}
use Rattle.cluster_types.specs.declared.cluster.Cluster.{Cluster}
use Rattle.cluster_types.specs.declared.journal.Event.{Event}
use Rattle.cluster_types.specs.Cells.{is_reset, is_same_cell}
use Rattle.cluster_types.specs.CellStates.{last_outcome}
use Rattle.cluster_types.specs.Failures.{is_outcome}
use Rattle.cluster_types.proofs.TableCells.{ordered, same_place, get-at, same_cell}
use Rattle.state_unpack.proofs.MoreFacts.{seen-after}
use Rattle.simulated.specs.Inner.Firsts.{HearsOutcomes, IsSaidOf}

module _ (c : Cluster) where
  -- the place of a cell that is there
  pub place_within : (count r n : ℕ) → count ≡ length c.leaves * length c.nodes → r < length c.leaves → n < length c.nodes → r * length c.nodes + n < count
  place_within count r n full l m = let low = ordered (length c.nodes) r n (length c.leaves) 0 m l in omega (arith, low, full)

  -- it was said of no cell
  pub said-none : (touched : ℕ → ℕ → Bool) (x : Bool) (heard : List Bool) → ((r n : ℕ) → r < length c.leaves → n < length c.nodes → touched r n ≡ false)
      → IsSaidOf c touched x heard heard
  said-none touched x heard none = record { len = refl; each = λ r n l m. rw (none r n l m) refl }

  -- of one cell
  module _ (leaf node : ℕ) (x : Bool) (heard : List Bool) where
    pub said-one : length heard ≡ length c.leaves * length c.nodes → leaf < length c.leaves → node < length c.nodes
        → IsSaidOf c (λ r n. is_same_cell r n leaf node) x heard (set heard (leaf * length c.nodes + node) x)
    said-one full has_leaf has_node = let at = leaf * length c.nodes + node in record {
      len = length-set heard at x;
      each = λ r n l m.
          let place = r * length c.nodes + n in
          let in_old = place_within (length heard) r n full l m in
          let in_new : place < length (set heard at x) = omega (arith, in_old, length-set heard at x) in
          let same = same_place (length c.nodes) r n leaf node m has_node (r == leaf) refl ∙ same_cell r n leaf node in
          slice_get-get_or (set heard at x) place x in_new
          ∙ (ap Some (get-at heard place at x x (place_within (length heard) leaf node full has_leaf has_node) (place == at) refl)
          ∙ split r n in_old (is_same_cell r n leaf node) (place == at) same refl);
    }
      where
        split : (r n : ℕ) → r * length c.nodes + n < length heard → (cell there : Bool) → there ≡ cell → is_same_cell r n leaf node ≡ cell
            → Some (if there then x else get_or heard (r * length c.nodes + n) x)
            ≡ (if is_same_cell r n leaf node then Some x else slice_get heard (r * length c.nodes + n))
        split r n low true true t s = rw s refl
        split r n low false false t s = rw s (sym (slice_get-get_or heard (r * length c.nodes + n) x low))
        split r n low true false t s = cc
        split r n low false true t s = cc

  -- of some, and then of others
  pub said-more : (first later all : ℕ → ℕ → Bool) (x : Bool) (old mid new : List Bool) → IsSaidOf c first x old mid → IsSaidOf c later x mid new
      → ((r n : ℕ) → r < length c.leaves → all r n ≡ (first r n || later r n)) → IsSaidOf c all x old new
  said-more first later all x old mid new a b is = record { len = b.len ∙ a.len; each = λ r n l m. b.each r n l m ∙ split r n l m (first r n) (later r n) refl refl }
    where
      split : (r n : ℕ) → r < length c.leaves → n < length c.nodes → (f t : Bool) → first r n ≡ f → later r n ≡ t
          → (if later r n then Some x else slice_get mid (r * length c.nodes + n)) ≡ (if all r n then Some x else slice_get old (r * length c.nodes + n))
      split r n l m true true e g = let here : all r n ≡ true = is r n l ∙ rw e refl in rw (g, here) refl
      split r n l m true false e g = let here : all r n ≡ true = is r n l ∙ rw e refl in rw (g, here) (a.each r n l m ∙ rw e refl)
      split r n l m false true e g = let here : all r n ≡ true = is r n l ∙ rw (e, g) refl in rw (g, here) refl
      split r n l m false false e g = let here : all r n ≡ false = is r n l ∙ rw (e, g) refl in rw (g, here) (a.each r n l m ∙ rw e refl)

  -- the same cells, said otherwise
  pub said-as : (touched all : ℕ → ℕ → Bool) (x : Bool) (old new : List Bool) → IsSaidOf c touched x old new
      → ((r n : ℕ) → r < length c.leaves → n < length c.nodes → all r n ≡ touched r n) → IsSaidOf c all x old new
  said-as touched all x old new a is = record { len = a.len; each = λ r n l m. a.each r n l m ∙ rw (is r n l m) refl }

  pub hears-said : (es : List Event) (e : Event) (touched : ℕ → ℕ → Bool) (x : Bool) (old new : List Bool) → IsSaidOf c touched x old new
      → ((r n : ℕ) (was : Bool) → (if touched r n then x else was) ≡ (not (is_reset r n e) && (was || is_outcome c r n e)))
      → HearsOutcomes c es old → HearsOutcomes c (es ++ e ∷ []) new
  hears-said es e touched x old new s is h = record { full = s.len ∙ h.full; each = λ r n l m. s.each r n l m ∙ split r n l m (touched r n) refl }
    where
      split : (r n : ℕ) → r < length c.leaves → n < length c.nodes → (t : Bool) → touched r n ≡ t
          → (if touched r n then Some x else slice_get old (r * length c.nodes + n)) ≡ Some (is_some (last_outcome c r n (es ++ e ∷ [])))
      split r n l m true t =
          let now = rw t at (is r n (is_some (last_outcome c r n es))) in
          rw t (ap Some (now ∙ sym (seen-after c r n es e (is_reset r n e) (is_outcome c r n e) refl refl)))
      split r n l m false t =
          let now = rw t at (is r n (is_some (last_outcome c r n es))) in
          rw t (h.each r n l m ∙ ap Some (now ∙ sym (seen-after c r n es e (is_reset r n e) (is_outcome c r n e) refl refl)))

  -- an event that is no outcome, and after which all that was heard still counts
  pub hears-still : (es : List Event) (e : Event) (heard : List Bool) → ((r n : ℕ) → is_reset r n e ≡ false) → ((r n : ℕ) → is_outcome c r n e ≡ false)
      → HearsOutcomes c es heard → HearsOutcomes c (es ++ e ∷ []) heard
  hears-still es e heard no_reset no_outcome h =
      hears-said es e (λ r n. false) false heard heard (said-none (λ r n. false) false heard (λ r n l m. refl)) (λ r n was. rw (no_reset r n, no_outcome r n) (sym (or-false was)))
      h

-- what an outcome that counts, or the end of what was heard, changes
pub forgets : (t was : Bool) → (if t then false else was) ≡ (not t && (was || false))
forgets true was = refl
forgets false true = refl
forgets false false = refl

pub hears : (t ignored was : Bool) → ignored ≡ false → (if t then true else was) ≡ (was || (t && not ignored))
hears true ignored true i = refl
hears true ignored false i = rw i refl
hears false ignored true i = refl
hears false ignored false i = refl

pub passes_over : (t ignored : Bool) → ignored ≡ true → (t && not ignored) ≡ false
passes_over true ignored i = rw i refl
passes_over false ignored i = refl
