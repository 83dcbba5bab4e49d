use Rattle.std.proofs.Common.{rules, arith, ◌≡◌, ◌<◌, ◌&&◌, ◌||◌, ℕ, Bool, Option, List, None, false, true, length, replicate, slice_index_or, Contains, sym, ap, subst, ◌∙◌}
use Rattle.std.specs.List.{list_any}
use Rattle.std.proofs.lemmas.List.{length-replicate}
use Rattle.std.proofs.lemmas.Result.{IfOk-at_ok}
use Rattle.edges.specs.Rows.{edge_targets}
use Rattle.placement.specs.Inner.Queueing.{ArePlaces, Waits, held, has_place, is_free}
use Rattle.placement.proofs.HeldCounts.{counted-first, none-ready}
use Rattle.placement.proofs.QueueSteps.{all-ready}
use Rattle.placement.proofs.order.queue.Queue.new.Goals as goal

pub places_of-places-requires-clause-within : goal.places_of-places-requires-clause-within
places_of-places-requires-clause-within c = subst (λ (xs : List ℕ). (x : ℕ) → Contains xs x → x < c.args.positions) (sym c.deref.ensures.value) c.requires.within

pub admit-requires-clause-made : goal.admit-requires-clause-made
admit-requires-clause-made c = λ x among.
    let same : c.in_ok-order-3.order ≡ c.args.order = search rules in
    let low = c.requires.within x (subst (λ (xs : List ℕ). Contains xs x) (c.deref-5.ensures.value ∙ ap (λ v. v.items) same) among) in
    let made = IfOk-at_ok _ c.in_ok-order-3.ensures.1 c.none_taken-none.ensures.made in
    let long : length c.deref-3.result.now ≡ c.args.positions = ap length (c.deref-3.ensures.value ∙ made) ∙ length-replicate c.args.positions false in
    omega (arith, low, long)

pub admit-requires-clause-counts : goal.admit-requires-clause-counts
admit-requires-clause-counts c = λ x among.
    let same : c.in_ok-order-3.order ≡ c.args.order = search rules in
    let low = c.requires.within x (subst (λ (xs : List ℕ). Contains xs x) (c.deref-5.ensures.value ∙ ap (λ v. v.items) same) among) in
    let counts : c.in_ok-order-3.counts ≡ c.in_ok-order-2.counts = search rules in
    let size = IfOk-at_ok _ c.in_ok-order-2.ensures.1 c.held_by-held.ensures.size in
    let long : length c.deref-4.result.now ≡ c.args.positions = ap length (c.deref-4.ensures.value ∙ ap (λ v. v.items) counts) ∙ size in
    omega (arith, low, long)

pub admit-requires-clause-places : goal.admit-requires-clause-places
admit-requires-clause-places c = λ x p h.
    let order = c.args.order.items in
    let places : c.in_ok-order-3.places ≡ c.in_ok-order.places = search rules in
    let filled = IfOk-at_ok _ c.in_ok-order.ensures.1 c.places_of-places.ensures.there in
    let there = filled.there x p (ap (λ (os : List (Option ℕ)). slice_index_or os x None) (sym (c.deref-2.ensures.value ∙ ap (λ v. v.items) places)) ∙ h) in
    let low : p < length c.deref.result.now = there.0 in
    let same : length c.deref.result.now ≡ length order = ap length c.deref.ensures.value in
    let kept : c.in_ok-order-2.order ≡ c.args.order = search rules in
    let size : length c.in_ok-order-2.order.items ≡ length order = ap (λ v. length v.items) kept in
    let count : c.len.result ≡ length order = omega arith in
    let none = IfOk-at_ok _ c.in_ok-order-3.ensures.1 c.none_taken-none.ensures.ready in
    let long : length c.in_ok-order-3.ready ≡ length order = ap length none ∙ (length-replicate c.len.result false ∙ count) in
    omega (arith, low, same, long)

pub returns-clause-queue : goal.returns-clause-queue
returns-clause-queue c =
    let order = c.args.order.items in
    let edges = c.args.edges.now in
    let positions = c.args.positions in
    let last = c.in_ok-order-3 in
    let kept : last.order ≡ c.args.order = search rules in
    let same : last.order.items ≡ order = ap (λ v. v.items) kept in
    let before : c.in_ok-order-2.order ≡ c.args.order = search rules in
    let places_kept : last.places ≡ c.in_ok-order.places = search rules in
    let rows_kept : last.rows ≡ c.in_ok-order-2.rows = search rules in
    let counts_kept : last.counts ≡ c.in_ok-order-2.counts = search rules in
    let none = IfOk-at_ok _ last.ensures.1 c.none_taken-none.ensures.made in
    let size : length c.in_ok-order-2.order.items ≡ length order = ap (λ v. length v.items) before in
    let count : c.len.result ≡ length order = omega arith in
    let empty : last.ready ≡ replicate (length order) false = IfOk-at_ok _ last.ensures.1 c.none_taken-none.ensures.ready ∙ ap (λ n. replicate n false) count in
    let places = last.places.items in
    let counts = last.counts.items in
    let made = last.made.items in
    let filled = IfOk-at_ok _ c.in_ok-order.ensures.1 c.places_of-places.ensures.there in
    let are : ArePlaces order places = subst (λ (xs : List ℕ). ArePlaces xs places) c.deref.ensures.value
    (subst (λ v. ArePlaces c.deref.result.now v.items) (sym places_kept) filled) in
    let rows : last.rows ≡ edge_targets positions edges = rows_kept ∙ IfOk-at_ok _ c.in_ok-order-2.ensures.1 c.held_by-held.ensures.rows in
    let counts_size = ap (λ v. length v.items) counts_kept ∙ IfOk-at_ok _ c.in_ok-order-2.ensures.1 c.held_by-held.ensures.size in
    let counted = IfOk-at_ok _ c.in_ok-order-2.ensures.1 c.held_by-held.ensures.counted in
    let test : List Bool → List ℕ → List (Option ℕ) → ℕ → ℕ → Bool = λ ms cs ps k y. is_free ms cs y && has_place ps y k in
    let ready : (k : ℕ) → slice_index_or c.admit.new.ready k false ≡ list_any (test made counts places k) order = λ k.
    c.admit.ensures.ready k
    ∙ (ap (λ (rs : List Bool). slice_index_or rs k false || list_any (test c.deref-3.result.now c.deref-4.result.now c.deref-2.result.now k) c.deref-5.result.now) empty
    ∙ (none-ready (length order) k (list_any (test c.deref-3.result.now c.deref-4.result.now c.deref-2.result.now k) c.deref-5.result.now)
    ∙ (ap (λ (ms : List Bool). list_any (test ms c.deref-4.result.now c.deref-2.result.now k) c.deref-5.result.now) c.deref-3.ensures.value
    ∙ (ap (λ (cs : List ℕ). list_any (test made cs c.deref-2.result.now k) c.deref-5.result.now) c.deref-4.ensures.value
    ∙ (ap (λ (ps : List (Option ℕ)). list_any (test made counts ps k) c.deref-5.result.now) c.deref-2.ensures.value
    ∙ ap (λ (xs : List ℕ). list_any (test made counts places k) xs) (c.deref-5.ensures.value ∙ same)))))) in
    record {
      ends = c.requires.ends;
      inside = subst (λ (xs : List ℕ). (x : ℕ) → Contains xs x → x < positions) (sym same) c.requires.within;
      rows = rows;
      places = subst (λ (xs : List ℕ). ArePlaces xs places) (sym same) are;
      waits = subst (λ (xs : List ℕ). Waits edges positions xs places made counts c.admit.new.ready) (sym same) (record {
        few = c.requires.few;
        made_size = ap length none ∙ length-replicate positions false;
        counts_size = counts_size;
        ready_size = c.admit.ensures.size ∙ (ap length empty ∙ length-replicate (length order) false);
        counted = λ x low. ap (λ v. slice_index_or v.items x 0) counts_kept ∙ (counted x low ∙ (counted-first edges positions x ∙ ap (λ (ms : List Bool). held edges ms x) (sym none)));
        readied = λ p lt. ready p ∙ all-ready order places are made counts p lt;
      });
    }

pub returns-clause-all : goal.returns-clause-all
returns-clause-all c =
    let places_kept : c.in_ok-order-3.places ≡ c.in_ok-order.places = search rules in
    subst (λ v. (x : ℕ) → Contains c.args.order.items x → (p : ℕ) × (has_place v.items x p ≡ true)) (sym places_kept)
    (subst (λ (xs : List ℕ). (x : ℕ) → Contains xs x → (p : ℕ) × (has_place c.in_ok-order.places.items x p ≡ true)) c.deref.ensures.value
    (IfOk-at_ok _ c.in_ok-order.ensures.1 c.places_of-places.ensures.all))
