use Rattle.std.proofs.Common.{arith, ◌≡◌, ◌<◌, ◌≤◌, ◌==◌, ◌+◌, ◌-◌, ◌&&◌, ◌||◌, ℕ, Bool, Option, List, [], None, false, true, length, count_by, slice_index_or, slice_set, Contains, sym, ap, subst, ◌∙◌}
use Rattle.std.specs.List.{list_any}
use Rattle.std.proofs.lemmas.List.{get_or_read, length-set}
use Rattle.edges.specs.Rows.{edge_targets_of}
use Rattle.placement.specs.Inner.Queueing.{Waits, has_place, is_free}
use Rattle.placement.proofs.QueueNext.{few, in-made, in-order, in-rows, open-yet, row-is, row-low}
use Rattle.placement.proofs.HeldCounts.{counted-next}
use Rattle.placement.proofs.QueueSteps.{readied-next}
use Rattle.placement.proofs.order.queue.Queue.take.Goals as goal

pub index_mut-requires : goal.index_mut-requires
index_mut-requires c =
    let q = c.args.self.now in
    let p = c.in_ok-place.place in
    let low = in-order c.requires.0 c.requires.1 q c.requires.2 p c.in_ok-place.ensures in
    let read = get_or_read q.order.items p c.index-position.result.now low c.index-position.ensures 0 in
    let made = in-made c.requires.0 c.requires.1 q c.requires.2 p c.in_ok-place.ensures in
    omega arith

pub row-row-requires : goal.row-row-requires
row-row-requires c =
    let q = c.args.self.now in
    let p = c.in_ok-place.place in
    let low = in-order c.requires.0 c.requires.1 q c.requires.2 p c.in_ok-place.ensures in
    let read = get_or_read q.order.items p c.index-position.result.now low c.index-position.ensures 0 in
    subst (λ x. x < length q.rows) (sym read) (in-rows c.requires.0 c.requires.1 q c.requires.2 p c.in_ok-place.ensures)

pub count_off_all-requires : goal.count_off_all-requires
count_off_all-requires c =
    let q = c.args.self.now in
    let p = c.in_ok-place.place in
    let low = in-order c.requires.0 c.requires.1 q c.requires.2 p c.in_ok-place.ensures in
    let read = get_or_read q.order.items p c.index-position.result.now low c.index-position.ensures 0 in
    let row : c.row-row.result.now ≡ edge_targets_of c.requires.0 (slice_index_or q.order.items p 0) =
    c.row-row.ensures ∙ (ap (λ (x : ℕ). slice_index_or q.rows x []) read ∙ row-is c.requires.0 c.requires.1 q c.requires.2 p c.in_ok-place.ensures) in
    subst (λ (xs : List ℕ). (x : ℕ) → count_by (◌==◌ x) xs ≤ slice_index_or q.counts.items x 0) (sym row)
    (few c.requires.0 c.requires.1 q c.requires.2 p c.in_ok-place.ensures)

pub admit-requires-clause-made : goal.admit-requires-clause-made
admit-requires-clause-made c = λ x among.
    let q = c.args.self.now in
    let p = c.in_ok-place.place in
    let low = in-order c.requires.0 c.requires.1 q c.requires.2 p c.in_ok-place.ensures in
    let read = get_or_read q.order.items p c.index-position.result.now low c.index-position.ensures 0 in
    let row : c.row-row.result.now ≡ edge_targets_of c.requires.0 (slice_index_or q.order.items p 0) =
    c.row-row.ensures ∙ (ap (λ (x : ℕ). slice_index_or q.rows x []) read ∙ row-is c.requires.0 c.requires.1 q c.requires.2 p c.in_ok-place.ensures) in
    let under = row-low c.requires.0 c.requires.1 q c.requires.2 p c.in_ok-place.ensures x (subst (λ (xs : List ℕ). Contains xs x) row among) in
    let size = c.requires.2.waits.made_size in
    let made : c.deref-2.result.now ≡ slice_set q.made.items c.index-position.result.now true = c.deref-2.ensures.value in
    let long : length c.deref-2.result.now ≡ length q.made.items = ap length made ∙ length-set q.made.items c.index-position.result.now true in
    omega (arith, under, size, long)

pub admit-requires-clause-counts : goal.admit-requires-clause-counts
admit-requires-clause-counts c = λ x among.
    let q = c.args.self.now in
    let p = c.in_ok-place.place in
    let low = in-order c.requires.0 c.requires.1 q c.requires.2 p c.in_ok-place.ensures in
    let read = get_or_read q.order.items p c.index-position.result.now low c.index-position.ensures 0 in
    let row : c.row-row.result.now ≡ edge_targets_of c.requires.0 (slice_index_or q.order.items p 0) =
    c.row-row.ensures ∙ (ap (λ (x : ℕ). slice_index_or q.rows x []) read ∙ row-is c.requires.0 c.requires.1 q c.requires.2 p c.in_ok-place.ensures) in
    let under = row-low c.requires.0 c.requires.1 q c.requires.2 p c.in_ok-place.ensures x (subst (λ (xs : List ℕ). Contains xs x) row among) in
    let size = c.requires.2.waits.counts_size in
    let long : length c.deref-3.result.now ≡ length q.counts.items = ap length c.deref-3.ensures.value ∙ c.count_off_all.ensures.size in
    omega (arith, under, size, long)

pub admit-requires-clause-places : goal.admit-requires-clause-places
admit-requires-clause-places c = λ x p h.
    let q = c.args.self.now in
    let there = (c.requires.2.places.there x p (ap (λ (os : List (Option ℕ)). slice_index_or os x None) (sym c.deref.ensures.value) ∙ h)).0 in
    let size = c.requires.2.waits.ready_size in
    let long : length c.remove.new.self ≡ length q.ready = ap length c.remove.ensures ∙ length-set q.ready _ false in
    omega (arith, there, size, long)

pub returns-clause-queue : goal.returns-clause-queue
returns-clause-queue c = λ edges positions is.
    let q = c.args.self.now in
    let p = c.in_ok-place.place in
    let first = c.in_ok-place.ensures in
    let low = in-order edges positions q is p first in
    let read = get_or_read q.order.items p c.index-position.result.now low c.index-position.ensures 0 in
    let x = slice_index_or q.order.items p 0 in
    let row : c.row-row.result.now ≡ edge_targets_of edges x =
    c.row-row.ensures ∙ (ap (λ (x : ℕ). slice_index_or q.rows x []) read ∙ row-is edges positions q is p first) in
    let less : (y : ℕ) → slice_index_or c.count_off_all.new.counts.items y 0 + count_by (◌==◌ y) (edge_targets_of edges x) ≡ slice_index_or q.counts.items y 0 =
    subst (λ (xs : List ℕ). (y : ℕ) → slice_index_or c.count_off_all.new.counts.items y 0 + count_by (◌==◌ y) xs ≡ slice_index_or q.counts.items y 0) row c.count_off_all.ensures.less in
    let back : p + 1 - 1 ≡ p = omega arith in
    let removed : c.remove.new.self ≡ slice_set q.ready p false = c.remove.ensures ∙ ap (λ k. slice_set q.ready k false) back in
    let made : c.deref-2.result.now ≡ slice_set q.made.items x true = c.deref-2.ensures.value ∙ ap (λ k. slice_set q.made.items k true) read in
    let made_in = in-made edges positions q is p first in
    let open_still = open-yet edges positions q is p first in
    let counts = c.count_off_all.new.counts.items in
    let test : List Bool → List ℕ → List (Option ℕ) → ℕ → ℕ → Bool = λ ms cs ps k y. is_free ms cs y && has_place ps y k in
    let ready : (k : ℕ) → slice_index_or c.admit.new.ready k false
    ≡ (slice_index_or (slice_set q.ready p false) k false || list_any (test (slice_set q.made.items x true) counts q.places.items k) (edge_targets_of edges x)) = λ k.
    c.admit.ensures.ready k
    ∙ (ap (λ (rs : List Bool). slice_index_or rs k false || list_any (test c.deref-2.result.now c.deref-3.result.now c.deref.result.now k) c.row-row.result.now) removed
    ∙ (ap (λ (ms : List Bool). slice_index_or (slice_set q.ready p false) k false || list_any (test ms c.deref-3.result.now c.deref.result.now k) c.row-row.result.now) made
    ∙ (ap (λ (cs : List ℕ). slice_index_or (slice_set q.ready p false) k false || list_any (test (slice_set q.made.items x true) cs c.deref.result.now k) c.row-row.result.now) c.deref-3.ensures.value
    ∙ (ap (λ (ps : List (Option ℕ)). slice_index_or (slice_set q.ready p false) k false || list_any (test (slice_set q.made.items x true) counts ps k) c.row-row.result.now) c.deref.ensures.value
    ∙ ap (λ (xs : List ℕ). slice_index_or (slice_set q.ready p false) k false || list_any (test (slice_set q.made.items x true) counts q.places.items k) xs) row)))) in
    let readied = readied-next q.order.items q.places.items is.places q.made.items q.counts.items q.ready is.waits.readied is.waits.ready_size p low first.is made_in
    (edge_targets_of edges x) counts less c.admit.new.ready ready in
    let counted = counted-next edges q.made.items x made_in open_still positions is.ends q.counts.items is.waits.counts_size is.waits.counted counts less in
    record {
      ends = is.ends;
      inside = is.inside;
      rows = is.rows;
      places = is.places;
      waits = subst (λ k. Waits edges positions q.order.items q.places.items (slice_set q.made.items k true) counts c.admit.new.ready) (sym read) (record {
        few = is.waits.few;
        made_size = length-set q.made.items x true ∙ is.waits.made_size;
        counts_size = c.count_off_all.ensures.size ∙ is.waits.counts_size;
        ready_size = c.admit.ensures.size ∙ (ap length removed ∙ (length-set q.ready p false ∙ is.waits.ready_size));
        counted = counted;
        readied = readied;
      });
    }
