use Rattle.std.proofs.Common.{arith, ◌≡◌, ◌<◌, ◌∙◌, [], length, slice_index_or, sym, ap, List, ℕ}
use Rattle.edges.specs.Inner.Rows.{row_of}
use Rattle.edges.proofs.Filled.{rows_many, row_there}
use Rattle.edges.proofs.rows.Rows.row.Goals as goal

pub row_at-requires-clause-within : goal.row_at-requires-clause-within
row_at-requires-clause-within c =
    let many : length c.args.self.now ≡ length c.self.inside.ends.items = ap length (sym c.self.view_is) ∙ rows_many c.self.inside.ends.items c.self.inside.targets.items in
    let low = c.requires in
    let same : length c.deref.result.now ≡ length c.self.inside.ends.items = ap length c.deref.ensures.value in
    omega arith

pub row_at-requires-clause-order : goal.row_at-requires-clause-order
row_at-requires-clause-order c =
    let many : length c.args.self.now ≡ length c.self.inside.ends.items = ap length (sym c.self.view_is) ∙ rows_many c.self.inside.ends.items c.self.inside.targets.items in
    let low = c.requires in
    rw c.deref.ensures.value (c.self.invariant.order c.args.position (omega arith))

pub row_at-requires-clause-room : goal.row_at-requires-clause-room
row_at-requires-clause-room c =
    let many : length c.args.self.now ≡ length c.self.inside.ends.items = ap length (sym c.self.view_is) ∙ rows_many c.self.inside.ends.items c.self.inside.targets.items in
    let low = c.requires in
    rw (c.deref.ensures.value, c.deref-2.ensures.value) (c.self.invariant.room c.args.position (omega arith))

pub returns : goal.returns
returns c =
    let many : length c.args.self.now ≡ length c.self.inside.ends.items = ap length (sym c.self.view_is) ∙ rows_many c.self.inside.ends.items c.self.inside.targets.items in
    let low : c.args.position < length c.self.inside.ends.items = let l = c.requires in omega arith in
    let there = row_there c.self.inside.ends.items c.self.inside.targets.items c.args.position low in
    let read : slice_index_or c.args.self.now c.args.position [] ≡ row_of c.self.inside.ends.items c.self.inside.targets.items c.args.position
    = ap (λ (rs : List (List ℕ)). slice_index_or rs c.args.position []) (sym c.self.view_is) ∙ there in
    rw (c.deref.ensures.value, c.deref-2.ensures.value) at c.row_at.ensures ∙ sym read
