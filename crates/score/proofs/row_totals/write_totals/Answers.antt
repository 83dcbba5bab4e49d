use Rattle.std.proofs.Common.{sym, ◌∙◌, arith}
use Rattle.score.proofs.RowLaws.{row_nodes, totals_stand}
use Rattle.score.proofs.row_totals.write_totals.Goals as goal

pub all_totals-requires-clause-minus : goal.all_totals-requires-clause-minus
all_totals-requires-clause-minus c =
    let v = c.row.inside in
    let ml = sym v.minus.ok.0 ∙ (c.row.invariant.0 ∙ v.sums.ok.0) in
    let pl = sym v.plus.ok.0 ∙ (c.row.invariant.1 ∙ v.sums.ok.0) in
    let n = row_nodes v.minus.items v.plus.items v.sums.items c.args.row.now ml pl c.row.view_is in
    let e = c.requires in
    rw c.deref.ensures.value (omega arith)

pub all_totals-requires-clause-plus : goal.all_totals-requires-clause-plus
all_totals-requires-clause-plus c =
    let v = c.row.inside in
    let ml = sym v.minus.ok.0 ∙ (c.row.invariant.0 ∙ v.sums.ok.0) in
    let pl = sym v.plus.ok.0 ∙ (c.row.invariant.1 ∙ v.sums.ok.0) in
    let n = row_nodes v.minus.items v.plus.items v.sums.items c.args.row.now ml pl c.row.view_is in
    let e = c.requires in
    rw c.deref-2.ensures.value (omega arith)

pub all_totals-requires-clause-sums : goal.all_totals-requires-clause-sums
all_totals-requires-clause-sums c =
    let v = c.row.inside in
    let ml = sym v.minus.ok.0 ∙ (c.row.invariant.0 ∙ v.sums.ok.0) in
    let pl = sym v.plus.ok.0 ∙ (c.row.invariant.1 ∙ v.sums.ok.0) in
    let n = row_nodes v.minus.items v.plus.items v.sums.items c.args.row.now ml pl c.row.view_is in
    let e = c.requires in
    rw c.deref-3.ensures.value (omega arith)

pub returns : goal.returns
returns c = λ terms h.
    let v = c.row.inside in
    let ml = sym v.minus.ok.0 ∙ (c.row.invariant.0 ∙ v.sums.ok.0) in
    let pl = sym v.plus.ok.0 ∙ (c.row.invariant.1 ∙ v.sums.ok.0) in
    let n = row_nodes v.minus.items v.plus.items v.sums.items c.args.row.now ml pl c.row.view_is in
    let e = c.requires in
    let each = rw (c.deref.ensures.value, c.deref-2.ensures.value, c.deref-3.ensures.value) at c.all_totals.ensures in
    totals_stand v.minus.items v.plus.items v.sums.items c.args.row.now ml pl c.row.view_is c.all_totals.new.out
    (c.all_totals.auto.out ∙ omega arith) each terms h
