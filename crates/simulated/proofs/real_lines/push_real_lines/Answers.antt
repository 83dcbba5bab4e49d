use Rattle.std.proofs.Common.{◌≡◌, ◌++◌, sym, ap, ◌∙◌, append-nil, arith, length}
use Rattle.std.specs.List.{flat_map, range_with_len}
use Rattle.lemmas.proofs.Grown.{values_more}
use Rattle.simulated.specs.WorldTexts.{real_row}
use Rattle.simulated.proofs.real_lines.push_real_lines.Goals as goal

pub loop-leaf-init : goal.loop-leaf-init
loop-leaf-init c = λ w shows. sym (append-nil c.args.text.now.items)

pub loop-leaf-preserved : goal.loop-leaf-preserved
loop-leaf-preserved c = λ w shows.
    let l = c.loop-leaf in
    values_more (real_row c.args.cluster.now w.cells) l.leaf c.args.text.now.items l.text.items c.push_row.new.text.items (l.invariant w shows)
    (c.in_ok-push_row.ensures w shows)

pub returns : goal.returns
returns c = λ w shows.
    let l = c.loop-leaf in
    let of = c.args.cluster.now in
    let all : l.leaf ≡ length of.leaves = omega (arith, c.loop-leaf-test.false, c.loop-leaf.auto.leaf-end, c.len-leaf-end.ensures) in
    l.invariant w shows ∙ ap (λ k. c.args.text.now.items ++ flat_map (real_row of w.cells) (range_with_len 0 k)) all
