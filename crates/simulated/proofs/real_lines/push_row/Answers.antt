use Rattle.std.proofs.Common.{◌≡◌, ℕ, ◌++◌, sym, ap, subst, ◌∙◌, append-nil, arith, length}
use Rattle.std.specs.List.{flat_map, range_with_len}
use Rattle.lemmas.proofs.Grown.{values_more}
use Rattle.simulated.specs.RealWorlds.{found_at}
use Rattle.simulated.specs.WorldTexts.{real_line}
use Rattle.simulated.proofs.real_lines.push_row.Goals as goal

pub loop-node-init : goal.loop-node-init
loop-node-init c = λ w shows. sym (append-nil c.args.text.now.items)

pub loop-node-preserved : goal.loop-node-preserved
loop-node-preserved c = λ w shows.
    let l = c.loop-node in
    let of = c.args.cluster.now in
    let found : c.real.result ≡ found_at of w.cells c.args.leaf l.node =
    subst (λ d. c.real.result ≡ found_at d w.cells c.args.leaf l.node) c.requires.same (c.real.ensures w shows) in
    let f = λ (n : ℕ). real_line of c.args.leaf n (found_at of w.cells c.args.leaf n) in
    values_more f l.node c.args.text.now.items l.text.items c.push_real.new.text.items (l.invariant w shows)
    (subst (λ x. c.push_real.new.text.items ≡ l.text.items ++ real_line of c.args.leaf l.node x) found c.in_ok-push_real.ensures)

pub returns : goal.returns
returns c = λ w shows.
    let l = c.loop-node in
    let of = c.args.cluster.now in
    let f = λ (n : ℕ). real_line of c.args.leaf n (found_at of w.cells c.args.leaf n) in
    let all : l.node ≡ length of.nodes = omega (arith, c.loop-node-test.false, c.loop-node.auto.node-end, c.len-node-end.ensures) in
    l.invariant w shows ∙ ap (λ k. c.args.text.now.items ++ flat_map f (range_with_len 0 k)) all
