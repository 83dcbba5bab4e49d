use Rattle.std.proofs.Common.{ℕ, false, get_or, map, sym, ◌∙◌, arith}
use Rattle.std.proofs.lemmas.List.{length-set, ext_get_or}
use Rattle.std.proofs.lemmas.List.Edits.{fill_by_more}
use Rattle.std.proofs.lemmas.List.FromFn.{get_or-map-range_with_len, length-map-range_with_len}
use Rattle.std.specs.List.{range_with_len}
use Rattle.state_unpack.specs.Inner.Facts.{runs_after}
use Rattle.state_unpack.proofs.facts.running_after.Goals as goal

pub loop-index-preserved : goal.loop-index-preserved
loop-index-preserved c =
    let l = c.loop-index in
    let next = λ (i : ℕ). runs_after c.args.cluster.now c.args.leaf c.args.node c.args.event i (get_or c.args.running i false) in
    record {
      len = length-set l.after l.index _ ∙ l.invariant.len;
      said = rw c.runs_after.ensures (fill_by_more next l.after l.index false (omega (arith, l.invariant.len, c.loop-index-test.true)) l.invariant.said);
    }

pub returns : goal.returns
returns c =
    let l = c.loop-index in
    let next = λ (i : ℕ). runs_after c.args.cluster.now c.args.leaf c.args.node c.args.event i (get_or c.args.running i false) in
    ext_get_or false l.after (map next (range_with_len 0 8)) (l.invariant.len ∙ sym (length-map-range_with_len next 0 8))
    (λ i h. l.invariant.said i (omega (arith, l.invariant.len, c.loop-index-test.false)) ∙ sym (get_or-map-range_with_len next 0 8 i i false (omega (arith, l.invariant.len)) (omega arith)))
