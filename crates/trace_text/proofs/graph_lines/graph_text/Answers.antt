use Rattle.std.proofs.Common.{arith, ◌≡◌, ◌+◌, ◌-◌, ◌∙◌, ap, sym, [], length, Some}
use Rattle.std.specs.List.{enumerate_from, flat_map}
use Rattle.std.specs.Prelude.{slice_get}
use Rattle.std.proofs.lemmas.List.{take_all}
use Rattle.std.proofs.lemmas.List.FromFn.{length-enumerate_from}
use Rattle.std.proofs.lemmas.Option.{get_or_from_slice_get, slice_get_within}
use Rattle.cluster_types.specs.Graphs.{is_before}
use Rattle.cluster_types.specs.Texts.{graph_line}
use Rattle.trace_text.proofs.MoreLines.{numbered_more}
use Rattle.trace_text.proofs.graph_lines.graph_text.Goals as goal

pub loop-place-preserved : goal.loop-place-preserved
loop-place-preserved c =
    let l = c.loop-place in
    let g = c.args.graph.now in
    let x = c.action-action.result in
    let back : l.place + 1 - 1 ≡ l.place = omega arith in
    let there : slice_get g.actions l.place ≡ Some x = rw back at c.action-action.ensures in
    record {
      so_far =
          numbered_more (graph_line c.args.cluster.now (is_before g) (length g.actions)) 1 [] l.text.items c.push_line.new.text.items g.actions l.place (l.place + 1) x
          (slice_get_within g.actions l.place x there) (sym (get_or_from_slice_get g.actions l.place x x there)) (omega arith) l.invariant.so_far
          (rw l.invariant.graph at c.in_ok-push_line.ensures.line);
      graph = c.in_ok-push_line.ensures.graph ∙ l.invariant.graph;
    }

pub returns : goal.returns
returns c =
    let l = c.loop-place in
    let g = c.args.graph.now in
    l.invariant.so_far
    ∙ ap (flat_map (graph_line c.args.cluster.now (is_before g) (length g.actions)))
    (take_all l.place (enumerate_from 1 g.actions) (omega (arith, length-enumerate_from 1 g.actions, c.loop-place-test.false, c.count-place-end.ensures)))
