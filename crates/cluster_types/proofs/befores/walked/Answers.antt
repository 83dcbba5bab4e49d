use Rattle.std.proofs.Common.{rules, arith, ◌≡◌, ◌||◌, ◌-◌, ◌+◌, true, false, length, replicate, ap, ◌∙◌}
use Rattle.std.specs.List.{list_any}
use Rattle.std.proofs.lemmas.List.{length-replicate}
use Rattle.listed.specs.Flags.{is_marked}
use Rattle.cluster_types.specs.Inner.Walks.{AreMarked, joins}
use Rattle.cluster_types.proofs.Walks.{at_first, ends_in, is_at, nothing_marked, one_gate_more}
use Rattle.cluster_types.proofs.befores.walked.Goals as goal

pub mark_sources-requires : goal.mark_sources-requires
mark_sources-requires c =
    let none : c.in_ok-marks.marks.items ≡ replicate c.args.edges.now.positions false = search rules in
    ends_in _ _ _ _ c.as_slice-list.ensures (ap length none ∙ length-replicate c.args.edges.now.positions false) c.requires.within

pub loop-lowest-init : goal.loop-lowest-init
loop-lowest-init c =
    let edges = c.args.edges.now in
    let none : c.in_ok-marks.marks.items ≡ replicate edges.positions false = search rules in
    record {
      size = c.mark_sources.ensures.size ∙ (ap length none ∙ length-replicate edges.positions false);
      above = c.requires.actions;
      within = omega arith;
      marked = at_first c.args.actions edges.positions edges.list c.args.position c.requires.within c.requires.upward c.in_ok-marks.marks.items
          c.mark_sources.new.marks.items (nothing_marked edges.positions c.in_ok-marks.marks.items none)
          (λ x. c.mark_sources.ensures.marked x ∙ ap (λ es. is_marked c.in_ok-marks.marks.items x || list_any (joins x c.args.position) es) c.as_slice-list.ensures);
    }

pub mark_sources-requires-in-loop-lowest : goal.mark_sources-requires-in-loop-lowest
mark_sources-requires-in-loop-lowest c = ends_in _ _ _ _ c.as_slice-list.ensures c.loop-lowest.invariant.size c.requires.within

pub loop-lowest-preserved : goal.loop-lowest-preserved
loop-lowest-preserved c =
    let l = c.loop-lowest in
    let edges = c.args.edges.now in
    let back : l.lowest - 1 + 1 ≡ l.lowest = omega arith in
    let before : AreMarked c.args.actions edges.list c.args.position (l.lowest - 1 + 1) l.marks.items = rw back l.invariant.marked in
    let here : is_marked l.marks.items (l.lowest - 1) ≡ true =
    is_at l.marks.items (l.lowest - 1) c.index.result.now (omega (arith, l.invariant.size, l.invariant.within)) c.index.ensures c.if-not-index.false in
    record {
      size = c.mark_sources-in-loop-lowest.ensures.size ∙ l.invariant.size;
      above = omega arith;
      within = omega (arith, l.invariant.within);
      marked = one_gate_more c.args.actions edges.positions edges.list c.args.position c.requires.within c.requires.upward (l.lowest - 1) l.marks.items
          (omega arith) before c.mark_sources-in-loop-lowest.new.marks.items here
          (λ x. c.mark_sources-in-loop-lowest.ensures.marked x ∙ ap (λ es. is_marked l.marks.items x || list_any (joins x (l.lowest - 1)) es) c.as_slice-list.ensures);
    }
