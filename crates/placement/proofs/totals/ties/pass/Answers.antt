use Rattle.std.proofs.Common.{refl, ◌≡◌, ◌≤◌, ◌+◌, ◌||◌, Bool, List, false, cond, length, sym, ap, subst, ◌∙◌, slice_index_or}
use Rattle.std.proofs.lemmas.Bool.{or_parts}
use Rattle.std.proofs.lemmas.List.{get_or_default, take_all}
use Rattle.lemmas.proofs.Members.{all_more}
use Rattle.edges.specs.declared.edge.Edge.{Edge}
use Rattle.placement.specs.Inner.Ties.{AreTied, is_missed, with_mark_if, unmarked}
use Rattle.placement.proofs.TieMarks.{tied-if, fewer-if, fewer-or}
use Rattle.placement.proofs.totals.ties.pass.Goals as goal

pub loop-tie-preserved : goal.loop-tie-preserved
loop-tie-preserved c =
    let l = c.loop-tie in
    let ties = c.args.ties.now in
    let leaf = c.args.leaf in
    let i = l.tie-index in
    let lt = c.loop-tie-test.true in
    -- what the loop reads at this place
    let tie : Edge = slice_index_or ties i (record { before = 0; after = 0 }) in
    let is : tie ≡ slice_index_or ties i tie = get_or_default ties i _ tie lt in
    let missed = is_missed leaf l.marks.items tie in
    let new : c.follow-changed.new.marks.items ≡ with_mark_if l.marks.items tie.after missed = c.follow-changed.ensures.marks in
    let found : c.follow-changed.result ≡ missed = c.follow-changed.ensures.missed in
    let still : (l.changed || c.follow-changed.result) ≡ false → missed ≡ false = λ e. sym found ∙ (or_parts l.changed c.follow-changed.result e).1 in
    record {
      tied = λ k exact at_first. subst (AreTied k leaf) (sym new)
          (tied-if leaf l.marks.items tie k ties exact (i, lt, sym is) (l.invariant.tied k exact at_first) missed refl);
      fewer = fewer-or (unmarked c.args.marks.now.items) (unmarked l.marks.items) (unmarked c.follow-changed.new.marks.items) l.changed c.follow-changed.result
          (subst (λ (ms : List Bool). unmarked ms + cond c.follow-changed.result 1 0 ≡ unmarked l.marks.items) (sym new)
          (subst (λ (b : Bool). unmarked (with_mark_if l.marks.items tie.after missed) + cond b 1 0 ≡ unmarked l.marks.items) (sym found)
          (fewer-if leaf l.marks.items tie missed refl)))
          l.invariant.fewer;
      same = λ e. new ∙ (ap (with_mark_if l.marks.items tie.after) (still e) ∙ l.invariant.same (or_parts l.changed c.follow-changed.result e).0);
      none = λ e.
          all_more (λ (t : Edge). is_missed leaf c.args.marks.now.items t ≡ false) ties i tie lt is
          (l.invariant.none (or_parts l.changed c.follow-changed.result e).0)
          (subst (λ (ms : List Bool). is_missed leaf ms tie ≡ false) (l.invariant.same (or_parts l.changed c.follow-changed.result e).0) (still e));
    }

pub returns-clause-none : goal.returns-clause-none
returns-clause-none c = λ e tie among.
    let end : length c.args.ties.now ≤ c.loop-tie.tie-index = c.loop-tie-test.false in
    subst (λ ms. is_missed c.args.leaf ms tie ≡ false) (sym (c.loop-tie.invariant.same e))
    (c.loop-tie.invariant.none e tie (rw (take_all c.loop-tie.tie-index c.args.ties.now end) among))
