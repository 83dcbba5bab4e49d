use Rattle.std.proofs.Common.{arith, ◌+◌, ◌-◌, ◌||◌, ◌∙◌, true, List, ℕ, get_or, ap, subst, Contains}
use Rattle.std.proofs.lemmas.List.{length-set, take_all}
use Rattle.std.proofs.lemmas.List.Elements.{Contains-get_or}
use Rattle.edges.specs.Sources.{is_in_list}
use Rattle.listed.specs.Flags.{is_marked}
use Rattle.trace_text.proofs.Places.{with_next}
use Rattle.trace_text.proofs.found_positions.find_sources.Goals as goal

pub overflow_add-source : goal.overflow_add-source
overflow_add-source c =
    let row = c.row-source-items.result.now in
    let i = c.loop-source.source-index in
    let within = c.requires.within (get_or row i 0)
    (subst (λ (xs : List ℕ). Contains xs (get_or row i 0)) c.row-source-items.ensures (Contains-get_or row i 0 c.loop-source-test.true)) in
    omega (arith, within)

pub insert-requires-clause-to_most : goal.insert-requires-clause-to_most
insert-requires-clause-to_most c =
    let row = c.row-source-items.result.now in
    let i = c.loop-source.source-index in
    let within = c.requires.within (get_or row i 0)
    (subst (λ (xs : List ℕ). Contains xs (get_or row i 0)) c.row-source-items.ensures (Contains-get_or row i 0 c.loop-source-test.true)) in
    omega (arith, within, c.loop-source.invariant.size)

pub loop-source-preserved : goal.loop-source-preserved
loop-source-preserved c =
    let l = c.loop-source in
    let row = c.row-source-items.result.now in
    let i = l.source-index in
    let within = c.requires.within (get_or row i 0)
    (subst (λ (xs : List ℕ). Contains xs (get_or row i 0)) c.row-source-items.ensures (Contains-get_or row i 0 c.loop-source-test.true)) in
    rw c.insert.ensures (record {
      size = length-set l.found (get_or row i 0 + 1 - 1) true ∙ l.invariant.size;
      so_far = with_next l.found c.args.found.now row i c.loop-source-test.true (omega (arith, within, l.invariant.size)) l.invariant.so_far;
    })

pub returns-clause-found : goal.returns-clause-found
returns-clause-found c = λ x.
    let l = c.loop-source in
    let row = c.row-source-items.result.now in
    l.invariant.so_far x
    ∙ ap (λ (xs : List ℕ). is_marked c.args.found.now x || is_in_list xs x) (take_all l.source-index row (omega (arith, c.loop-source-test.false)) ∙ c.row-source-items.ensures)
