use Rattle.std.proofs.Common.{rules, ◌≡◌, ℕ, List, Result, Ok, Err, IfOk, OnOk, length, sym, subst}
use Rattle.std.proofs.lemmas.Result.{on_ok_weaker}
use Rattle.faults.specs.Carry.{IsDone}
use Rattle.edges.specs.declared.edge.Edge.{Edge}
use Rattle.edges.specs.Loops.{EndsWithin, HasNoLoop}
use Rattle.std.specs.List.Sorted.{IsPermutation}
use Rattle.placement.specs.Ties as spec
use Rattle.placement.specs.ChainOrder.{AreEdgesInOrder}
use Rattle.placement.proofs.TieSides.{end-at-leaves, in-any-order}
use Rattle.placement.proofs.totals.ties.ties_of.Goals as goal

when_done : {A E : Type 0} (P : A → Type 0) (value : A) (step : Result (Unit {0}) E) (made : Result A E) → OnOk step (P value) → IsDone value step made → IfOk made P
when_done P value step (Ok same) holds is = subst P (sym is.0) (subst (λ s. OnOk s (P value)) is.1 holds)
when_done P value step (Err error) holds is = tt

pub put_in_order-ordering-requires-clause-within : goal.put_in_order-ordering-requires-clause-within
put_in_order-ordering-requires-clause-within c =
    let listed : c.in_ok-ties.ties.items ≡ spec.ties_of c.args.cluster.now = search rules in
    subst (λ (n : ℕ). EndsWithin n c.in_ok-ties.ties.items) (sym c.len.ensures)
    (subst (EndsWithin (length c.args.cluster.now.leaves)) (sym listed) (end-at-leaves c.args.cluster.now c.requires))

pub returns-clause-ties : goal.returns-clause-ties
returns-clause-ties c =
    let listed : c.in_ok-ties.ties.items ≡ spec.ties_of c.args.cluster.now = search rules in
    when_done (λ ts. spec.AreTies c.args.cluster.now ts.items) c.put_in_order-ordering.new.edges c.put_in_order-ordering.result c.done.result
    (on_ok_weaker c.put_in_order-ordering.result
    (λ same. in-any-order c.args.cluster.now c.put_in_order-ordering.new.edges.items
    (subst (λ (ts : List Edge). IsPermutation ts c.put_in_order-ordering.new.edges.items) listed same)) c.put_in_order-ordering.ensures.same) c.done.ensures

pub returns-clause-ordered : goal.returns-clause-ordered
returns-clause-ordered c =
    let listed : c.in_ok-ties.ties.items ≡ spec.ties_of c.args.cluster.now = search rules in
    when_done (λ ts. HasNoLoop (spec.ties_of c.args.cluster.now) → AreEdgesInOrder ts.items)
    c.put_in_order-ordering.new.edges c.put_in_order-ordering.result c.done.result
    (on_ok_weaker c.put_in_order-ordering.result
    (λ ordered free. ordered (subst HasNoLoop (sym listed) free)) c.put_in_order-ordering.ensures.ordered)
    c.done.ensures
