use Rattle.std.proofs.Common.{arith, ◌∙◌, sym, inl, inr}
use Rattle.graph_exec.proofs.Pairs.{is_flying, not_flying}
use Rattle.graph_exec.proofs.transition.flight.InFlight.contains.Goals as goal

pub returns-then-number-eq0 : goal.returns-then-number-eq0
returns-then-number-eq0 c = rw (← c.self.view_is) (sym (not_flying _ c.self.invariant c.args.number (inl c.if-number-eq0.true)))

pub returns-then-number-most : goal.returns-then-number-most
returns-then-number-most c =
    let most = c.most.ensures in
    let more = c.if-number-most.true in
    rw (← c.self.view_is) (sym (not_flying _ c.self.invariant c.args.number (inr (omega arith))))

pub returns : goal.returns
returns c =
    let most = c.most.ensures in
    let within = c.if-number-most.false in
    let some = c.if-number-eq0.false in
    rw (← c.self.view_is) (c.contains.ensures ∙ sym (is_flying _ c.self.invariant c.args.number (omega arith) (omega arith)))
