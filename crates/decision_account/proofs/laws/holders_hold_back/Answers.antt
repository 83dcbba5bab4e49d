use Rattle.decision_account.proofs.TrueHolders.{colocation_no, colocation_yes, has_holder, is_held, order_no, order_yes, told_place, told_promote}
use Rattle.decision_account.proofs.laws.holders_hold_back.Goals as goal

pub returns-clause-held : goal.returns-clause-held
returns-clause-held c = λ cl es chosen targets r n d valid are low within h. is_held cl es chosen targets valid are n within r low d h

pub returns-clause-by_rule : goal.returns-clause-by_rule
returns-clause-by_rule c = λ cl es chosen targets r n d valid are low within h. has_holder cl es chosen targets valid are n within r low d h

pub returns-clause-colocation : goal.returns-clause-colocation
returns-clause-colocation c = λ cl es chosen targets r n col valid are within present.
    (colocation_yes cl es chosen targets valid are n within r col present, colocation_no cl es chosen targets valid are n within r col present)

pub returns-clause-order : goal.returns-clause-order
returns-clause-order c = λ cl es chosen targets r n o valid are within present.
    (order_yes cl es chosen targets valid are n within r o present, order_no cl es chosen targets valid are n within r o present)

pub returns-clause-place : goal.returns-clause-place
returns-clause-place c = λ cl es chosen targets r n valid are low within held. told_place cl es chosen targets valid are n within r low held

pub returns-clause-promote : goal.returns-clause-promote
returns-clause-promote c = λ cl es chosen targets r n valid are low within held free. told_promote cl es chosen targets valid are n within r low held free
