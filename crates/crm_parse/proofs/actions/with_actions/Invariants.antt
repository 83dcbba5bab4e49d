use Rattle.std.proofs.Common.{◌≡◌, ◌++◌, drop}
use Rattle.crm_parse.specs.declared.words.ActionWord.TheVariants.{Start}
use Rattle.crm_parse.specs.OrderActions.{with_actions}
use Rattle.crm_parse.proofs.actions.with_actions.Given as goal

abbrev pub invariant-loop-step : goal.invariant-loop-step
invariant-loop-step l =
    with_actions l.promotable Start l.steps ≡ l.done ++ with_actions l.promotable l.action (drop l.step-index l.steps)
