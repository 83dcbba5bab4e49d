-- The actions of the resources of an order, where one is written at some of them (crmsh manual, order; what a resource without a promoted role takes is a
-- rule of this project).
use Rattle.std.specs.Prelude.{ℕ, if◌then◌else◌, List, [], ◌∷◌, Option, Some, None}
use Rattle.std.specs.List.{list_any}
use Rattle.crm_lex.specs.Names.{is}
use Rattle.crm_parse.specs.declared.draft.StepDraft.{StepDraft}
use Rattle.crm_parse.specs.declared.form.OrderStep.{OrderStep}
use Rattle.crm_parse.specs.declared.words.ActionWord.{ActionWord}
use Rattle.crm_parse.specs.declared.words.ActionWord.TheVariants.{Start, Stop, Promote, Demote}
use Rattle.crm_parse.specs.Reading.{Words}

-- what a resource without a promoted role does in the place of this action
abbrev pub unpromoted : ActionWord → ActionWord
unpromoted Promote = Start
unpromoted Demote = Stop
unpromoted action = action

-- the action that a resource takes from the one before it
abbrev pub taken_action : Words → ActionWord → List ℕ → ActionWord
taken_action promotable before resource =
    if list_any (λ name. is name resource) promotable then before else unpromoted before

-- the action of a resource of an order: the one that was written, else the one that it takes from the resource before it
abbrev pub action_in : Words → ActionWord → List ℕ → Option ActionWord → ActionWord
action_in promotable before resource (Some action) = action
action_in promotable before resource None = taken_action promotable before resource

abbrev pub action_after : Words → ActionWord → StepDraft → ActionWord
action_after promotable before step = action_in promotable before step.resource step.action

-- the resources of an order with their actions, where this is the action before the first one
abbrev pub with_actions : Words → ActionWord → List StepDraft → List OrderStep
with_actions promotable before [] = []
with_actions promotable before (step ∷ steps) =
    let action = action_after promotable before step in
    record { resource = step.resource; action = action } ∷ with_actions promotable action steps
