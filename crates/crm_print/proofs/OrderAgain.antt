-- An order is read again from its words.
use Rattle.std.proofs.Common.{◌≡◌, ℕ, Bool, true, false, List, [], ◌∷◌, ◌++◌, Some, Ok, refl, sym, ap, ◌∙◌, append_assoc, append-nil}
use Rattle.std.specs.Prelude.{codes, map}
use Rattle.std.specs.List.{AllByRecursion}
use Rattle.crm_lex.specs.Names.{is_name}
use Rattle.crm_parse.specs.declared.draft.Draft.TheVariants as draft
use Rattle.crm_parse.specs.declared.draft.OrderDraft.{OrderDraft}
use Rattle.crm_parse.specs.declared.draft.StepDraft.{StepDraft}
use Rattle.crm_parse.specs.declared.form.Form.TheVariants as form
use Rattle.crm_parse.specs.declared.form.OrderStep.{OrderStep}
use Rattle.crm_parse.specs.declared.words.ActionWord.{ActionWord}
use Rattle.crm_parse.specs.declared.words.ActionWord.TheVariants.{Start, Stop, Promote, Demote}
use Rattle.crm_parse.specs.declared.words.KindWord.{KindWord}
use Rattle.crm_parse.specs.declared.words.KindWord.TheVariants.{Mandatory, Optional, Serialize}
use Rattle.crm_parse.specs.Order.{ends_steps, kind_at, kind_by_word, order_at, read_order_step, step_parts, order_steps_at, symmetrical_as, symmetrical_in, with_step, with_steps}
use Rattle.crm_parse.specs.OrderActions.{action_after, with_actions}
use Rattle.crm_parse.specs.Reading.{Words}
use Rattle.crm_parse.specs.Statements.{finished}
use Rattle.crm_parse.specs.Values.{action_of}
use Rattle.crm_parse.specs.WordTexts.{action_word_text, bool_text, kind_text}
use Rattle.crm_parse.proofs.Binds.{name_at-again}
use Rattle.crm_parse.proofs.PairsAgain.{cut_at-again}
use Rattle.crm_parse.proofs.PairWords.{has}
use Rattle.crm_parse.proofs.LackedBytes.{has-append, name-lacks, no_label}
use Rattle.crm_print.proofs.Written.{step_word}
use Rattle.crm_parse.proofs.OrderRead.{Named, actions-named, IsOrder}

-- a step with the action that it was given
abbrev pub done_step : OrderStep → StepDraft
done_step step = record { resource = step.resource; action = Some step.action }

-- an order with the actions that it was given
abbrev pub done_order : Words → OrderDraft → OrderDraft
done_order promotable order =
    record { id = order.id; kind = order.kind; steps = map done_step (with_actions promotable Start order.steps); symmetrical = order.symmetrical }

-- the words behind the first of an order
abbrev pub order_words : List ℕ → KindWord → List OrderStep → Bool → Words
order_words id kind steps symmetrical = id ∷ (kind_text kind ++ codes ":") ∷ (map step_word steps ++ (codes "symmetrical=" ++ bool_text symmetrical) ∷ [])

-- an action is read again
action_again : (action : ActionWord) → action_of (action_word_text action) ≡ Some action
action_again Start = refl
action_again Stop = refl
action_again Promote = refl
action_again Demote = refl

action_lacks : (action : ActionWord) → has 61 (58 ∷ action_word_text action) ≡ false
action_lacks Start = refl
action_lacks Stop = refl
action_lacks Promote = refl
action_lacks Demote = refl

-- a step is read again
step_of-again : (step : OrderStep) → Named step → read_order_step (step_word step) ≡ Ok (done_step step)
unfolding read_order_step
step_of-again step h =
    rw (step_parts, cut_at-again 58 step.resource (action_word_text step.action) (name-lacks 58 step.resource refl h.named), h.read, action_again step.action) refl

step_goes_on : (step : OrderStep) → Named step → ends_steps (step_word step) ≡ false
step_goes_on step h =
    rw (no_label 61 (codes "symmetrical") [] (step_word step) (has-append 61 step.resource (58 ∷ action_word_text step.action) (name-lacks 61 step.resource refl h.named) (action_lacks step.action))) refl

-- some steps are read again
with_steps-again : (before : List StepDraft) (steps : List OrderStep) (both : Bool) → AllByRecursion Named steps
    → with_steps before (map step_word steps ++ (codes "symmetrical=" ++ bool_text both) ∷ []) ≡ Ok (before ++ map done_step steps, (codes "symmetrical=" ++ bool_text both) ∷ [])
with_steps-again before [] both h = rw (append-nil before) refl
with_steps-again before (step ∷ steps) both h =
    rw (step_goes_on step h.0, step_of-again step h.0) (
    with_steps-again (before ++ done_step step ∷ []) steps both h.1
    ∙ ap (λ (ss : List StepDraft). Ok (ss, (codes "symmetrical=" ++ bool_text both) ∷ [])) (append_assoc before (done_step step ∷ []) (map done_step steps))
    )

with_step-again : (before : List StepDraft) (step : OrderStep) (words : Words) → Named step → with_step before (step_word step ∷ words) ≡ Ok (before ++ done_step step ∷ [], words)
unfolding with_step
with_step-again before step words h = rw (step_of-again step h) refl

steps_at-again : (one two : OrderStep) (steps : List OrderStep) (both : Bool) → Named one → Named two → AllByRecursion Named steps
    → order_steps_at (map step_word (one ∷ two ∷ steps) ++ (codes "symmetrical=" ++ bool_text both) ∷ [])
    ≡ Ok (map done_step (one ∷ two ∷ steps), (codes "symmetrical=" ++ bool_text both) ∷ [])
unfolding order_steps_at
steps_at-again one two steps both h k all =
    let end : Words = (codes "symmetrical=" ++ bool_text both) ∷ [] in
    rw (with_step-again [] one (step_word two ∷ (map step_word steps ++ end)) h, with_step-again (done_step one ∷ []) two (map step_word steps ++ end) k)
    (with_steps-again (done_step one ∷ done_step two ∷ []) steps both all)

-- steps that have their actions keep them
actions-again : (promotable : Words) (action : ActionWord) (steps : List OrderStep) → with_actions promotable action (map done_step steps) ≡ steps
actions-again promotable action [] = refl
actions-again promotable action (step ∷ steps) = ap (λ ss. step ∷ ss) (actions-again promotable step.action steps)

kind_at-again : (kind : KindWord) (words : Words) → kind_at ((kind_text kind ++ codes ":") ∷ words) ≡ Ok (kind, words)
unfolding kind_at kind_by_word
kind_at-again Mandatory words = refl
kind_at-again Optional words = refl
kind_at-again Serialize words = refl

symmetrical_in-again : (kind : KindWord) (both : Bool) → symmetrical_as kind both ≡ Ok both → symmetrical_in kind (Some (bool_text both)) ≡ Ok both
unfolding symmetrical_in
symmetrical_in-again kind true h = h
symmetrical_in-again kind false h = h

order-made : (id : List ℕ) (kind : KindWord) (one two : OrderStep) (more : List OrderStep) (both : Bool) → is_name id ≡ true → Named one → Named two
    → AllByRecursion Named more → symmetrical_as kind both ≡ Ok both
    → order_at (order_words id kind (one ∷ two ∷ more) both) ≡ Ok (record { id = id; kind = kind; steps = map done_step (one ∷ two ∷ more); symmetrical = both })
unfolding order_at
order-made id kind one two more both named first second others fits =
    let end : Words = (codes "symmetrical=" ++ bool_text both) ∷ [] in
    let steps = map step_word (one ∷ two ∷ more) ++ end in
    rw (
      name_at-again id ((kind_text kind ++ codes ":") ∷ steps) named,
      kind_at-again kind steps,
      steps_at-again one two more both first second others,
      symmetrical_in-again kind both fits,
    ) refl

-- some steps with their actions are those of the order that was written with them
order-steps : (promotable : Words) (order : OrderDraft) (steps : List OrderStep) → is_name order.id ≡ true → symmetrical_as order.kind order.symmetrical ≡ Ok order.symmetrical
    → (one two : OrderStep) (more : List OrderStep) → steps ≡ one ∷ two ∷ more → Named one → Named two → AllByRecursion Named more
    → order_at (order_words order.id order.kind steps order.symmetrical)
    ≡ Ok (record { id = order.id; kind = order.kind; steps = map done_step steps; symmetrical = order.symmetrical })
order-steps promotable order steps named fits one two more s first second others =
    rw s (order-made order.id order.kind one two more order.symmetrical named first second others fits)

-- an order is read again with the actions that it was given
pub order-again : (promotable : Words) (order : OrderDraft) → IsOrder order
    → order_at (order_words order.id order.kind (with_actions promotable Start order.steps) order.symmetrical) ≡ Ok (done_order promotable order)
order-again promotable order h =
    let a = action_after promotable Start h.one in
    let b = action_after promotable a h.two in
    let one : OrderStep = record { resource = h.one.resource; action = a } in
    let two : OrderStep = record { resource = h.two.resource; action = b } in
    let steps : with_actions promotable Start order.steps ≡ one ∷ two ∷ with_actions promotable b h.more = ap (with_actions promotable Start) h.steps in
    order-steps promotable order (with_actions promotable Start order.steps) h.named h.fits one two (with_actions promotable b h.more) steps
    h.first h.second (actions-named promotable b h.more h.others)

-- and says the same, whichever resources have a promoted role
pub order-finished : (promotable other : Words) (order : OrderDraft) → finished other (draft.Order (done_order promotable order)) ≡ finished promotable (draft.Order order)
order-finished promotable other order =
    ap (λ ss. form.Order order.id order.kind ss order.symmetrical) (actions-again other Start (with_actions promotable Start order.steps))
