-- What an order that was read has, and the names of its steps.
use Rattle.std.proofs.Common.{◌≡◌, ℕ, Bool, true, false, List, [], ◌∷◌, ◌++◌, Option, Some, None, Ok, refl, sym, ap, ◌∙◌, subst, append_assoc, append-nil}
use Rattle.std.specs.Prelude.{codes, not}
use Rattle.std.specs.List.{AllByRecursion}
use Rattle.std.specs.Option.{ok_or}
use Rattle.crm_lex.specs.Names.{is_name}
use Rattle.crm_parse.specs.declared.draft.OrderDraft.{OrderDraft}
use Rattle.crm_parse.specs.declared.draft.StepDraft.{StepDraft}
use Rattle.crm_parse.specs.declared.fault.ParseCause.TheVariants.{BadValue}
use Rattle.crm_parse.specs.declared.form.OrderStep.{OrderStep}
use Rattle.crm_parse.specs.declared.words.ActionWord.{ActionWord}
use Rattle.crm_parse.specs.declared.words.KindWord.{KindWord}
use Rattle.crm_parse.specs.declared.words.KindWord.TheVariants.{Mandatory, Optional, Serialize}
use Rattle.crm_parse.specs.Order.{ends_steps, is_serialize_word, kind_at, order_at, read_order_step, step_parts, order_steps_at, symmetrical_as, symmetrical_in, with_step, with_steps, written_action}
use Rattle.crm_parse.specs.OrderActions.{action_after, with_actions}
use Rattle.crm_parse.specs.Reading.{Words, end_at, name_at, prefixed_at, resource_of, next_word_in}
use Rattle.faults.specs.Reading.{◌>>=◌}
use Rattle.crm_parse.specs.Values.{bool_of}
use Rattle.crm_parse.proofs.Binds.{name_at-ok}
use Rattle.faults.proofs.Steps.{bind-ok}
use Rattle.crm_parse.proofs.ResourceNames.{IsResource, resource-ok}

abbrev pub Named : OrderStep → Type 0
Named step = IsResource step.resource

abbrev pub NamedDraft : StepDraft → Type 0
NamedDraft step = IsResource step.resource

-- what an order that was read has
pub record IsOrder (order : OrderDraft) : Type 0 where
  pub named : is_name order.id ≡ true
  pub one : StepDraft
  pub two : StepDraft
  pub more : List StepDraft
  pub steps : order.steps ≡ one ∷ two ∷ more
  pub first : NamedDraft one
  pub second : NamedDraft two
  pub others : AllByRecursion NamedDraft more
  pub fits : symmetrical_as order.kind order.symmetrical ≡ Ok order.symmetrical

step_of-ok : (word : List ℕ) (step : StepDraft) → read_order_step word ≡ Ok step → NamedDraft step
unfolding read_order_step
step_of-ok word step e =
    let (name, found, e1) = bind-ok (resource_of (step_parts word).0) _ step e in
    let (action, told, last) = bind-ok (written_action (step_parts word).1) _ step e1 in
    let whole : record { resource = name; action = action } ≡ step = cc in
    subst NamedDraft whole (resource-ok (step_parts word).0 name found).0

-- one more step was read
record AddsStep (before after : List StepDraft) : Type 0 where
  step : StepDraft
  added : after ≡ before ++ step ∷ []
  named : NamedDraft step

with_step-ok : (before : List StepDraft) (words : Words) (read : List StepDraft × Words) → with_step before words ≡ Ok read → AddsStep before read.0
unfolding with_step
with_step-ok before words read e =
    let (word, at, e1) = bind-ok (next_word_in words) _ read e in
    let (step, is_step, last) = bind-ok (read_order_step word.0) _ read e1 in
    let whole : (before ++ step ∷ [], word.1) ≡ read = cc in
    record { step = step; added = sym (ap (λ (r : List StepDraft × Words). r.0) whole); named = step_of-ok word.0 step is_step }

-- some more steps were read
record AddsSteps (before after : List StepDraft) : Type 0 where
  steps : List StepDraft
  added : after ≡ before ++ steps
  named : AllByRecursion NamedDraft steps

steps-none : (before : List StepDraft) (words : Words) (read : List StepDraft × Words) → (before, words) ≡ read → AddsSteps before read.0
steps-none before words read e = record { steps = []; added = sym (ap (λ (r : List StepDraft × Words). r.0) e) ∙ sym (append-nil before); named = tt }

steps-more : (before after : List StepDraft) (step : StepDraft) → NamedDraft step → AddsSteps (before ++ step ∷ []) after → AddsSteps before after
steps-more before after step h a = record { steps = step ∷ a.steps; added = a.added ∙ append_assoc before (step ∷ []) a.steps; named = (h, a.named) }

steps-case : (before : List StepDraft) (word : List ℕ) (words : Words) (ends : Bool) (read : List StepDraft × Words) → ends_steps word ≡ ends
    → ((step : StepDraft) → with_steps (before ++ step ∷ []) words ≡ Ok read → AddsSteps (before ++ step ∷ []) read.0)
    → with_steps before (word ∷ words) ≡ Ok read → AddsSteps before read.0
steps-case before word words true read d h e =
    let k : Ok (before, word ∷ words) ≡ Ok read = rw (d, with_steps) at e in
    steps-none before (word ∷ words) read (cc)
steps-case before word words false read d h e =
    let k : (read_order_step word >>= (λ step. with_steps (before ++ step ∷ []) words)) ≡ Ok read = rw (d, with_steps) at e in
    let (step, is_step, rest) = bind-ok (read_order_step word) _ read k in
    steps-more before read.0 step (step_of-ok word step is_step) (h step rest)

with_steps-ok : (before : List StepDraft) (words : Words) (read : List StepDraft × Words) → with_steps before words ≡ Ok read → AddsSteps before read.0
with_steps-ok before [] read e = steps-none before [] read (cc)
with_steps-ok before (word ∷ words) read e =
    steps-case before word words (ends_steps word) read refl (λ step k. with_steps-ok (before ++ step ∷ []) words read k) e

-- two steps or more
record TwoSteps (steps : List StepDraft) : Type 0 where
  one : StepDraft
  two : StepDraft
  more : List StepDraft
  whole : steps ≡ one ∷ two ∷ more
  first : NamedDraft one
  second : NamedDraft two
  others : AllByRecursion NamedDraft more

two_added : (a b c : List StepDraft) → AddsStep [] a → AddsStep a b → AddsSteps b c → TwoSteps c
two_added a b c f g h = record {
  one = f.step;
  two = g.step;
  more = h.steps;
  whole = h.added ∙ ap (λ ss. ss ++ h.steps) (g.added ∙ ap (λ ss. ss ++ g.step ∷ []) f.added);
  first = f.named;
  second = g.named;
  others = h.named;
}

steps_at-ok : (words : Words) (read : List StepDraft × Words) → order_steps_at words ≡ Ok read → TwoSteps read.0
unfolding order_steps_at
steps_at-ok words read e =
    let (a, first, e1) = bind-ok (with_step [] words) _ read e in
    let (b, second, e2) = bind-ok (with_step a.0 a.1) _ read e1 in
    two_added a.0 b.0 read.0 (with_step-ok [] words a first) (with_step-ok a.0 a.1 b second) (with_steps-ok b.0 b.1 read e2)

fits-case : (kind : KindWord) (both read : Bool) → symmetrical_as kind both ≡ Ok read → symmetrical_as kind read ≡ Ok read
fits-case Serialize true read e = cc
fits-case Serialize false read e = let s : false ≡ read = cc in subst (λ b. symmetrical_as Serialize b ≡ Ok b) s refl
fits-case Mandatory both read e = refl
fits-case Optional both read e = refl

fits-unsaid : (kind : KindWord) (read : Bool) → not (is_serialize_word kind) ≡ read → symmetrical_as kind read ≡ Ok read
fits-unsaid Serialize read e = subst (λ b. symmetrical_as Serialize b ≡ Ok b) e refl
fits-unsaid Mandatory read e = refl
fits-unsaid Optional read e = refl

symmetrical_in-ok : (kind : KindWord) (word : Option (List ℕ)) (read : Bool) → symmetrical_in kind word ≡ Ok read → symmetrical_as kind read ≡ Ok read
unfolding symmetrical_in
symmetrical_in-ok kind None read e = fits-unsaid kind read (cc)
symmetrical_in-ok kind (Some word) read e =
    let (both, said, last) = bind-ok (ok_or (bool_of word) BadValue) _ read e in
    fits-case kind both read last

pub order_at-ok : (words : Words) (order : OrderDraft) → order_at words ≡ Ok order → IsOrder order
unfolding order_at
order_at-ok words order e =
    let (id, named, e1) = bind-ok (name_at words) _ order e in
    let (kind, is_kind, e2) = bind-ok (kind_at id.1) _ order e1 in
    let (steps, are_steps, e3) = bind-ok (order_steps_at kind.1) _ order e2 in
    let (both, is_both, e4) = bind-ok (symmetrical_in kind.0 (prefixed_at (codes "symmetrical=") steps.1).0) _ order e3 in
    let (end, at_end, last) = bind-ok (end_at (prefixed_at (codes "symmetrical=") steps.1).1) _ order e4 in
    let whole : record { id = id.0; kind = kind.0; steps = steps.0; symmetrical = both } ≡ order = cc in
    let two = steps_at-ok kind.1 steps are_steps in
    subst IsOrder whole (record {
      named = (name_at-ok words id named).1;
      one = two.one;
      two = two.two;
      more = two.more;
      steps = two.whole;
      first = two.first;
      second = two.second;
      others = two.others;
      fits = symmetrical_in-ok kind.0 (prefixed_at (codes "symmetrical=") steps.1).0 both is_both;
    })

-- the resources of steps with their actions are named
pub actions-named : (promotable : Words) (action : ActionWord) (steps : List StepDraft) → AllByRecursion NamedDraft steps
    → AllByRecursion Named (with_actions promotable action steps)
actions-named promotable action [] h = tt
actions-named promotable action (step ∷ steps) h = (h.0, actions-named promotable (action_after promotable action step) steps h.1)
