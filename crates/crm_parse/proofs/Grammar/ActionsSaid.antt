-- The actions that orders leave out: each resource has the one that is worked out from the resources before it.
use Rattle.std.proofs.Common.{◌≡◌, ℕ, List, [], ◌∷◌, map, refl, sym, ap, ◌∙◌, subst}
use Rattle.crm_parse.specs.declared.draft.Draft.{Draft}
use Rattle.crm_parse.specs.declared.draft.Draft.TheVariants as draft
use Rattle.crm_parse.specs.declared.draft.DraftStatement.{DraftStatement}
use Rattle.crm_parse.specs.declared.draft.StepDraft.{StepDraft}
use Rattle.crm_parse.specs.declared.form.Form.TheVariants as form
use Rattle.crm_parse.specs.declared.form.OrderStep.{OrderStep}
use Rattle.crm_parse.specs.declared.statement.Crm.{Crm}
use Rattle.crm_parse.specs.declared.statement.Statement.{Statement}
use Rattle.crm_parse.specs.declared.words.ActionWord.{ActionWord}
use Rattle.crm_parse.specs.declared.words.ActionWord.TheVariants.{Start}
use Rattle.crm_parse.specs.Grammar.Configurations.{StatementIs, StatementsAre, a_form, an_order, next_statement, no_statement}
use Rattle.crm_parse.specs.Grammar.OrderForm.{ActionsAre, next_step, no_step}
use Rattle.crm_parse.specs.OrderActions.{action_after, with_actions}
use Rattle.crm_parse.specs.Reading.{Words}
use Rattle.crm_parse.specs.Statements.{crm_of, promotable_by, statement_of}

module _ (promotable : Words) where
  actions-are : (before : ActionWord) (steps : List StepDraft) → ActionsAre promotable before steps (with_actions promotable before steps)
  actions-are before [] = no_step before
  actions-are before (step ∷ steps) =
      let action = action_after promotable before step in
      next_step before action step steps (with_actions promotable action steps) refl (actions-are action steps)

  actions-is : (before : ActionWord) (steps : List StepDraft) (all : List OrderStep) → ActionsAre promotable before steps all → all ≡ with_actions promotable before steps
  actions-is b ss all (no_step before) = refl
  actions-is b ss all (next_step before action step steps others e a) =
      let one : OrderStep = record { resource = step.resource; action = action } in
      ap (λ os. one ∷ os) (actions-is action steps others a)
      ∙ ap (λ x. record { resource = step.resource; action = x } ∷ with_actions promotable x steps) e

  statement-is : (said : DraftStatement) (statement : Statement) → StatementIs promotable said statement → statement ≡ statement_of promotable said
  statement-is d s (a_form line f) = refl
  statement-is d s (an_order line order steps a) =
      ap (λ ss. record { line = line; form = form.Order order.id order.kind ss order.symmetrical }) (actions-is Start order.steps steps a)

  is-case : (line : ℕ) (d : Draft) → StatementIs promotable (record { line = line; draft = d }) (statement_of promotable (record { line = line; draft = d }))
  is-case line (draft.Whole f) = a_form line f
  is-case line (draft.Order order) = an_order line order _ (actions-are Start order.steps)

  is-statement : (said : DraftStatement) → StatementIs promotable said (statement_of promotable said)
  is-statement said = is-case said.line said.draft

  statements-are : (drafts : List DraftStatement) → StatementsAre promotable drafts (map (statement_of promotable) drafts)
  statements-are [] = no_statement
  statements-are (said ∷ drafts) = next_statement said (statement_of promotable said) drafts _ (is-statement said) (statements-are drafts)

  statements-is : (drafts : List DraftStatement) (all : List Statement) → StatementsAre promotable drafts all → all ≡ map (statement_of promotable) drafts
  statements-is ds ss no_statement = refl
  statements-is ds ss (next_statement said statement others statements one more) =
      ap (λ s. s ∷ statements) (statement-is said statement one) ∙ ap (λ ss. statement_of promotable said ∷ ss) (statements-is others statements more)

-- the statements of drafts are those with all their actions
pub crm-are : (drafts : List DraftStatement) (crm : Crm) → crm ≡ crm_of drafts → StatementsAre (promotable_by drafts) drafts crm.statements
crm-are drafts crm e = subst (λ c. StatementsAre (promotable_by drafts) drafts c.statements) (sym e) (statements-are (promotable_by drafts) drafts)

pub crm-is : (drafts : List DraftStatement) (crm : Crm) → StatementsAre (promotable_by drafts) drafts crm.statements → crm ≡ crm_of drafts
crm-is drafts crm a = ap (λ ss. record { statements = ss }) (statements-is (promotable_by drafts) drafts crm.statements a)
