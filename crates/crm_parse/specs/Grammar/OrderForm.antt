-- `order ID [KIND: or SCORE:] RESOURCE[:ACTION] RESOURCE[:ACTION].. [symmetrical=BOOL]` (crmsh manual, order).
use Rattle.std.specs.Prelude.{◌≡◌, ◌≤◌, ℕ, ℤ, pos, int_lt, Bool, true, false, List, [], ◌∷◌, ◌++◌, length, codes, Some, None}
use Rattle.score.specs.ScoreText.{read_score}
use Rattle.crm_lex.specs.Names.{is_name}
use Rattle.crm_parse.specs.declared.draft.OrderDraft.{OrderDraft}
use Rattle.crm_parse.specs.declared.draft.StepDraft.{StepDraft}
use Rattle.crm_parse.specs.declared.form.OrderStep.{OrderStep}
use Rattle.crm_parse.specs.declared.words.ActionWord.{ActionWord}
use Rattle.crm_parse.specs.declared.words.KindWord.{KindWord}
use Rattle.crm_parse.specs.declared.words.KindWord.TheVariants.{Mandatory, Optional, Serialize}
use Rattle.crm_parse.specs.OrderActions.{action_in}
use Rattle.crm_parse.specs.Reading.{Words}
use Rattle.crm_parse.specs.Values.{action_of, bool_of, kind_of}
use Rattle.crm_parse.specs.Grammar.Phrases.{ColonSays, EachSays, LabelSays, SaysOr, TableSays}

-- a kind: its name, or a score above 0 for Mandatory and 0 for Optional
pub data KindSays : List ℕ → KindWord → Type 0 where
  kind_by_name : (text : List ℕ) (kind : KindWord) → kind_of text ≡ Some kind → KindSays text kind
  score_above_0 : (text : List ℕ) (points : ℤ) → read_score text ≡ Some points → int_lt (pos 0) points ≡ true → KindSays text Mandatory
  score_of_0 : (text : List ℕ) → read_score text ≡ Some (pos 0) → KindSays text Optional

-- a resource, and its action behind a colon where one is written
pub data StepSays : List ℕ → StepDraft → Type 0 where
  resource_alone : (resource : List ℕ) → is_name resource ≡ true → StepSays resource (record { resource = resource; action = None })
  resource_acts : (resource text : List ℕ) (action : ActionWord) → is_name resource ≡ true → action_of text ≡ Some action
      → StepSays (resource ++ (codes ":" ++ text)) (record { resource = resource; action = Some action })

-- whether an order is symmetrical that doesn't say so: it is, unless its kind is Serialize
abbrev pub symmetrical_unsaid : KindWord → Bool
symmetrical_unsaid Serialize = false
symmetrical_unsaid _ = true

-- an order has two resources or more. One of kind Serialize isn't symmetrical
pub record OrderSays (words : Words) (order : OrderDraft) : Type 0 where
  pub kind_words : Words
  pub step_words : Words
  pub last_words : Words
  pub words_are : words ≡ order.id ∷ (kind_words ++ (step_words ++ last_words))
  pub id : is_name order.id ≡ true
  pub kind : SaysOr (ColonSays KindSays) Mandatory kind_words order.kind
  pub steps : EachSays StepSays step_words order.steps
  pub two_or_more : 2 ≤ length order.steps
  pub symmetrical : SaysOr (LabelSays (codes "symmetrical=") (TableSays bool_of)) (symmetrical_unsaid order.kind) last_words order.symmetrical
  pub serialize_is_one_way : order.kind ≡ Serialize → order.symmetrical ≡ false

-- the resources of an order with their actions, where these have a promoted role and this is the action before the first one: each has the action that is
-- written, else that of the resource before it, as start or stop if the resource has no promoted role
pub data ActionsAre (promotable : Words) : ActionWord → List StepDraft → List OrderStep → Type 0 where
  no_step : (before : ActionWord) → ActionsAre promotable before [] []
  next_step : (before action : ActionWord) (step : StepDraft) (steps : List StepDraft) (others : List OrderStep) → action ≡ action_in promotable before step.resource step.action
      → ActionsAre promotable action steps others → ActionsAre promotable before (step ∷ steps) (record { resource = step.resource; action = action } ∷ others)
