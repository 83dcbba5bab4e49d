-- `order ID [KIND: or SCORE:] RESOURCE[:ACTION] RESOURCE[:ACTION].. [symmetrical=BOOL]` (crmsh manual, order; Pacemaker Explained, "Ordering
-- Properties").
use Rattle.std.specs.Prelude.{ℕ, ℤ, pos, int_lt, Bool, true, false, not, if◌then◌else◌, List, [], ◌∷◌, ◌++◌, codes, is_some, Option, Some, None, Result, Ok, Err}
use Rattle.std.specs.Option.{ok_or}
use Rattle.score.specs.ScoreText.{read_score}
use Rattle.crm_parse.specs.declared.draft.OrderDraft.{OrderDraft}
use Rattle.crm_parse.specs.declared.draft.StepDraft.{StepDraft}
use Rattle.crm_parse.specs.declared.fault.ParseCause.{ParseCause}
use Rattle.crm_parse.specs.declared.fault.ParseCause.TheVariants.{BadScore, BadValue, Unsupported}
use Rattle.crm_parse.specs.declared.words.ActionWord.{ActionWord}
use Rattle.crm_parse.specs.declared.words.KindWord.{KindWord}
use Rattle.crm_parse.specs.declared.words.KindWord.TheVariants.{Mandatory, Optional, Serialize}
use Rattle.crm_parse.specs.Reading.{Words, colon_at, end_at, name_at, prefixed_at, resource_of, next_word_in}
use Rattle.faults.specs.Reading.{◌>>=◌}
use Rattle.crm_parse.specs.Texts.{after, cut_at}
use Rattle.crm_parse.specs.Values.{action_of, bool_of, kind_of}

-- the kind that a score stands for: above 0 an order must be kept, and at 0 it is kept where both actions are there
abbrev pub kind_by_score : ℤ → Result KindWord ParseCause
kind_by_score points = if int_lt points (pos 0) then Err BadScore else if int_lt (pos 0) points then Ok Mandatory else Ok Optional

-- the kind that a word without its colon says
unfoldable pub kind_by_word : List ℕ → Result KindWord ParseCause
kind_by_word word = elim (kind_of word) [
  | None ↦ (do
    points ← ok_or (read_score word) BadValue
    kind_by_score points)
  | Some kind ↦ Ok kind
]

abbrev pub kind_in : Option (List ℕ) → Result KindWord ParseCause
kind_in None = Ok Mandatory
kind_in (Some word) = kind_by_word word

-- the kind of an order, which is Mandatory where none is written
unfoldable pub kind_at : Words → Result (KindWord × Words) ParseCause
kind_at words = do
  kind ← kind_in (colon_at words).0
  Ok (kind, (colon_at words).1)

abbrev pub some_action : List ℕ → Result (Option ActionWord) ParseCause
some_action word = do
  action ← ok_or (action_of word) BadValue
  Ok (Some action)

-- a resource, and an action after a colon
abbrev pub step_parts : List ℕ → List ℕ × Option (List ℕ)
step_parts word = elim (cut_at 58 word) [ None ↦ (word, None) | Some parts ↦ (parts.0, Some parts.1) ]

abbrev pub written_action : Option (List ℕ) → Result (Option ActionWord) ParseCause
written_action None = Ok None
written_action (Some word) = some_action word

unfoldable pub read_order_step : List ℕ → Result StepDraft ParseCause
read_order_step word = do
  resource ← resource_of (step_parts word).0
  action ← written_action (step_parts word).1
  Ok (record { resource = resource; action = action })

-- some resources, and one more
unfoldable pub with_step : List StepDraft → Words → Result (List StepDraft × Words) ParseCause
with_step steps words = do
  word ← next_word_in words
  step ← read_order_step word.0
  Ok (steps ++ step ∷ [], word.1)

abbrev pub ends_steps : List ℕ → Bool
ends_steps word = is_some (after (codes "symmetrical=") word)

-- some resources, and those that follow
abbrev pub with_steps : List StepDraft → Words → Result (List StepDraft × Words) ParseCause
with_steps steps [] = Ok (steps, [])
with_steps steps (word ∷ words) = if ends_steps word then Ok (steps, word ∷ words) else do
  step ← read_order_step word
  with_steps (steps ++ step ∷ []) words

-- two resources or more
unfoldable pub order_steps_at : Words → Result (List StepDraft × Words) ParseCause
order_steps_at words = do
  first ← with_step [] words
  second ← with_step first.0 first.1
  with_steps second.0 second.1

abbrev pub is_serialize_word : KindWord → Bool
is_serialize_word Serialize = true
is_serialize_word _ = false

-- an order of kind Serialize can't be symmetrical
abbrev pub symmetrical_as : KindWord → Bool → Result Bool ParseCause
symmetrical_as Serialize true = Err Unsupported
symmetrical_as _ both = Ok both

unfoldable pub symmetrical_in : KindWord → Option (List ℕ) → Result Bool ParseCause
symmetrical_in kind None = Ok (not (is_serialize_word kind))
symmetrical_in kind (Some word) = do
  both ← ok_or (bool_of word) BadValue
  symmetrical_as kind both

unfoldable pub order_at : Words → Result OrderDraft ParseCause
order_at words = do
  id ← name_at words
  kind ← kind_at id.1
  steps ← order_steps_at kind.1
  symmetrical ← symmetrical_in kind.0 (prefixed_at (codes "symmetrical=") steps.1).0
  end ← end_at (prefixed_at (codes "symmetrical=") steps.1).1
  Ok (record { id = id.0; kind = kind.0; steps = steps.0; symmetrical = symmetrical })
