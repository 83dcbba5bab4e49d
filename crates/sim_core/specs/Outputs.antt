-- What is written by a word that reads an input: what the word says of it, or the fault of the input.
use Rattle.std.specs.Prelude.{◌≡◌, ℕ, List}
use Rattle.input_reading.specs.declared.input.cause.InputCause.{InputCause}
use Rattle.input_reading.specs.declared.input.reading.Input.{Input}
use Rattle.sim_core.specs.declared.status.Status.{Status}
use Rattle.sim_core.specs.declared.status.Status.TheVariants.{Done, Refused}
use Rattle.input_reading.specs.Causes.{refusal_text}
use Rattle.input_reading.specs.Reading.{IsTextRefused, ReadsInput}

-- the text names a line at which this is so, and the cause
pub record IsRefusal (IsRefusedAt : ℕ → InputCause → Type 0) (text : List ℕ) : Type 0 where
  pub line : ℕ
  pub why : InputCause
  pub fault : IsRefusedAt line why
  pub printed : text ≡ refusal_text line why

-- the text is one that this says of what the input says
pub record IsTextOf (Says : Input → List ℕ → Type 0) (input text : List ℕ) : Type 0 where
  pub whole : Input
  pub reads : ReadsInput input whole
  pub says : Says whole text

-- with a word that says this of an input, an input of this content gets this status and this text
abbrev pub IsOutput : (Input → List ℕ → Type 0) → List ℕ → Status → List ℕ → Type 0
IsOutput Says input Done text = IsTextOf Says input text
IsOutput Says input Refused text = IsRefusal (IsTextRefused input) text
IsOutput Says input _ text = ⊥
