-- What the lines of a configuration say, one after another, and the first line that says nothing.
use Rattle.std.specs.Prelude.{◌≡◌, ◌↔◌, ℕ, List, [], ◌∷◌, ◌++◌, Result, Ok, Err}
use Rattle.faults.specs.declared.fault.Fault.{Fault}
use Rattle.faults.specs.declared.fault.Fault.TheVariants.{At}
use Rattle.crm_lex.specs.declared.line.Line.{Line}
use Rattle.crm_parse.specs.declared.draft.Draft.{Draft}
use Rattle.crm_parse.specs.declared.draft.Draft.TheVariants as draft
use Rattle.crm_parse.specs.declared.draft.DraftStatement.{DraftStatement}
use Rattle.crm_parse.specs.declared.fault.ParseCause.{ParseCause}
use Rattle.crm_parse.specs.declared.draft.OrderDraft.{OrderDraft}
use Rattle.crm_parse.specs.declared.form.Form.{Form}
use Rattle.crm_parse.specs.declared.form.Form.TheVariants as form
use Rattle.crm_parse.specs.declared.form.OrderStep.{OrderStep}
use Rattle.crm_parse.specs.declared.statement.Crm.{Crm}
use Rattle.crm_parse.specs.declared.statement.Statement.{Statement}
use Rattle.crm_parse.specs.declared.words.ActionWord.TheVariants.{Start}
use Rattle.crm_parse.specs.Grammar.Lines.{LineSays}
use Rattle.crm_parse.specs.Grammar.OrderForm.{ActionsAre}
use Rattle.crm_parse.specs.Reading.{Words}
use Rattle.crm_parse.specs.Statements.{promotable_by}

-- an empty text says no statements; and where some lines say some statements, one more line says one more, after these
pub data ConfigurationSays : List Line → List DraftStatement → Type 0 where
  no_line : ConfigurationSays [] []
  one_more_line : (lines : List Line) (statements : List DraftStatement) (line : Line) (said : Draft) → ConfigurationSays lines statements
      → LineSays statements line.words said
      → ConfigurationSays (lines ++ line ∷ []) (statements ++ record { line = line.line; draft = said } ∷ [])

-- a statement as its line says it, where these resources have a promoted role: in an order the resources have their actions
pub data StatementIs (promotable : Words) : DraftStatement → Statement → Type 0 where
  a_form : (line : ℕ) (f : Form) → StatementIs promotable (record { line = line; draft = draft.Whole f }) (record { line = line; form = f })
  an_order : (line : ℕ) (order : OrderDraft) (steps : List OrderStep) → ActionsAre promotable Start order.steps steps
      → StatementIs promotable (record { line = line; draft = draft.Order order }) (record { line = line; form = form.Order order.id order.kind steps order.symmetrical })

-- the same one after another
pub data StatementsAre (promotable : Words) : List DraftStatement → List Statement → Type 0 where
  no_statement : StatementsAre promotable [] []
  next_statement : (said : DraftStatement) (statement : Statement) (others : List DraftStatement) (statements : List Statement) → StatementIs promotable said statement
      → StatementsAre promotable others statements → StatementsAre promotable (said ∷ others) (statement ∷ statements)

-- some lines say the statements of a configuration. The promotable clones among them and their children have a promoted role. In an order a resource without
-- an action takes that of the resource before it, and the first one start; a promote or demote that is taken so is start or stop at a resource without a
-- promoted role
pub record SaysStatements (lines : List Line) (crm : Crm) : Type 0 where
  pub said : List DraftStatement
  pub lines_say : ConfigurationSays lines said
  pub statements_are : StatementsAre (promotable_by said) said crm.statements

-- the lines before this one say statements, and its own words say none after them
pub record FirstSilentLine (lines : List Line) (number : ℕ) : Type 0 where
  pub before : List Line
  pub line : Line
  pub behind : List Line
  pub lines_are : lines ≡ before ++ line ∷ behind
  pub numbered : line.line ≡ number
  pub statements : List DraftStatement
  pub said : ConfigurationSays before statements
  pub silent : (statement : Draft) → LineSays statements line.words statement → ⊥

-- what is answered is read just when the lines say it
abbrev pub GivesWhatLinesSay : List Line → Result Crm (Fault ParseCause) → Type 0
GivesWhatLinesSay lines answer = (crm : Crm) → (answer ≡ Ok crm) ↔ SaysStatements lines crm

-- and a line is refused just when it is the first that says nothing
abbrev pub RefusesFirstSilentLine : List Line → Result Crm (Fault ParseCause) → Type 0
RefusesFirstSilentLine lines answer = (number : ℕ) → ((cause : ParseCause) × (answer ≡ Err (At number cause))) ↔ FirstSilentLine lines number
