-- The names in the statements of some lines are names, and their recurring monitors are few, of different intervals: what the grammar has of
-- each form.
use Rattle.std.proofs.Common.{◌≡◌, ℕ, Bool, true, List, map, Ok}
use Rattle.std.specs.List.{AllByRecursion}
use Rattle.crm_lex.specs.Names.{is_name}
use Rattle.crm_lex.specs.declared.line.Line.{Line}
use Rattle.crm_parse.specs.declared.draft.Draft.{Draft}
use Rattle.crm_parse.specs.declared.draft.Draft.TheVariants as draft
use Rattle.crm_parse.specs.declared.draft.DraftStatement.{DraftStatement}
use Rattle.crm_parse.specs.declared.draft.OrderDraft.{OrderDraft}
use Rattle.crm_parse.specs.declared.draft.StepDraft.{StepDraft}
use Rattle.crm_parse.specs.declared.form.Form.{Form}
use Rattle.crm_parse.specs.declared.form.OrderStep.{OrderStep}
use Rattle.crm_parse.specs.declared.form.Side.{Side}
use Rattle.crm_parse.specs.declared.statement.Crm.{Crm}
use Rattle.crm_parse.specs.declared.statement.Statement.{Statement}
use Rattle.crm_parse.specs.declared.words.ActionWord.{ActionWord}
use Rattle.crm_parse.specs.declared.words.ActionWord.TheVariants.{Start}
use Rattle.crm_parse.specs.declared.words.SettingsWord.{SettingsWord}
use Rattle.crm_parse.specs.Grammar.ColocationForm.{ColocationSays, SideSays, a_colocation, side_alone, side_in_role}
use Rattle.crm_parse.specs.Grammar.Lines.{LineSays, line_kept, line_of_clone, line_of_colocation, line_of_group, line_of_location, line_of_node, line_of_order, line_of_primitive, line_of_settings}
use Rattle.crm_parse.specs.Grammar.LocationForms.{LocationSays, at_a_node, where_rules_say}
use Rattle.crm_parse.specs.Grammar.NodeForm.{NodeSays, a_node}
use Rattle.crm_parse.specs.Grammar.OrderForm.{OrderSays, StepSays, resource_acts, resource_alone}
use Rattle.crm_parse.specs.Grammar.Phrases.{EachSays, no_word, one_word}
use Rattle.crm_parse.specs.Grammar.PrimitiveForm.{PrimitiveSays, a_primitive}
use Rattle.crm_parse.specs.Grammar.ResourceForms.{CloneSays, GroupSays, MemberSays, a_clone, a_group, a_member}
use Rattle.crm_parse.specs.Grammar.SettingsForm.{SettingsSay, some_settings}
use Rattle.crm_parse.specs.OrderActions.{action_after, with_actions}
use Rattle.crm_parse.specs.Reading.{Words}
use Rattle.crm_parse.specs.Inner.ReadForms.{IsRead}
use Rattle.crm_parse.specs.Statements.{finished, statements_of}
use Rattle.crm_parse.proofs.Grammar.LineRelated.{line-is_said}
use Rattle.crm_parse.proofs.LineForms.{DraftHas, statements-have}

-- the names of each form
node-names : (words : Words) (f : Form) → NodeSays words f → IsRead f
node-names ws g (a_node id_words id name section_words sections given named s) = record { names = (named, tt); monitors = tt }

primitive-names : (words : Words) (f : Form) → PrimitiveSays words f → IsRead f
primitive-names ws g (a_primitive id agent_word agent description_words description section_words sections named template says noted s) =
    record { names = (named, tt); monitors = s.monitors }

member-named : (word name : List ℕ) → MemberSays word name → is_name name ≡ true
member-named w n (a_member name named params meta) = named

members-named : (words members : Words) → EachSays MemberSays words members → AllByRecursion (λ name. is_name name ≡ true) members
members-named ws ms no_word = tt
members-named ws ms (one_word word name words names one more) = (member-named word name one, members-named words names more)

group-names : (words : Words) (f : Form) → GroupSays words f → IsRead f
group-names ws g (a_group id member_words members description_words description section_words sections named each noted s) =
    record { names = (named, members-named member_words members each); monitors = tt }

clone-names : (ms : Bool) (words : Words) (f : Form) → CloneSays ms words f → IsRead f
clone-names ms ws g (a_clone id child description_words description section_words sections named child_named noted s) =
    record { names = (named, (child_named, tt)); monitors = tt }

location-names : (words : Words) (f : Form) → LocationSays words f → IsRead f
location-names ws g (at_a_node id resource role_words role discovery_words discovery score points node named resource_named in_role found scored node_named) =
    record { names = (named, (resource_named, (node_named, tt))); monitors = tt }
location-names ws g (where_rules_say id resource role_words role discovery_words discovery rule_words rules named resource_named in_role found parts some) =
    record { names = (named, (resource_named, tt)); monitors = tt }

side-named : (word : List ℕ) (side : Side) → SideSays word side → is_name side.resource ≡ true
side-named w s (side_alone resource named) = named
side-named w s (side_in_role resource text role named in_role) = named

colocation-names : (words : Words) (f : Form) → ColocationSays words f → IsRead f
colocation-names ws g (a_colocation id score one other points dependent primary named scored first second) =
    record { names = (named, (side-named one dependent first, (side-named other primary second, tt))); monitors = tt }

settings-names : (what : SettingsWord) (before : List DraftStatement) (words : Words) (f : Form) → SettingsSay what before words f → IsRead f
settings-names what before ws g (some_settings set_words set words pairs given each some two new) = record { names = tt; monitors = tt }

-- an order, with the actions that it gets
step-named : (word : List ℕ) (step : StepDraft) → StepSays word step → is_name step.resource ≡ true
step-named w s (resource_alone resource named) = named
step-named w s (resource_acts resource text action named acts) = named

abbrev NamedSteps : List OrderStep → Type 0
NamedSteps steps = AllByRecursion (λ name. is_name name ≡ true) (map (λ step. step.resource) steps)

steps-named : (promotable : Words) (action : ActionWord) (words : Words) (steps : List StepDraft) → EachSays StepSays words steps
    → NamedSteps (with_actions promotable action steps)
steps-named promotable action ws ss no_word = tt
steps-named promotable action ws ss (one_word word step words steps one more) =
    (step-named word step one, steps-named promotable (action_after promotable action step) words steps more)

order-names : (promotable words : Words) (order : OrderDraft) → OrderSays words order → IsRead (finished promotable (draft.Order order))
order-names promotable words order s = record { names = (s.id, steps-named promotable Start s.step_words order.steps s.steps); monitors = tt }

-- what a line says has them, whichever resources have a promoted role
line-names : (before : List DraftStatement) (words : Words) (d : Draft) → LineSays before words d → DraftHas IsRead d
line-names before ws d (line_of_node words f s) = λ promotable. node-names words f s
line-names before ws d (line_of_primitive words f s) = λ promotable. primitive-names words f s
line-names before ws d (line_of_group words f s) = λ promotable. group-names words f s
line-names before ws d (line_of_clone word ms words f w s) = λ promotable. clone-names ms words f s
line-names before ws d (line_of_location words f s) = λ promotable. location-names words f s
line-names before ws d (line_of_colocation word words f w s) = λ promotable. colocation-names words f s
line-names before ws d (line_of_order words order s) = λ promotable. order-names promotable words order s
line-names before ws d (line_of_settings word what words f w s) = λ promotable. settings-names what before words f s
line-names before ws d (line_kept word words w) = λ promotable. record { names = tt; monitors = tt }

-- so each statement that was read has them
pub statements-read : (lines : List Line) (crm : Crm) → statements_of lines ≡ Ok crm → AllByRecursion (λ (s : Statement). IsRead s.form) crm.statements
statements-read lines crm e = statements-have IsRead (λ before line d k. line-names before line d (line-is_said before line d k)) lines crm e
