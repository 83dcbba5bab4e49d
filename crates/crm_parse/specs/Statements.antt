-- The statements of a text, line by line (crmsh manual, configure).
use Rattle.std.specs.Prelude.{ℕ, ◌||◌, Bool, true, false, if◌then◌else◌, List, [], ◌∷◌, ◌++◌, map, codes, Result, Ok, Err}
use Rattle.std.specs.List.{flat_map}
use Rattle.std.specs.Option.{option_map_or}
use Rattle.crm_lex.specs.Names.{is}
use Rattle.crm_lex.specs.declared.line.Line.{Line}
use Rattle.crm_parse.specs.declared.draft.Draft.{Draft}
use Rattle.crm_parse.specs.declared.draft.Draft.TheVariants as draft
use Rattle.crm_parse.specs.declared.draft.DraftStatement.{DraftStatement}
use Rattle.crm_parse.specs.declared.fault.ParseCause.{ParseCause}
use Rattle.crm_parse.specs.declared.fault.ParseCause.TheVariants.{UnknownStatement, Unsupported}
use Rattle.faults.specs.declared.fault.Fault.{Fault}
use Rattle.faults.specs.declared.fault.Fault.TheVariants.{At}
use Rattle.crm_parse.specs.declared.form.Form.{Form}
use Rattle.crm_parse.specs.declared.form.Form.TheVariants as form
use Rattle.crm_parse.specs.declared.keyword.Keyword.{Keyword}
use Rattle.crm_parse.specs.declared.keyword.Keyword.TheVariants as keyword
use Rattle.crm_parse.specs.declared.pair.Kv.{Kv}
use Rattle.crm_parse.specs.declared.statement.Crm.{Crm}
use Rattle.crm_parse.specs.declared.statement.Statement.{Statement}
use Rattle.crm_parse.specs.declared.words.ActionWord.TheVariants.{Start}
use Rattle.crm_parse.specs.declared.words.SettingsWord.TheVariants.{Property, RscDefaults, OpDefaults}
use Rattle.crm_parse.specs.Colocation.{colocation_at}
use Rattle.crm_parse.specs.Groups.{clone_at, group_at}
use Rattle.crm_parse.specs.Location.{location_at}
use Rattle.crm_parse.specs.Node.{node_statement_at}
use Rattle.crm_parse.specs.Operations.{value_of}
use Rattle.crm_parse.specs.Order.{order_at}
use Rattle.crm_parse.specs.OrderActions.{with_actions}
use Rattle.crm_parse.specs.Primitive.{primitive_at}
use Rattle.crm_parse.specs.Reading.{Words}
use Rattle.faults.specs.Reading.{◌>>=◌}
use Rattle.crm_parse.specs.Settings.{settings_at}
use Rattle.crm_parse.specs.Values.{bool_of}

-- a statement that is kept and has no effect
abbrev pub is_kept : List ℕ → Bool
is_kept word =
    is word (codes "fencing_topology") || is word (codes "alert") || is word (codes "user") || is word (codes "role")
    || is word (codes "acl_target") || is word (codes "acl_group")

-- a statement that isn't supported
abbrev pub is_unsupported : List ℕ → Bool
is_unsupported word =
    is word (codes "rsc_template") || is word (codes "tag") || is word (codes "rsc_ticket") || is word (codes "bundle")
    || is word (codes "monitor") || is word (codes "xml")

-- the statement that a first word begins
unfoldable pub keyword_of : List ℕ → Result Keyword ParseCause
keyword_of word =
    if is word (codes "node") then Ok keyword.Node
    else if is word (codes "primitive") then Ok keyword.Primitive
    else if is word (codes "group") then Ok keyword.Group
    else if is word (codes "clone") then Ok keyword.Clone
    else if is word (codes "ms") || is word (codes "master") then Ok keyword.Ms
    else if is word (codes "location") then Ok keyword.Location
    else if is word (codes "colocation") || is word (codes "collocation") then Ok keyword.Colocation
    else if is word (codes "order") then Ok keyword.Order
    else if is word (codes "property") then Ok (keyword.Settings Property)
    else if is word (codes "rsc_defaults") then Ok (keyword.Settings RscDefaults)
    else if is word (codes "op_defaults") then Ok (keyword.Settings OpDefaults)
    else if is_kept word then Ok keyword.Kept
    else if is_unsupported word then Err Unsupported
    else Err UnknownStatement

abbrev pub whole : Result Form ParseCause → Result Draft ParseCause
whole read = do
  form ← read
  Ok (draft.Whole form)

abbrev pub order : Words → Result Draft ParseCause
order words = do
  read ← order_at words
  Ok (draft.Order read)

-- what the words after the first say, after some statements
abbrev pub draft_after : Keyword → List DraftStatement → Words → Words → Result Draft ParseCause
draft_after keyword.Node before line words = whole (node_statement_at words)
draft_after keyword.Primitive before line words = whole (primitive_at words)
draft_after keyword.Group before line words = whole (group_at words)
draft_after keyword.Clone before line words = whole (clone_at false words)
draft_after keyword.Ms before line words = whole (clone_at true words)
draft_after keyword.Location before line words = whole (location_at words)
draft_after keyword.Colocation before line words = whole (colocation_at words)
draft_after keyword.Order before line words = order words
draft_after (keyword.Settings what) before line words = whole (settings_at what before words)
draft_after keyword.Kept before line words = whole (Ok (form.Kept line))

-- what the words of a line say, after some statements
unfoldable pub draft_of : List DraftStatement → Words → Result Draft ParseCause
draft_of before [] = Err UnknownStatement
draft_of before (word ∷ words) = do
  keyword ← keyword_of word
  draft_after keyword before (word ∷ words) words

-- some statements, and that of one more line
abbrev pub with_draft : List DraftStatement → ℕ → Result Draft ParseCause → Result (List DraftStatement) (Fault ParseCause)
with_draft before line (Ok read) = Ok (before ++ record { line = line; draft = read } ∷ [])
with_draft before line (Err cause) = Err (At line cause)

unfoldable pub with_line : List DraftStatement → Line → Result (List DraftStatement) (Fault ParseCause)
with_line before line = with_draft before line.line (draft_of before line.words)

-- the statements of some lines, after some statements; the first line that is at fault counts
abbrev pub with_lines : List DraftStatement → List Line → Result (List DraftStatement) (Fault ParseCause)
with_lines before [] = Ok before
with_lines before (line ∷ lines) = elim (with_line before line) [
  | Err fault ↦ Err fault
  | Ok more ↦ with_lines more lines
]

-- a clone is promotable: it was written as `ms` or `master`, or says so
abbrev pub says_promotable : Bool → List Kv → Bool
says_promotable ms meta = ms || option_map_or (λ value. option_map_or (λ says. says) (bool_of value) false) (value_of (codes "promotable") meta) false

-- the resources that have a promoted role by a statement: a promotable clone, and its child
abbrev pub promotable_in : Draft → Words
promotable_in (draft.Whole (form.Cloned id child ms description params meta)) = if says_promotable ms meta then id ∷ child ∷ [] else []
promotable_in _ = []

-- the resources that have a promoted role by some statements
abbrev pub promotable_by : List DraftStatement → Words
promotable_by drafts = flat_map (λ statement. promotable_in statement.draft) drafts

-- what a statement says, where these resources have a promoted role
abbrev pub finished : Words → Draft → Form
finished promotable (draft.Whole form) = form
finished promotable (draft.Order order) =
    form.Order order.id order.kind (with_actions promotable Start order.steps) order.symmetrical

abbrev pub statement_of : Words → DraftStatement → Statement
statement_of promotable statement = record { line = statement.line; form = finished promotable statement.draft }

-- the statements with all their actions
abbrev pub crm_of : List DraftStatement → Crm
crm_of drafts = record { statements = map (statement_of (promotable_by drafts)) drafts }

-- the statements of some lines
abbrev pub read_of : Result (List DraftStatement) (Fault ParseCause) → Result Crm (Fault ParseCause)
read_of (Ok drafts) = Ok (crm_of drafts)
read_of (Err fault) = Err fault

abbrev pub statements_of : List Line → Result Crm (Fault ParseCause)
statements_of lines = read_of (with_lines [] lines)
