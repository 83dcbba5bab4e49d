-- How the code finds the first statement at fault: by a table of kinds, and by the names that it has seen.
use Rattle.std.specs.Prelude.{◌≡◌, ℕ, Bool, true, false, not, ◌&&◌, ◌||◌, if◌then◌else◌, List, [], ◌∷◌, ◌++◌, is_none, Option, Some, None}
use Rattle.std.specs.List.{flat_map, list_any}
use Rattle.std.specs.Option.{option_map_or}
use Rattle.faults.specs.declared.fault.Fault.{Fault}
use Rattle.faults.specs.Reading.{fault_at}
use Rattle.crm_lex.specs.NameSets.{has_name}
use Rattle.crm_parse.specs.declared.form.Form.{Form}
use Rattle.crm_parse.specs.declared.form.Form.TheVariants as form
use Rattle.crm_parse.specs.declared.statement.Statement.{Statement}
use Rattle.crm_parse.specs.Statements.{says_promotable}
use Rattle.cluster_model.specs.declared.expansion.expand_fault.ExpandCause.{ExpandCause}
use Rattle.cluster_model.specs.declared.expansion.expand_fault.ExpandCause.TheVariants.{DuplicateName, UnknownName, NestedTwice, EmptyGroup, MemberTwice, UnsupportedMeta}
use Rattle.cluster_model.specs.declared.expansion.kinds.Kind.{Kind}
use Rattle.cluster_model.specs.declared.expansion.kinds.Kind.TheVariants as kind
use Rattle.cluster_model.specs.declared.expansion.seen_names.Seen.{Seen}
use Rattle.cluster_model.specs.Settings.{node_names_in}
use Rattle.cluster_model.specs.Inner.Tables.{lookup}
use Rattle.cluster_model.specs.Faults.{ids_in, parts_in, is_empty_group, has_twice}

-- the resource of a statement, with its kind
abbrev pub resource_kinds_in : Form → List (List ℕ × Kind)
resource_kinds_in (form.Primitive id agent description params meta utilization operations ops) = (id, kind.Primitive) ∷ []
resource_kinds_in (form.Group id members description params meta) = (id, kind.Group) ∷ []
resource_kinds_in (form.Cloned id child ms description params meta) = (id, kind.Clone) ∷ []
resource_kinds_in _ = []

-- each resource with its kind; where an id is defined twice, the first counts
abbrev pub kinds_of : List Statement → List (List ℕ × Kind)
kinds_of statements = flat_map (λ s. resource_kinds_in s.form) statements

-- nothing stands before the first statement
abbrev pub nothing_seen : Seen
nothing_seen = record { nodes = []; ids = []; parts = [] }

-- the names that statements use, after one more
unfoldable pub seen_after : Seen → Form → Seen
seen_after seen form = record {
  nodes = seen.nodes ++ node_names_in form;
  ids = seen.ids ++ ids_in form;
  parts = seen.parts ++ parts_in form;
}

-- the sets have the same names
abbrev pub HaveTheSame : List (List ℕ) → List (List ℕ) → Type 0
HaveTheSame one other = (name : List ℕ) → has_name one name ≡ has_name other name

-- they have seen the same names
pub record AreAlike (one other : Seen) : Type 0 where
  pub nodes : HaveTheSame one.nodes other.nodes
  pub ids : HaveTheSame one.ids other.ids
  pub parts : HaveTheSame one.parts other.parts

-- a name is used by an earlier node, or an id by an earlier resource or rule
abbrev pub is_duplicate : Seen → Form → Bool
is_duplicate seen form = list_any (has_name seen.nodes) (node_names_in form) || list_any (has_name seen.ids) (ids_in form)

-- a member or a child isn't there
abbrev pub has_unknown_part : List (List ℕ × Kind) → Form → Bool
has_unknown_part kinds form = list_any (λ part. is_none (lookup kinds part)) (parts_in form)

-- a group has primitives, and a clone a primitive or a group
abbrev pub may_contain : Form → Kind → Bool
may_contain (form.Group id members description params meta) kind.Primitive = true
may_contain (form.Group id members description params meta) kind.Group = false
may_contain (form.Group id members description params meta) kind.Clone = false
may_contain form kind.Primitive = true
may_contain form kind.Group = true
may_contain form kind.Clone = false

abbrev pub nests : List (List ℕ × Kind) → Form → Bool
nests kinds form = list_any (λ part. not (option_map_or (may_contain form) (lookup kinds part) true)) (parts_in form)

abbrev pub is_group : Kind → Bool
is_group kind.Group = true
is_group kind.Primitive = false
is_group kind.Clone = false

-- a promotable clone of a group
abbrev pub promotes_group : List (List ℕ × Kind) → Form → Bool
promotes_group kinds (form.Cloned id child ms description params meta) =
    says_promotable ms meta && option_map_or is_group (lookup kinds child) false
promotes_group kinds _ = false

-- the cause of a statement that is at fault, after what was seen before it
unfoldable pub expand_cause_of : List (List ℕ × Kind) → Seen → Form → Option ExpandCause
expand_cause_of kinds seen form =
    if is_duplicate seen form then Some DuplicateName
    else if has_unknown_part kinds form then Some UnknownName
    else if nests kinds form then Some NestedTwice
    else if is_empty_group form then Some EmptyGroup
    else if has_twice seen.parts (parts_in form) then Some MemberTwice
    else if promotes_group kinds form then Some UnsupportedMeta
    else None

-- the fault of the first statement that is at fault
abbrev pub first_expand_fault : List (List ℕ × Kind) → Seen → List Statement → Option (Fault ExpandCause)
first_expand_fault kinds seen [] = None
first_expand_fault kinds seen (s ∷ statements) =
    fault_at s.line (expand_cause_of kinds seen s.form) (first_expand_fault kinds (seen_after seen s.form) statements)

unfoldable pub fault_of : List Statement → Option (Fault ExpandCause)
fault_of statements = first_expand_fault (kinds_of statements) nothing_seen statements
