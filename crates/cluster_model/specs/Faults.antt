-- Which statements are at fault in `expand` (crmsh manual, group, clone and ms; the causes and their order are rules of this project).
use Rattle.std.specs.Prelude.{ℕ, Bool, true, false, not, ◌&&◌, ◌||◌, if◌then◌else◌, List, [], ◌∷◌, ◌++◌, is_none, Option, Some, None, find, map}
use Rattle.std.specs.List.{flat_map, list_any}
use Rattle.std.specs.Option.{option_map_or}
use Rattle.crm_lex.specs.NameSets.{has_name}
use Rattle.crm_lex.specs.Names.{is}
use Rattle.crm_parse.specs.declared.form.Form.{Form}
use Rattle.crm_parse.specs.declared.form.Form.TheVariants as form
use Rattle.crm_parse.specs.declared.statement.Statement.{Statement}
use Rattle.crm_parse.specs.Statements.{says_promotable}
use Rattle.cluster_model.specs.declared.expansion.expand_fault.ExpandCause.{ExpandCause}
use Rattle.cluster_model.specs.declared.expansion.expand_fault.ExpandCause.TheVariants.{DuplicateName, UnknownName, NestedTwice, EmptyGroup, MemberTwice, UnsupportedMeta}
use Rattle.cluster_model.specs.Settings.{node_names_in}

-- the id of a resource or of a rule, which share one space of names
abbrev pub ids_in : Form → List (List ℕ)
ids_in (form.Primitive id agent description params meta utilization operations ops) = id ∷ []
ids_in (form.Group id members description params meta) = id ∷ []
ids_in (form.Cloned id child ms description params meta) = id ∷ []
ids_in (form.Location id resource role discovery score node) = id ∷ []
ids_in (form.RuledLocation id resource role discovery rules) = id ∷ []
ids_in (form.Colocation id score dependent primary) = id ∷ []
ids_in (form.Order id kind steps symmetrical) = id ∷ []
ids_in _ = []

-- the members of a group, or the child of a clone
abbrev pub parts_in : Form → List (List ℕ)
parts_in (form.Group id members description params meta) = members
parts_in (form.Cloned id child ms description params meta) = child ∷ []
parts_in _ = []

-- a group without members
abbrev pub is_empty_group : Form → Bool
is_empty_group (form.Group id [] description params meta) = true
is_empty_group _ = false

-- one of the parts belongs to an earlier group or clone, or stands among those before it
abbrev pub has_twice : List (List ℕ) → List (List ℕ) → Bool
has_twice before [] = false
has_twice before (part ∷ parts) = has_name before part || has_twice (before ++ part ∷ []) parts

-- a node has the name of an earlier node, or a resource or a rule the id of an earlier one
abbrev pub repeats_name : List Statement → Form → Bool
repeats_name before f =
    list_any (has_name (flat_map (λ s. node_names_in s.form) before)) (node_names_in f) || list_any (has_name (flat_map (λ s. ids_in s.form) before)) (ids_in f)

abbrev pub is_primitive : Form → Bool
is_primitive (form.Primitive id agent description params meta utilization operations ops) = true
is_primitive _ = false

abbrev pub is_a_group : Form → Bool
is_a_group (form.Group id members description params meta) = true
is_a_group _ = false

-- it is a resource of this id
abbrev pub is_resource : List ℕ → Form → Bool
is_resource name (form.Primitive id agent description params meta utilization operations ops) = is name id
is_resource name (form.Group id members description params meta) = is name id
is_resource name (form.Cloned id child ms description params meta) = is name id
is_resource name _ = false

-- the resource of this id
abbrev pub resource_named : List Statement → List ℕ → Option Form
resource_named statements name = find (is_resource name) (map (λ s. s.form) statements)

-- a member or a child isn't the id of a resource
abbrev pub names_nothing : List Statement → Form → Bool
names_nothing statements f = list_any (λ part. is_none (resource_named statements part)) (parts_in f)

-- a group has primitives, and a clone a primitive or a group
abbrev pub may_have_part : Form → Form → Bool
may_have_part (form.Group id members description params meta) part = is_primitive part
may_have_part _ part = is_primitive part || is_a_group part

abbrev pub has_another_kind : List Statement → Form → Bool
has_another_kind statements f = list_any (λ part. not (option_map_or (may_have_part f) (resource_named statements part) true)) (parts_in f)

-- a member or a child belongs to an earlier group or clone, or stands twice
abbrev pub has_part_twice : List Statement → Form → Bool
has_part_twice before f = has_twice (flat_map (λ s. parts_in s.form) before) (parts_in f)

-- a promotable clone of a group
abbrev pub promotes_members : List Statement → Form → Bool
promotes_members statements (form.Cloned id child ms description params meta) =
    says_promotable ms meta && option_map_or is_a_group (resource_named statements child) false
promotes_members statements _ = false

-- the first cause that a statement has, by all statements and by those before it
unfoldable pub expand_cause : List Statement → List Statement → Statement → Option ExpandCause
expand_cause statements before s =
    if repeats_name before s.form then Some DuplicateName
    else if names_nothing statements s.form then Some UnknownName
    else if has_another_kind statements s.form then Some NestedTwice
    else if is_empty_group s.form then Some EmptyGroup
    else if has_part_twice before s.form then Some MemberTwice
    else if promotes_members statements s.form then Some UnsupportedMeta
    else None
