-- The primitives, groups and clones that statements define, and which of them a name belongs to (crmsh manual, primitive, group and clone;
-- Pacemaker Explained, "Groups" and "Clones"). Where statements give a name twice, the first counts; such statements are at fault.
use Rattle.std.specs.Prelude.{ℕ, Bool, false, not, List, [], ◌∷◌, find, Option}
use Rattle.std.specs.List.{flat_map, list_any}
use Rattle.std.specs.Option.{option_map_or}
use Rattle.crm_lex.specs.Names.{is}
use Rattle.crm_parse.specs.declared.form.Form.{Form}
use Rattle.crm_parse.specs.declared.form.Form.TheVariants as form
use Rattle.crm_parse.specs.declared.pair.Kv.{Kv}
use Rattle.crm_parse.specs.declared.pair.Operation.{Operation}
use Rattle.crm_parse.specs.declared.statement.Statement.{Statement}

pub record Primitive : Type 0 where
  pub id : List ℕ
  pub meta : List Kv
  pub ops : List Operation

pub record Group : Type 0 where
  pub id : List ℕ
  pub members : List (List ℕ)
  pub meta : List Kv

-- a clone of its child; whether it was written as `ms` or `master`
pub record Clone : Type 0 where
  pub id : List ℕ
  pub child : List ℕ
  pub ms : Bool
  pub meta : List Kv

abbrev pub its_primitive : Form → List Primitive
its_primitive (form.Primitive id agent description params meta utilization operations ops) = record { id = id; meta = meta; ops = ops } ∷ []
its_primitive _ = []

abbrev pub its_group : Form → List Group
its_group (form.Group id members description params meta) = record { id = id; members = members; meta = meta } ∷ []
its_group _ = []

abbrev pub its_clone : Form → List Clone
its_clone (form.Cloned id child ms description params meta) = record { id = id; child = child; ms = ms; meta = meta } ∷ []
its_clone _ = []

-- each list is in the order of the text
abbrev pub all_primitives : List Statement → List Primitive
all_primitives statements = flat_map (λ s. its_primitive s.form) statements

abbrev pub all_groups : List Statement → List Group
all_groups statements = flat_map (λ s. its_group s.form) statements

abbrev pub all_clones : List Statement → List Clone
all_clones statements = flat_map (λ s. its_clone s.form) statements

-- the group of this name
abbrev pub group_named : List Statement → List ℕ → Option Group
group_named statements name = find (λ group. is name group.id) (all_groups statements)

-- the group that has it as a member
abbrev pub group_with : List Statement → List ℕ → Option Group
group_with statements name = find (λ group. list_any (is name) group.members) (all_groups statements)

-- the clone of it
abbrev pub clone_with : List Statement → List ℕ → Option Clone
clone_with statements name = find (λ clone. is name clone.child) (all_clones statements)

-- the clone that a primitive is in: that of its group; outside of groups its own
abbrev pub clone_around : List Statement → List ℕ → Option Clone
clone_around statements name = clone_with statements (option_map_or (λ (group : Group). group.id) (group_with statements name) name)

-- the primitives that a name stands for: a group for its members, in their order, and any other name for itself
abbrev pub members_named : List Statement → List ℕ → List (List ℕ)
members_named statements name = option_map_or (λ (group : Group). group.members) (group_named statements name) (name ∷ [])

-- of the members of a group, one that isn't the first
abbrev pub is_later_member : List (List ℕ) → List ℕ → Bool
is_later_member [] name = false
is_later_member (first ∷ others) name = not (is name first)
