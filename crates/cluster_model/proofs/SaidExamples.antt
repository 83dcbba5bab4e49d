-- Examples of what a configuration says: of primitives, groups, clones and defaults, of names in rules, and of faults.
use Rattle.std.proofs.Common.{◌≡◌, ℕ, pos, Bool, true, false, List, [], ◌∷◌, map, Option, Some, None, refl}
use Rattle.std.specs.Prelude.{codes}
use Rattle.faults.specs.declared.fault.Fault.TheVariants.{At}
use Rattle.crm_parse.specs.declared.form.Form.{Form}
use Rattle.crm_parse.specs.declared.form.Form.TheVariants as form
use Rattle.crm_parse.specs.declared.form.OrderStep.{OrderStep}
use Rattle.crm_parse.specs.declared.pair.Kv.{Kv}
use Rattle.crm_parse.specs.declared.statement.Statement.{Statement}
use Rattle.crm_parse.specs.declared.words.ActionWord.{ActionWord}
use Rattle.crm_parse.specs.declared.words.ActionWord.TheVariants as action
use Rattle.crm_parse.specs.declared.words.KindWord.TheVariants.{Mandatory}
use Rattle.crm_parse.specs.declared.words.RoleWord.{RoleWord}
use Rattle.crm_parse.specs.declared.words.RoleWord.TheVariants as word
use Rattle.crm_parse.specs.declared.words.SettingsWord.TheVariants.{Property, RscDefaults}
use Rattle.cluster_types.specs.declared.leaf.OnFail.TheVariants.{Block, Fence}
use Rattle.cluster_types.specs.declared.leaf.Role.TheVariants as role
use Rattle.cluster_types.specs.declared.rules.Order.{Order}
use Rattle.cluster_model.specs.declared.expansion.expand_fault.ExpandCause.TheVariants as expand_cause
use Rattle.cluster_model.specs.declared.expansion.leaves.Leaves.{Leaves}
use Rattle.cluster_model.specs.declared.resolution.fault.ModelCause.TheVariants as model_cause
use Rattle.cluster_model.specs.Checks.{rule_cause}
use Rattle.cluster_model.specs.Colocations.{its_colocations}
use Rattle.cluster_model.specs.Expansion.{leaf_fault, leaves_and_spans}
use Rattle.cluster_model.specs.Faults as faults
use Rattle.cluster_model.specs.Leaves.{leaf_said, leaves_said}
use Rattle.cluster_model.specs.Locations.{its_locations}
use Rattle.cluster_model.specs.NamesInRules.{in_one_group, node_number, place_of_node}
use Rattle.cluster_model.specs.Orders.{its_orders}
use Rattle.cluster_model.specs.Resources.{Primitive}
use Rattle.cluster_model.specs.Spans.{spans_said}

-- statements

abbrev pub kv : List ℕ → List ℕ → Kv
kv key value = record { key = key; value = value }

abbrev pub stated : Form → Statement
stated f = record { line = 1; form = f }

abbrev pub node : List ℕ → Form
node name = form.Node None name [] []

abbrev pub primitive : List ℕ → List Kv → Form
primitive id meta = form.Primitive id (codes "ocf:heartbeat:Dummy") None [] meta [] [] []

abbrev pub group : List ℕ → List (List ℕ) → List Kv → Form
group id members meta = form.Group id members None [] meta

abbrev pub clone : List ℕ → List ℕ → Bool → List Kv → Form
clone id child ms meta = form.Cloned id child ms None [] meta

abbrev defaults : List Kv → Form
defaults pairs = form.Settings RscDefaults None pairs

abbrev pub property : List Kv → Form
property pairs = form.Settings Property None pairs

abbrev pub location : List ℕ → Option RoleWord → List ℕ → Form
location resource written where_ = form.Location (codes "l") resource written false (pos 5) where_

abbrev pub colocation : List ℕ → RoleWord → List ℕ → RoleWord → Form
colocation one its other others =
    form.Colocation (codes "c") (pos 5) (record { resource = one; role = its }) (record { resource = other; role = others })

abbrev pub step : List ℕ → ActionWord → OrderStep
step resource what = record { resource = resource; action = what }

abbrev pub order : OrderStep → OrderStep → Form
order one other = form.Order (codes "o") Mandatory (one ∷ other ∷ []) true

abbrev pub said_by : List Form → List Statement
said_by forms = map stated forms

-- two nodes; `vip` and `web` in the group `site`, which is cloned; `db` by itself, and `disk` in a promotable clone of its own
abbrev forms : List Form
forms =
    node (codes "n1")
    ∷ node (codes "n2")
    ∷ primitive (codes "vip") (kv (codes "priority") (codes "3") ∷ [])
    ∷ primitive (codes "web") []
    ∷ primitive (codes "db") []
    ∷ primitive (codes "disk") (kv (codes "is-managed") (codes "false") ∷ [])
    ∷ group (codes "site") (codes "vip" ∷ codes "web" ∷ []) (kv (codes "priority") (codes "4") ∷ kv (codes "migration-threshold") (codes "2") ∷ [])
    ∷ clone (codes "sites") (codes "site") false (kv (codes "priority") (codes "5") ∷ kv (codes "failure-timeout") (codes "1") ∷ [])
    ∷ clone (codes "disks") (codes "disk") true (kv (codes "clone-max") (codes "1") ∷ [])
    ∷ defaults (kv (codes "priority") (codes "6") ∷ kv (codes "failure-timeout") (codes "2") ∷ [])
    ∷ []

abbrev pub all : List Statement
all = said_by forms

abbrev vip : Primitive
vip = record { id = codes "vip"; meta = kv (codes "priority") (codes "3") ∷ []; ops = [] }

abbrev plain : List ℕ → Primitive
plain id = record { id = id; meta = []; ops = [] }

-- a value stands in the primitive, else in its group, else in its clone, else in the defaults, and else is the default value

own_value : (leaf_said all vip).priority ≡ pos 3
unfolding leaf_said
own_value = refl

value_of_the_group : (leaf_said all (plain (codes "web"))).priority ≡ pos 4
unfolding leaf_said
value_of_the_group = refl

value_of_the_clone : (leaf_said all (plain (codes "web"))).timeout_ms ≡ 1000
unfolding leaf_said
value_of_the_clone = refl

value_of_the_defaults : (leaf_said all (plain (codes "db"))).priority ≡ pos 6
unfolding leaf_said
value_of_the_defaults = refl

no_value : (leaf_said all (plain (codes "db"))).stickiness ≡ pos 0
unfolding leaf_said
no_value = refl

-- a member of a cloned group is cloned, and any but the first follows

first_member : (leaf_said all vip).follower ≡ false
unfolding leaf_said
first_member = refl

later_member : (leaf_said all (plain (codes "web"))).follower ≡ true
unfolding leaf_said
later_member = refl

member_is_cloned : (leaf_said all (plain (codes "web"))).copies ≡ 2
unfolding leaf_said
member_is_cloned = refl

fewer_copies : (leaf_said all (plain (codes "disk"))).copies ≡ 1
unfolding leaf_said
fewer_copies = refl

promotable_child : (leaf_said all (plain (codes "disk"))).promotable ≡ true
unfolding leaf_said
promotable_child = refl

not_cloned : (leaf_said all (plain (codes "db"))).cloned ≡ false
unfolding leaf_said
not_cloned = refl

-- a failed stop, with fencing and without
stop_with_fencing : (leaf_said all (plain (codes "db"))).stop_fail ≡ Fence
unfolding leaf_said
stop_with_fencing = refl

stop_without_fencing : (leaf_said (stated (property (kv (codes "stonith-enabled") (codes "no") ∷ [])) ∷ all) (plain (codes "db"))).stop_fail ≡ Block
unfolding leaf_said
stop_without_fencing = refl

-- the first and the last leaf: a primitive is its own, a group has those of its members, and a clone those of its child
spans : spans_said all
    ≡ record { name = codes "vip"; first = 0; last = 0 }
    ∷ record { name = codes "web"; first = 1; last = 1 }
    ∷ record { name = codes "db"; first = 2; last = 2 }
    ∷ record { name = codes "disk"; first = 3; last = 3 }
    ∷ record { name = codes "site"; first = 0; last = 1 }
    ∷ record { name = codes "sites"; first = 0; last = 1 }
    ∷ record { name = codes "disks"; first = 3; last = 3 }
    ∷ []
unfolding spans_said
spans = refl

-- names in rules
abbrev pub leaves : Leaves
leaves = leaves_and_spans all

second_node : node_number all (codes "n2") ≡ 1
second_node = refl

no_node : place_of_node all (codes "n3") ≡ None
no_node = refl

members_of_one_group : in_one_group all (codes "vip") (codes "web") ≡ true
members_of_one_group = refl

no_group_has_both : in_one_group all (codes "vip") (codes "db") ≡ false
no_group_has_both = refl

-- a location of a clone of a group is one of the first member
location_of_a_group : its_locations leaves all (location (codes "sites") None (codes "n2"))
    ≡ record { id = codes "l"; leaf = 0; role = role.Started; score = pos 5; node = 1 } ∷ []
unfolding leaves_said spans_said
location_of_a_group = refl

-- the first member wants to be with what a group needs, and what needs a group with its last
group_wants : its_colocations leaves (colocation (codes "site") word.Started (codes "db") word.Started)
    ≡ record { id = codes "c"; dependent = 0; dependent_role = role.Started; primary = 2; primary_role = role.Started; score = pos 5 } ∷ []
unfolding leaves_said spans_said
group_wants = refl

group_is_wanted : its_colocations leaves (colocation (codes "db") word.Started (codes "site") word.Started)
    ≡ record { id = codes "c"; dependent = 2; dependent_role = role.Started; primary = 1; primary_role = role.Started; score = pos 5 } ∷ []
unfolding leaves_said spans_said
group_is_wanted = refl

-- what waits for a group to start waits for its last member, and what waits for it to stop waits for its first
first_and_then : List Order → Option (ℕ × ℕ)
first_and_then [] = None
first_and_then (o ∷ orders) = Some (o.first, o.then_leaf)

after_a_start : first_and_then (its_orders leaves all (order (step (codes "site") action.Start) (step (codes "db") action.Start))) ≡ Some (1, 2)
unfolding leaves_said spans_said first_and_then
after_a_start = refl

after_a_stop_of : first_and_then (its_orders leaves all (order (step (codes "site") action.Stop) (step (codes "db") action.Stop))) ≡ Some (0, 2)
unfolding leaves_said spans_said first_and_then
after_a_stop_of = refl

-- faults of resources: each cause, and none
sound : leaf_fault all ≡ None
unfolding faults.expand_cause
sound = refl

name_again : leaf_fault (said_by (primitive (codes "a") [] ∷ primitive (codes "a") [] ∷ [])) ≡ Some (At 1 expand_cause.DuplicateName)
unfolding faults.expand_cause
name_again = refl

no_member : leaf_fault (said_by (group (codes "g") (codes "a" ∷ []) [] ∷ [])) ≡ Some (At 1 expand_cause.UnknownName)
unfolding faults.expand_cause
no_member = refl

group_of_a_group : leaf_fault (said_by (primitive (codes "a") [] ∷ group (codes "g") (codes "a" ∷ []) [] ∷ group (codes "h") (codes "g" ∷ []) [] ∷ []))
    ≡ Some (At 1 expand_cause.NestedTwice)
unfolding faults.expand_cause
group_of_a_group = refl

empty_group : leaf_fault (said_by (group (codes "g") [] [] ∷ [])) ≡ Some (At 1 expand_cause.EmptyGroup)
unfolding faults.expand_cause
empty_group = refl

member_twice : leaf_fault (said_by (primitive (codes "a") [] ∷ group (codes "g") (codes "a" ∷ codes "a" ∷ []) [] ∷ []))
    ≡ Some (At 1 expand_cause.MemberTwice)
unfolding faults.expand_cause
member_twice = refl

promotable_group : leaf_fault (said_by (primitive (codes "a") [] ∷ group (codes "g") (codes "a" ∷ []) [] ∷ clone (codes "c") (codes "g") true [] ∷ []))
    ≡ Some (At 1 expand_cause.UnsupportedMeta)
unfolding faults.expand_cause
promotable_group = refl

-- faults of rules
unknown_node : rule_cause leaves all all (stated (location (codes "db") None (codes "n3"))) ≡ Some model_cause.UnknownName
unfolding rule_cause leaves_said spans_said
unknown_node = refl

not_promotable : rule_cause leaves all all (stated (location (codes "db") (Some word.Promoted) (codes "n1"))) ≡ Some model_cause.NotPromotable
unfolding rule_cause leaves_said spans_said leaf_said
not_promotable = refl

turned_down : rule_cause leaves all all (stated (order (step (codes "db") action.Start) (step (codes "vip") action.Stop))) ≡ Some model_cause.UnsupportedOrder
unfolding rule_cause leaves_said spans_said leaf_said
turned_down = refl

able : rule_cause leaves all all (stated (location (codes "disks") (Some word.Promoted) (codes "n1"))) ≡ None
unfolding rule_cause leaves_said spans_said leaf_said
able = refl
