-- Examples of the rules that a configuration says: how many there may be, which ones close a loop, locations by rule, and orders on one node.
use Rattle.std.proofs.Common.{◌≡◌, ℕ, ℤ, pos, Bool, true, false, List, [], ◌∷◌, map, replicate, Option, Some, None, refl}
use Rattle.std.specs.Prelude.{codes}
use Rattle.faults.specs.declared.fault.Fault.{Fault}
use Rattle.faults.specs.declared.fault.Fault.TheVariants.{At}
use Rattle.date_rules.specs.declared.rule.Rule.{Rule}
use Rattle.date_rules.specs.declared.rule.Test.TheVariants.{Defined}
use Rattle.crm_parse.specs.declared.form.Form.{Form}
use Rattle.crm_parse.specs.declared.form.Form.TheVariants as form
use Rattle.crm_parse.specs.declared.rule_form.RuleForm.{RuleForm}
use Rattle.crm_parse.specs.declared.statement.Statement.{Statement}
use Rattle.crm_parse.specs.declared.words.ActionWord.TheVariants.{Start}
use Rattle.crm_parse.specs.declared.words.KindWord.TheVariants.{Serialize}
use Rattle.crm_parse.specs.declared.words.RoleWord.{RoleWord}
use Rattle.crm_parse.specs.declared.words.RoleWord.TheVariants as word
use Rattle.cluster_types.specs.declared.cluster.Policy.TheVariants.{Freeze}
use Rattle.cluster_types.specs.declared.leaf.Role.TheVariants as role
use Rattle.cluster_types.specs.declared.rules.Order.{Order}
use Rattle.cluster_model.specs.declared.resolution.fault.ModelCause.{ModelCause}
use Rattle.cluster_model.specs.declared.resolution.fault.ModelCause.TheVariants.{TooManyNodes, TooManyLeaves, TooManyRules, ColocationLoop, OrderLoop}
use Rattle.cluster_model.specs.Checks.{rule_cause, too_many}
use Rattle.cluster_model.specs.Expansion.{leaves_and_spans}
use Rattle.cluster_model.specs.FirstFaults.{first_fault}
use Rattle.cluster_model.specs.Leaves.{leaf_said, leaves_said}
use Rattle.cluster_model.specs.Locations.{its_rule_locations}
use Rattle.cluster_model.specs.Options.{policy_of, properties_of}
use Rattle.cluster_model.specs.Orders.{its_orders}
use Rattle.cluster_model.specs.Resolution.{cause_said, cluster_said}
use Rattle.cluster_model.specs.Settings.{option_given}
use Rattle.cluster_model.specs.Spans.{spans_said}
use Rattle.cluster_model.proofs.SaidExamples.{all, clone, colocation, group, kv, leaves, location, node, order, primitive, property, said_by, stated, step}

-- how many nodes, leaves and rules there may be

nodes_within : too_many (replicate 256 (stated (node (codes "n")))) ≡ None
nodes_within = refl

one_node_more : too_many (replicate 257 (stated (node (codes "n")))) ≡ Some TooManyNodes
one_node_more = refl

leaves_within : too_many (replicate 1000 (stated (primitive (codes "a") []))) ≡ None
leaves_within = refl

one_leaf_more : too_many (replicate 1001 (stated (primitive (codes "a") []))) ≡ Some TooManyLeaves
one_leaf_more = refl

-- a group of 1,001 members has 2,000 rules
rules_within : too_many (stated (group (codes "g") (replicate 1001 (codes "a")) []) ∷ []) ≡ None
rules_within = refl

one_rule_more : too_many (stated (group (codes "g") (replicate 1001 (codes "a")) []) ∷ stated (location (codes "a") None (codes "n")) ∷ []) ≡ Some TooManyRules
one_rule_more = refl

-- an option is what the first statement says that gives it a value of its kind

flag_behind_another : option_given (codes "stonith-enabled") true
    (said_by (property (kv (codes "stonith-enabled") (codes "x") ∷ []) ∷ property (kv (codes "stonith-enabled") (codes "no") ∷ []) ∷ [])) ≡ false
flag_behind_another = refl

first_flag : option_given (codes "stonith-enabled") true
    (said_by (property (kv (codes "stonith-enabled") (codes "no") ∷ []) ∷ property (kv (codes "stonith-enabled") (codes "yes") ∷ []) ∷ [])) ≡ false
first_flag = refl

policy_behind_another : (properties_of
    (said_by (property (kv (codes "no-quorum-policy") (codes "x") ∷ []) ∷ property (kv (codes "no-quorum-policy") (codes "freeze") ∷ []) ∷ []))).policy ≡ Freeze
unfolding properties_of policy_of
policy_behind_another = refl

-- loops

abbrev at : ℕ → Form → Statement
at line f = record { line = line; form = f }

-- `a` and `b` in the first two lines, and rules behind them
abbrev with_rules : List Statement → List Statement
with_rules rules = at 1 (primitive (codes "a") []) ∷ at 2 (primitive (codes "b") []) ∷ rules

abbrev fault_with : List Statement → Option (Fault ModelCause)
fault_with rules = first_fault (cause_said (leaves_and_spans (with_rules rules)) (with_rules rules)) [] (with_rules rules)

-- the one wants to be where the other is
abbrev wants : List ℕ → List ℕ → Form
wants one other = colocation one word.Started other word.Started

-- the one starts before the other
abbrev before : List ℕ → List ℕ → Form
before one other = order (step one Start) (step other Start)

abbrev serialized : List ℕ → List ℕ → Form
serialized one other = form.Order (codes "s") Serialize (step one Start ∷ step other Start ∷ []) true

both_want : fault_with (at 3 (wants (codes "a") (codes "b")) ∷ at 4 (wants (codes "b") (codes "a")) ∷ []) ≡ Some (At 4 ColocationLoop)
unfolding rule_cause cluster_said leaves_said spans_said leaf_said
both_want = refl

one_wants_twice : fault_with (at 3 (wants (codes "a") (codes "b")) ∷ at 4 (wants (codes "a") (codes "b")) ∷ []) ≡ None
unfolding rule_cause cluster_said leaves_said spans_said leaf_said
one_wants_twice = refl

each_before_the_other : fault_with (at 3 (before (codes "a") (codes "b")) ∷ at 4 (before (codes "b") (codes "a")) ∷ []) ≡ Some (At 4 OrderLoop)
unfolding rule_cause cluster_said leaves_said spans_said leaf_said
each_before_the_other = refl

one_before_twice : fault_with (at 3 (before (codes "a") (codes "b")) ∷ at 4 (before (codes "a") (codes "b")) ∷ []) ≡ None
unfolding rule_cause cluster_said leaves_said spans_said leaf_said
one_before_twice = refl

-- a kind Serialize makes none wait for the other
each_serialized : fault_with (at 3 (serialized (codes "a") (codes "b")) ∷ at 4 (serialized (codes "b") (codes "a")) ∷ []) ≡ None
unfolding rule_cause cluster_said leaves_said spans_said leaf_said
each_serialized = refl

-- with the group both loops are closed, and that of colocations goes first
group_closes_both : fault_with (at 3 (wants (codes "a") (codes "b")) ∷ at 4 (before (codes "b") (codes "a")) ∷ at 5 (group (codes "g") (codes "a" ∷ codes "b" ∷ []) []) ∷ [])
    ≡ Some (At 5 ColocationLoop)
unfolding rule_cause cluster_said leaves_said spans_said leaf_said
group_closes_both = refl

-- locations by rule: one for each rule, of the first member of a group, with the role of the rule or else that of the statement

abbrev on_racks : Rule
on_racks = record { all = true; tests = Defined (codes "rack") ∷ [] }

abbrev rule : Option RoleWord → ℤ → RuleForm
rule written score = record { id = None; role = written; score = score; words = []; rule = on_racks }

rules_of_a_group : its_rule_locations leaves all (form.RuledLocation (codes "l") (codes "site") (Some word.Promoted) false (rule None (pos 5) ∷ rule (Some word.Started) (pos 6) ∷ []))
    ≡ record { id = codes "l"; leaf = 0; role = role.Promoted; score = pos 5; rule = on_racks }
    ∷ record { id = codes "l"; leaf = 0; role = role.Started; score = pos 6; rule = on_racks }
    ∷ []
unfolding leaves_said spans_said
rules_of_a_group = refl

-- orders between the copies on one node: where the later one interleaves, or both are members of one cloned group

abbrev cloned : List Statement
cloned =
    said_by (
    primitive (codes "p") []
    ∷ primitive (codes "q") []
    ∷ clone (codes "cp") (codes "p") false []
    ∷ clone (codes "cq") (codes "q") false (kv (codes "interleave") (codes "true") ∷ [])
    ∷ []
    )

abbrev are_local : List Order → List Bool
are_local orders = map (λ (o : Order). o.local) orders

later_interleaves : are_local (its_orders (leaves_and_spans cloned) cloned (before (codes "cp") (codes "cq"))) ≡ true ∷ []
unfolding leaves_said spans_said leaf_said
later_interleaves = refl

first_interleaves : are_local (its_orders (leaves_and_spans cloned) cloned (before (codes "cq") (codes "cp"))) ≡ false ∷ []
unfolding leaves_said spans_said leaf_said
first_interleaves = refl

in_one_cloned_group : are_local (its_orders leaves all (group (codes "site") (codes "vip" ∷ codes "web" ∷ []) [])) ≡ true ∷ []
unfolding leaves_said spans_said leaf_said
in_one_cloned_group = refl

not_both_cloned : are_local (its_orders leaves all (before (codes "db") (codes "sites"))) ≡ false ∷ []
unfolding leaves_said spans_said leaf_said
not_both_cloned = refl
