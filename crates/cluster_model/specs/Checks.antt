-- Which statements are at fault in `resolve`, loops aside (the causes and their order are rules of this project).
use Rattle.std.specs.Prelude.{ℕ, nat_lt, Bool, false, not, ◌&&◌, ◌||◌, if◌then◌else◌, Option, Some, None, List, [], ◌∷◌, ◌++◌, length, is_none, sum_by}
use Rattle.std.specs.List.{list_any}
use Rattle.std.specs.Option.{option_or}
use Rattle.crm_parse.specs.declared.form.Form.{Form}
use Rattle.crm_parse.specs.declared.form.Form.TheVariants as form
use Rattle.crm_parse.specs.declared.form.OrderStep.{OrderStep}
use Rattle.crm_parse.specs.declared.rule_form.RuleForm.{RuleForm}
use Rattle.crm_parse.specs.declared.statement.Statement.{Statement}
use Rattle.crm_parse.specs.declared.words.ActionWord.{ActionWord}
use Rattle.crm_parse.specs.declared.words.ActionWord.TheVariants as action
use Rattle.cluster_types.specs.declared.leaf.Role.{Role}
use Rattle.cluster_types.specs.declared.leaf.Role.TheVariants as role
use Rattle.cluster_model.specs.declared.resolution.fault.ModelCause.{ModelCause}
use Rattle.cluster_model.specs.declared.resolution.fault.ModelCause.TheVariants.{UnknownName, NotPromotable, UnsupportedOrder, TooManyNodes, TooManyLeaves, TooManyRules}
use Rattle.cluster_model.specs.SuccessivePairs.{successive}
use Rattle.cluster_model.specs.Locations.{role_of_word, role_written}
use Rattle.cluster_model.specs.Orders.{is_down, leaf_begun, leaf_done}
use Rattle.cluster_model.specs.declared.expansion.leaves.Leaves.{Leaves}
use Rattle.cluster_model.specs.Counting.{rule_count}
use Rattle.cluster_model.specs.NamesInRules.{first_leaf, is_missing, last_leaf, place_of_node, promotes}
use Rattle.cluster_model.specs.Resources.{all_primitives}
use Rattle.cluster_model.specs.Settings.{count_nodes}

-- how many nodes, leaves and rules there may be (rule of this project)
abbrev pub most_nodes : ℕ
most_nodes = 256

abbrev pub most_leaves : ℕ
most_leaves = 1000

abbrev pub most_rules : ℕ
most_rules = 2000

-- more than there may be
abbrev pub too_many : List Statement → Option ModelCause
too_many statements =
    if nat_lt most_nodes (count_nodes statements) then Some TooManyNodes
    else if nat_lt most_leaves (length (all_primitives statements)) then Some TooManyLeaves
    else if nat_lt most_rules (sum_by (λ s. rule_count s.form) statements) then Some TooManyRules
    else None

module _ (leaves : Leaves) (statements : List Statement) where
  -- a rule names a resource or a node that isn't there, or a group a member
  abbrev pub names_missing : Form → Bool
  names_missing (form.Location id resource role discovery score node) = is_missing leaves resource || is_none (place_of_node statements node)
  names_missing (form.RuledLocation id resource role discovery rules) = is_missing leaves resource
  names_missing (form.Colocation id score dependent primary) = is_missing leaves dependent.resource || is_missing leaves primary.resource
  names_missing (form.Order id kind steps symmetrical) = list_any (λ (step : OrderStep). is_missing leaves step.resource) steps
  names_missing (form.Group id members description params meta) = list_any (is_missing leaves) members
  names_missing _ = false

module _ (leaves : Leaves) where
  -- the leaf can't have the role, or take the action
  abbrev pub cant_have : ℕ → Role → Bool
  cant_have leaf role.Started = false
  cant_have leaf role.Promoted = not (promotes leaves leaf)

  abbrev pub cant_take : ℕ → ActionWord → Bool
  cant_take leaf action.Promote = not (promotes leaves leaf)
  cant_take leaf action.Demote = not (promotes leaves leaf)
  cant_take leaf action.Start = false
  cant_take leaf action.Stop = false

  -- role Promoted, or an action promote or demote, at a leaf that isn't promotable. A role that a rule overrides isn't tested
  abbrev pub promotes_plain : Form → Bool
  promotes_plain (form.Location id resource written discovery score node) = cant_have (first_leaf leaves resource) (role_written written)
  promotes_plain (form.RuledLocation id resource written discovery rules) =
      list_any (λ (rule : RuleForm). cant_have (first_leaf leaves resource) (role_written (option_or rule.role written))) rules
  promotes_plain (form.Colocation id score dependent primary) =
      cant_have (first_leaf leaves dependent.resource) (role_of_word dependent.role)
      || cant_have (last_leaf leaves primary.resource) (role_of_word primary.role)
  promotes_plain (form.Order id kind steps symmetrical) =
      list_any
      (λ (pair : OrderStep × OrderStep).
      cant_take (leaf_done leaves pair.0.resource pair.0.action) pair.0.action
      || cant_take (leaf_begun leaves pair.1.resource pair.1.action) pair.1.action)
      (successive steps)
  promotes_plain _ = false

-- a stop or a demote that waits for a start or a promote
abbrev pub turns_down : OrderStep × OrderStep → Bool
turns_down pair = not (is_down pair.0.action) && is_down pair.1.action

-- an order has two successive steps of which the first starts or promotes, and the second stops or demotes
abbrev pub has_unsupported_pair : Form → Bool
has_unsupported_pair (form.Order id kind steps symmetrical) = list_any turns_down (successive steps)
has_unsupported_pair _ = false

module _ (leaves : Leaves) (statements : List Statement) where
  -- the first cause that a statement has, loops aside, where these stand before it
  unfoldable pub rule_cause : List Statement → Statement → Option ModelCause
  rule_cause before s =
      if names_missing leaves statements s.form then Some UnknownName
      else if promotes_plain leaves s.form then Some NotPromotable
      else if has_unsupported_pair s.form then Some UnsupportedOrder
      else too_many (before ++ s ∷ [])
