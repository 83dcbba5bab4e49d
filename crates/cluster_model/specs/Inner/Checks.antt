-- Which rules the code finds at fault by its directory, loops aside.
use Rattle.std.specs.Prelude.{ℕ, nat_lt, Bool, false, not, ◌||◌, if◌then◌else◌, Option, Some, None}
use Rattle.std.specs.List.{list_any}
use Rattle.std.specs.Option.{option_or}
use Rattle.crm_parse.specs.declared.form.Form.{Form}
use Rattle.crm_parse.specs.declared.form.Form.TheVariants as form
use Rattle.crm_parse.specs.declared.form.OrderStep.{OrderStep}
use Rattle.cluster_types.specs.declared.leaf.Role.{Role}
use Rattle.cluster_types.specs.declared.leaf.Role.TheVariants as role
use Rattle.cluster_types.specs.declared.leaf.Op.TheVariants as op
use Rattle.cluster_model.specs.declared.resolution.colocations.Bearer.{Bearer}
use Rattle.cluster_model.specs.declared.resolution.counts.Counts.{Counts}
use Rattle.cluster_model.specs.declared.resolution.directory.Directory.{Directory}
use Rattle.cluster_model.specs.declared.resolution.fault.ModelCause.{ModelCause}
use Rattle.cluster_model.specs.declared.resolution.fault.ModelCause.TheVariants.{UnknownName, NotPromotable, UnsupportedOrder, TooManyNodes, TooManyLeaves, TooManyRules}
use Rattle.cluster_model.specs.declared.resolution.orders.Point.{Point}
use Rattle.cluster_model.specs.SuccessivePairs.{successive}
use Rattle.cluster_model.specs.Inner.Colocations.{dependent_at, primary_at}
use Rattle.cluster_model.specs.Inner.Directories.{first_named, is_unknown, is_unknown_node, may_promote}
use Rattle.cluster_model.specs.Locations.{role_of_word, role_written}
use Rattle.cluster_model.specs.Inner.Orders.{first_point, then_point}
use Rattle.cluster_model.specs.Checks.{has_unsupported_pair}

-- a rule names a resource or a node that isn't there
abbrev pub has_unknown : Directory → Form → Bool
has_unknown d (form.Location id resource role discovery score node) = is_unknown d resource || is_unknown_node d node
has_unknown d (form.RuledLocation id resource role discovery rules) = is_unknown d resource
has_unknown d (form.Colocation id score dependent primary) = is_unknown d dependent.resource || is_unknown d primary.resource
has_unknown d (form.Order id kind steps symmetrical) = list_any (λ step. is_unknown d step.resource) steps
has_unknown d (form.Group id members description params meta) = list_any (is_unknown d) members
has_unknown d _ = false

-- the leaf can't have the role
abbrev pub lacks_role : Directory → ℕ → Role → Bool
lacks_role d leaf role.Started = false
lacks_role d leaf role.Promoted = not (may_promote d leaf)

abbrev pub side_lacks : Directory → Bearer → Bool
side_lacks d side = lacks_role d side.leaf side.role

-- the leaf can't take the action
abbrev pub lacks_action : Directory → Point → Bool
lacks_action d point = elim point.what [
  | op.Promote ↦ not (may_promote d point.leaf)
  | op.Demote ↦ not (may_promote d point.leaf)
  | op.Start ↦ false
  | op.Stop ↦ false
  | op.Monitor ↦ false
]

abbrev pub lacks_in_pair : Directory → OrderStep × OrderStep → Bool
lacks_in_pair d pair =
    lacks_action d (first_point d pair.0.resource pair.0.action) || lacks_action d (then_point d pair.1.resource pair.1.action)

-- role Promoted, or an action promote or demote, at a leaf that isn't promotable
abbrev pub has_unpromotable : Directory → Form → Bool
has_unpromotable d (form.Location id resource written discovery score node) = lacks_role d (first_named d resource) (role_written written)
has_unpromotable d (form.RuledLocation id resource written discovery rules) =
    list_any (λ rule. lacks_role d (first_named d resource) (role_written (option_or rule.role written))) rules
has_unpromotable d (form.Colocation id score dependent primary) =
    side_lacks d (dependent_at d dependent.resource (role_of_word dependent.role))
    || side_lacks d (primary_at d primary.resource (role_of_word primary.role))
has_unpromotable d (form.Order id kind steps symmetrical) = list_any (lacks_in_pair d) (successive steps)
has_unpromotable d _ = false

-- more than there may be
abbrev pub excess_of : Counts → Option ModelCause
excess_of counts =
    if nat_lt 256 counts.nodes then Some TooManyNodes
    else if nat_lt 1000 counts.leaves then Some TooManyLeaves
    else if nat_lt 2000 counts.rules then Some TooManyRules
    else None

-- the cause of a statement that is at fault, where it and those before it have so much
unfoldable pub cause_of : Directory → Counts → Form → Option ModelCause
cause_of d counts form =
    if has_unknown d form then Some UnknownName
    else if has_unpromotable d form then Some NotPromotable
    else if has_unsupported_pair form then Some UnsupportedOrder
    else excess_of counts
