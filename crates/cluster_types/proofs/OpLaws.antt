-- What is said of an operation by itself, by the role that it gives, and by what takes that away; and of the kind of an order.
use Rattle.std.proofs.Common.{◌≡◌, true, [], ◌∷◌, Contains, refl}
use Rattle.lemmas.proofs.Members.{at_head, in_rest}
use Rattle.cluster_types.specs.declared.leaf.Op.{Op}
use Rattle.cluster_types.specs.declared.leaf.Op.TheVariants.{Start, Stop, Promote, Demote, Monitor}
use Rattle.cluster_types.specs.declared.leaf.Role.TheVariants as role
use Rattle.cluster_types.specs.declared.rules.OrderKind.{OrderKind}
use Rattle.cluster_types.specs.declared.rules.OrderKind.TheVariants as kind
use Rattle.cluster_types.specs.Precedence.{is_mandatory_order, is_same_op, is_giving, role_given, takers}

pub op_itself : (o : Op) → is_same_op o o ≡ true
op_itself Start = refl
op_itself Stop = refl
op_itself Promote = refl
op_itself Demote = refl
op_itself Monitor = refl

-- what gives the role Started is a start
pub start_of : (o : Op) → is_giving o ≡ true → role_given o ≡ role.Started → o ≡ Start
start_of Start h e = refl
start_of Promote h e = cc
start_of Stop h e = cc
start_of Demote h e = cc
start_of Monitor h e = cc

-- a stop takes whatever an up word gives
pub stop_takes : (o : Op) → is_giving o ≡ true → Contains (takers o) Stop
stop_takes Start h = at_head Stop [] Stop refl
stop_takes Promote h = in_rest Demote (Stop ∷ []) Stop (at_head Stop [] Stop refl)
stop_takes Stop h = cc
stop_takes Demote h = cc
stop_takes Monitor h = cc

pub of_kind : (k : OrderKind) → is_mandatory_order k ≡ true → k ≡ kind.Mandatory
of_kind kind.Mandatory h = refl
of_kind kind.Optional h = cc
of_kind kind.Serialize h = cc
