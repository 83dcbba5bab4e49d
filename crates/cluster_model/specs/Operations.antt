-- The operations of a primitive that have effect (Pacemaker Explained, "Resource Operations").
use Rattle.std.specs.Prelude.{ℕ, Bool, true, false, if◌then◌else◌, List, [], ◌∷◌, codes, find, unwrap_or, Option, Some, None}
use Rattle.std.specs.List.{flat_map}
use Rattle.std.specs.Option.{option_and_then, option_map_or}
use Rattle.crm_lex.specs.Names.{is}
use Rattle.crm_parse.specs.declared.pair.Kv.{Kv}
use Rattle.crm_parse.specs.declared.pair.Operation.{Operation}
use Rattle.crm_parse.specs.declared.values.RoleName.{RoleName}
use Rattle.crm_parse.specs.declared.values.RoleName.TheVariants as named
use Rattle.crm_parse.specs.Operations.{interval_of, recurs}
use Rattle.crm_parse.specs.Values.{role_of}
use Rattle.cluster_types.specs.declared.leaf.Monitor.{Monitor}
use Rattle.cluster_types.specs.declared.leaf.OnFail.{OnFail}
use Rattle.cluster_types.specs.declared.leaf.OnFail.TheVariants as on_fail
use Rattle.cluster_types.specs.declared.leaf.Role.{Role}
use Rattle.cluster_types.specs.declared.leaf.Role.TheVariants as role
use Rattle.cluster_model.specs.Metas.{read_as}

-- what follows a failure, by its name
unfoldable pub on_fail_of : List ℕ → Option OnFail
on_fail_of word =
    if is word (codes "ignore") then Some on_fail.Ignore
    else if is word (codes "block") then Some on_fail.Block
    else if is word (codes "stop") then Some on_fail.Stop
    else if is word (codes "restart") then Some on_fail.Restart
    else if is word (codes "fence") then Some on_fail.Fence
    else None

-- what follows a failure of an operation with these pairs
abbrev pub on_fail_in : List Kv → Option OnFail
on_fail_in pairs = read_as on_fail_of (codes "on-fail") pairs

-- what follows a failure of the operation of this name, where it is given
abbrev pub fail_of : List ℕ → List Operation → Option OnFail
fail_of name ops = option_and_then (λ op. on_fail_in op.pairs) (find (λ op. is op.name name) ops)

-- what follows a failed stop where nothing is said: the node is fenced, where nodes are fenced at all, and else the resource is blocked
abbrev pub after_a_stop : Bool → OnFail
after_a_stop true = on_fail.Fence
after_a_stop false = on_fail.Block

abbrev pub is_promoted_name : RoleName → Bool
is_promoted_name named.Promoted = true
is_promoted_name named.Started = false
is_promoted_name named.Unpromoted = false
is_promoted_name named.Stopped = false

-- a monitor of role Promoted runs where the resource is promoted, any other where it isn't
abbrev pub monitor_role : List Kv → Role
monitor_role pairs = if option_map_or is_promoted_name (read_as role_of (codes "role") pairs) false then role.Promoted else role.Started

unfoldable pub monitor_of : List Kv → Monitor
monitor_of pairs = record {
  interval_ms = interval_of pairs;
  role = monitor_role pairs;
  on_fail = unwrap_or (on_fail_in pairs) on_fail.Restart;
}

-- the recurring monitors: those that aren't switched off and whose interval is above 0
abbrev pub monitor_in : Operation → List Monitor
monitor_in op = if recurs op then monitor_of op.pairs ∷ [] else []

abbrev pub monitors_of : List Operation → List Monitor
monitors_of ops = flat_map monitor_in ops
