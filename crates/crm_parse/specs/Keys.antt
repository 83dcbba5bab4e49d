-- Which values the keys with effect take, by the place of the pair (the meaning of each key: Pacemaker Explained, cluster options, resource meta
-- attributes, clone options, operation properties, node attributes; the accepted values are a rule of this project). Any other key is free.
use Rattle.std.specs.Prelude.{Bool, true, false, not, ◌&&◌, ◌||◌, if◌then◌else◌, int_le, pos, List, ℕ, codes, is_some, Option, Some, None, Result, Ok, Err}
use Rattle.std.specs.Option.{option_map_or}
use Rattle.crm_lex.specs.Names.{is}
use Rattle.score.specs.ScoreText.{read_score}
use Rattle.crm_parse.specs.declared.fault.ParseCause.{ParseCause}
use Rattle.crm_parse.specs.declared.fault.ParseCause.TheVariants.{BadScore, BadTime, BadValue, ExtraWord, Unsupported}
use Rattle.crm_parse.specs.declared.place.OpName.{OpName}
use Rattle.crm_parse.specs.declared.place.OpName.TheVariants as op
use Rattle.crm_parse.specs.declared.place.Place.{Place}
use Rattle.crm_parse.specs.declared.place.Place.TheVariants as place
use Rattle.crm_parse.specs.declared.values.RoleName.{RoleName}
use Rattle.crm_parse.specs.declared.values.RoleName.TheVariants.{Started, Promoted, Unpromoted, Stopped}
use Rattle.crm_parse.specs.Values.{bool_of, count_of, role_of, time_of}

-- a value is taken, or refused for this cause
abbrev pub ValueTaken : Type 0
ValueTaken = Result (Unit {0}) ParseCause

abbrev pub when : Bool → ParseCause → ValueTaken
when test cause = if test then Ok tt else Err cause

abbrev pub a_score : List ℕ → ValueTaken
a_score value = when (is_some (read_score value)) BadScore

-- a score of 0 or more
abbrev pub a_threshold : List ℕ → ValueTaken
a_threshold value = when (option_map_or (λ score. int_le (pos 0) score) (read_score value) false) BadValue

abbrev pub a_time : List ℕ → ValueTaken
a_time value = when (is_some (time_of value)) BadTime

abbrev pub a_role : List ℕ → ValueTaken
a_role value = when (is_some (role_of value)) BadValue

abbrev pub a_bool : List ℕ → ValueTaken
a_bool value = when (is_some (bool_of value)) BadValue

abbrev pub a_count : List ℕ → ValueTaken
a_count value = when (is_some (count_of value)) BadValue

-- this text alone is supported
abbrev pub only : List ℕ → List ℕ → ValueTaken
only text value = when (is value text) Unsupported

-- yes or no, of which this one isn't supported
abbrev pub but_not : Bool → Option Bool → ValueTaken
but_not refused None = Err BadValue
but_not true (Some true) = Err Unsupported
but_not true (Some false) = Ok tt
but_not false (Some true) = Ok tt
but_not false (Some false) = Err Unsupported

abbrev pub not_true : List ℕ → ValueTaken
not_true value = but_not true (bool_of value)

abbrev pub not_false : List ℕ → ValueTaken
not_false value = but_not false (bool_of value)

-- any way to say yes
abbrev pub a_yes : List ℕ → ValueTaken
a_yes value = when (option_map_or (λ yes. yes) (bool_of value) false) BadValue

-- meta attributes of a resource, in primitives, groups, clones and rsc_defaults
abbrev pub leaf_meta : List ℕ → List ℕ → ValueTaken
leaf_meta key value =
    if is key (codes "priority") || is key (codes "resource-stickiness") then a_score value
    else if is key (codes "migration-threshold") then a_threshold value
    else if is key (codes "failure-timeout") then a_time value
    else if is key (codes "target-role") then a_role value
    else if is key (codes "is-managed") || is key (codes "allow-migrate") then a_bool value
    else if is key (codes "multiple-active") then only (codes "stop_start") value
    else if is key (codes "requires") then only (codes "fencing") value
    else if is key (codes "critical") then not_false value
    else if is key (codes "maintenance") then not_true value
    else Ok tt

-- a key that says how many copies may be promoted, by its name or its former one
abbrev pub is_promoted_max : List ℕ → Bool
is_promoted_max key = is key (codes "promoted-max") || is key (codes "master-max")

-- meta attributes of a clone, beside those of a resource
abbrev pub clone_meta : List ℕ → List ℕ → ValueTaken
clone_meta key value =
    if is key (codes "clone-max") || is_promoted_max key then a_count value
    else if is key (codes "clone-node-max") || is key (codes "promoted-node-max") || is key (codes "master-node-max") then only (codes "1") value
    else if is key (codes "promotable") || is key (codes "interleave") then a_bool value
    else if is key (codes "globally-unique") || is key (codes "ordered") then not_true value
    else leaf_meta key value

-- those of a statement `ms`, which is promotable
abbrev pub ms_meta : List ℕ → List ℕ → ValueTaken
ms_meta key value = if is key (codes "promotable") then a_yes value else clone_meta key value

-- attributes of a node
abbrev pub node_attribute : List ℕ → List ℕ → ValueTaken
node_attribute key value =
    if is key (codes "standby") then a_bool value
    else if is key (codes "maintenance") then not_true value
    else Ok tt

-- what is done without quorum
abbrev pub a_policy : List ℕ → ValueTaken
a_policy value =
    if is value (codes "stop") || is value (codes "ignore") || is value (codes "freeze") then Ok tt
    else if is value (codes "demote") || is value (codes "suicide") || is value (codes "fence") then Err Unsupported
    else Err BadValue

-- options of the cluster
abbrev pub property : List ℕ → List ℕ → ValueTaken
property key value =
    if is key (codes "symmetric-cluster") || is key (codes "stonith-enabled") || is key (codes "startup-fencing")
    || is key (codes "start-failure-is-fatal") || is key (codes "stop-all-resources") || is key (codes "maintenance-mode")
    then a_bool value
    else if is key (codes "no-quorum-policy") then a_policy value
    else if is key (codes "batch-limit") then a_count value
    else if is key (codes "placement-strategy") then only (codes "default") value
    else if is key (codes "node-health-strategy") then only (codes "none") value
    else Ok tt

-- defaults of operations
abbrev pub op_default : List ℕ → ValueTaken
op_default key = when (not (is key (codes "on-fail"))) Unsupported

abbrev pub is_monitor_name : OpName → Bool
is_monitor_name op.Monitor = true
is_monitor_name _ = false

abbrev pub is_stop_name : OpName → Bool
is_stop_name op.Stop = true
is_stop_name _ = false

abbrev pub is_other : OpName → Bool
is_other op.Other = true
is_other _ = false

-- what is done where an operation fails; that of an operation without effect is free
abbrev pub on_fail : OpName → List ℕ → ValueTaken
on_fail name value =
    if is_other name then Ok tt
    else if is value (codes "block") || is value (codes "fence") then Ok tt
    else if is value (codes "restart") || is value (codes "stop") then when (not (is_stop_name name)) BadValue
    else if is value (codes "ignore") then when (is_monitor_name name) Unsupported
    else if is value (codes "standby") || is value (codes "demote") then Err Unsupported
    else Err BadValue

-- a role of an operation: a monitor of stopped resources isn't supported
abbrev pub runs_in : Option RoleName → ValueTaken
runs_in None = Err BadValue
runs_in (Some Stopped) = Err Unsupported
runs_in (Some Started) = Ok tt
runs_in (Some Promoted) = Ok tt
runs_in (Some Unpromoted) = Ok tt

-- the keys of an operation
abbrev pub operation_value : OpName → List ℕ → List ℕ → ValueTaken
operation_value name key value =
    if is key (codes "interval") then a_time value
    else if is key (codes "on-fail") then on_fail name value
    else if is key (codes "role") then runs_in (role_of value)
    else if is key (codes "enabled") then a_bool value
    else Ok tt

-- a pair of this key and value is taken in its place
unfoldable pub accepts : Place → List ℕ → List ℕ → ValueTaken
accepts place.Plain key value = Ok tt
accepts place.NodeAttributes key value = node_attribute key value
accepts place.PrimitivePlain key value = Ok tt
accepts place.PrimitiveMeta key value = leaf_meta key value
accepts place.LeafMeta key value = leaf_meta key value
accepts place.CloneMeta key value = clone_meta key value
accepts place.MsMeta key value = ms_meta key value
accepts place.Property key value = property key value
accepts place.OpDefaults key value = op_default key
accepts (place.Operation name) key value = operation_value name key value

-- a place in a primitive
abbrev pub is_in_primitive : Place → Bool
is_in_primitive place.PrimitivePlain = true
is_in_primitive place.PrimitiveMeta = true
is_in_primitive (place.Operation name) = true
is_in_primitive _ = false

-- a place in a clone whose keys are those of a clone
abbrev pub is_clone_meta : Place → Bool
is_clone_meta place.CloneMeta = true
is_clone_meta place.MsMeta = true
is_clone_meta _ = false

-- the cause at a word that is no pair: two sections of a primitive that aren't supported (crmsh manual, primitive), else it has no place
abbrev pub stray : Place → List ℕ → ParseCause
stray p word = if is_in_primitive p && (is word (codes "op_params") || is word (codes "op_meta")) then Unsupported else ExtraWord
