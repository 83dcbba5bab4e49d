-- The names of operations (rule of this project).
use Rattle.std.specs.Prelude.{ℕ, if◌then◌else◌, List, codes, Option, Some, None}
use Rattle.cluster_types.specs.declared.leaf.Op.{Op}
use Rattle.cluster_types.specs.declared.leaf.Op.TheVariants.{Start, Stop, Promote, Demote, Monitor}
use Rattle.crm_lex.specs.Names.{is}

-- the operation of this name
abbrev pub operation_named : List ℕ → Option Op
operation_named word =
    if is word (codes "start") then Some Start
    else if is word (codes "stop") then Some Stop
    else if is word (codes "promote") then Some Promote
    else if is word (codes "demote") then Some Demote
    else if is word (codes "monitor") then Some Monitor
    else None
