use Rattle.std.proofs.Common.{◌≡◌, ℕ, List, Contains, length, sym, ◌∙◌, ap, subst}
use Rattle.cluster_types.specs.declared.placement.Table.{Table}
use Rattle.cluster_types.specs.Tables.{targets_of}
use Rattle.placement.specs.declared.held_targets.dependencies.Dependency.{Dependency}
use Rattle.placement.specs.Inner.Dependencies.{dependencies_by}
use Rattle.placement.specs.Inner.Taking.{IsRuleSettled, TakenAway}
use Rattle.placement.proofs.EndTargets.{are_targets}
use Rattle.placement.proofs.LeftOfChosen.{left_of_chosen}
use Rattle.placement.proofs.held_targets.final_targets.targets.Goals as goal

pub returns-clause-targets : goal.returns-clause-targets
returns-clause-targets c = λ events pinned.
    let cl = c.args.cluster.now in
    let pins = c.args.pins.now in
    let chosen = targets_of c.args.chosen.now in
    let left = targets_of c.in_ok-left.left in
    let on = c.in_ok-left.ensures in
    let rules : c.in_ok-rules.rules.items ≡ dependencies_by cl pins = c.in_ok-rules.ensures in
    let table : c.in_ok-table.table ≡ c.args.chosen.now = c.in_ok-table.ensures in
    let nodes : c.in_ok-table.table.nodes ≡ length cl.nodes = ap (λ (t : Table). t.nodes) table ∙ c.requires in
    let taken : TakenAway (dependencies_by cl pins) (length cl.nodes) chosen left
    = subst (λ (t : Table). TakenAway (dependencies_by cl pins) (length cl.nodes) (targets_of t) left) table
    (subst (λ (n : ℕ). TakenAway (dependencies_by cl pins) n (targets_of c.in_ok-table.table) left) nodes
    (subst (λ (xs : List Dependency). TakenAway xs c.in_ok-table.table.nodes (targets_of c.in_ok-table.table) left) rules on.taken)) in
    let settled : (rule : Dependency) → Contains (dependencies_by cl pins) rule → IsRuleSettled (length cl.nodes) left rule
    = λ rule among.
    subst (λ (n : ℕ). IsRuleSettled n left rule) nodes
    (on.settled rule (subst (λ (xs : List Dependency). Contains xs rule) (sym rules) among)) in
    are_targets cl events chosen left (left_of_chosen cl events pins pinned chosen left taken) pins pinned settled
