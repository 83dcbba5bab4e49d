use Rattle.std.proofs.Common.{arith, ◌+◌, ◌-◌, ℕ, List, Contains, length, take, drop, sym, ◌∙◌}
use Rattle.std.proofs.lemmas.List.{get_or-drop, length-drop}
use Rattle.lemmas.proofs.Members.{contains_first}
use Rattle.placement.specs.declared.held_targets.dependencies.Dependency.{Dependency}
use Rattle.placement.proofs.held_targets.spreading.rules_of.Goals as goal

-- what stands behind the first so many stands in the list
behind : (n : ℕ) (rules : List Dependency) (rule : Dependency) → Contains (drop n rules) rule → Contains rules rule
behind n rules rule (k, lt, at) =
    let l = length-drop n rules in
    (n + k, omega arith, sym (get_or-drop n rules k rule) ∙ at)

pub returns : goal.returns
returns c = λ rule among.
    let first = c.partition_point.result in
    let list = c.args.rules.now in
    let rest = length list - first in
    behind first list rule
    (contains_first rest (drop first list) rule (contains_first c.partition_point-2.result (take rest (drop first list)) rule among))
