use Rattle.std.proofs.Common.{◌≡◌, ◌++◌, take}
use Rattle.std.specs.List.{flat_map}
use Rattle.cluster_types.specs.Tables.{targets_of}
use Rattle.account_text.specs.Inner.Sides.{preference_part}
use Rattle.account_text.specs.Inner.PartsByStates.{parts_text}
use Rattle.account_text.proofs.sides.push_preferences.Given as goal

abbrev pub invariant-loop-rule : goal.invariant-loop-rule
invariant-loop-rule l =
    l.text.items
    ≡ l.fn.text.items
    ++ flat_map (λ rule. parts_text l.cluster l.cell (preference_part (targets_of l.table) l.decision l.node rule.now)) (take l.rule-index l.sides)
