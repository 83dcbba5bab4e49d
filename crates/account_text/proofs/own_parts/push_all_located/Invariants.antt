use Rattle.std.proofs.Common.{◌≡◌, ◌++◌, take}
use Rattle.std.specs.List.{flat_map}
use Rattle.placement.specs.Inner.Locations.{is_role}
use Rattle.account_text.specs.Inner.PartsByStates.{located_part, parts_text}
use Rattle.account_text.proofs.own_parts.push_all_located.Given as goal

abbrev pub invariant-loop-rule : goal.invariant-loop-rule
invariant-loop-rule l =
    l.text.items
    ≡ l.fn.text.items
    ++ flat_map (λ rule. parts_text l.cluster l.cell (located_part l.lender (is_role l.role) l.node rule.now)) (take l.rule-index l.located)
