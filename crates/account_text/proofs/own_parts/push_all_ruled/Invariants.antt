use Rattle.std.proofs.Common.{◌≡◌, ◌++◌, take}
use Rattle.std.specs.List.{flat_map}
use Rattle.placement.specs.Inner.Locations.{is_role}
use Rattle.account_text.specs.Inner.PartsByStates.{parts_text, ruled_part}
use Rattle.account_text.proofs.own_parts.push_all_ruled.Given as goal

abbrev pub invariant-loop-ruled : goal.invariant-loop-ruled
invariant-loop-ruled l =
    l.text.items
    ≡ l.fn.text.items
    ++ flat_map (λ ruled. parts_text l.cluster l.cell (ruled_part l.lender (is_role l.role) l.node ruled)) (take l.ruled-index l.all)
