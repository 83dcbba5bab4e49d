use Rattle.std.proofs.Common.{◌≡◌, ◌++◌, take}
use Rattle.std.specs.List.{flat_map}
use Rattle.decision_account.specs.Parts.{lender_of}
use Rattle.account_text.specs.Inner.PartsByStates.{own_parts_by, parts_text}
use Rattle.account_text.proofs.base_parts.push_place.Given as goal

abbrev pub invariant-loop-source : goal.invariant-loop-source
invariant-loop-source l =
    l.text.items
    ≡ l.fn.text.items
    ++ flat_map (λ s. parts_text l.sources.cluster.now l.cell (own_parts_by l.sources.cluster.now l.sources.states.now (lender_of l.leaf s) s l.node))
    (take l.source-index l.joined)
