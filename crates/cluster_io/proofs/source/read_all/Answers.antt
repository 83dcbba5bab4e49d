use Rattle.std.proofs.Common.{arith}
use Rattle.std.proofs.lemmas.Grind.{common_steps}
use Rattle.cluster_io.proofs.Pieces.{Takes-at_most, Takes-count, on_err}
use Rattle.cluster_io.proofs.source.read_all.Goals as goal

pub returns-in-Got-clause-taken : goal.returns-in-Got-clause-taken
returns-in-Got-clause-taken g c =
    Takes-at_most _ _ _ _ _ _ _ c.loop-count.invariant.taken c.in-Got.ensures.bytes.2
    c.in-Got.ensures.bytes.1 (grind (arith, common_steps))

pub returns-in-Got-clause-too_large : goal.returns-in-Got-clause-too_large
returns-in-Got-clause-too_large g c _ =
    Takes-count _ _ _ _ _ _ _ c.loop-count.invariant.taken c.in-Got.ensures.bytes.2
    c.in-Got.ensures.bytes.1 (grind (arith, common_steps))

pub returns-in_err-extend_from_slice-in-Got-2-clause-taken :
    goal.returns-in_err-extend_from_slice-in-Got-2-clause-taken
returns-in_err-extend_from_slice-in-Got-2-clause-taken g c =
    on_err _ (Takes-at_most _ _ _ _ _ _ _ c.loop-count.invariant.taken c.in-Got.ensures.bytes.2
    c.in-Got.ensures.bytes.1 (grind (arith, common_steps)))
