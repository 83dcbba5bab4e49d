use Rattle.placement.specs.Inner.LendingRows.{joined_below}
use Rattle.account_text.specs.Inner.JoinedLeaves.{IsJoined}
use Rattle.account_text.proofs.joining.join_all.Given as goal

abbrev pub invariant-loop-lender : goal.invariant-loop-lender
invariant-loop-lender l =
    IsJoined l.own.cluster.now l.own.states.now (joined_below l.own.cluster.now l.own.states.now l.leaf l.lender) l.joined
