use Rattle.std.proofs.Common.{◌≡◌, ℕ, ◌<◌, true}
use Rattle.score.specs.NodeSet.{has}
use Rattle.base_cases.proofs.rows.set_of.Given as goal

abbrev pub invariant-loop-node : goal.invariant-loop-node
invariant-loop-node g l = (n : ℕ) → has l.set n ≡ true → n < l.bound
