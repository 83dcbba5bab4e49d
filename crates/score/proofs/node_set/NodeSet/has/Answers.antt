use Rattle.std.proofs.Common.{nat_eq, ap, get_or, ◌/◌, ◌%◌}
use Rattle.std.proofs.lemmas.Nat.Bits.{shr_and_one}
use Rattle.score.specs.NodeSet.{has}
use Rattle.score.proofs.node_set.NodeSet.has.Goals as goal

pub returns : goal.returns
unfolding has
returns c = ap (λ b. nat_eq b 1) (shr_and_one (get_or c.args.self.now.words (c.args.node / 64) 0) (c.args.node % 64))
