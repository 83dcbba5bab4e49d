use Rattle.std.proofs.Common.{◌≡◌, take}
use Rattle.std.specs.Prelude.{vec_len}
use Rattle.loops.specs.Ranks.{AreMigrating}
use Rattle.planner.proofs.precedence.migrating.migrating_flags.Given as goal

abbrev pub invariant-loop-action : goal.invariant-loop-action
invariant-loop-action l = (vec_len l.flags ≡ l.leaves) × AreMigrating (take l.action-index l.actions) l.flags.items
