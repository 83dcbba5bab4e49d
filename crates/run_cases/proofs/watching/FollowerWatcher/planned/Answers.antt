use Rattle.std.proofs.Common.{[], refl}
use Rattle.cluster_types.specs.declared.run.RunLine.TheVariants as line
use Rattle.cluster_types.specs.Tables.{targets_of}
use Rattle.cluster_types.specs.Texts.{target_lines}
use Rattle.run_cases.proofs.watching.FollowerWatcher.planned.Goals as goal

pub returns-clause-stopped : goal.returns-clause-stopped
returns-clause-stopped c = λ stop cl is. record {
  before = [];
  at = line.Transition c.args.transition;
  behind = target_lines cl c.args.placed.now.pins (targets_of c.args.placed.now.table) c.args.placed.now.none;
  parts = refl;
  stopped = tt;
}
