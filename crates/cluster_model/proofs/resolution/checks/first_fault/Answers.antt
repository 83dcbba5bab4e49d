use Rattle.std.proofs.Common.{arith, refl, ap}
use Rattle.cluster_model.specs.declared.resolution.counts.Counts.{Counts}
use Rattle.cluster_model.proofs.Passes.{found_fault, found_sound}
use Rattle.cluster_model.proofs.resolution.checks.first_fault.Goals as goal

pub loop-statement-init : goal.loop-statement-init
loop-statement-init c = record {
  fault = found_fault c.args.directory.now c.nothing_counted-counts.result c.args.statements.now c.nothing_counted-counts.ensures;
  sound = found_sound c.args.directory.now c.nothing_counted-counts.result c.args.statements.now c.nothing_counted-counts.ensures;
  so_many = refl;
  nodes = omega (arith, ap (λ (k : Counts). k.nodes) c.nothing_counted-counts.ensures);
  leaves = omega (arith, ap (λ (k : Counts). k.leaves) c.nothing_counted-counts.ensures);
  rules = omega (arith, ap (λ (k : Counts). k.rules) c.nothing_counted-counts.ensures);
}
