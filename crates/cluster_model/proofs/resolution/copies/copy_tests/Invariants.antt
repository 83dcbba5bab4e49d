use Rattle.std.proofs.Common.{◌≡◌, take}
use Rattle.cluster_model.proofs.resolution.copies.copy_tests.Given as goal

abbrev pub invariant-loop-test : goal.invariant-loop-test
invariant-loop-test l = l.copies ≡ take l.test-index l.tests
