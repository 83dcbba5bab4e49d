use Rattle.std.proofs.Common.{◌≡◌, length, take}
use Rattle.std.specs.Prelude.{vec_len}
use Rattle.planner.specs.Inner.Chains.{AreBuckets}
use Rattle.planner.proofs.precedence.buckets.node_buckets.Given as goal

abbrev pub invariant-loop-place : goal.invariant-loop-place
invariant-loop-place l = (vec_len l.buckets ≡ length l.known.cluster.now.nodes) × AreBuckets l.known.actions.now (take l.place-index l.places) (length l.known.cluster.now.nodes) l.buckets.items
