use Rattle.std.proofs.Common.{◌≡◌, ◌++◌, drop, map}
use Rattle.cluster_model.specs.Inner.Directories.{span_ends, resources_of}
use Rattle.cluster_model.proofs.resolution.directory.resources_of.Given as goal

abbrev pub invariant-loop-span : goal.invariant-loop-span
invariant-loop-span l = resources_of l.spans ≡ l.resources ++ map (λ span. (span.name, span_ends span)) (drop l.span-index l.spans)
