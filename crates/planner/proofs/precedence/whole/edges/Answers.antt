use Rattle.std.proofs.Common.{arith, rules, ◌≡◌, ◌<◌, All, IfSome, ap, length, subst, sym, ◌∙◌}
use Rattle.planner.specs.Inner.Flags.{send_if}
use Rattle.planner.specs.Inner.Index.{leaf_if}
use Rattle.loops.specs.Ranks.{AreMigrating}
use Rattle.planner.proofs.AllEdges.{few_actions}
use Rattle.planner.proofs.ValidRules.{dependents, firsts, leaves_within, primaries, sent_leaves, thens}
use Rattle.planner.proofs.precedence.whole.edges.Goals as goal

pub migrating_flags-requires : goal.migrating_flags-requires
migrating_flags-requires c =
    let long : c.len-leaves.result ≡ length c.args.cluster.now.leaves = search rules in record {
      inside =
          subst (λ n. All (λ a. IfSome (send_if a) (λ r. r < n)) c.args.actions.now) (sym long) (sent_leaves c.args.cluster.now c.args.actions.now c.requires.inside);
    }

pub leaf_index-requires-clause-few : goal.leaf_index-requires-clause-few
leaf_index-requires-clause-few c = let few = few_actions c.args.actions.now c.args.cluster.now c.requires.few in omega arith

pub leaf_index-requires-clause-inside : goal.leaf_index-requires-clause-inside
leaf_index-requires-clause-inside c = λ a h.
    let long : c.len-leaves.result ≡ length c.args.cluster.now.leaves = search rules in
    subst (λ n. IfSome (leaf_if a) (λ r. r < n)) (sym long) (leaves_within c.args.cluster.now c.args.actions.now c.requires.inside a h)

pub invariant_of-known-clause-dependents : goal.invariant_of-known-clause-dependents
invariant_of-known-clause-dependents c = dependents c.args.cluster.now c.requires.valid

pub invariant_of-known-clause-primaries : goal.invariant_of-known-clause-primaries
invariant_of-known-clause-primaries c = primaries c.args.cluster.now c.requires.valid

pub invariant_of-known-clause-firsts : goal.invariant_of-known-clause-firsts
invariant_of-known-clause-firsts c = firsts c.args.cluster.now c.requires.valid

pub invariant_of-known-clause-thens : goal.invariant_of-known-clause-thens
invariant_of-known-clause-thens c = thens c.args.cluster.now c.requires.valid

pub invariant_of-known-clause-short : goal.invariant_of-known-clause-short
invariant_of-known-clause-short c = few_actions c.args.actions.now c.args.cluster.now c.requires.few

pub invariant_of-known-clause-flagged : goal.invariant_of-known-clause-flagged
invariant_of-known-clause-flagged c =
    subst (AreMigrating c.args.actions.now) (sym (c.as_slice.ensures.value ∙ ap (λ v. v.items) c.in_ok-migrating-2.ensures.0)) c.in_ok-migrating.ensures
