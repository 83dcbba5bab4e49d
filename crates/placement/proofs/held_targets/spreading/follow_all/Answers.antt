use Rattle.std.proofs.Common.{arith, false, ◌≡◌, ℕ, refl, sym, ◌∙◌, subst, slice_index_or}
use Rattle.std.proofs.lemmas.List.{get_or_default}
use Rattle.cluster_types.specs.declared.leaf.Role.TheVariants as role
use Rattle.cluster_types.specs.Tables.{targets_of}
use Rattle.placement.specs.declared.held_targets.dependencies.Dependency.{Dependency}
use Rattle.placement.specs.Inner.Taking.{TakenAway, none_yet}
use Rattle.placement.proofs.TakenSteps.{taken_on}
use Rattle.placement.proofs.held_targets.spreading.follow_all.Goals as goal

pub loop-rule-init : goal.loop-rule-init
loop-rule-init c = record {
  nodes = refl;
  size = refl;
  taken = λ all in_all. none_yet (targets_of c.args.table) (λ r n. refl);
  fewer = omega arith;
}

pub loop-rule-preserved : goal.loop-rule-preserved
loop-rule-preserved c =
    let first = c.args.table in
    let now = c.loop-rule.left in
    let new = c.in_ok-left.left in
    let on = c.in_ok-left.ensures in
    let inv = c.loop-rule.invariant in
    let rules = c.args.rules.now in
    let i = c.loop-rule.rule-index in
    let lt = c.loop-rule-test.true in
    -- what the loop reads at this place
    let rule : Dependency
    = slice_index_or rules i (record { dependent = 0; dependent_role = role.Started; primary = 0; primary_role = role.Started; local = false }) in
    let is : rule ≡ slice_index_or rules i rule = get_or_default rules i _ rule lt in
    let more = on.fewer in
    let was = inv.fewer in
    record {
      nodes = on.nodes ∙ inv.nodes;
      size = on.size ∙ inv.size;
      taken = λ all in_all.
          taken_on all first.nodes (targets_of first) (targets_of now) (targets_of new) (inv.taken all in_all)
          (subst (λ (n : ℕ). TakenAway all n (targets_of now) (targets_of new)) inv.nodes (on.taken all (in_all rule (i, lt, sym is))));
      fewer = omega arith;
    }
