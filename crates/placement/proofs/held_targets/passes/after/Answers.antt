use Rattle.std.proofs.Common.{arith, ◌≡◌, ◌&&◌, ℕ, [], ◌∷◌, cond, not, Bool, true, false, refl, sym, subst, ◌∙◌, ap, inl, inr}
use Rattle.std.proofs.lemmas.Bool.{cases_lt}
use Rattle.cluster_types.specs.declared.leaf.Role.{Role}
use Rattle.cluster_types.specs.declared.placement.Table.{Table}
use Rattle.cluster_types.specs.Tables.{holds_role, targets_of}
use Rattle.lemmas.proofs.Members.{at_head}
use Rattle.plan_laws.proofs.MadeOnes.{never_both}
use Rattle.placement.specs.Inner.Taking.{has_primary_where, none_yet, one_more, takes}
use Rattle.placement.proofs.TakenSteps.{still_chosen}
use Rattle.placement.proofs.TakenTests.{takes_first, takes_now}
use Rattle.placement.proofs.held_targets.passes.after.Goals as goal

pub loop-node-init : goal.loop-node-init
loop-node-init c = record {
  nodes = refl;
  size = refl;
  taken = λ rules among. none_yet (targets_of c.args.left.table) (λ r n. refl);
  fewer = omega arith;
  unchanged = λ e. e;
  same = λ e. refl;
  settled = λ e n lt. absurd (let f : ⊥ = omega arith in f);
}

pub loop-node-preserved : goal.loop-node-preserved
loop-node-preserved c =
    let first = targets_of c.args.left.table in
    let now = targets_of c.loop-node.left.table in
    let nodes = c.args.left.table.nodes in
    let rule = c.args.rule in
    let inv = c.loop-node.invariant in
    let less : (r : ℕ) (given : Role) (n : ℕ) → holds_role now r given n ≡ true → holds_role first r given n ≡ true
    = still_chosen (rule ∷ []) nodes first now (inv.taken (rule ∷ []) (at_head rule [] rule refl)) in
    let taken : takes nodes now rule c.loop-node.node ≡ true
    = takes_now nodes first rule c.has_some-anywhere.result c.has_some-anywhere.ensures c.loop-node.node now less
    (sym c.is_taken.ensures ∙ c.if-not-is_taken.false) in
    let went = c.without-left.ensures in
    let more : cond {A = ℕ} c.without-left.result.changed 1 0 ≡ 1 = ap (λ (b : Bool). cond {A = ℕ} b 1 0) went.changed in
    let less_roles = went.fewer in
    let was = inv.fewer in
    let changes : c.without-left.result.changed ≡ false → ⊥ = λ e. never_both c.without-left.result.changed went.changed e in
    record {
      nodes = went.nodes ∙ inv.nodes;
      size = went.size ∙ inv.size;
      taken = λ rules among.
          one_more now (targets_of c.without-left.result.table) rule c.loop-node.node (inv.taken rules among) among c.loop-node-test.true taken went.targets;
      fewer = omega arith;
      unchanged = λ e. absurd (changes e);
      same = λ e. absurd (changes e);
      settled = λ e n lt. absurd (changes e);
    }

pub loop-node-preserved-then-not-is_taken : goal.loop-node-preserved-then-not-is_taken
loop-node-preserved-then-not-is_taken c =
    let first = targets_of c.args.left.table in
    let nodes = c.args.left.table.nodes in
    let rule = c.args.rule in
    let anywhere = c.has_some-anywhere.result in
    let node = c.loop-node.node in
    let inv = c.loop-node.invariant in
    let here : c.loop-node.left.changed ≡ false → takes nodes first rule node ≡ false = λ e.
    takes_first nodes first rule anywhere c.has_some-anywhere.ensures node
    ∙ (ap (λ (t : Table). holds_role (targets_of t) rule.dependent rule.dependent_role node && not (has_primary_where (targets_of t) rule anywhere node))
    (sym (inv.same e)) ∙ (sym c.is_taken.ensures ∙ c.if-not-is_taken.true)) in
    record {
      nodes = inv.nodes;
      size = inv.size;
      taken = inv.taken;
      fewer = inv.fewer;
      unchanged = inv.unchanged;
      same = inv.same;
      settled = λ e n lt. elim (cases_lt n node) [
        | inl before ↦ inv.settled e n before
        | inr behind ↦ (let same : n ≡ node = omega arith in subst (λ (m : ℕ). takes nodes first rule m ≡ false) (sym same) (here e))
      ];
    }
