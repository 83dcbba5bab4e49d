use Rattle.std.proofs.Common.{rules, ◌≡◌, false, get_or, length, take, subst, sym, ◌∙◌, arith}
use Rattle.std.proofs.lemmas.List.{take_all, take_more}
use Rattle.cluster_types.specs.declared.placement.Decision.TheVariants.{Place}
use Rattle.cluster_types.specs.Decisions.{is_among}
use Rattle.placement.specs.Inner.Flags.{AreFlags}
use Rattle.placement.proofs.ReadyFlags.{among-more}
use Rattle.placement.proofs.order.links.decided.Goals as goal

pub loop-decision-init : goal.loop-decision-init
loop-decision-init c =
    let none : AreFlags c.len.result (λ d. false) c.in_ok-flags.flags.items = search rules in
    subst (λ k. AreFlags k (λ d. false) c.in_ok-flags.flags.items) c.len.ensures none

pub loop-decision-preserved : goal.loop-decision-preserved
loop-decision-preserved c =
    let l = c.loop-decision in
    let leaves = length c.args.set.now.cluster.now.leaves in
    let items = c.as_slice-decision-items.result.now in
    let d = get_or items l.decision-index (Place 0) in
    subst (λ ds. AreFlags leaves (is_among ds) c.raise_if.new.flags.items) (sym (take_more items l.decision-index (Place 0) c.loop-decision-test.true))
    (among-more leaves (take l.decision-index items) d c.raise_if.new.flags.items (c.raise_if.ensures leaves (is_among (take l.decision-index items)) l.invariant))

pub returns : goal.returns
returns c =
    let l = c.loop-decision in
    let items = c.as_slice-decision-items.result.now in
    let all : take l.decision-index items ≡ items = take_all l.decision-index items (omega (arith, c.loop-decision-test.false)) in
    subst (λ ds. AreFlags (length c.args.set.now.cluster.now.leaves) (is_among ds) l.flags.items) (all ∙ c.as_slice-decision-items.ensures.value) l.invariant
