use Rattle.std.proofs.Common.{rules, ◌≡◌, true, false, sym, ap, ◌∙◌}
use Rattle.cluster_types.specs.declared.states.Rights.{Rights}
use Rattle.cluster_types.specs.Rights.{may_fence}
use Rattle.state_unpack.specs.Inner.Unclean.{unclean_in}
use Rattle.state_unpack.proofs.Fenced.{fences-none, fences-unclean}
use Rattle.state_unpack.proofs.fencing.to_fence.Goals as goal

pub returns-then-not-rights : goal.returns-then-not-rights
returns-then-not-rights c = λ events promotions told.
    let never : may_fence c.args.cluster.now events ≡ false = sym (ap (λ (rights : Rights). rights.may_fence) (c.rights.ensures events promotions told)) ∙ c.if-not-rights.true in
    c.new.ensures.items ∙ fences-none c.args.cluster.now events promotions c.args.states.now told never

pub returns : goal.returns
returns c = λ events promotions told.
    let may : may_fence c.args.cluster.now events ≡ true = sym (ap (λ (rights : Rights). rights.may_fence) (c.rights.ensures events promotions told)) ∙ c.if-not-rights.false in
    let found : c.in_ok-unclean_in.field-0.items ≡ unclean_in c.args.states.now.nodes = search rules in
    found ∙ fences-unclean c.args.cluster.now events promotions c.args.states.now told may
