use Rattle.std.proofs.Common.{ap, ◌∙◌}
use Rattle.std.proofs.lemmas.Result.{IfOk-weaker}
use Rattle.cluster_types.specs.declared.states.Rights.{Rights}
use Rattle.cluster_types.specs.declared.states.States.{States}
use Rattle.planner.specs.Inner.Works.{marks_of, needs_of}
use Rattle.planner.proofs.StepsGot.{Tells}
use Rattle.planner.proofs.WholeList.{whole_list}
use Rattle.planner.proofs.needed_actions.building.actions_of.Goals as goal

pub returns : goal.returns
returns c =
    let cl = c.args.cluster.now in
    let work = c.args.work.now in
    IfOk-weaker c.list_of.result _ _
    (λ list made. λ events promotions targets told allowed is.
    let tells : Tells cl events targets (needs_of work) (marks_of work) = record { needs = rw is.nodes is.needs; cycled = is.cycled } in
    whole_list cl c.requires events promotions targets c.args.rights.may_fence c.as_slice-2.result.now (ap (λ (r : Rights). r.may_fence) allowed)
    (c.as_slice-2.ensures ∙ ap (λ (s : States). s.nodes) told) (needs_of work) (marks_of work) tells
    c.as_slice.result.now c.as_slice-3.result.now (c.as_slice.ensures.value ∙ c.in_ok-touched.ensures)
    (rw c.as_slice-3.ensures.value c.in_ok-free.ensures) list.items made) c.list_of.ensures
