use Rattle.std.proofs.Common.{◌++◌, ap, ◌∙◌}
use Rattle.listed.specs.Flags.{is_marked}
use Rattle.planner.specs.Inner.Actions.{all_fences, leaves_actions}
use Rattle.planner.specs.Inner.Works.{marks_of, needs_of}
use Rattle.planner.proofs.needed_actions.building.list_of.Goals as goal

pub returns : goal.returns
returns c =
    let cl = c.args.cluster.now in
    let work = c.args.work.now in
    c.in_ok-push_leaves.ensures
    ∙ ap (λ xs. xs ++ leaves_actions cl (needs_of work) (marks_of work) (is_marked c.args.free.now))
    (c.in_ok-push_fences.ensures ∙ ap (λ xs. xs ++ all_fences cl c.args.may_fence c.args.states.now) c.new-list.ensures.items)
