use Rattle.std.proofs.Common.{◌≡◌, ℕ, Bool, ap, ◌∙◌}
use Rattle.cluster_types.specs.Graphs.{is_before}
use Rattle.cluster_types.specs.Plans.{precedes_by_number}
use Rattle.cluster_types.specs.Steps.{numbered}
use Rattle.cluster_types.specs.Texts.{graph_text}
use Rattle.sim_core.proofs.graph.GraphWordTextWord.text.Goals as goal

pub returns : goal.returns
returns c =
    let cl = c.args.input.head.cluster in
    let plan = c.in_ok-plan.plan in
    let carries = c.in_ok-plan.ensures.carries_out in
    let actions = plan.graph.actions in
    let before : ℕ → ℕ → Bool = λ j k. precedes_by_number cl actions (numbered actions j) (numbered actions k) in
    let alike : is_before plan.graph ≡ before = λ i. λ j k. carries.pairs j k i in
    record {
      placed = plan.placed;
      actions = actions;
      is = carries.plan;
      printed = c.in_ok-text_of.ensures ∙ ap (graph_text cl actions) alike;
    }
