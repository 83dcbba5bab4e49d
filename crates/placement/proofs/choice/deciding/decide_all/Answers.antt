use Rattle.std.proofs.Common.{length, sym, ap, subst, ◌∙◌, arith}
use Rattle.cluster_types.specs.Choice.{after_decisions}
use Rattle.cluster_types.specs.Plans.{with_totals}
use Rattle.cluster_types.specs.Tables.{targets_of}
use Rattle.cluster_types.specs.UnpackedStates.{states_of}
use Rattle.placement.specs.Scores.{scores_of}
use Rattle.placement.specs.Loads.{IsLoaded}
use Rattle.placement.specs.Steps.{Tell}
use Rattle.placement.proofs.choice.deciding.decide_all.Goals as goal

pub decide_each-requires-clause-loaded : goal.decide_each-requires-clause-loaded
decide_each-requires-clause-loaded c =
    let loaded = c.in_ok-loaded.loaded in
    subst (λ k. IsLoaded k loaded.table loaded.loads.items) (sym c.new-known.ensures.cluster) c.in_ok-loaded.ensures.loaded

pub decide_each-requires-clause-leaves : goal.decide_each-requires-clause-leaves
decide_each-requires-clause-leaves c = λ d there.
    let low = c.requires.leaves d there in
    let same = ap (λ k. length k.leaves) c.new-known.ensures.cluster in
    omega (arith, low, same)

pub returns-clause-targets : goal.returns-clause-targets
returns-clause-targets c = λ es ps states scores.
    let cluster = c.args.cluster.now in
    let known = c.new-known.result in
    let same = c.new-known.ensures.cluster in
    let tell : Tell known.cluster.now es ps known.states.now known.scores.now = record {
      known = c.new-known.ensures.states ∙ (states ∙ ap (λ k. states_of k es ps) (sym same));
      scored = c.new-known.ensures.scores ∙ (scores ∙ ap (λ k. scores_of k es ps) (sym same));
    } in
    let made = c.in_ok-choices.ensures.made es ps tell in
    made.cells
    ∙ (ap (λ k. after_decisions k es ps (targets_of c.in_ok-loaded.loaded.table) c.args.order.now) same
    ∙ ap (λ t. after_decisions cluster es ps (targets_of t) c.args.order.now) c.in_ok-loaded.ensures.table)

pub returns-clause-decided : goal.returns-clause-decided
returns-clause-decided c = λ es ps states scores.
    let cluster = c.args.cluster.now in
    let known = c.new-known.result in
    let same = c.new-known.ensures.cluster in
    let tell : Tell known.cluster.now es ps known.states.now known.scores.now = record {
      known = c.new-known.ensures.states ∙ (states ∙ ap (λ k. states_of k es ps) (sym same));
      scored = c.new-known.ensures.scores ∙ (scores ∙ ap (λ k. scores_of k es ps) (sym same));
    } in
    let made = c.in_ok-choices.ensures.made es ps tell in
    made.totals
    ∙ (ap (λ k. with_totals k es ps (targets_of c.in_ok-loaded.loaded.table) c.args.order.now) same
    ∙ ap (λ t. with_totals cluster es ps (targets_of t) c.args.order.now) c.in_ok-loaded.ensures.table)
