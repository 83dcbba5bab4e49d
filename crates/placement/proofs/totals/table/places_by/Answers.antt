use Rattle.std.proofs.Common.{ap, ◌∙◌}
use Rattle.std.proofs.lemmas.Result.{IfOk-weaker}
use Rattle.cluster_types.specs.declared.cluster.Cluster.{Cluster}
use Rattle.cluster_types.specs.declared.states.States.{States}
use Rattle.placement.specs.Inner.ScoresByStates.{place_by}
use Rattle.placement.specs.Scores.{cells_of}
use Rattle.placement.proofs.totals.table.places_by.Goals as goal

pub returns : goal.returns
returns c =
    let own = c.in_ok-own.own in
    IfOk-weaker c.place_totals.result _ _
    (λ all is. is ∙ ap (λ (k : Cluster). cells_of k (place_by k own.states.now)) c.in_ok-own.ensures.cluster
    ∙ ap (λ (s : States). cells_of c.args.cluster.now (place_by c.args.cluster.now s)) c.in_ok-own.ensures.states) c.place_totals.ensures
