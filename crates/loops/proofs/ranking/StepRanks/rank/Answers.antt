use Rattle.std.proofs.Common.{◌≡◌, ap, sym, ◌∙◌}
use Rattle.cluster_types.specs.Numbers.{step_of}
use Rattle.loops.specs.Ranks.{rank_of}
use Rattle.loops.specs.Inner.RankList.{rank_in}
use Rattle.loops.proofs.RankTables.{rank_of_all}
use Rattle.loops.proofs.ranking.StepRanks.rank.Goals as goal

pub returns-clause-given : goal.returns-clause-given
returns-clause-given c =
    let items : c.as_slice.result.now ≡ c.self.inside.ranks.items = c.as_slice.ensures.value in
    c.rank_in.ensures
    ∙ ap (λ v. rank_in v c.args.what c.args.leaf) items
    ∙ sym (rank_of_all c.self.inside.ranks.items c.args.what c.args.leaf)
    ∙ ap (λ v. rank_of v (step_of c.args.what c.args.leaf)) c.self.view_is

pub returns-clause-ranked : goal.returns-clause-ranked
returns-clause-ranked c = λ cluster are. returns-clause-given c ∙ are (step_of c.args.what c.args.leaf)
