-- Each run from a journal on is how the whole run from there begins, and so is it with a run that is cut.
use Rattle.std.proofs.Common.{Bool, List, subst, sym}
use Rattle.std.specs.Prelude.{Option}
use Rattle.cluster_types.specs.declared.cluster.Cluster.{Cluster}
use Rattle.cluster_types.specs.declared.journal.Answer.{Answer}
use Rattle.cluster_types.specs.declared.journal.Event.{Event}
use Rattle.cluster_types.specs.declared.journal.Promotion.{Promotion}
use Rattle.cluster_types.specs.declared.run.RunLine.{RunLine}
use Rattle.cluster_types.specs.Runs.{RunStanding, due, Runs, IsCutRun, IsWholeRun, journal_at}
use Rattle.run_safety.specs.TwoRuns.{AreAnswersTold, IsFront}
use Rattle.run_safety.specs.OnePlan.{PlansAreOne}
use Rattle.run_safety.proofs.Along.{journals_grow}
use Rattle.run_safety.proofs.OneEnd.{before_stuck, cut_run_stuck, whole_stuck}

module _ (c : Cluster) (promotions : List Promotion) (whole : Bool) (one_plan : PlansAreOne c promotions) (es : List Event) (rest : Option (List Answer)) (told : AreAnswersTold rest)
    (at : RunStanding) (behind : Option (List Answer)) (lines : List RunLine) (runs : Runs c promotions whole (due 1 es) rest lines at behind) where
  pub begins_whole : (left : List Event) (others : List RunLine) → IsWholeRun c promotions whole es rest others left → IsFront lines others × IsFront (journal_at at) left
  begins_whole left others run =
      let g = before_stuck c promotions whole one_plan (due 1 es) rest told at run.last behind run.behind lines others runs run.steps (whole_stuck c promotions whole es left rest others told run) in (
        record { more = g.more; joined = g.joined },
        subst (λ z. IsFront (journal_at at) z) (sym run.leaves) (journals_grow c promotions whole at run.last behind run.behind g.more g.runs),
      )

  pub begins_cut : (left : List Event) (given : Answer) (unread : Option (List Answer)) (others : List RunLine) → IsCutRun c promotions whole es rest others left given unread
      → IsFront lines others × IsFront (journal_at at) left
  begins_cut left given unread others run =
      let g = before_stuck c promotions whole one_plan (due 1 es) rest told at run.last behind run.unread lines others runs run.steps (cut_run_stuck c promotions whole es left rest unread given others told run) in (
        record { more = g.more; joined = g.joined },
        subst (λ z. IsFront (journal_at at) z) (sym run.leaves) (journals_grow c promotions whole at run.last behind run.unread g.more g.runs),
      )
