-- How the lines end where a run stands between two transitions.
use Rattle.std.proofs.Common.{ℕ, ◌+◌, Bool, List, [], ◌∷◌, ◌++◌, append_assoc, refl, ap, ◌∙◌}
use Rattle.std.specs.Prelude.{Option, ⊤}
use Rattle.cluster_types.specs.declared.cluster.Cluster.{Cluster}
use Rattle.cluster_types.specs.declared.journal.Answer.{Answer}
use Rattle.cluster_types.specs.declared.journal.Event.{Event}
use Rattle.cluster_types.specs.declared.journal.Promotion.{Promotion}
use Rattle.cluster_types.specs.declared.run.RunLine.{RunLine}
use Rattle.cluster_types.specs.declared.run.RunLine.TheVariants as line
use Rattle.cluster_types.specs.Runs.{RunStanding, due, amid, idle, RunsOn, plans, goes, completes, aborts, answers, Runs, IsBetween}
use Rattle.cluster_types.specs.Steps.{answer_events, journal, idling}
use Rattle.run_safety.specs.TwoRuns.{EndsBetween, at_first, after_aborted, after_answer, at_complete}
use Rattle.run_safety.proofs.Along.{along}

module _ (c : Cluster) (promotions : List Promotion) (whole : Bool) (first : List Event) where
  abbrev Ends : RunStanding → List RunLine → Type 0
  Ends (due k es) lines = EndsBetween first (due k es) lines
  Ends (amid k t since) lines = ⊤
  Ends (idle k es) lines = EndsBetween first (idle k es) lines

  one_answer : (k : ℕ) (es after : List Event) (given : Answer) (before : List RunLine) → EndsBetween first (idle k es) before
      → EndsBetween first (due (k + 1) after) (before ++ line.Taken given ∷ [])
  one_answer _ _ after given _ (at_complete k es before ends) =
      after_answer k after given (before ++ line.Taken given ∷ [])
      (record { front = ends.front; joined = ap (λ z. z ++ line.Taken given ∷ []) ends.joined ∙ append_assoc ends.front (line.Complete k ∷ []) (line.Taken given ∷ []) })

  one_end : (at next : RunStanding) (rest left : Option (List Answer)) (before lines : List RunLine) → RunsOn c promotions whole at rest lines next left → Ends at before → Ends next (before ++ lines)
  one_end _ _ rest _ before _ (plans k es _ placed actions plan) ends = tt
  one_end _ _ rest left before _ (goes k t since events _ _ step) ends = tt
  one_end _ _ rest _ before _ (completes k t since _ ended unaborted) ends = at_complete k (journal t since) (before ++ line.Complete k ∷ []) (record { front = before; joined = refl })
  one_end _ _ rest _ before _ (aborts k t since _ ended aborted) ends = after_aborted k (journal t since) (before ++ line.Aborted k ∷ []) (record { front = before; joined = refl })
  one_end _ _ rest left before _ (answers k es _ _ given said applies) ends = one_answer k es (es ++ answer_events (idling c es) [] given) given before ends

  pub ends_between : (at : RunStanding) (rest left : Option (List Answer)) (lines : List RunLine) → Runs c promotions whole (due 1 first) rest lines at left → IsBetween at → EndsBetween first at lines
  ends_between at rest left lines runs = by at (along c promotions whole (λ p _ before. Ends p before) (λ p q middle behind before more step ends. one_end p q middle behind before more step ends)
      (due 1 first) at rest left [] lines runs at_first)
    where
      by : (at : RunStanding) → Ends at lines → IsBetween at → EndsBetween first at lines
      by (due k es) ends h = ends
      by (amid k t since) ends h = absurd h
      by (idle k es) ends h = ends
