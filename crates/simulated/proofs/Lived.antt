-- What a kept run over a simulated cluster is.
use Rattle.std.proofs.Common.{◌≡◌, ◌+◌, Bool, true, false, None, List, [], ◌∷◌, ◌++◌, length, refl, sym, subst, ◌∙◌, arith}
use Rattle.std.specs.Prelude.{Option}
use Rattle.cluster_types.specs.declared.cluster.Cluster.{Cluster}
use Rattle.cluster_types.specs.declared.journal.Answer.{Answer}
use Rattle.cluster_types.specs.declared.journal.Journal.{Journal}
use Rattle.cluster_types.specs.declared.journal.Promotion.{Promotion}
use Rattle.cluster_types.specs.declared.run.Run.{Run}
use Rattle.cluster_types.specs.Runs.{RunStanding, due, amid, idle, Runs, IsOver, journal_at}
use Rattle.cluster_types.specs.Texts.{run_lines}
use Rattle.graph_exec.specs.KeptRuns.{IsRunKept, KeepsPlans}
use Rattle.graph_exec.specs.RunEnds.{with_all}
use Rattle.run_safety.proofs.Along.{journals_grow}
use Rattle.simulated.specs.Lives.{Lives}
use Rattle.simulated.specs.Worlds.{Agrees, IsOfOne, WorldOf}
use Rattle.simulated.proofs.Moments.{grown}
use Rattle.simulated.specs.WorldTexts.{IsAtEnd, more_due, most_transitions, over}
use Rattle.simulated.specs.Inner.WorldTexts.{HasLived}

-- two fronts of one list that are as long are the same
same_front : {X : Type 0} (xs ys a b : List X) → xs ++ a ≡ ys ++ b → length xs ≡ length ys → xs ≡ ys
same_front [] [] a b e l = refl
same_front [] (y ∷ ys) a b e l = absurd (let f : ⊥ = omega arith in f)
same_front (x ∷ xs) [] a b e l = absurd (let f : ⊥ = omega arith in f)
same_front (x ∷ xs) (y ∷ ys) a b e l =
    let head : x ≡ y = cc in let tail : xs ++ a ≡ ys ++ b = cc in let rest = same_front xs ys a b tail (omega arith) in cc

over_at : (c : Cluster) (promotions : List Promotion) (at : RunStanding) (rest : Option (List Answer)) → IsOver c promotions true at rest → IsAtEnd true at
over_at c promotions (due k es) rest o = absurd o
over_at c promotions (amid k t since) rest o = absurd o
over_at c promotions (idle k es) rest o = over k es

module _ (c : Cluster) (journal : Journal) (old new : WorldOf) (since : old.since ≡ length journal.events) (one : IsOfOne old new) (run : Run)
    (few : KeepsPlans c journal.promotions most_transitions run) (agreed : Agrees new c run.journal.events 0) where
  -- the run stands where the simulated cluster does, which has lived from the first journal on
  lived_to : (ended : Bool) (at : RunStanding) → Runs c journal.promotions true (due 1 journal.events) None (run_lines c run) at None → run.journal.events ≡ journal_at at
      → IsAtEnd ended at → HasLived c journal old.reality.number new (record { run = run; over = ended })
  lived_to ended at steps left end =
      let front = grown c new.reality.number agreed.first run.journal.events agreed.world agreed.lives in
      let grows = journals_grow c journal.promotions true (due 1 journal.events) at None None (run_lines c run) steps in
      let same : agreed.first ≡ journal.events =
      same_front agreed.first journal.events front.more grows.more (sym front.joined ∙ (left ∙ grows.joined)) (agreed.began ∙ (one.since_stays ∙ since)) in
      record {
        world = agreed.world;
        of_cluster = agreed.of_cluster;
        shows = agreed.shows;
        is = record {
          at = at;
          goes = record {
            steps = steps;
            lives = subst (λ n. Lives c n journal.events (journal_at at) agreed.world) one.same.number
                (subst (λ es. Lives c new.reality.number journal.events es agreed.world) left
                (subst (λ es. Lives c new.reality.number es run.journal.events agreed.world) same agreed.lives));
          };
          few = few.few;
          ends = end;
        };
      }

  pub lived_whole : (steady : Bool) → IsRunKept c journal.promotions true steady journal.events None None run with_all
      → HasLived c journal old.reality.number new (record { run = run; over = true })
  lived_whole steady kept =
      lived_to true kept.run.last (subst (λ rest. Runs c journal.promotions true (due 1 journal.events) None (run_lines c run) kept.run.last rest) (sym kept.unread) kept.run.steps)
      kept.run.leaves (over_at c journal.promotions kept.run.last kept.run.behind kept.run.over)

  pub lived_on : Runs c journal.promotions true (due 1 journal.events) None (run_lines c run) (due (most_transitions + 1) run.journal.events) None
      → HasLived c journal old.reality.number new (record { run = run; over = false })
  lived_on steps = lived_to false (due (most_transitions + 1) run.journal.events) steps refl (more_due run.journal.events)
