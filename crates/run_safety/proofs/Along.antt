-- What each step of a run keeps holds all along it; the journal only grows.
use Rattle.std.proofs.Common.{Bool, List, [], ◌++◌, refl, ap, ◌∙◌, sym, subst, append-nil, append_assoc}
use Rattle.std.specs.Prelude.{Option}
use Rattle.cluster_types.specs.declared.cluster.Cluster.{Cluster}
use Rattle.cluster_types.specs.declared.journal.Answer.{Answer}
use Rattle.cluster_types.specs.declared.journal.Promotion.{Promotion}
use Rattle.cluster_types.specs.declared.run.RunLine.{RunLine}
use Rattle.cluster_types.specs.Runs.{RunStanding, RunsOn, plans, goes, completes, aborts, answers, Runs, here, one_more, journal_at}
use Rattle.cluster_types.specs.Steps.{answer_events, idling}
use Rattle.run_safety.specs.TwoRuns.{IsFront}

pub front_then : {X : Type 0} (xs ys zs : List X) → IsFront xs ys → IsFront ys zs → IsFront xs zs
front_then xs ys zs f g = record { more = f.more ++ g.more; joined = g.joined ∙ ap (λ l. l ++ g.more) f.joined ∙ append_assoc xs f.more g.more }

module _ (c : Cluster) (promotions : List Promotion) (whole : Bool) where
  pub along : (P : RunStanding → Option (List Answer) → List RunLine → Type 0)
      → ((at next : RunStanding) (rest left : Option (List Answer)) (before lines : List RunLine) → RunsOn c promotions whole at rest lines next left → P at rest before → P next left (before ++ lines))
      → (at later : RunStanding) (rest left : Option (List Answer)) (before lines : List RunLine) → Runs c promotions whole at rest lines later left → P at rest before → P later left (before ++ lines)
  along P keeps at _ rest _ before _ (here _ _) p = subst (λ z. P at rest z) (sym (append-nil before)) p
  along P keeps at later rest left before _ (one_more _ next _ _ middle _ lines more step runs) p =
      subst (λ z. P later left z) (append_assoc before lines more)
      (along P keeps next later middle left (before ++ lines) more runs (keeps at next rest middle before lines step p))

  journal_grows : (at next : RunStanding) (rest left : Option (List Answer)) (lines : List RunLine) → RunsOn c promotions whole at rest lines next left → IsFront (journal_at at) (journal_at next)
  journal_grows _ _ rest _ _ (plans k es _ placed actions plan) = record { more = []; joined = refl }
  journal_grows _ _ rest left _ (goes k t since events _ _ step) = record { more = events; joined = sym (append_assoc t.planned_at since events) }
  journal_grows _ _ rest _ _ (completes k t since _ ended unaborted) = record { more = []; joined = sym (append-nil _) }
  journal_grows _ _ rest _ _ (aborts k t since _ ended aborted) = record { more = []; joined = sym (append-nil _) }
  journal_grows _ _ rest left _ (answers k es _ _ given said applies) = record { more = answer_events (idling c es) [] given; joined = refl }

  pub journals_grow : (at later : RunStanding) (rest left : Option (List Answer)) (lines : List RunLine) → Runs c promotions whole at rest lines later left → IsFront (journal_at at) (journal_at later)
  journals_grow at later rest left lines runs =
      along (λ p _ _. IsFront (journal_at at) (journal_at p))
      (λ p q middle behind before more step front. front_then (journal_at at) (journal_at p) (journal_at q) front (journal_grows p q middle behind more step))
      at later rest left [] lines runs (record { more = []; joined = sym (append-nil (journal_at at)) })
