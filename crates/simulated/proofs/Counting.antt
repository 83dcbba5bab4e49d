-- How many answers from outside a turn adds.
use Rattle.std.proofs.Common.{◌≡◌, ℕ, ◌<◌, ◌==◌, Bool, true, false, cond, Some, List, [], ◌∷◌, map, filter, count_by, slice_get, refl, ap, ◌∙◌, arith}
use Rattle.std.specs.Prelude.{Contains}
use Rattle.lemmas.proofs.Counts.{count-append, count-is}
use Rattle.lemmas.proofs.Members.{at_head, in_rest}
use Rattle.cluster_types.specs.declared.cluster.Cluster.{Cluster}
use Rattle.cluster_types.specs.declared.journal.Action.{Action}
use Rattle.cluster_types.specs.declared.journal.Answer.TheVariants as answer
use Rattle.cluster_types.specs.declared.journal.Event.{Event}
use Rattle.cluster_types.specs.declared.journal.Event.TheVariants.{Ended, Lost}
use Rattle.cluster_types.specs.declared.journal.Outcome.{Outcome}
use Rattle.cluster_types.specs.declared.journal.Outcome.TheVariants.{Code, TimedOut, Gone}
use Rattle.cluster_types.specs.AnswersThatApply.{added_by, end_event}
use Rattle.cluster_types.specs.Journals.{AreInFlightByNumber, is_on, moment_of}
use Rattle.cluster_types.specs.Steps.{is_from_outside}
use Rattle.simulated.specs.declared.turn.Fate.{Fate}
use Rattle.simulated.specs.declared.turn.Fate.TheVariants as fate
use Rattle.simulated.specs.Turns.{answer_by_fate}
use Rattle.simulated.specs.RealWorlds.{RealWorld, true_code}
use Rattle.simulated.proofs.Within.{one_end}

-- each number is one of an action
abbrev pub AreNumbers : List (ℕ × Action) → Type 0
AreNumbers flight = (p : ℕ × Action) → Contains flight p → 0 < p.0

module _ (c : Cluster) (es : List Event) (flight : List (ℕ × Action)) where
  none_gone : (node : ℕ) (ps : List (ℕ × Action)) → AreNumbers ps
      → count_by is_from_outside (map (end_event c es flight Gone) (filter (λ (p : ℕ × Action). is_on node p.1) ps)) ≡ 0
  none_gone node [] are = refl
  none_gone node (p ∷ ps) are = on (is_on node p.1) (none_gone node ps (λ q i. are q (in_rest p ps q i)))
    where
      no : (p.0 == 0) ≡ false
      no = let some : 0 < p.0 = are p (at_head p ps p refl) in grind arith

      on : (b : Bool) → count_by is_from_outside (map (end_event c es flight Gone) (filter (λ (q : ℕ × Action). is_on node q.1) ps)) ≡ 0
          → count_by is_from_outside (map (end_event c es flight Gone)
          (cond b (p ∷ filter (λ (q : ℕ × Action). is_on node q.1) ps) (filter (λ (q : ℕ × Action). is_on node q.1) ps))) ≡ 0
      on true rest = count-is is_from_outside (end_event c es flight Gone p) (map (end_event c es flight Gone) (filter (λ (q : ℕ × Action). is_on node q.1) ps)) false no ∙ rw rest refl
      on false rest = rest

  pub one_left : (node : ℕ) → AreNumbers flight → count_by is_from_outside (added_by c es flight (answer.Lost node)) ≡ 1
  one_left node are =
      count-append is_from_outside (map (end_event c es flight Gone) (filter (λ (p : ℕ × Action). is_on node p.1) flight)) (Lost node ∷ [])
      ∙ rw (none_gone node flight are) refl

  pub one_joined : (node : ℕ) → count_by is_from_outside (added_by c es flight (answer.Up node)) ≡ 1
  one_joined node = refl

  ended_none : (place k : ℕ) (a : Action) (o : Outcome) → 0 < k → count_by is_from_outside (Ended k a o (moment_of es) ∷ []) ≡ 0
  ended_none place k a o some = let no : (k == 0) ≡ false = grind arith in count-is is_from_outside (Ended k a o (moment_of es)) [] false no

  pub none_ended : (w : RealWorld) (place k : ℕ) (a : Action) (f : Fate) → 0 < k → AreInFlightByNumber es flight → slice_get flight place ≡ Some (k, a)
      → count_by is_from_outside (added_by c es flight (answer_by_fate c w f k a)) ≡ 0
  none_ended w place k a fate.True some is at =
      ap (count_by is_from_outside) (one_end c es flight place k a (Code (true_code c a w.cells)) is at) ∙ ended_none place k a (Code (true_code c a w.cells)) some
  none_ended w place k a fate.DoneBadly some is at = ap (count_by is_from_outside) (one_end c es flight place k a (Code 1) is at) ∙ ended_none place k a (Code 1) some
  none_ended w place k a fate.Undone some is at = ap (count_by is_from_outside) (one_end c es flight place k a (Code 1) is at) ∙ ended_none place k a (Code 1) some
  none_ended w place k a fate.TimedOut some is at = ap (count_by is_from_outside) (one_end c es flight place k a TimedOut is at) ∙ ended_none place k a TimedOut some
