-- One event more in the journal.
use Rattle.std.proofs.Common.{arith, ◌≡◌, ◌<◌, ◌≤◌, ◌+◌, ◌^◌, ℕ, List, [], ◌∷◌, ◌++◌, Option, take, drop, find, count_by, sym, ap, ◌∙◌, ◌⊎◌, inl, inr}
use Rattle.std.specs.Option.{option_or}
use Rattle.std.proofs.lemmas.Bool.{cases_lt}
use Rattle.std.proofs.lemmas.List.{length-append, drop-append-le, take-append-drop}
use Rattle.std.proofs.lemmas.List.Folds.{find-append}
use Rattle.std.proofs.lemmas.List.Sums.{sum_by_push}
use Rattle.lemmas.proofs.Counts.{count-append}
use Rattle.cluster_types.specs.declared.cluster.Cluster.{Cluster}
use Rattle.cluster_types.specs.declared.journal.Event.{Event}
use Rattle.cluster_types.specs.Journals.{moment_of, seconds_of}
use Rattle.cluster_types.specs.Steps.{aborts, is_from_outside}
use Rattle.state_unpack.specs.KeptKnowledge.{Knowledge, Knows}
use Rattle.graph_exec.specs.Inner.Logs.{Reflects}

module _ (c : Cluster) (events : List Event) (planned : ℕ) (known : Knowledge) (outside : ℕ) (abort : Option Event)
    (r : Reflects c events planned known outside abort) where
  since-more : (event : Event) → drop planned (events ++ event ∷ []) ≡ drop planned events ++ event ∷ []
  since-more event = drop-append-le planned events (event ∷ []) r.starts

  pub reflects-more : (event : Event) (more : Knowledge) → Knows c (events ++ event ∷ []) more
      → (0 < seconds_of event → moment_of events + seconds_of event < 2 ^ 64)
      → (outside' : ℕ) → outside' ≡ outside + count_by is_from_outside (event ∷ [])
      → (abort' : Option Event) → abort' ≡ option_or abort (find (aborts c) (event ∷ []))
      → Reflects c (events ++ event ∷ []) planned more outside' abort'
  reflects-more event more knows fits outside' taken abort' first = record {
    starts = let l = length-append events (event ∷ []) in let s = r.starts in omega arith;
    knows = knows;
    moment = rw (sum_by_push seconds_of events event) (on (cases_lt 0 (seconds_of event)));
    taken =
        taken ∙ ap (λ n. n + count_by is_from_outside (event ∷ [])) r.taken
        ∙ sym (ap (count_by is_from_outside) (since-more event) ∙ count-append is_from_outside (drop planned events) (event ∷ []));
    first =
        first ∙ ap (λ (o : Option Event). option_or o (find (aborts c) (event ∷ []))) r.first
        ∙ sym (ap (find (aborts c)) (since-more event) ∙ find-append (aborts c) (drop planned events) (event ∷ []));
  } where
    on : (0 < seconds_of event) ⊎ (seconds_of event ≤ 0) → moment_of events + seconds_of event < 2 ^ 64
    on (inl some) = fits some
    on (inr none) = let m = r.moment in omega arith

  -- the journal is in two parts
  pub parts : take planned events ++ drop planned events ≡ events
  parts = take-append-drop planned events
