-- What says a fact is read as it, and what else follows from both ways.
use Rattle.std.proofs.Common.{◌≡◌, ℕ, ◌==◌, false, List, [], ◌∷◌, Result, Ok, Err, refl, sym, ◌∙◌, arith}
use Rattle.std.specs.Prelude.{codes}
use Rattle.std.proofs.lemmas.Bool.Decides.{nat_tests}
use Rattle.cluster_types.specs.declared.cluster.Cluster.{Cluster}
use Rattle.cluster_types.specs.declared.journal.Action.{Action}
use Rattle.cluster_types.specs.declared.journal.Event.TheVariants.{Ended}
use Rattle.cluster_types.specs.declared.journal.Outcome.{Outcome}
use Rattle.input_reading.specs.declared.words.word_cause.WordCause.{WordCause}
use Rattle.input_reading.specs.WordPlaces.{WordsOfLine, leaf_at, node_at, seconds_at, yes_at}
use Rattle.input_reading.specs.Status.{cleanup_line, interval_at, node_line, now_line, op_at, op_line, outcome_at, promotable_at, promotion_line, quorum_line, score_at, state_at, status_word, told_of}
use Rattle.input_reading.specs.declared.status.line_meaning.Fact.{Fact}
use Rattle.input_reading.specs.declared.status.line_meaning.Fact.TheVariants.{Past}
use Rattle.input_reading.specs.Grammar.StatusForms.{ActionEnded, SaysOutcome, StatusSays, a_demote, a_monitor, a_probe, a_promote, a_start, a_stop, cleanup_form, node_form, now_form, op_form, promotion_form, quorum_form}
use Rattle.input_reading.proofs.ActionRelated.{leaf-found, node-found}
use Rattle.input_reading.proofs.NumbersSaid.{number-read, whether-read}
use Rattle.input_reading.proofs.PlacesSaid.{ok-one}
use Rattle.input_reading.proofs.StatusRelated.{status-said}
use Rattle.input_reading.proofs.StatusWords.{outcome-read, state-read}

module _ (c : Cluster) where
  op-read : (name leaf_name op ms code number : List ℕ) (node leaf : ℕ) (action : Action) (outcome : Outcome) (moment : ℕ)
      → node_at c 1 (codes "op" ∷ name ∷ leaf_name ∷ op ∷ ms ∷ code ∷ number ∷ []) ≡ Ok node
      → leaf_at c 2 (codes "op" ∷ name ∷ leaf_name ∷ op ∷ ms ∷ code ∷ number ∷ []) ≡ Ok leaf → ActionEnded c leaf node op ms action
      → outcome_at 5 (codes "op" ∷ name ∷ leaf_name ∷ op ∷ ms ∷ code ∷ number ∷ []) ≡ Ok outcome
      → seconds_at 6 (codes "op" ∷ name ∷ leaf_name ∷ op ∷ ms ∷ code ∷ number ∷ []) ≡ Ok moment
      → told_of c (codes "op" ∷ name ∷ leaf_name ∷ op ∷ ms ∷ code ∷ number ∷ []) ≡ Ok (Past (Ended 0 action outcome moment))
  unfolding told_of status_word op_line op_at interval_at
  op-read name leaf_name o m code number node leaf act outcome moment a b (a_start ms z) x s = rw (a, b, number-read 0 0 ms 0 z, x, s) refl
  op-read name leaf_name o m code number node leaf act outcome moment a b (a_stop ms z) x s = rw (a, b, number-read 0 0 ms 0 z, x, s) refl
  op-read name leaf_name o m code number node leaf act outcome moment a b (a_promote ms p z) x s = rw (a, b, p, number-read 0 0 ms 0 z, x, s) refl
  op-read name leaf_name o m code number node leaf act outcome moment a b (a_demote ms p z) x s = rw (a, b, p, number-read 0 0 ms 0 z, x, s) refl
  op-read name leaf_name o m code number node leaf act outcome moment a b (a_probe ms z) x s =
      let wide = number-read 0 4294967295 ms 0 (record { digits = z.digits; some = z.some; value = z.value; low = z.low; high = omega arith }) in
      rw (a, b, wide, x, s) refl
  op-read name leaf_name o m code number node leaf act outcome moment a b (a_monitor ms interval n) x s =
      let low = n.low in
      let not_0 : (interval == 0) ≡ false = grind (arith, nat_tests) in
      rw (a, b, number-read 1 4294967295 ms interval n, x, s, not_0) refl

  outcome-there : (name leaf_name op ms code number : List ℕ) (outcome : Outcome) → SaysOutcome code outcome
      → outcome_at 5 (codes "op" ∷ name ∷ leaf_name ∷ op ∷ ms ∷ code ∷ number ∷ []) ≡ Ok outcome
  unfolding outcome_at
  outcome-there name leaf_name op ms code number outcome x = rw (outcome-read code outcome x) refl

  -- what says a fact is read as it
  pub status-read : (words : WordsOfLine) (told : Fact) → StatusSays c words told → told_of c words ≡ Ok told
  unfolding told_of status_word now_line quorum_line node_line cleanup_line promotion_line seconds_at yes_at node_at leaf_at state_at promotable_at score_at
  status-read ws t (now_form number seconds n) = rw (number-read 0 1099511627775 number seconds n) refl
  status-read ws t (quorum_form word now s) = rw (whether-read word now s) refl
  status-read ws t (node_form name word node state n s) = rw (node-found c name node n, state-read word state s) refl
  status-read ws t (op_form name leaf_name op ms code number node leaf action outcome moment a b e x s) =
      op-read name leaf_name op ms code number node leaf action outcome moment (rw (node-found c name node a) refl) (rw (leaf-found c leaf_name leaf b) refl) e
      (outcome-there name leaf_name op ms code number outcome x) (rw (number-read 0 1099511627775 number moment s) refl)
  status-read ws t (cleanup_form name leaf_name node leaf a b) = rw (node-found c name node a, leaf-found c leaf_name leaf b) refl
  status-read ws t (promotion_form name leaf_name word node leaf score a b p s) = rw (node-found c name node a, leaf-found c leaf_name leaf b, p, s) refl

  -- a line says one fact
  pub one-fact : (words : WordsOfLine) (one other : Fact) → StatusSays c words one → StatusSays c words other → one ≡ other
  one-fact words one other s t = ok-one one other (sym (status-read words one s) ∙ status-read words other t)

  refused-case : (words : WordsOfLine) (read : Result Fact WordCause) → told_of c words ≡ read → ((told : Fact) → StatusSays c words told → ⊥)
      → (cause : WordCause) × (told_of c words ≡ Err cause)
  refused-case words (Ok told) e h = absurd (h told (status-said c words told e))
  refused-case words (Err cause) e h = (cause, e)

  -- a line that says none is refused
  pub no-fact : (words : WordsOfLine) → ((told : Fact) → StatusSays c words told → ⊥) → (cause : WordCause) × (told_of c words ≡ Err cause)
  no-fact words h = refused-case words (told_of c words) refl h

  -- and a line that is refused says none
  pub no-fact-said : (words : WordsOfLine) (cause : WordCause) (told : Fact) → told_of c words ≡ Err cause → StatusSays c words told → ⊥
  no-fact-said words cause told e s = let f : Err cause ≡ Ok told = sym e ∙ status-read words told s in cc
