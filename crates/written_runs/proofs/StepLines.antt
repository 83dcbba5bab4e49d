-- What a step of a transition prints is of its cluster.
use Rattle.std.proofs.Common.{arith, ◌≡◌, ◌<◌, ◌-◌, ◌+◌, ◌^◌, ◌==◌, ◌&&◌, ◌||◌, nat_lt, not, if◌then◌else◌, ℕ, Bool, true, false, Option, Some, None, List, [], ◌∷◌, ◌++◌, length, Contains, eqb-true, refl, sym, subst, slice_get}
use Rattle.std.specs.List.{AllByRecursion, flat_map, list_any}
use Rattle.std.proofs.lemmas.Bool.{eq-eqb, ltb-true}
use Rattle.lemmas.proofs.Booleans.{later, sooner}
use Rattle.lemmas.proofs.Members.{all_first}
use Rattle.cluster_types.specs.declared.journal.Action.{Action}
use Rattle.cluster_types.specs.declared.journal.Action.TheVariants.{Operation}
use Rattle.cluster_types.specs.declared.journal.Answer.{Answer}
use Rattle.cluster_types.specs.declared.journal.Answer.TheVariants as answer
use Rattle.cluster_types.specs.declared.journal.Event.{Event}
use Rattle.cluster_types.specs.declared.journal.Outcome.TheVariants.{Code}
use Rattle.cluster_types.specs.declared.leaf.Op.TheVariants.{Monitor}
use Rattle.cluster_types.specs.declared.leaf.Role.TheVariants as role
use Rattle.cluster_types.specs.declared.run.RunLine.{RunLine}
use Rattle.cluster_types.specs.declared.run.RunLine.TheVariants as line
use Rattle.cluster_types.specs.AnswersThatApply.{is_joined_sign, is_number_of, is_offline_state, is_quiet_cell, monitor_action, most_from_outside, tells_failure}
use Rattle.cluster_types.specs.Journals.{last_sign, moment_of}
use Rattle.cluster_types.specs.May.{may_be_running}
use Rattle.cluster_types.specs.NodeStates.{is_online, node_state}
use Rattle.cluster_types.specs.Outcomes.{is_bad, is_ignored}
use Rattle.cluster_types.specs.Sources.{Says, told, used_up, untold}
use Rattle.cluster_types.specs.Steps.{Transition, StepsOn, begins, takes, is_silent, Applies, action_at, in_flight_by_number, journal, numbered, count_from_outside, silent_code}
use Rattle.cluster_types.specs.Texts.{event_lines}
use Rattle.run_safety.proofs.Printed.{answer_line, end_line}
use Rattle.input_reading.specs.PrintedLines.{IsActionOf, IsAnswerOf, IsLineOf, IsNumber}
use Rattle.run_safety.proofs.Each.{Each, none, more}
use Rattle.run_safety.proofs.InFlight.{among_flying, number_within}
use Rattle.run_safety.proofs.Shapes.{Flies, all_fly}
use Rattle.input_reading.specs.ResultFields.{AnswerFieldsFit}
use Rattle.written_runs.specs.Fitting.{AnswersFit, LineFits}
use Rattle.written_runs.proofs.Each.{all_later, read_in}

-- Answers that are told, and those that lines tell.

pub said_fits : (whole : Bool) (rest left : Option (List Answer)) (said : Option Answer) → Says whole rest said left → (given : Answer) → said ≡ Some given
    → AnswersFit rest (line.Taken given ∷ []) → AnswerFieldsFit given
said_fits whole _ _ _ (told first rest) given e fit = let same : first ≡ given = cc in subst AnswerFieldsFit same fit.0
said_fits whole _ _ _ (used_up over) given e fit = absurd (let f : ⊥ = cc in f)
said_fits whole _ _ _ (untold said) given e fit = fit.0

pub front_fits : (rest : Option (List Answer)) (lines behind : List RunLine) → AnswersFit rest (lines ++ behind) → AnswersFit rest lines
front_fits (Some answers) lines behind fit = fit
front_fits None lines behind fit = all_first LineFits lines behind fit

pub behind_fits : (rest : Option (List Answer)) (lines behind : List RunLine) → AnswersFit rest (lines ++ behind) → AnswersFit rest behind
behind_fits (Some answers) lines behind fit = fit
behind_fits None lines behind fit = all_later LineFits lines behind fit

pub left_fits : (whole : Bool) (rest left : Option (List Answer)) (said : Option Answer) → Says whole rest said left → (lines behind : List RunLine)
    → AnswersFit rest (lines ++ behind) → AnswersFit left behind
left_fits whole _ _ _ (told first rest) lines behind fit = fit.1
left_fits whole _ _ _ (used_up over) lines behind fit = fit
left_fits whole _ _ _ (untold said) lines behind fit = all_later LineFits lines behind fit

-- What applies.

first_three : (a b d e f g i j : Bool) → a && b && d && e && f && g && i && j ≡ true → (a ≡ true) × (b ≡ true) × (d ≡ true)
first_three true true true e f g i j h = (refl, refl, refl)
first_three true true false e f g i j h = cc
first_three true false d e f g i j h = cc
first_three false b d e f g i j h = cc

-- a silent end has the code of a byte
silent_low : (a : Action) → silent_code a < 256
silent_low (Operation Monitor r n interval role.Promoted) = omega arith
silent_low _ = omega arith

in_actions : (actions : List Action) (k : ℕ) (a : Action) → numbered actions k ≡ Some a → Contains actions a
in_actions actions k a h = by (k == 0) h
  where
    by : (b : Bool) → (if b then None else slice_get actions (k - 1)) ≡ Some a → Contains actions a
    by true h = absurd (let f : ⊥ = cc in f)
    by false h = read_in actions (k - 1) a h

module _ (t : Transition) (since : List Event) (few : length t.actions < 2 ^ 32) where
  number_fits : (k : ℕ) (a : Action) → action_at t k ≡ Some a → IsNumber k
  number_fits k a is = let within = number_within t.actions k a is in record { low = within.0; high = omega (arith, within.1, few) }

  flown : (k : ℕ) (ps : List (ℕ × Action)) → Each (Flies t since) ps → list_any (is_number_of k) ps ≡ true → IsNumber k
  flown k _ none e = absurd (let f : ⊥ = cc in f)
  flown k _ (more p ps flies rest) e = by (p.0 == k) refl e (flown k ps rest)
    where
      by : (b : Bool) → (p.0 == k) ≡ b → b || list_any (is_number_of k) ps ≡ true → (list_any (is_number_of k) ps ≡ true → IsNumber k) → IsNumber k
      by true same e after = subst IsNumber (eqb-true p.0 k same) (number_fits p.0 p.1 flies.action)
      by false same e after = after e

  pub answer_fits : (given : Answer) → Applies t since given → AnswerFieldsFit given → IsAnswerOf t.cluster given
  answer_fits (answer.End k code) h fits = (flown k (in_flight_by_number t since) (all_fly t since) h, fits)
  answer_fits (answer.Timeout k) h fits = flown k (in_flight_by_number t since) (all_fly t since) h
  answer_fits (answer.Lost n) h fits =
      ltb-true n (length t.cluster.nodes)
      (later (nat_lt (count_from_outside t since) most_from_outside) (nat_lt n (length t.cluster.nodes)) (sooner _ (is_joined_sign (last_sign n (journal t since))) h))
  answer_fits (answer.Up n) h fits =
      ltb-true n (length t.cluster.nodes)
      (later (nat_lt (count_from_outside t since) most_from_outside) (nat_lt n (length t.cluster.nodes)) (sooner _ (is_offline_state (node_state t.cluster n (journal t since))) h))
  answer_fits (answer.Quorum now) h fits = tt
  answer_fits (answer.Wait seconds) h fits =
      let low = ltb-true (moment_of (journal t since) + seconds) (2 ^ 40)
      (later (nat_lt (count_from_outside t since) most_from_outside) (nat_lt (moment_of (journal t since) + seconds) (2 ^ 40)) h) in
      omega (arith, low)
  answer_fits (answer.Report n r interval code) h fits =
      let news = later (nat_lt (count_from_outside t since) most_from_outside) (tells_failure t.cluster (journal t since) (in_flight_by_number t since) n r interval code) h in
      let front = first_three (nat_lt n (length t.cluster.nodes)) (nat_lt r (length t.cluster.leaves)) (nat_lt 0 interval) (is_online t.cluster n (journal t since))
      (may_be_running t.cluster r n (journal t since)) (is_bad (monitor_action t.cluster r n interval) (Code code))
      (not (is_ignored t.cluster (monitor_action t.cluster r n interval) (Code code))) (is_quiet_cell t.cluster (journal t since) (in_flight_by_number t since) r n) news in (
        record { leaf = ltb-true r (length t.cluster.leaves) front.1; node = ltb-true n (length t.cluster.nodes) front.0 },
        record { low = ltb-true 0 interval front.2; high = fits.0 },
        fits.1,
      )

  module _ (ours : (a : Action) → Contains t.actions a → IsActionOf t.cluster a) (whole : Bool) where
    -- the lines of the events that a step adds
    pub step_fits : (events : List Event) (rest left : Option (List Answer)) → StepsOn t whole since rest events left → AnswersFit rest (flat_map event_lines events)
        → AllByRecursion (IsLineOf t.cluster) (flat_map event_lines events)
    step_fits _ rest _ (begins _ k a begin) fit = ((number_fits k a begin.action, ours a (in_actions t.actions k a begin.action)), tt)
    step_fits _ rest left (takes _ _ given said taken) fit =
        let prints = answer_line t since given taken.applies in
        let fits = said_fits whole rest left (Some given) said given refl (subst (AnswersFit rest) prints fit) in
        subst (AllByRecursion (IsLineOf t.cluster)) (sym prints) (answer_fits given taken.applies fits, tt)
    step_fits _ rest left (is_silent _ _ k a said ends) fit =
        let prints = end_line t since k (silent_code a) (among_flying t since k a (is_number_of k) (eq-eqb k k refl) ends.action ends.in_flight) in
        subst (AllByRecursion (IsLineOf t.cluster)) (sym prints) ((number_fits k a ends.action, silent_low a), tt)

    pub step_leaves : (events : List Event) (rest left : Option (List Answer)) → StepsOn t whole since rest events left → (behind : List RunLine)
        → AnswersFit rest (flat_map event_lines events ++ behind) → AnswersFit left behind
    step_leaves _ rest _ (begins _ k a begin) behind fit = behind_fits rest (line.Begin k a ∷ []) behind fit
    step_leaves events rest left (takes _ _ given said taken) behind fit = left_fits whole rest left (Some given) said (flat_map event_lines events) behind fit
    step_leaves events rest left (is_silent _ _ k a said ends) behind fit = left_fits whole rest left None said (flat_map event_lines events) behind fit
