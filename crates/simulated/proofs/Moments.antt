-- Wherever the run of a simulated cluster has stood, the simulated cluster has lived.
use Rattle.std.proofs.Common.{◌≡◌, ◌≤◌, ◌<◌, ◌⊎◌, inl, inr, ℕ, Bool, true, false, Option, Some, None, List, [], ◌∷◌, ◌++◌, length, length-append, map, filter, find, refl, sym, ap, subst, ◌∙◌, append-nil, append_assoc, arith}
use Rattle.std.specs.List.{list_all}
use Rattle.std.specs.Option.{option_map_or}
use Rattle.std.proofs.lemmas.List.{nil_from_length}
use Rattle.cluster_types.specs.declared.cluster.Cluster.{Cluster}
use Rattle.cluster_types.specs.declared.journal.Action.{Action}
use Rattle.cluster_types.specs.declared.journal.Answer.{Answer}
use Rattle.cluster_types.specs.declared.journal.Answer.TheVariants as answer
use Rattle.cluster_types.specs.declared.journal.Event.{Event}
use Rattle.cluster_types.specs.declared.journal.Event.TheVariants.{Begin, Ended, Lost, Up, Quorum, Wait}
use Rattle.cluster_types.specs.declared.journal.Outcome.{Outcome}
use Rattle.cluster_types.specs.declared.journal.Outcome.TheVariants.{Code, TimedOut, Gone}
use Rattle.cluster_types.specs.declared.journal.Promotion.{Promotion}
use Rattle.cluster_types.specs.declared.run.RunLine.{RunLine}
use Rattle.cluster_types.specs.AnswersThatApply.{added_by, end_event, is_number_of, monitor_action}
use Rattle.cluster_types.specs.Journals.{is_on, moment_of}
use Rattle.cluster_types.specs.Runs.{RunStanding, due, RunsOn, plans, goes, completes, aborts, answers, Runs, journal_at}
use Rattle.cluster_types.specs.Safety.{is_gone}
use Rattle.cluster_types.specs.Steps.{StepsOn, begins, takes, is_silent, Transition, ended, answer_events, in_flight_by_number, journal, idling, silent_code}
use Rattle.run_safety.specs.TwoRuns.{IsFront}
use Rattle.run_safety.proofs.Along.{along, journals_grow}
use Rattle.simulated.specs.Lives.{Lives, at_first, an_action_begins, leaves, joins, ends}
use Rattle.simulated.specs.Turns.{after_begin, after_end, after_joining, after_leaving, answer_by_fate, world_at_turn}
use Rattle.simulated.specs.RealWorlds.{RealWorld, first_world}
use Rattle.simulated.proofs.Within.{always}
use Rattle.simulated.specs.RunsWithin.{IsLivedWithin}

-- the last of some events is the end of an action that is gone with its node
abbrev ends_gone : List Event → Bool
ends_gone [] = false
ends_gone (e ∷ []) = is_gone e
ends_gone (e ∷ f ∷ es) = ends_gone (f ∷ es)

behind : (es : List Event) (e : Event) (more : List Event) → ends_gone (es ++ e ∷ more) ≡ ends_gone (e ∷ more)
behind [] e more = refl
behind (x ∷ []) e more = refl
behind (x ∷ y ∷ es) e more = behind (y ∷ es) e more

-- a list is parted in two ways: the one ends within the first part, or behind it
data IsParted (es batch xs more : List Event) : Type 0 where
  within : (rest : List Event) → es ≡ xs ++ rest → IsParted es batch xs more
  past : (e : Event) (some : List Event) → xs ≡ es ++ e ∷ some → batch ≡ (e ∷ some) ++ more → IsParted es batch xs more

parted : (es batch xs more : List Event) → es ++ batch ≡ xs ++ more → IsParted es batch xs more
parted es batch [] more is = within es refl
parted [] batch (x ∷ xs) more is = past x xs refl is
parted (e ∷ es) batch (x ∷ xs) more is =
    let head : e ≡ x = cc in let tail : es ++ batch ≡ xs ++ more = cc in on (parted es batch xs more tail) head
  where
    on : IsParted es batch xs more → e ≡ x → IsParted (e ∷ es) batch (x ∷ xs) more
    on (within rest f) head = within rest (let g : e ∷ es ≡ x ∷ (xs ++ rest) = cc in g)
    on (past f some g h) head = past f some (let i : x ∷ xs ≡ e ∷ (es ++ f ∷ some) = cc in i) h

-- of a list of which all but the last are gone, what ends otherwise is the whole
no_part : (gone tail xs more : List Event) → list_all is_gone gone ≡ true → length tail ≤ 1 → gone ++ tail ≡ xs ++ more → 0 < length xs → ends_gone xs ≡ false → more ≡ []
no_part [] tail xs more all few is some last = nil_from_length more (let l : length tail ≡ length (xs ++ more) = ap length is in let m = length-append xs more in omega arith)
no_part (g ∷ gone) tail [] more all few is some last = absurd (let f : ⊥ = omega arith in f)
no_part (g ∷ gone) tail (x ∷ []) more all few is some last = let head : g ≡ x = cc in both (is_gone g) refl all (ap is_gone head ∙ last)
  where
    both : (b : Bool) → is_gone g ≡ b → list_all is_gone (g ∷ gone) ≡ true → is_gone g ≡ false → more ≡ []
    both true e h f = absurd (let i : ⊥ = cc in i)
    both false e h f = absurd (let i : list_all is_gone (g ∷ gone) ≡ false = rw e refl in let j : ⊥ = cc in j)
no_part (g ∷ gone) tail (x ∷ y ∷ xs) more all few is some last = no_part gone tail (y ∷ xs) more (rest (is_gone g) refl all) few (let t : gone ++ tail ≡ (y ∷ xs) ++ more = cc in t) (omega arith) last
  where
    rest : (b : Bool) → is_gone g ≡ b → list_all is_gone (g ∷ gone) ≡ true → list_all is_gone gone ≡ true
    rest true e h = rw e at h
    rest false e h = absurd (let i : list_all is_gone (g ∷ gone) ≡ false = rw e refl in let j : ⊥ = cc in j)

-- what an answer adds: some that are gone, and then at most one event, which isn't gone
record IsBatch (batch : List Event) : Type 0 where
  gone : List Event
  tail : List Event
  all : list_all is_gone gone ≡ true
  few : length tail ≤ 1
  is : batch ≡ gone ++ tail

one_batch : (batch : List Event) → length batch ≤ 1 → IsBatch batch
one_batch batch few = record { gone = []; tail = batch; all = refl; few = few; is = refl }

all_gone : (c : Cluster) (es : List Event) (flight ps : List (ℕ × Action)) → list_all is_gone (map (end_event c es flight Gone) ps) ≡ true
all_gone c es flight [] = refl
all_gone c es flight (p ∷ ps) = all_gone c es flight ps

module _ (c : Cluster) (es : List Event) (flight : List (ℕ × Action)) where
  at_most_one : (o : Outcome) (found : Option (ℕ × Action)) → length (option_map_or (λ (p : ℕ × Action). end_event c es flight o p ∷ []) found []) ≤ 1
  at_most_one o None = omega arith
  at_most_one o (Some p) = omega arith

  batch_of : (given : Answer) → IsBatch (added_by c es flight given)
  batch_of (answer.End k code) = one_batch _ (at_most_one (Code code) (find (is_number_of k) flight))
  batch_of (answer.Timeout k) = one_batch _ (at_most_one TimedOut (find (is_number_of k) flight))
  batch_of (answer.Lost n) = record {
    gone = map (end_event c es flight Gone) (filter (λ (p : ℕ × Action). is_on n p.1) flight);
    tail = Lost n ∷ [];
    all = all_gone c es flight (filter (λ (p : ℕ × Action). is_on n p.1) flight);
    few = omega arith;
    is = refl;
  }
  batch_of (answer.Up n) = one_batch _ (omega arith)
  batch_of (answer.Quorum now) = one_batch _ (omega arith)
  batch_of (answer.Wait seconds) = one_batch _ (omega arith)
  batch_of (answer.Report n r interval code) = one_batch _ (omega arith)

-- a journal at which a run may stand: the first, or one that doesn't end with an action that is gone
abbrev IsMoment : List Event → List Event → Type 0
IsMoment first es = (es ≡ first) ⊎ (ends_gone es ≡ false)

module _ (c : Cluster) (number : ℕ) (first : List Event) where
  -- the journal only grows
  further : (es batch : List Event) → IsFront first es → IsFront first (es ++ batch)
  further es batch f = record { more = f.more ++ batch; joined = ap (λ l. l ++ batch) f.joined ∙ append_assoc first f.more batch }

  pub grown : (es : List Event) (w : RealWorld) → Lives c number first es w → IsFront first es
  grown _ _ at_first = record { more = []; joined = sym (append-nil first) }
  grown _ _ (an_action_begins es w k a life) = further es (Begin k a ∷ []) (grown es w life)
  grown _ _ (leaves es w flight node life is busy e) = further es (added_by c es flight (answer.Lost node)) (grown es w life)
  grown _ _ (joins es w flight node life is busy e) = further es (added_by c es flight (answer.Up node)) (grown es w life)
  grown _ _ (ends es w flight place f k a life is e at) = further es (added_by c es flight (answer_by_fate c (world_at_turn c number w) f k a)) (grown es w life)

  found : (es : List Event) (w : RealWorld) → Lives c number first es w → IsLivedWithin c number first es
  found es w life = record { world = w; lives = life; within = always c number first es w life }

  -- by the last that was added, a moment is the present one, or an earlier one
  back : (es batch xs more : List Event) (w : RealWorld) → IsFront first es → IsBatch batch → IsMoment first xs → es ++ batch ≡ xs ++ more
      → Lives c number first (es ++ batch) w → ((rest : List Event) → es ≡ xs ++ rest → IsLivedWithin c number first xs) → IsLivedWithin c number first xs
  back es batch xs more w front b moment is life before = on (parted es batch xs more is)
    where
      last : (e : Event) (some : List Event) → xs ≡ es ++ e ∷ some → IsMoment first xs → ends_gone (e ∷ some) ≡ false
      last e some at (inl same) =
          absurd (let l : length (es ++ e ∷ some) ≡ length first = ap length (sym at ∙ same) in
          let m = length-append es (e ∷ some) in
          let n : length es ≡ length (first ++ front.more) = ap length front.joined in
          let o = length-append first front.more in
          let f : ⊥ = omega arith in f)
      last e some at (inr other) = sym (behind es e some) ∙ (ap ends_gone (sym at) ∙ other)

      on : IsParted es batch xs more → IsLivedWithin c number first xs
      on (within rest e) = before rest e
      on (past e some at parts) =
          let nothing = no_part b.gone b.tail (e ∷ some) more b.all b.few (sym b.is ∙ parts) (omega arith) (last e some at moment) in
          found xs w (subst (λ l. Lives c number first l w) (is ∙ (ap (λ m. xs ++ m) nothing ∙ append-nil xs)) life)

  lived : (es : List Event) (w : RealWorld) → Lives c number first es w → (xs more : List Event) → es ≡ xs ++ more → IsFront first xs → IsMoment first xs
      → IsLivedWithin c number first xs
  lived _ _ at_first xs more is front moment =
      let l : length first ≡ length (xs ++ more) = ap length is in
      let m = length-append xs more in
      let n : length xs ≡ length (first ++ front.more) = ap length front.joined in
      let o = length-append first front.more in
      let none : more ≡ [] = nil_from_length more (omega arith) in
      found xs (first_world c first) (subst (λ l. Lives c number first l (first_world c first)) (is ∙ (ap (λ m. xs ++ m) none ∙ append-nil xs)) at_first)
  lived _ _ (an_action_begins es w k a life) xs more is front moment =
      back es (Begin k a ∷ []) xs more (after_begin c w a) (grown es w life) (one_batch (Begin k a ∷ []) (omega arith)) moment is (an_action_begins es w k a life)
      (λ rest e. lived es w life xs rest e front moment)
  lived _ _ (leaves es w flight node life i busy e) xs more is front moment =
      back es (added_by c es flight (answer.Lost node)) xs more (after_leaving c (world_at_turn c number w) node) (grown es w life) (batch_of c es flight (answer.Lost node)) moment
      is (leaves es w flight node life i busy e) (λ rest f. lived es w life xs rest f front moment)
  lived _ _ (joins es w flight node life i busy e) xs more is front moment =
      back es (added_by c es flight (answer.Up node)) xs more (after_joining c (world_at_turn c number w) node) (grown es w life) (batch_of c es flight (answer.Up node)) moment is
      (joins es w flight node life i busy e) (λ rest f. lived es w life xs rest f front moment)
  lived _ _ (ends es w flight place f k a life i e at) xs more is front moment =
      let given = answer_by_fate c (world_at_turn c number w) f k a in
      back es (added_by c es flight given) xs more (after_end c (world_at_turn c number w) f a) (grown es w life) (batch_of c es flight given) moment is
      (ends es w flight place f k a life i e at) (λ rest g. lived es w life xs rest g front moment)

-- some events that don't end with one that is gone
data EndsHere : List Event → Type 0 where
  nothing : EndsHere []
  with_one : (front : List Event) (e : Event) → is_gone e ≡ false → EndsHere (front ++ e ∷ [])

module _ (c : Cluster) (es : List Event) (flight : List (ℕ × Action)) where
  code_here : (code : ℕ) (found : Option (ℕ × Action)) → EndsHere (option_map_or (λ (p : ℕ × Action). end_event c es flight (Code code) p ∷ []) found [])
  code_here code None = nothing
  code_here code (Some p) = with_one [] (end_event c es flight (Code code) p) refl

  timeout_here : (found : Option (ℕ × Action)) → EndsHere (option_map_or (λ (p : ℕ × Action). end_event c es flight TimedOut p ∷ []) found [])
  timeout_here None = nothing
  timeout_here (Some p) = with_one [] (end_event c es flight TimedOut p) refl

  answer_here : (given : Answer) → EndsHere (added_by c es flight given)
  answer_here (answer.End k code) = code_here code (find (is_number_of k) flight)
  answer_here (answer.Timeout k) = timeout_here (find (is_number_of k) flight)
  answer_here (answer.Lost n) = with_one (map (end_event c es flight Gone) (filter (λ (p : ℕ × Action). is_on n p.1) flight)) (Lost n) refl
  answer_here (answer.Up n) = with_one [] (Up n) refl
  answer_here (answer.Quorum now) = with_one [] (Quorum now) refl
  answer_here (answer.Wait seconds) = with_one [] (Wait seconds) refl
  answer_here (answer.Report n r interval code) = with_one [] (Ended 0 (monitor_action c r n interval) (Code code) (moment_of es)) refl

step_here : (t : Transition) (whole : Bool) (since events : List Event) (rest left : Option (List Answer)) → StepsOn t whole since rest events left → EndsHere events
step_here t whole since _ rest _ (begins _ k a begin) = with_one [] (Begin k a) refl
step_here t whole since _ rest left (takes _ _ given said taken) = answer_here t.cluster (journal t since) (in_flight_by_number t since) given
step_here t whole since _ rest left (is_silent _ _ k a said over) =
    code_here t.cluster (journal t since) (in_flight_by_number t since) (silent_code a) (find (is_number_of k) (in_flight_by_number t since))

module _ (first : List Event) where
  still : (xs events : List Event) → EndsHere events → IsMoment first xs → IsMoment first (xs ++ events)
  still xs _ nothing moment = subst (λ l. IsMoment first l) (sym (append-nil xs)) moment
  still xs _ (with_one front e last) moment =
      inr (ap ends_gone (sym (append_assoc xs front (e ∷ []))) ∙ (behind (xs ++ front) e [] ∙ last))

  module _ (c : Cluster) (promotions : List Promotion) (whole : Bool) where
    keeps : (at next : RunStanding) (rest left : Option (List Answer)) (lines : List RunLine) → RunsOn c promotions whole at rest lines next left
        → IsMoment first (journal_at at) → IsMoment first (journal_at next)
    keeps _ _ rest _ _ (plans k es _ placed actions plan) moment = still es [] nothing moment
    keeps _ _ rest left _ (goes k t since events _ _ step) moment =
        subst (λ l. IsMoment first l) (append_assoc t.planned_at since events) (still (journal t since) events (step_here t whole since events rest left step) moment)
    keeps _ _ rest _ _ (completes k t since _ ended unaborted) moment = moment
    keeps _ _ rest _ _ (aborts k t since _ ended aborted) moment = moment
    keeps _ _ rest left _ (answers k es _ _ given said applies) moment =
        let t = idling c es in still es (answer_events t [] given) (answer_here c (journal t []) (in_flight_by_number t []) given) moment

    moments : (at : RunStanding) (rest left : Option (List Answer)) (lines : List RunLine) → Runs c promotions whole (due 1 first) rest lines at left
        → IsMoment first (journal_at at)
    moments at rest left lines runs =
        along c promotions whole (λ p _ _. IsMoment first (journal_at p)) (λ p q middle after before more step h. keeps p q middle after more step h) (due 1 first) at rest left []
        lines runs (inl refl)

-- so where a run stood, from which it came to where the simulated cluster has lived, that has lived too
pub each_moment : (c : Cluster) (promotions : List Promotion) (number : ℕ) (whole : Bool) (es : List Event) (rest middle left : Option (List Answer)) (at later : RunStanding)
    (lines more : List RunLine) (w : RealWorld) → Runs c promotions whole (due 1 es) rest lines at middle → Runs c promotions whole at middle more later left
    → Lives c number es (journal_at later) w → IsLivedWithin c number es (journal_at at)
each_moment c promotions number whole es rest middle left at later lines more w runs further life =
    let grows = journals_grow c promotions whole at later middle left more further in
    lived c number es (journal_at later) w life (journal_at at) grows.more grows.joined (journals_grow c promotions whole (due 1 es) at rest middle lines runs)
    (moments es c promotions whole at rest middle lines runs)
