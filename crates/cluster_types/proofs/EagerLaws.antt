-- A transition asks only where nothing may begin, begins each action once, and is never stuck.
use Rattle.std.proofs.Common.{arith, ◌≡◌, ◌≤◌, ◌+◌, ◌==◌, ◌&&◌, ◌||◌, ℕ, Bool, true, false, List, [], ◌∷◌, ◌++◌, refl, sym, subst, filter, append-nil, append_assoc, ap, ◌∙◌}
use Rattle.std.specs.Prelude.{Option, Some, None, count_by, cond, map, find}
use Rattle.std.specs.List.{list_all, list_any}
use Rattle.std.specs.Option.{option_map_or}
use Rattle.std.proofs.lemmas.List.Folds.{list_any-append}
use Rattle.std.proofs.Math.Bool.{and-false}
use Rattle.lemmas.proofs.Booleans.{sooner, later, one_of, first_passes}
use Rattle.lemmas.proofs.Counts.{count-append, count-none}
use Rattle.lemmas.proofs.Searches.{any-more, any_last}
use Rattle.cluster_types.specs.declared.journal.Action.{Action}
use Rattle.cluster_types.specs.declared.journal.Answer.{Answer}
use Rattle.cluster_types.specs.declared.journal.Answer.TheVariants as answer
use Rattle.cluster_types.specs.declared.journal.Event.{Event}
use Rattle.cluster_types.specs.declared.journal.Event.TheVariants.{Up, Lost, Quorum, Wait, Begin, Ended}
use Rattle.cluster_types.specs.declared.journal.Outcome.TheVariants.{Code, TimedOut, Gone}
use Rattle.cluster_types.specs.AnswersThatApply.{end_event, is_number_of, monitor_action}
use Rattle.cluster_types.specs.Journals.{is_on, moment_of}
use Rattle.cluster_types.specs.declared.cluster.Cluster.{Cluster}
use Rattle.cluster_types.specs.Safety.{is_answered, is_gone, without_gone}
use Rattle.cluster_types.specs.Steps.{Transition, GoesBySteps, IsWaiting, here, one_more, StepsOn, begins, takes, is_silent, ended, answer_events, begins_number, in_flight_by_number, aborts, has_aborted, has_begun, journal, silent_code}
use Rattle.cluster_types.proofs.StepLaws.{split, map_all, joined_all, not_begun, begins_nothing}

-- Events without those at their end that are gone.

not_all : (p : Event → Bool) (xs : List Event) (e : Event) → p e ≡ false → list_all p (xs ++ e ∷ []) ≡ false
not_all p [] e h = rw h refl
not_all p (x ∷ xs) e h = rw (not_all p xs e h) (and-false (p x))

kept_whole : (xs : List Event) (e : Event) → is_gone e ≡ false → without_gone (xs ++ e ∷ []) ≡ xs ++ e ∷ []
kept_whole [] e h = rw h refl
kept_whole (x ∷ xs) e h = rw (not_all is_gone (x ∷ xs) e h) (let rest = kept_whole xs e h in cc)

first_false : (a b c : Bool) → a && b ≡ false → (b ≡ false → c ≡ false) → a && c ≡ false
first_false true b c h f = f h
first_false false b c h f = refl

some_left : (xs ys : List Event) → list_all is_gone xs ≡ false → list_all is_gone (xs ++ ys) ≡ false
some_left [] ys h = cc
some_left (x ∷ xs) ys h = first_false (is_gone x) (list_all is_gone xs) (list_all is_gone (xs ++ ys)) h (some_left xs ys)

pub data IsClean : List Event → Type 0 where
  none : IsClean []
  ends_in : (xs : List Event) (e : Event) → is_gone e ≡ false → IsClean (xs ++ e ∷ [])

clean-whole : (xs : List Event) → IsClean xs → without_gone xs ≡ xs
clean-whole _ none = refl
clean-whole _ (ends_in xs e h) = kept_whole xs e h

all_gone : (ys : List Event) → list_all is_gone ys ≡ true → without_gone ys ≡ []
all_gone [] h = refl
all_gone (y ∷ ys) h = rw h refl

-- what is gone at the end is left out
without-gone : (xs ys : List Event) → IsClean xs → list_all is_gone ys ≡ true → without_gone (xs ++ ys) ≡ xs
without-gone _ ys none h = all_gone ys h
without-gone _ ys (ends_in xs e h) g = without_last xs
  where
    without_last : (xs : List Event) → without_gone (xs ++ e ∷ [] ++ ys) ≡ xs ++ e ∷ []
    without_last [] = rw h (let rest = all_gone ys g in cc)
    without_last (x ∷ xs) = rw (some_left (x ∷ (xs ++ e ∷ [])) ys (not_all is_gone (x ∷ xs) e h)) (let rest = without_last xs in cc)

-- What an answer adds: nothing, or some that are gone and then what is answered.

abbrev is_lost : Event → Bool
is_lost (Lost n) = true
is_lost _ = false

data Brings : List Event → Type 0 where
  nothing : Brings []
  brings : (gone : List Event) (e : Event) → list_all is_gone gone ≡ true → is_gone e ≡ false → begins_nothing e ≡ true
      → (list_any is_gone gone ≡ true → is_lost e ≡ true) → Brings (gone ++ e ∷ [])

one : (e : Event) → is_gone e ≡ false → begins_nothing e ≡ true → Brings (e ∷ [])
one e h g = brings [] e refl h g (λ f. cc)

code-brings : (m code : ℕ) (p : Option (ℕ × Action)) → Brings (option_map_or (λ (p : ℕ × Action). Ended p.0 p.1 (Code code) m ∷ []) p [])
code-brings m code (Some p) = one (Ended p.0 p.1 (Code code) m) refl refl
code-brings m code None = nothing

timeout-brings : (m : ℕ) (p : Option (ℕ × Action)) → Brings (option_map_or (λ (p : ℕ × Action). Ended p.0 p.1 TimedOut m ∷ []) p [])
timeout-brings m (Some p) = one (Ended p.0 p.1 TimedOut m) refl refl
timeout-brings m None = nothing

answer-brings : (t : Transition) (since : List Event) (given : Answer) → Brings (answer_events t since given)
answer-brings t since (answer.End k code) = code-brings (moment_of (journal t since)) code (find (is_number_of k) (in_flight_by_number t since))
answer-brings t since (answer.Timeout k) = timeout-brings (moment_of (journal t since)) (find (is_number_of k) (in_flight_by_number t since))
answer-brings t since (answer.Lost n) =
    brings (map (end_event t.cluster (journal t since) (in_flight_by_number t since) Gone) (filter (λ (p : ℕ × Action). is_on n p.1) (in_flight_by_number t since))) (Lost n)
    (map_all is_gone (end_event t.cluster (journal t since) (in_flight_by_number t since) Gone) (λ p. refl) (filter (λ (p : ℕ × Action). is_on n p.1) (in_flight_by_number t since)))
    refl refl (λ h. refl)
answer-brings t since (answer.Up n) = one (Up n) refl refl
answer-brings t since (answer.Quorum now) = one (Quorum now) refl refl
answer-brings t since (answer.Wait seconds) = one (Wait seconds) refl refl
answer-brings t since (answer.Report n r interval code) = one (Ended 0 (monitor_action t.cluster r n interval) (Code code) (moment_of (journal t since))) refl refl

-- What is kept by each step.

pub record Keeps (t : Transition) (since : List Event) : Type 0 where
  pub clean : IsClean since
  pub asked : (before after : List Event) (e : Event) → since ≡ before ++ e ∷ after → is_answered e ≡ true → IsWaiting t (without_gone before)
  pub once : (k : ℕ) → count_by (begins_number k) since ≤ 1
  pub gone_aborts : list_any is_gone since ≡ true → has_aborted t since ≡ true

-- of one event there is no other
pub at_only : (R : Type 0) (x e : Event) (front after : List Event) → x ∷ [] ≡ front ++ e ∷ after → (front ≡ [] → x ≡ e → R) → R
at_only R x e [] after q f = f refl cc
at_only R x e (b ∷ bs) after q f = let tail : [] ≡ bs ++ e ∷ after = cc in never bs tail
  where
    never : (bs : List Event) → [] ≡ bs ++ e ∷ after → R
    never [] h = cc
    never (b ∷ bs) h = cc

gone_is_not_answered : (xs front after : List Event) (e : Event) → list_all is_gone xs ≡ true → xs ≡ front ++ e ∷ after → is_answered e ≡ true → ⊥
gone_is_not_answered [] [] after e h q g = let f : ⊥ = cc in f
gone_is_not_answered [] (b ∷ bs) after e h q g = let f : ⊥ = cc in f
gone_is_not_answered (x ∷ xs) [] after e h q g = both_of x (sooner (is_gone x) _ h) (let same : x ≡ e = cc in subst (λ z. is_answered z ≡ true) (sym same) g)
  where
    both_of : (x : Event) → is_gone x ≡ true → is_answered x ≡ true → ⊥
    both_of (Ended k a Gone m) h g = let f : ⊥ = cc in f
    both_of _ h g = let f : ⊥ = cc in f
gone_is_not_answered (x ∷ xs) (b ∷ bs) after e h q g =
    let tail : xs ≡ bs ++ e ∷ after = cc in gone_is_not_answered xs bs after e (later (is_gone x) _ h) tail g

not_counted : (b any : Bool) (n : ℕ) → b || any ≡ false → (any ≡ false → n ≡ 0) → (0 + cond b 1 0) + n ≡ 0
not_counted true any n h f = cc
not_counted false any n h f = rw (f h) refl

none_begins : (k : ℕ) (xs : List Event) → list_all begins_nothing xs ≡ true → list_any (begins_number k) xs ≡ false
none_begins k [] h = refl
none_begins k (Begin j a ∷ xs) h = cc
none_begins k (x ∷ xs) h = none_begins k xs h

module _ (t : Transition) (since : List Event) (keeps : Keeps t since) where
  begin-asked : (k : ℕ) (a : Action) (before after : List Event) (e : Event) → since ++ Begin k a ∷ [] ≡ before ++ e ∷ after → is_answered e ≡ true
      → IsWaiting t (without_gone before)
  begin-asked k a before after e q h =
      split (IsWaiting t (without_gone before)) since (Begin k a ∷ []) before after e q (λ rest p. keeps.asked before rest e p h)
      (λ front p r. at_only (IsWaiting t (without_gone before)) (Begin k a) e front after r (λ f same. let g : is_answered (Begin k a) ≡ true = subst (λ z. is_answered z ≡ true) (sym same) h in cc))

  -- where it waits for an answer, what is answered next stands behind what is gone alone
  answer-asked : IsWaiting t since → (gone : List Event) (x : Event) → list_all is_gone gone ≡ true → (before after : List Event) (e : Event)
      → since ++ (gone ++ x ∷ []) ≡ before ++ e ∷ after → is_answered e ≡ true → IsWaiting t (without_gone before)
  answer-asked waits gone x all before after e q h =
      split (IsWaiting t (without_gone before)) since (gone ++ x ∷ []) before after e q (λ rest p. keeps.asked before rest e p h)
      (λ front p r. split (IsWaiting t (without_gone before)) gone (x ∷ []) front after e r
      (λ rest s. absurd (gone_is_not_answered gone front rest e all s h))
      (λ last s u. at_only (IsWaiting t (without_gone before)) x e last after u (λ f same.
      subst (λ z. IsWaiting t (without_gone z)) (sym (p ∙ ap (λ z. since ++ z) (s ∙ ap (λ z. gone ++ z) f ∙ append-nil gone)))
      (subst (λ z. IsWaiting t z) (sym (without-gone since gone keeps.clean all)) waits))))

  begun_once : (k : ℕ) (a : Action) → has_begun t since k ≡ false → (j : ℕ) → count_by (begins_number j) (since ++ Begin k a ∷ []) ≤ 1
  begun_once k a fresh j = rw (count-append (begins_number j) since (Begin k a ∷ [])) (at_number (k == j) refl)
    where
      at_number : (same : Bool) → (k == j) ≡ same → count_by (begins_number j) since + count_by (begins_number j) (Begin k a ∷ []) ≤ 1
      at_number true e =
          let number : k ≡ j = grind arith in
          let none : count_by (begins_number j) since ≡ 0 = count-none (begins_number j) since (subst (λ z. list_any (begins_number z) since ≡ false) number fresh) in
          rw none (rw e (omega arith))
      at_number false e = let few = keeps.once j in rw e (omega arith)

  still_once : (ys : List Event) → list_all begins_nothing ys ≡ true → (j : ℕ) → count_by (begins_number j) (since ++ ys) ≤ 1
  still_once ys h j =
      let none : count_by (begins_number j) ys ≡ 0 = count-none (begins_number j) ys (none_begins j ys h) in
      let few = keeps.once j in
      rw (count-append (begins_number j) since ys) (rw none (omega arith))

  gone_or_aborted : (ys : List Event) → (list_any is_gone ys ≡ true → has_aborted t ys ≡ true)
      → list_any is_gone (since ++ ys) ≡ true → has_aborted t (since ++ ys) ≡ true
  gone_or_aborted ys h g =
      rw (list_any-append (aborts t.cluster) since ys)
      (one_of (list_any is_gone since) (has_aborted t since) (list_any is_gone ys) (has_aborted t ys) keeps.gone_aborts h (rw (list_any-append is_gone since ys) at g))

gone-begin_nothing : (xs : List Event) → list_all is_gone xs ≡ true → list_all begins_nothing xs ≡ true
gone-begin_nothing [] h = refl
gone-begin_nothing (Begin k a ∷ xs) h = cc
gone-begin_nothing (x ∷ xs) h = gone-begin_nothing xs (later (is_gone x) _ h)

loss-aborts : (c : Cluster) (e : Event) → is_lost e ≡ true → aborts c e ≡ true
loss-aborts c (Lost n) h = refl
loss-aborts c _ h = cc

gone-aborts : (c : Cluster) (gone : List Event) (e : Event) → is_gone e ≡ false → (list_any is_gone gone ≡ true → is_lost e ≡ true)
    → list_any is_gone (gone ++ e ∷ []) ≡ true → list_any (aborts c) (gone ++ e ∷ []) ≡ true
gone-aborts c gone e h lost g =
    any_last (aborts c) gone e (loss-aborts c e (lost (first_passes (list_any is_gone gone) (is_gone e) (sym (any-more is_gone gone e) ∙ g) h)))

module _ (t : Transition) (since : List Event) (keeps : Keeps t since) where
  bring-keeps : IsWaiting t since → (ys : List Event) → Brings ys → Keeps t (since ++ ys)
  bring-keeps waits _ nothing = subst (Keeps t) (sym (append-nil since)) keeps
  bring-keeps waits _ (brings gone e all still silent lost) = record {
    clean = subst IsClean (append_assoc since gone (e ∷ [])) (ends_in (since ++ gone) e still);
    asked = answer-asked t since keeps waits gone e all;
    once = still_once t since keeps (gone ++ e ∷ []) (joined_all begins_nothing gone (e ∷ []) (gone-begin_nothing gone all) (rw silent refl));
    gone_aborts = gone_or_aborted t since keeps (gone ++ e ∷ []) (gone-aborts t.cluster gone e still lost);
  }

  step-keeps : (whole : Bool) (events : List Event) (rest left : Option (List Answer)) → StepsOn t whole since rest events left → Keeps t (since ++ events)
  step-keeps whole _ rest _ (begins _ k a allowed) = record {
    clean = ends_in since (Begin k a) refl;
    asked = begin-asked t since keeps k a;
    once = begun_once t since keeps k a (not_begun t since k allowed.allowed);
    gone_aborts = gone_or_aborted t since keeps (Begin k a ∷ []) (λ h. cc);
  }
  step-keeps whole _ rest left (takes _ _ given said taken) = bring-keeps taken.waiting (answer_events t since given) (answer-brings t since given)
  step-keeps whole _ rest left (is_silent _ _ k a said ends) = bring-keeps ends.waiting (ended t since k (Code (silent_code a))) (code-brings (moment_of (journal t since)) (silent_code a) (find (is_number_of k) (in_flight_by_number t since)))

pub keeps-on : (t : Transition) (whole : Bool) (since later : List Event) (rest left : Option (List Answer)) → GoesBySteps t whole since rest later left
    → Keeps t since → Keeps t later
keeps-on t whole since _ rest _ (here _ _) keeps = keeps
keeps-on t whole since after rest left (one_more _ events _ _ middle _ step more) keeps =
    keeps-on t whole (since ++ events) after middle left more (step-keeps t since keeps whole events rest middle step)

pub keeps-none : (t : Transition) → Keeps t []
keeps-none t = record {
  clean = none;
  asked = λ before after e q h. never before after e q;
  once = λ k. omega arith;
  gone_aborts = λ h. cc;
}
  where
    never : {R : Type 0} (before after : List Event) (e : Event) → [] ≡ before ++ e ∷ after → R
    never [] after e h = cc
    never (b ∷ bs) after e h = cc
