-- What is gone with a node, one action after another.
use Rattle.std.proofs.Common.{arith, ◌≡◌, ◌<◌, ◌≤◌, ◌+◌, ℕ, suc, zero, Bool, true, false, cond, List, [], ◌∷◌, ◌++◌, length, count_by, map, filter, drop, refl, sym, ap, ◌∙◌, append-nil, append_assoc}
use Rattle.std.specs.List.{range_with_len}
use Rattle.std.proofs.lemmas.Bool.{ne_eqb}
use Rattle.std.proofs.lemmas.List.{drop_all, drop_more}
use Rattle.std.proofs.lemmas.List.Sums.{sum_by_push}
use Rattle.std.proofs.lemmas.Option.{slice_get_within, get_or_from_slice_get}
use Rattle.lemmas.proofs.Counts.{count-append, count-is}
use Rattle.cluster_types.specs.declared.journal.Action.{Action}
use Rattle.cluster_types.specs.declared.journal.Event.{Event}
use Rattle.cluster_types.specs.declared.journal.Event.TheVariants.{Ended}
use Rattle.cluster_types.specs.declared.journal.Outcome.TheVariants.{Gone}
use Rattle.cluster_types.specs.AnswersThatApply.{end_event}
use Rattle.cluster_types.specs.Journals.{is_on, moment_of, seconds_of}
use Rattle.cluster_types.specs.Steps.{ended, numbers_in_flight, in_flight_by_number, is_from_outside, is_number_in_flight, count_from_outside}
use Rattle.graph_exec.specs.Executors.{ExecutorOf, transition_in, later}
use Rattle.graph_exec.specs.Inner.ExecutorFields.{all_gone}
use Rattle.run_safety.proofs.ByNumber.{action_of, with_action}
use Rattle.graph_exec.proofs.Flying.{StandsAt, event, flying_is, gone_is, rest_same}

-- the ends of those of these numbers that are on the node
abbrev gone_of : List Action → ℕ → ℕ → List ℕ → List Event
gone_of actions n m ks = map (λ k. Ended k (action_of actions k) Gone m) (filter (λ k. is_on n (action_of actions k)) ks)

gone_more : (actions : List Action) (n m k : ℕ) (ks : List ℕ) (b : Bool) → is_on n (action_of actions k) ≡ b
    → gone_of actions n m (k ∷ ks) ≡ cond b (Ended k (action_of actions k) Gone m ∷ gone_of actions n m ks) (gone_of actions n m ks)
gone_more actions n m k ks true e = rw e refl
gone_more actions n m k ks false e = rw e refl

gone_all : (r : ExecutorOf) (n : ℕ) (ks : List ℕ) → gone_of r.graph.actions n (moment_of (r.planned_at ++ r.since)) ks
    ≡ map (end_event r.cluster (r.planned_at ++ r.since) (in_flight_by_number (transition_in r) r.since) Gone) (filter (λ (p : ℕ × Action). is_on n p.1) (map (with_action r.graph.actions) ks))
gone_all r n [] = refl
gone_all r n (k ∷ ks) = on (is_on n (action_of r.graph.actions k)) refl (gone_all r n ks) where
  ends : ℕ × Action → Event
  ends = end_event r.cluster (r.planned_at ++ r.since) (in_flight_by_number (transition_in r) r.since) Gone

  here : ℕ × Action → Bool
  here p = is_on n p.1

  on : (b : Bool) → is_on n (action_of r.graph.actions k) ≡ b
      → gone_of r.graph.actions n (moment_of (r.planned_at ++ r.since)) ks ≡ map ends (filter here (map (with_action r.graph.actions) ks))
      → gone_of r.graph.actions n (moment_of (r.planned_at ++ r.since)) (k ∷ ks) ≡ map ends (filter here (map (with_action r.graph.actions) (k ∷ ks)))
  on true e rest = rw e (ap (◌∷◌ (Ended k (action_of r.graph.actions k) Gone (moment_of (r.planned_at ++ r.since)))) rest)
  on false e rest = rw e rest

-- what was ended so far, and what is left to end, are together what is to be ended
pub record Losing (before now : ExecutorOf) (n place : ℕ) : Type 0 where
  pub so_far : List Event
  pub is : now ≡ later before so_far
  pub sum : so_far ++ gone_of before.graph.actions n (moment_of (before.planned_at ++ before.since)) (drop place (numbers_in_flight (transition_in now) now.since))
      ≡ gone_of before.graph.actions n (moment_of (before.planned_at ++ before.since)) (numbers_in_flight (transition_in before) before.since)
  pub moment : moment_of (now.planned_at ++ now.since) ≡ moment_of (before.planned_at ++ before.since)

module _ (before : ExecutorOf) (n : ℕ) where
  module _ (now : ExecutorOf) (place : ℕ) (l : Losing before now n place) where
    module _ (k : ℕ) (a : Action) (s : StandsAt now place k a) where
      ahead : drop place (numbers_in_flight (transition_in now) now.since) ≡ k ∷ drop (place + 1) (numbers_in_flight (transition_in now) now.since)
      ahead =
          drop_more (numbers_in_flight (transition_in now) now.since) place k (slice_get_within _ place k s.number)
          ∙ ap (λ j. j ∷ drop (place + 1) (numbers_in_flight (transition_in now) now.since)) (get_or_from_slice_get _ place k k s.number)

      same_action : a ≡ action_of before.graph.actions k
      same_action = s.action ∙ ap (λ (r : ExecutorOf). action_of r.graph.actions k) l.is

      pub losing_pass : is_on n a ≡ false → Losing before now n (place + 1)
      losing_pass off = record {
        so_far = l.so_far;
        is = l.is;
        sum =
            ap (λ (es : List Event). l.so_far ++ es)
            (sym (gone_more before.graph.actions n (moment_of (before.planned_at ++ before.since)) k (drop (place + 1) (numbers_in_flight (transition_in now) now.since)) false
            (rw same_action at off)) ∙ ap (gone_of before.graph.actions n (moment_of (before.planned_at ++ before.since))) (sym ahead))
            ∙ l.sum;
        moment = l.moment;
      }

      abbrev m : ℕ
      m = moment_of (before.planned_at ++ before.since)

      abbrev rest : List ℕ
      rest = drop (place + 1) (numbers_in_flight (transition_in now) now.since)

      abbrev e : Event
      e = event now place k a s

      same_event : e ≡ Ended k (action_of before.graph.actions k) Gone m
      same_event = rw (same_action, l.moment) refl

      sum_now : is_on n a ≡ true → (l.so_far ++ e ∷ []) ++ gone_of before.graph.actions n m (drop place (numbers_in_flight (transition_in now) (now.since ++ e ∷ [])))
          ≡ gone_of before.graph.actions n m (numbers_in_flight (transition_in before) before.since)
      sum_now on =
          append_assoc l.so_far (e ∷ []) (gone_of before.graph.actions n m (drop place (numbers_in_flight (transition_in now) (now.since ++ e ∷ []))))
          ∙ ap (λ (ks : List ℕ). l.so_far ++ e ∷ gone_of before.graph.actions n m ks) (rest_same now place k a s)
          ∙ ap (λ (x : Event). l.so_far ++ x ∷ gone_of before.graph.actions n m rest) same_event
          ∙ ap (λ (es : List Event). l.so_far ++ es) (sym (gone_more before.graph.actions n m k rest true (rw same_action at on)))
          ∙ ap (λ (ks : List ℕ). l.so_far ++ gone_of before.graph.actions n m ks) (sym ahead)
          ∙ l.sum

      moment_now : moment_of (now.planned_at ++ (now.since ++ e ∷ [])) ≡ m
      moment_now =
          ap moment_of (sym (append_assoc now.planned_at now.since (e ∷ [])))
          ∙ (let o : moment_of ((now.planned_at ++ now.since) ++ e ∷ []) ≡ moment_of (now.planned_at ++ now.since) + 0 = sum_by_push seconds_of (now.planned_at ++ now.since) e in
          let p : moment_of ((now.planned_at ++ now.since) ++ e ∷ []) ≡ moment_of (now.planned_at ++ now.since) = omega arith in p)
          ∙ l.moment

      later_now : later now (e ∷ []) ≡ later before (l.so_far ++ e ∷ [])
      later_now =
          ap (λ (r : ExecutorOf). later r (e ∷ [])) l.is
          ∙ ap (λ (es : List Event). record { cluster = before.cluster; graph = before.graph; planned_at = before.planned_at; since = es; promotions = before.promotions })
          (append_assoc before.since l.so_far (e ∷ []))

      losing_on : is_on n a ≡ true → Losing before (later now (e ∷ [])) n place
      losing_on on = record { so_far = l.so_far ++ e ∷ []; is = later_now; sum = sum_now on; moment = moment_now }

      pub losing_end : is_on n a ≡ true → Losing before (later now (ended (transition_in now) now.since k Gone)) n place
      losing_end on = rw (gone_is now place k a s) (losing_on on)

    -- at the end all is ended
    pub losing_done : length (numbers_in_flight (transition_in now) now.since) ≤ place → now ≡ later before (all_gone before n)
    losing_done past =
        let none : drop place (numbers_in_flight (transition_in now) now.since) ≡ [] = drop_all place (numbers_in_flight (transition_in now) now.since) past in
        let all : l.so_far ≡ all_gone before n
        = sym (append-nil l.so_far)
        ∙ ap (λ (ks : List ℕ). l.so_far ++ gone_of before.graph.actions n (moment_of (before.planned_at ++ before.since)) ks) (sym none)
        ∙ l.sum ∙ gone_all before n (numbers_in_flight (transition_in before) before.since)
        ∙ ap (λ (ps : List (ℕ × Action)). map (end_event before.cluster (before.planned_at ++ before.since) (in_flight_by_number (transition_in before) before.since) Gone) (filter (λ (p : ℕ × Action). is_on n p.1) ps))
        (sym (flying_is before)) in
        l.is ∙ ap (later before) all

-- none of these ends is from outside
inside_on : (actions : List Action) (n m k : ℕ) (ks : List ℕ) (b : Bool) → is_on n (action_of actions k) ≡ b → 0 < k
    → count_by is_from_outside (gone_of actions n m ks) ≡ 0 → count_by is_from_outside (gone_of actions n m (k ∷ ks)) ≡ 0
inside_on actions n m k ks true e some rest =
    ap (count_by is_from_outside) (gone_more actions n m k ks true e)
    ∙ count-is is_from_outside (Ended k (action_of actions k) Gone m) (gone_of actions n m ks) false (ne_eqb k 0 (λ z. let f : ⊥ = omega arith in f))
    ∙ (let r : 0 + count_by is_from_outside (gone_of actions n m ks) ≡ 0 = omega arith in r)
inside_on actions n m k ks false e some rest = ap (count_by is_from_outside) (gone_more actions n m k ks false e) ∙ rest

inside : (actions : List Action) (n m : ℕ) (p : ℕ → Bool) (a count : ℕ) → 0 < a
    → count_by is_from_outside (gone_of actions n m (filter p (range_with_len a count))) ≡ 0
inside actions n m p a zero some = refl
inside actions n m p a (suc count) some = on (p a) (inside actions n m p (a + 1) count (omega arith)) where
  on : (b : Bool) → count_by is_from_outside (gone_of actions n m (filter p (range_with_len (a + 1) count))) ≡ 0
      → count_by is_from_outside (gone_of actions n m (cond b (a ∷ filter p (range_with_len (a + 1) count)) (filter p (range_with_len (a + 1) count)))) ≡ 0
  on true rest = inside_on actions n m a (filter p (range_with_len (a + 1) count)) (is_on n (action_of actions a)) refl some rest
  on false rest = rest

pub still_few : (r : ExecutorOf) (n : ℕ) → count_from_outside (transition_in r) (r.since ++ all_gone r n) ≡ count_from_outside (transition_in r) r.since
still_few r n =
    let listed : all_gone r n ≡ gone_of r.graph.actions n (moment_of (r.planned_at ++ r.since)) (numbers_in_flight (transition_in r) r.since)
    = ap (λ (ps : List (ℕ × Action)). map (end_event r.cluster (r.planned_at ++ r.since) (in_flight_by_number (transition_in r) r.since) Gone) (filter (λ (p : ℕ × Action). is_on n p.1) ps)) (flying_is r)
    ∙ sym (gone_all r n (numbers_in_flight (transition_in r) r.since)) in
    let none : count_by is_from_outside (all_gone r n) ≡ 0
    = ap (count_by is_from_outside) listed
    ∙ inside r.graph.actions n (moment_of (r.planned_at ++ r.since)) (is_number_in_flight (transition_in r) r.since) 1 (length r.graph.actions) (omega arith) in
    let c : count_by is_from_outside (r.since ++ all_gone r n) ≡ count_by is_from_outside r.since + count_by is_from_outside (all_gone r n)
    = count-append is_from_outside r.since (all_gone r n) in
    let t : count_by is_from_outside (r.since ++ all_gone r n) ≡ count_by is_from_outside r.since = omega arith in
    t
