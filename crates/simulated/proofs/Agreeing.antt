-- A simulated cluster agrees with the journal that it makes, and each of its answers applies.
use Rattle.std.proofs.Common.{◌≡◌, ℕ, ◌<◌, ◌≤◌, ◌+◌, ◌-◌, ◌==◌, Bool, true, false, if◌then◌else◌, Option, Some, None, List, [], ◌∷◌, ◌++◌, length, count_by, slice_get, refl, sym, subst, ◌∙◌, ◌⊎◌, inl, inr, arith}
use Rattle.std.specs.Prelude.{Contains, nat_lt}
use Rattle.std.proofs.lemmas.Bool.{and_parts}
use Rattle.std.proofs.lemmas.Bool.Decides.{nat_tests}
use Rattle.std.specs.Option.{option_map_or}
use Rattle.std.proofs.lemmas.Option.{get_or_from_slice_get, slice_get_within}
use Rattle.lemmas.proofs.Members.{head_or_rest, in_none, of_flat}
use Rattle.cluster_types.specs.declared.cluster.Cluster.{Cluster}
use Rattle.cluster_types.specs.declared.journal.Action.{Action}
use Rattle.cluster_types.specs.declared.journal.Answer.{Answer}
use Rattle.cluster_types.specs.declared.journal.Answer.TheVariants as answer
use Rattle.cluster_types.specs.declared.journal.Event.{Event}
use Rattle.cluster_types.specs.declared.journal.Event.TheVariants.{Begin}
use Rattle.cluster_types.specs.AnswersThatApply.{added_by, applies_after}
use Rattle.cluster_types.specs.Journals.{AreInFlightByNumber}
use Rattle.cluster_types.specs.Steps.{is_from_outside}
use Rattle.graph_exec.specs.Flights.{InFlightOf, paired, pairs_in_flight}
use Rattle.graph_exec.specs.SourceDuties.{AgreesOn, AgreesSilent}
use Rattle.listed.specs.Sets.{members}
use Rattle.simulated.specs.declared.turn.Fate.{Fate}
use Rattle.simulated.specs.declared.turn.Turn.{Turn}
use Rattle.simulated.specs.declared.turn.Turn.TheVariants as turn
use Rattle.simulated.specs.KeptReality.{IsOfSame, RealityOf, ShowsWorld}
use Rattle.simulated.specs.Lives.{IsWorldWithin, Lives, at_first, an_action_begins, leaves, joins, ends}
use Rattle.simulated.specs.Turns.{after_begin, after_end, after_joining, after_leaving, answer_by_fate, is_fault, next_turn, world_at_turn}
use Rattle.simulated.specs.RealWorlds.{RealWorld, first_world, is_cell}
use Rattle.simulated.proofs.Applying.{ends_apply, joins_apply, leaves_apply}
use Rattle.simulated.proofs.Counting.{AreNumbers, none_ended, one_joined, one_left}
use Rattle.simulated.proofs.Within.{always}
use Rattle.simulated.specs.RunsWithin.{RunsWithin}
use Rattle.simulated.specs.Worlds.{Agrees, IsOfOne, WorldOf}

-- each action in flight has a number
pub all_numbers : (f : InFlightOf) → AreNumbers (pairs_in_flight f)
all_numbers f p there =
    let found = of_flat (paired f.progress.graph.actions) (members f.in_flight) p there in on found.source (found.source == 0) refl found.gives
  where
    alone : (k : ℕ) (o : Option Action) → (k == 0) ≡ false → Contains (option_map_or (λ a. (k, a) ∷ []) o []) p → 0 < p.0
    alone k None e h = absurd (in_none p h)
    alone k (Some a) e h = first (head_or_rest (k, a) [] p h)
      where
        first : ((k, a) ≡ p) ⊎ Contains [] p → 0 < p.0
        first (inl is) = rw (← is) (let some : 0 < k = grind arith in some)
        first (inr none) = absurd (in_none p none)

    on : (k : ℕ) (zero : Bool) → (k == 0) ≡ zero → Contains (option_map_or (λ a. (k, a) ∷ []) (if zero then None else slice_get f.progress.graph.actions (k - 1)) []) p
        → 0 < p.0
    on k true e h = absurd (in_none p h)
    on k false e h = alone k (slice_get f.progress.graph.actions (k - 1)) e h

-- two simulated clusters for which the same is kept stand alike
module _ (k : RealityOf) (v w : RealWorld) (one : ShowsWorld k v) (other : ShowsWorld k w) where
  same_node : (n : ℕ) → n < length k.cluster.nodes → v.nodes n ≡ w.nodes n
  same_node n l = let a = one.nodes n l in let b = other.nodes n l in cc

  same_cell : (r n : ℕ) → is_cell k.cluster r n ≡ true → v.cells r n ≡ w.cells r n
  same_cell r n h =
      let parts = and_parts (nat_lt r (length k.cluster.leaves)) (nat_lt n (length k.cluster.nodes)) h in
      let first = parts.0 in
      let second = parts.1 in
      let l : r < length k.cluster.leaves = grind (arith, nat_tests) in
      let m : n < length k.cluster.nodes = grind (arith, nat_tests) in
      let a = one.cells.each r n l m in
      let b = other.cells.each r n l m in
      cc

-- so what is kept of one that agrees with a journal runs only what may run by it
pub shown_within : (k : WorldOf) (c : Cluster) (es : List Event) (taken : ℕ) (w : RealWorld) → Agrees k c es taken → ShowsWorld k.reality w → RunsWithin c es w
shown_within k c es taken w a shown =
    let of = always c k.reality.number a.first es a.world a.lives in
    record {
      stands = λ n l. same_node k.reality w a.world shown a.shows n (rw a.of_cluster l) ∙ of.stands n;
      runs = λ r n h there.
          let same = same_cell k.reality w a.world shown a.shows r n (rw a.of_cluster h) in of.runs r n h (rw same at there);
      promoted = λ r n h there.
          let same = same_cell k.reality w a.world shown a.shows r n (rw a.of_cluster h) in of.promoted r n h (rw same at there);
    }

-- at first it agrees with the journal with which it began
pub first_agrees : (k : WorldOf) (c : Cluster) (es : List Event) → k.reality.cluster ≡ c → length es ≡ k.since → ShowsWorld k.reality (first_world c es) → Agrees k c es 0
first_agrees k c es of since shows =
    record { of_cluster = of; first = es; began = since; world = first_world c es; lives = at_first; shows = shows; few = omega arith }

-- nothing comes while nothing is in flight, however often it was asked
abbrev counted : WorldOf → ℕ → ℕ → WorldOf
counted k asked answered = record { reality = k.reality; since = k.since; asked = asked; answered = answered }

pub silent_agrees : (k : WorldOf) (asked answered : ℕ) (c : Cluster) (es : List Event) (taken : ℕ) (flight : List (ℕ × Action)) → Agrees k c es taken → length flight ≡ 0
    → AgreesSilent (Agrees (counted k asked answered)) c es taken flight
silent_agrees k asked answered c es taken flight a none = record {
  ends = λ busy. absurd (let f : ⊥ = omega arith in f);
  idle = λ e. record { of_cluster = a.of_cluster; first = a.first; began = a.began; world = a.world; lives = a.lives; shows = a.shows; few = a.few };
}

module _ (k : WorldOf) (c : Cluster) (es : List Event) (taken : ℕ) (a : Agrees k c es taken) (new : WorldOf) (of : IsOfOne k new) where
  -- it goes on to a world that it lives
  goes_to : (later : List Event) (more : ℕ) (w : RealWorld) → Lives c k.reality.number a.first later w → ShowsWorld new.reality w → more ≤ w.faults → Agrees new c later more
  goes_to later more w lives shows few = record {
    of_cluster = of.same.cluster ∙ a.of_cluster;
    first = a.first;
    began = a.began ∙ sym of.since_stays;
    world = w;
    lives = subst (λ n. Lives c n a.first later w) (sym of.same.number) lives;
    shows = shows;
    few = few;
  }

  pub begun_agrees : (number : ℕ) (action : Action) → ((w : RealWorld) → ShowsWorld k.reality w → ShowsWorld new.reality (after_begin k.reality.cluster w action))
      → Agrees new c (es ++ Begin number action ∷ []) taken
  begun_agrees number action shows =
      goes_to (es ++ Begin number action ∷ []) taken (after_begin c a.world action) (an_action_begins es a.world number action a.lives)
      (subst (λ d. ShowsWorld new.reality (after_begin d a.world action)) a.of_cluster (shows a.world a.shows)) a.few

  -- what comes next, with these actions in flight
  module _ (flight : List (ℕ × Action)) (is : AreInFlightByNumber es flight) (numbers : AreNumbers flight) (count : ℕ) (count_is : count ≡ length flight) (some : 0 < count)
      (mid : RealityOf) (turns : IsOfSame k.reality mid) (came : Turn)
      (drawn : (w : RealWorld) → ShowsWorld k.reality w → came ≡ next_turn k.reality.cluster k.reality.number w count)
      (shown : (w : RealWorld) → ShowsWorld k.reality w → ShowsWorld mid (world_at_turn k.reality.cluster k.reality.number w)) where
    abbrev now : RealWorld
    now = world_at_turn c k.reality.number a.world

    within : IsWorldWithin c es a.world
    within = always c k.reality.number a.first es a.world a.lives

    busy : 0 < length flight
    busy = subst (λ n. 0 < n) count_is some

    mid_shows : ShowsWorld mid now
    mid_shows = subst (λ d. ShowsWorld mid (world_at_turn d k.reality.number a.world)) a.of_cluster (shown a.world a.shows)

    mid_cluster : mid.cluster ≡ c
    mid_cluster = turns.cluster ∙ a.of_cluster

    came_is : came ≡ next_turn c k.reality.number a.world (length flight)
    came_is =
        subst (λ n. came ≡ next_turn c k.reality.number a.world n) count_is
        (subst (λ d. came ≡ next_turn d k.reality.number a.world count) a.of_cluster (drawn a.world a.shows))

    pub left_applies : (node : ℕ) → came ≡ turn.Leaves node → applies_after c es flight taken (answer.Lost node) ≡ true
    left_applies node e = leaves_apply c k.reality.number es a.world flight taken within a.few node (sym came_is ∙ e)

    pub left_agrees : (node : ℕ) → came ≡ turn.Leaves node → ((w : RealWorld) → ShowsWorld mid w → ShowsWorld new.reality (after_leaving mid.cluster w node))
        → AgreesOn (Agrees new) c es taken flight (answer.Lost node)
    left_agrees node e left = record {
      taken_on = λ applies.
          goes_to (es ++ added_by c es flight (answer.Lost node)) (taken + count_by is_from_outside (added_by c es flight (answer.Lost node)))
          (after_leaving c now node) (leaves es a.world flight node a.lives is busy (sym came_is ∙ e))
          (subst (λ d. ShowsWorld new.reality (after_leaving d now node)) mid_cluster (left now mid_shows))
          (let one = one_left c es flight node numbers in let few = a.few in omega arith);
      refused = λ no. absurd (let yes = left_applies node e in let f : ⊥ = cc in f);
    }

    pub joined_applies : (node : ℕ) → came ≡ turn.Joins node → applies_after c es flight taken (answer.Up node) ≡ true
    joined_applies node e = joins_apply c k.reality.number es a.world flight taken within a.few node (sym came_is ∙ e)

    pub joined_agrees : (node : ℕ) → came ≡ turn.Joins node → ((w : RealWorld) → ShowsWorld mid w → ShowsWorld new.reality (after_joining mid.cluster w node))
        → AgreesOn (Agrees new) c es taken flight (answer.Up node)
    joined_agrees node e joined = record {
      taken_on = λ applies.
          goes_to (es ++ added_by c es flight (answer.Up node)) (taken + count_by is_from_outside (added_by c es flight (answer.Up node)))
          (after_joining c now node) (joins es a.world flight node a.lives is busy (sym came_is ∙ e))
          (subst (λ d. ShowsWorld new.reality (after_joining d now node)) mid_cluster (joined now mid_shows))
          (let one = one_joined c es flight node in let few = a.few in omega arith);
      refused = λ no. absurd (let yes = joined_applies node e in let f : ⊥ = cc in f);
    }

    module _ (place : ℕ) (f : Fate) (number : ℕ) (action : Action) (e : came ≡ turn.Ends place f) (found : slice_get flight place ≡ Some (number, action)) (given : Answer)
        (said : (w : RealWorld) → ShowsWorld mid w → given ≡ answer_by_fate mid.cluster w f number action) where
      given_is : given ≡ answer_by_fate c now f number action
      given_is = subst (λ d. given ≡ answer_by_fate d now f number action) mid_cluster (said now mid_shows)

      pub ended_applies : applies_after c es flight taken given ≡ true
      ended_applies = subst (λ g. applies_after c es flight taken g ≡ true) (sym given_is) (ends_apply c es now flight taken place number f action found)

      from_one : 0 < number
      from_one =
          numbers (number, action)
          (place, slice_get_within flight place (number, action) found, get_or_from_slice_get flight place (number, action) (number, action) found)

      few : (b : Bool) → taken + 0 ≤ (if b then a.world.faults + 1 else a.world.faults)
      few true = let few = a.few in omega arith
      few false = let few = a.few in omega arith

      pub ended_agrees : ((w : RealWorld) → ShowsWorld mid w → ShowsWorld new.reality (after_end mid.cluster w f action)) → AgreesOn (Agrees new) c es taken flight given
      ended_agrees ended = subst (λ g. AgreesOn (Agrees new) c es taken flight g) (sym given_is) (record {
        taken_on = λ applies.
            let last = answer_by_fate c now f number action in
            goes_to (es ++ added_by c es flight last) (taken + count_by is_from_outside (added_by c es flight last)) (after_end c now f action)
            (ends es a.world flight place f number action a.lives is (sym came_is ∙ e) found)
            (subst (λ d. ShowsWorld new.reality (after_end d now f action)) mid_cluster (ended now mid_shows))
            (subst (λ n. taken + n ≤ (after_end c now f action).faults) (sym (none_ended c es flight now place number action f from_one is found)) (few (is_fault f)));
        refused = λ no. absurd (let yes = ends_apply c es now flight taken place number f action found in let g : ⊥ = cc in g);
      })
