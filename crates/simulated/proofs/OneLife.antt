-- From one moment on a simulated cluster goes on in one way, as its actions begin; so by one journal it stands in one way.
use Rattle.std.proofs.Common.{◌≡◌, ◌<◌, ℕ, true, false, Option, Some, None, List, [], ◌∷◌, ◌++◌, length, slice_get, refl, sym, ap, subst, ◌∙◌, arith, append-nil, append_assoc}
use Rattle.std.specs.Option.{option_map}
use Rattle.std.proofs.lemmas.List.{append_cancel_left, length-append}
use Rattle.lemmas.proofs.Members.{at_head, in_none}
use Rattle.lemmas.proofs.Ordered.{same_list}
use Rattle.cluster_types.specs.declared.cluster.Cluster.{Cluster}
use Rattle.cluster_types.specs.declared.journal.Action.{Action}
use Rattle.cluster_types.specs.declared.journal.Answer.{Answer}
use Rattle.cluster_types.specs.declared.journal.Answer.TheVariants as answer
use Rattle.cluster_types.specs.declared.journal.Event.{Event}
use Rattle.cluster_types.specs.declared.journal.Event.TheVariants.{Begin}
use Rattle.cluster_types.specs.AnswersThatApply.{added_by}
use Rattle.cluster_types.specs.Journals.{AreInFlightByNumber, in_flight_by_begin}
use Rattle.run_safety.specs.TwoRuns.{IsFront}
use Rattle.simulated.specs.declared.turn.Turn.{Turn}
use Rattle.simulated.specs.declared.turn.Turn.TheVariants as turn
use Rattle.simulated.specs.Lives.{Lives, at_first, an_action_begins, leaves, joins, ends}
use Rattle.simulated.specs.Turns.{after_begin, after_end, after_joining, after_leaving, answer_by_fate, next_turn, world_at_turn}
use Rattle.simulated.specs.RealWorlds.{RealWorld, first_world}
use Rattle.simulated.proofs.Applying.{ends_apply}
use Rattle.simulated.specs.LivesOn.{LivesOn, StepOfLife, action_begins, answer_by, next_answer, next_world, no_step, one_step, turn_comes, world_by}
use Rattle.simulated.proofs.FirstEvents.{AreFirst, IsOfFlight, answer_begins_none, answer_first, begins_one, of_flight, one_front, some_first}

flight_one : (es : List Event) (f g : List (ℕ × Action)) → AreInFlightByNumber es f → AreInFlightByNumber es g → f ≡ g
flight_one es f g one two =
    same_list (λ (x y : ℕ × Action). x.0 < y.0) (λ x y less more. omega (arith, less, more)) f g one.ascending two.ascending
    (λ p h. (two.members p.0 p.1).1 ((one.members p.0 p.1).0 h)) (λ p h. (one.members p.0 p.1).1 ((two.members p.0 p.1).0 h))

none_flies : {R : Type 0} (es : List Event) (flight : List (ℕ × Action)) → in_flight_by_begin es ≡ [] → AreInFlightByNumber es flight → 0 < length flight → R
none_flies es [] none is busy = absurd (let f : ⊥ = omega arith in f)
none_flies es (p ∷ ps) none is busy = absurd (in_none p (rw none at ((is.members p.0 p.1).0 (at_head p ps p refl))))

-- a journal isn't longer than itself
pub too_long : {R : Type 0} (es events more : List Event) → 0 < length events → es ≡ (es ++ events) ++ more → R
too_long es events more some e =
    let l : length es ≡ length ((es ++ events) ++ more) = ap length e in
    let m = length-append (es ++ events) more in
    let n = length-append es events in
    absurd (let f : ⊥ = omega arith in f)

module _ (c : Cluster) (number : ℕ) where
  module _ (es : List Event) (w : RealWorld) where
    given_flies : (flight : List (ℕ × Action)) (next : Turn) (given : Answer) → answer_by c number w flight next ≡ Some given → IsOfFlight c es flight given
    given_flies flight (turn.Leaves node) given e = let same : answer.Lost node ≡ given = cc in subst (IsOfFlight c es flight) same tt
    given_flies flight (turn.Joins node) given e = let same : answer.Up node ≡ given = cc in subst (IsOfFlight c es flight) same tt
    given_flies flight (turn.Ends place f) given e = on (slice_get flight place) refl e
      where
        on : (o : Option (ℕ × Action)) → slice_get flight place ≡ o → option_map (λ (p : ℕ × Action). answer_by_fate c (world_at_turn c number w) f p.0 p.1) o ≡ Some given
            → IsOfFlight c es flight given
        on None at g = absurd (let h : ⊥ = cc in h)
        on (Some p) at g =
            let ended = answer_by_fate c (world_at_turn c number w) f p.0 p.1 in
            let same : ended ≡ given = cc in
            subst (IsOfFlight c es flight) same (of_flight c es flight 0 ended (ends_apply c es (world_at_turn c number w) flight 0 place p.0 f p.1 at))

    pub step_first : (events : List Event) (next : RealWorld) → StepOfLife c number es w events next → AreFirst events
    step_first _ _ (action_begins k a) = λ more. refl
    step_first _ _ (turn_comes flight given is busy e) = answer_first c es flight given (given_flies flight (next_turn c number w (length flight)) given e)

    -- two steps that begin no action are those of one turn
    pub turn_one : (events others : List Event) (next after : RealWorld) → begins_one events ≡ false → begins_one others ≡ false → StepOfLife c number es w events next
        → StepOfLife c number es w others after → (events ≡ others) × (next ≡ after)
    turn_one _ _ _ _ h g (action_begins k a) two = absurd (let f : ⊥ = cc in f)
    turn_one _ _ _ _ h g (turn_comes flight given is busy e) (action_begins k a) = absurd (let f : ⊥ = cc in f)
    turn_one _ _ _ _ h g (turn_comes flight given is busy e) (turn_comes other said also some d) =
        let same : flight ≡ other = flight_one es flight other is also in
        let answers : Some given ≡ Some said = sym e ∙ (ap (next_answer c number w) same ∙ d) in
        let one : given ≡ said = cc in
        (ap (λ z. added_by c es z given) same ∙ ap (added_by c es other) one, ap (next_world c number w) same)

    begun_or_turned : {R : Type 0} (k : ℕ) (a : Action) (events : List Event) → Begin k a ∷ [] ≡ events → begins_one events ≡ false → R
    begun_or_turned k a events same none = absurd (let e : true ≡ begins_one events = ap begins_one same in let f : ⊥ = cc in f)

    pub step_one : (events others more rest : List Event) (next after : RealWorld) → events ++ more ≡ others ++ rest → StepOfLife c number es w events next
        → StepOfLife c number es w others after → (events ≡ others) × (next ≡ after)
    step_one _ _ more rest _ _ is (action_begins k a) (action_begins j b) =
        let number : k ≡ j = cc in let action : a ≡ b = cc in (ap (λ z. Begin z a ∷ []) number ∙ ap (λ z. Begin j z ∷ []) action, ap (after_begin c w) action)
    step_one _ _ more rest next after is (action_begins k a) (turn_comes flight given i busy e) =
        begun_or_turned k a (added_by c es flight given)
        (one_front (Begin k a ∷ []) (added_by c es flight given) more rest (λ l. refl) (step_first (added_by c es flight given) after (turn_comes flight given i busy e)) is)
        (answer_begins_none c es flight given)
    step_one _ _ more rest next after is (turn_comes flight given i busy e) (action_begins k a) =
        begun_or_turned k a (added_by c es flight given)
        (one_front (Begin k a ∷ []) (added_by c es flight given) rest more (λ l. refl) (step_first (added_by c es flight given) next (turn_comes flight given i busy e)) (sym is))
        (answer_begins_none c es flight given)
    step_one _ _ more rest next after is (turn_comes flight given i busy e) (turn_comes other said also some d) =
        turn_one (added_by c es flight given) (added_by c es other said) next after (answer_begins_none c es flight given) (answer_begins_none c es other said)
        (turn_comes flight given i busy e) (turn_comes other said also some d)

    -- while nothing is in flight only an action begins
    pub no_turn : {R : Type 0} (events : List Event) (next : RealWorld) → in_flight_by_begin es ≡ [] → begins_one events ≡ false → StepOfLife c number es w events next → R
    no_turn _ _ none h (action_begins k a) = absurd (let f : ⊥ = cc in f)
    no_turn _ _ none h (turn_comes flight given is busy e) = none_flies es flight none is busy

  -- the journal only grows
  pub grown : (es later : List Event) (w last : RealWorld) → LivesOn c number es w later last → IsFront es later
  grown es _ w _ (no_step _ _) = record { more = []; joined = sym (append-nil es) }
  grown es later w last (one_step _ events _ _ next _ step on) =
      let g = grown (es ++ events) later next last on in record { more = events ++ g.more; joined = g.joined ∙ append_assoc es events g.more }

  -- a step after those so far
  more_steps : (es later events : List Event) (w last next : RealWorld) → LivesOn c number es w later last → StepOfLife c number later last events next
      → LivesOn c number es w (later ++ events) next
  more_steps es _ events w _ next (no_step _ _) step = one_step es events (es ++ events) w next next step (no_step (es ++ events) next)
  more_steps es later events w last next (one_step _ some _ _ middle _ first on) step =
      one_step es some (later ++ events) w middle next first (more_steps (es ++ some) later events middle last next on step)

  -- a life goes step by step
  module _ (first : List Event) where
    turned_so : (es : List Event) (w after : RealWorld) (flight : List (ℕ × Action)) (next : Turn) (given : Answer) → LivesOn c number first (first_world c first) es w
        → AreInFlightByNumber es flight → 0 < length flight → next_turn c number w (length flight) ≡ next → answer_by c number w flight next ≡ Some given
        → world_by c number w flight next ≡ after → LivesOn c number first (first_world c first) (es ++ added_by c es flight given) after
    turned_so es w after flight next given life is busy e said stands =
        more_steps first es (added_by c es flight given) (first_world c first) w after life
        (subst (λ z. StepOfLife c number es w (added_by c es flight given) z) (ap (world_by c number w flight) e ∙ stands)
        (turn_comes flight given is busy (ap (answer_by c number w flight) e ∙ said)))

    pub from_first : (es : List Event) (w : RealWorld) → Lives c number first es w → LivesOn c number first (first_world c first) es w
    from_first _ _ at_first = no_step first (first_world c first)
    from_first _ _ (an_action_begins es w k a life) =
        more_steps first es (Begin k a ∷ []) (first_world c first) w (after_begin c w a) (from_first es w life) (action_begins k a)
    from_first _ _ (leaves es w flight node life is busy e) =
        turned_so es w (after_leaving c (world_at_turn c number w) node) flight (turn.Leaves node) (answer.Lost node) (from_first es w life) is busy e refl refl
    from_first _ _ (joins es w flight node life is busy e) =
        turned_so es w (after_joining c (world_at_turn c number w) node) flight (turn.Joins node) (answer.Up node) (from_first es w life) is busy e refl refl
    from_first _ _ (ends es w flight place f k a life is e at) =
        turned_so es w (after_end c (world_at_turn c number w) f a) flight (turn.Ends place f) (answer_by_fate c (world_at_turn c number w) f k a) (from_first es w life) is
        (some flight place at) e (rw at refl) (rw at refl)
      where
        some : (ps : List (ℕ × Action)) (i : ℕ) → slice_get ps i ≡ Some (k, a) → 0 < length ps
        some [] i h = absurd (let g : ⊥ = cc in g)
        some (p ∷ ps) i h = omega arith

  -- of two lives the longer comes from the shorter
  goes_from : (es here later more : List Event) (w at last : RealWorld) → LivesOn c number es w here at → LivesOn c number es w later last → later ≡ here ++ more
      → LivesOn c number here at later last
  goes_from es _ later more w _ last (no_step _ _) two e = two
  goes_from es here _ more w at _ (one_step _ events _ _ next _ step on) (no_step _ _) e =
      let g = grown (es ++ events) here next at on in
      too_long es events (g.more ++ more) (some_first events (step_first es w events next step))
      (e ∙ (ap (λ z. z ++ more) g.joined ∙ append_assoc (es ++ events) g.more more))
  goes_from es here later more w at last (one_step _ events _ _ next _ step on) (one_step _ others _ _ after _ also two) e =
      let f = grown (es ++ events) here next at on in
      let g = grown (es ++ others) later after last two in
      let left : later ≡ es ++ (events ++ (f.more ++ more)) =
      e ∙ (ap (λ z. z ++ more) f.joined ∙ (append_assoc (es ++ events) f.more more ∙ append_assoc es events (f.more ++ more))) in
      let right : later ≡ es ++ (others ++ g.more) = g.joined ∙ append_assoc es others g.more in
      let same = step_one es w events others (f.more ++ more) g.more next after (append_cancel_left es (events ++ (f.more ++ more)) (others ++ g.more) (sym left ∙ right)) step also in
      goes_from (es ++ events) here later more next at last on
      (subst (λ z. LivesOn c number (es ++ z) next later last) (sym same.0) (subst (λ z. LivesOn c number (es ++ others) z later last) (sym same.1) two)) e

  -- by one journal it stands in one way
  pub stands_one : (es later : List Event) (w last : RealWorld) → LivesOn c number es w later last → later ≡ es → w ≡ last
  stands_one es _ w _ (no_step _ _) e = refl
  stands_one es later w last (one_step _ events _ _ next _ step on) e =
      let g = grown (es ++ events) later next last on in
      too_long es events g.more (some_first events (step_first es w events next step)) (sym e ∙ g.joined)

  pub life_goes_on : (first es more : List Event) (w last : RealWorld) → Lives c number first es w → Lives c number first (es ++ more) last
      → LivesOn c number es w (es ++ more) last
  life_goes_on first es more w last one two =
      goes_from first es (es ++ more) more (first_world c first) w last (from_first first es w one) (from_first first (es ++ more) last two) refl

  pub lives_one : (first es : List Event) (w other : RealWorld) → Lives c number first es w → Lives c number first es other → w ≡ other
  lives_one first es w other one two =
      stands_one es es w other (goes_from first es es [] (first_world c first) w other (from_first first es w one) (from_first first es other two) (sym (append-nil es))) refl
