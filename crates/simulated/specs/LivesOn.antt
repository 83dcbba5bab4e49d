-- The life of a simulated cluster, step by step from one moment to a later one (follows from the definition of its life).
use Rattle.std.specs.Prelude.{◌≡◌, ℕ, ◌<◌, Option, Some, List, [], ◌∷◌, ◌++◌, length, slice_get}
use Rattle.std.specs.Option.{option_map, option_map_or}
use Rattle.cluster_types.specs.declared.cluster.Cluster.{Cluster}
use Rattle.cluster_types.specs.declared.journal.Action.{Action}
use Rattle.cluster_types.specs.declared.journal.Answer.{Answer}
use Rattle.cluster_types.specs.declared.journal.Answer.TheVariants as answer
use Rattle.cluster_types.specs.declared.journal.Event.{Event}
use Rattle.cluster_types.specs.declared.journal.Event.TheVariants.{Begin}
use Rattle.cluster_types.specs.AnswersThatApply.{added_by}
use Rattle.cluster_types.specs.Journals.{AreInFlightByNumber}
use Rattle.simulated.specs.declared.turn.Turn.{Turn}
use Rattle.simulated.specs.declared.turn.Turn.TheVariants as turn
use Rattle.simulated.specs.Turns.{after_begin, after_end, after_joining, after_leaving, answer_by_fate, next_turn, world_at_turn}
use Rattle.simulated.specs.RealWorlds.{RealWorld}

module _ (c : Cluster) (number : ℕ) where
  -- what comes of a turn, with these actions in flight
  module _ (w : RealWorld) (flight : List (ℕ × Action)) where
    -- the answer that is given; none when an action is to end and none stands at its place
    abbrev pub answer_by : Turn → Option Answer
    answer_by (turn.Leaves node) = Some (answer.Lost node)
    answer_by (turn.Joins node) = Some (answer.Up node)
    answer_by (turn.Ends place f) = option_map (λ (p : ℕ × Action). answer_by_fate c (world_at_turn c number w) f p.0 p.1) (slice_get flight place)

    -- the simulated cluster then; as it was when an action is to end and none stands at its place
    abbrev pub world_by : Turn → RealWorld
    world_by (turn.Leaves node) = after_leaving c (world_at_turn c number w) node
    world_by (turn.Joins node) = after_joining c (world_at_turn c number w) node
    world_by (turn.Ends place f) = option_map_or (λ (p : ℕ × Action). after_end c (world_at_turn c number w) f p.1) (slice_get flight place) w

    -- the answer of the turn that comes next, and the simulated cluster behind it. They are asked for only where something is in flight
    abbrev pub next_answer : Option Answer
    next_answer = answer_by (next_turn c number w (length flight))

    abbrev pub next_world : RealWorld
    next_world = world_by (next_turn c number w (length flight))

  -- one step of its life from a journal on: what it adds, and how the simulated cluster stands then. An action begins; or, with actions in flight, its turn
  -- comes
  pub data StepOfLife (es : List Event) (w : RealWorld) : List Event → RealWorld → Type 0 where
    action_begins : (k : ℕ) (a : Action) → StepOfLife es w (Begin k a ∷ []) (after_begin c w a)
    turn_comes : (flight : List (ℕ × Action)) (given : Answer) → AreInFlightByNumber es flight → 0 < length flight → next_answer w flight ≡ Some given
        → StepOfLife es w (added_by c es flight given) (next_world w flight)

  -- step by step, from a journal and how it stands then to a later journal
  pub data LivesOn : List Event → RealWorld → List Event → RealWorld → Type 0 where
    no_step : (es : List Event) (w : RealWorld) → LivesOn es w es w
    one_step : (es events later : List Event) (w next last : RealWorld) → StepOfLife es w events next → LivesOn (es ++ events) next later last
        → LivesOn es w later last
