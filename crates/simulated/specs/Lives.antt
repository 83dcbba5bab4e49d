-- The life of a simulated cluster: which journals it makes, and what really runs then (rule of this project).
use Rattle.std.specs.Prelude.{◌≡◌, ℕ, ◌<◌, ◌≤◌, true, Some, IfSome, List, [], ◌∷◌, ◌++◌, length, slice_get}
use Rattle.cluster_types.specs.declared.cluster.Cluster.{Cluster}
use Rattle.cluster_types.specs.declared.journal.Action.{Action}
use Rattle.cluster_types.specs.declared.journal.Answer.TheVariants as answer
use Rattle.cluster_types.specs.declared.journal.Event.{Event}
use Rattle.cluster_types.specs.declared.journal.Event.TheVariants.{Begin}
use Rattle.cluster_types.specs.AnswersThatApply.{added_by}
use Rattle.cluster_types.specs.Journals.{AreInFlightByNumber, last_sign}
use Rattle.cluster_types.specs.declared.leaf.Op.TheVariants as op
use Rattle.cluster_types.specs.Fields.{copies}
use Rattle.cluster_types.specs.May.{may_be_running, may_be_promoted}
use Rattle.cluster_types.specs.Precedence.{LeafOnNode, op_cell}
use Rattle.cluster_types.specs.Safety.{AtEachBegin, count_of_others}
use Rattle.cluster_types.specs.Steps.{Transition, journal}
use Rattle.simulated.specs.declared.turn.Fate.{Fate}
use Rattle.simulated.specs.declared.turn.Turn.TheVariants as turn
use Rattle.simulated.specs.Turns.{after_begin, after_end, after_joining, after_leaving, answer_by_fate, most_faults, next_turn, world_at_turn}
use Rattle.simulated.specs.RealWorlds.{RealWorld, first_world, found_at, is_cell, is_really_promoted, is_there, standing_by}

-- from a first journal on, the simulated cluster of a number makes this journal, and stands so then: each answer that was entered is the one that it
-- gives there
pub data Lives (c : Cluster) (number : ℕ) (first : List Event) : List Event → RealWorld → Type 0 where
  at_first : Lives c number first first (first_world c first)
  an_action_begins : (es : List Event) (w : RealWorld) (k : ℕ) (a : Action) → Lives c number first es w
      → Lives c number first (es ++ Begin k a ∷ []) (after_begin c w a)
  leaves : (es : List Event) (w : RealWorld) (flight : List (ℕ × Action)) (node : ℕ) → Lives c number first es w → AreInFlightByNumber es flight → 0 < length flight
      → next_turn c number w (length flight) ≡ turn.Leaves node
      → Lives c number first (es ++ added_by c es flight (answer.Lost node)) (after_leaving c (world_at_turn c number w) node)
  joins : (es : List Event) (w : RealWorld) (flight : List (ℕ × Action)) (node : ℕ) → Lives c number first es w → AreInFlightByNumber es flight → 0 < length flight
      → next_turn c number w (length flight) ≡ turn.Joins node
      → Lives c number first (es ++ added_by c es flight (answer.Up node)) (after_joining c (world_at_turn c number w) node)
  ends : (es : List Event) (w : RealWorld) (flight : List (ℕ × Action)) (place : ℕ) (f : Fate) (k : ℕ) (a : Action) → Lives c number first es w
      → AreInFlightByNumber es flight → next_turn c number w (length flight) ≡ turn.Ends place f → slice_get flight place ≡ Some (k, a)
      → Lives c number first (es ++ added_by c es flight (answer_by_fate c (world_at_turn c number w) f k a)) (after_end c (world_at_turn c number w) f a)

-- what runs is among what may run by a journal: each node stands as the journal shows, what is there may run there, and what is promoted may be promoted;
-- and no more faults were given than may be
pub record IsWorldWithin (c : Cluster) (es : List Event) (w : RealWorld) : Type 0 where
  pub stands : (n : ℕ) → w.nodes n ≡ standing_by c (last_sign n es)
  pub runs : (r n : ℕ) → is_cell c r n ≡ true → is_there (w.cells r n) ≡ true → may_be_running c r n es ≡ true
  pub promoted : (r n : ℕ) → is_cell c r n ≡ true → is_really_promoted (w.cells r n) ≡ true → may_be_promoted c r n es ≡ true
  pub few : w.faults ≤ most_faults

-- where a start of a leaf begins on a node, the leaf really runs on fewer other nodes than it has copies. Of a plain resource there is none
abbrev pub ReallyAddsNoCopy : ℕ → List Event → Transition → List Event → LeafOnNode → Type 0
ReallyAddsNoCopy number first t before at =
    (w : RealWorld) → Lives t.cluster number first (journal t before) w
    → count_of_others t.cluster at.node (λ m. is_there (found_at t.cluster w.cells at.leaf m)) < copies t.cluster at.leaf

-- no start among the events makes a copy too many, by what really runs
abbrev pub NoSecondCopyReally : ℕ → List Event → Transition → List Event → Type 0
NoSecondCopyReally number first t events = AtEachBegin (λ before k a. IfSome (op_cell op.Start a) (ReallyAddsNoCopy number first t before)) events
