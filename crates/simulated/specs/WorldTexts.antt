-- The text of the run of a simulated cluster, with what really runs at its end (rule of this project).
use Rattle.std.specs.Prelude.{◌≡◌, ℕ, ◌+◌, ◌≤◌, Bool, true, false, List, ◌++◌, codes, length, []}
use Rattle.std.specs.List.{flat_map, range_with_len}
use Rattle.cluster_types.specs.declared.cluster.Cluster.{Cluster}
use Rattle.cluster_types.specs.declared.journal.Event.{Event}
use Rattle.cluster_types.specs.declared.journal.Journal.{Journal}
use Rattle.cluster_types.specs.declared.run.Run.{Run}
use Rattle.cluster_types.specs.Runs.{RunStanding, due, idle}
use Rattle.cluster_types.specs.Texts.{leaf_on, run_lines, run_text}
use Rattle.simulated.specs.declared.real.Real.{Real}
use Rattle.simulated.specs.declared.real.Real.TheVariants as real
use Rattle.simulated.specs.RealWorlds.{Cells, RealWorld, found_at}
use Rattle.simulated.specs.Worlds.{IsWorldRun}

-- how many transitions are made at most
abbrev pub most_transitions : ℕ
most_transitions = 1000

module _ (c : Cluster) where
  -- `real LEAF NODE started` or `promoted`, of a leaf that really runs on a node. What comes up has no line
  abbrev pub real_line : ℕ → ℕ → Real → List ℕ
  real_line r n real.Off = []
  real_line r n real.Rising = []
  real_line r n real.Started = codes "real " ++ leaf_on c r n ++ codes " started\n"
  real_line r n real.Promoted = codes "real " ++ leaf_on c r n ++ codes " promoted\n"

  -- leaf by leaf and node by node
  abbrev pub real_row : Cells → ℕ → List ℕ
  real_row cells r = flat_map (λ n. real_line r n (found_at c cells r n)) (range_with_len 0 (length c.nodes))

  abbrev pub real_lines : Cells → List ℕ
  real_lines cells = flat_map (real_row cells) (range_with_len 0 (length c.leaves))

-- the last line: whether the run is over, or another transition is due
abbrev pub ending : Bool → List ℕ
ending true = codes "ended complete\n"
ending false = codes "ended more\n"

-- where a run of a simulated cluster ends: complete, or where the transition after the last that is made is due
pub data IsAtEnd : Bool → RunStanding → Type 0 where
  over : (k : ℕ) (es : List Event) → IsAtEnd true (idle k es)
  more_due : (es : List Event) → IsAtEnd false (due (most_transitions + 1) es)

-- the run of the simulated cluster of a number from a journal on, to its end: its transitions, what really runs then, and whether it is over
module _ (c : Cluster) (journal : Journal) (number : ℕ) where
  -- the run has come to its end with these lines, and the simulated cluster to this
  pub record IsLived (run : Run) (over : Bool) (w : RealWorld) : Type 0 where
    pub at : RunStanding
    pub goes : IsWorldRun c journal.promotions number journal.events (run_lines c run) at w
    pub few : length run.passed ≤ most_transitions
    pub ends : IsAtEnd over at

  -- the text has its lines, what really runs then, and how it ended
  pub record IsWorldText (text : List ℕ) : Type 0 where
    pub run : Run
    pub over : Bool
    pub world : RealWorld
    pub lived : IsLived run over world
    pub printed : text ≡ run_text c run ++ (real_lines c world.cells ++ ending over)
