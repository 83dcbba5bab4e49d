-- The forms of result lines: the words of a line, and what they say (rule of this project).
use Rattle.std.specs.Prelude.{ℕ, ◌+◌, ◌^◌, ◌<◌, Bool, List, [], ◌∷◌, codes}
use Rattle.cluster_types.specs.declared.cluster.Cluster.{Cluster}
use Rattle.cluster_types.specs.declared.journal.Answer.{Answer}
use Rattle.cluster_types.specs.declared.journal.Answer.TheVariants as answer
use Rattle.input_reading.specs.Grammar.WordValues.{NamesLeaf, NamesNode, SaysWhether, WritesCode, WritesPositive, WritesSeconds}

-- what the words of a result line say of a cluster, at a moment
pub data ResultSays (c : Cluster) (moment : ℕ) : List (List ℕ) → Answer → Type 0 where
  end_form : (number code : List ℕ) (k exit : ℕ) → WritesPositive number k → WritesCode code exit
      → ResultSays c moment (codes "end" ∷ number ∷ code ∷ []) (answer.End k exit)
  timeout_form : (number : List ℕ) (k : ℕ) → WritesPositive number k → ResultSays c moment (codes "timeout" ∷ number ∷ []) (answer.Timeout k)
  lost_form : (name : List ℕ) (node : ℕ) → NamesNode c name node → ResultSays c moment (codes "lost" ∷ name ∷ []) (answer.Lost node)
  up_form : (name : List ℕ) (node : ℕ) → NamesNode c name node → ResultSays c moment (codes "up" ∷ name ∷ []) (answer.Up node)
  quorum_form : (word : List ℕ) (quorate : Bool) → SaysWhether word quorate → ResultSays c moment (codes "quorum" ∷ word ∷ []) (answer.Quorum quorate)
  -- the seconds end before the moment 2^40
  wait_form : (number : List ℕ) (seconds : ℕ) → WritesSeconds number seconds → moment + seconds < 2 ^ 40
      → ResultSays c moment (codes "wait" ∷ number ∷ []) (answer.Wait seconds)
  report_form : (name leaf_name number code : List ℕ) (node leaf interval exit : ℕ) → NamesNode c name node → NamesLeaf c leaf_name leaf
      → WritesPositive number interval → WritesCode code exit
      → ResultSays c moment (codes "report" ∷ name ∷ leaf_name ∷ number ∷ code ∷ []) (answer.Report node leaf interval exit)
