-- How the code keeps the ranks of steps.
use Rattle.std.specs.Prelude.{◌+◌, ◌*◌, ℕ, suc, zero, List, [], ◌∷◌, length, slice_index_or}
use Rattle.cluster_types.specs.declared.leaf.Op.{Op}
use Rattle.cluster_types.specs.declared.leaf.Op.TheVariants.{Start, Stop, Promote, Demote, Monitor}
use Rattle.cluster_types.specs.Numbers.{step_of}
use Rattle.loops.specs.Ranks.{RankedStep}

-- the rank of a leaf's step in a list of ranks: four a leaf, in the order of the leaves, of its demote, stop, start and promote. A monitor is no step: 0
abbrev pub rank_in : List ℕ → Op → ℕ → ℕ
rank_in ranks Demote r = slice_index_or ranks (4 * r) 0
rank_in ranks Stop r = slice_index_or ranks (4 * r + 1) 0
rank_in ranks Start r = slice_index_or ranks (4 * r + 2) 0
rank_in ranks Promote r = slice_index_or ranks (4 * r + 3) 0
rank_in ranks Monitor r = 0

abbrev pub ranked_step : (Op → ℕ → ℕ) → Op → ℕ → RankedStep
ranked_step height o r = record { step = step_of o r; rank = height o r }

-- the steps of so many leaves, from one on, with what is given as their ranks
abbrev pub ranked_steps : (Op → ℕ → ℕ) → ℕ → ℕ → List RankedStep
ranked_steps height r zero = []
ranked_steps height r (suc more) =
    ranked_step height Demote r ∷ ranked_step height Stop r ∷ ranked_step height Start r ∷ ranked_step height Promote r ∷ ranked_steps height (r + 1) more

-- all steps with their ranks in the list. It has fewer leaves than ranks, and past its end each rank is 0
abbrev pub all_ranked : List ℕ → List RankedStep
all_ranked ranks = ranked_steps (rank_in ranks) 0 (length ranks)
