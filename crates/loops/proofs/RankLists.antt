-- A list of the longest ways to all positions has the ranks of all steps.
use Rattle.std.proofs.Common.{arith, ◌≡◌, ◌<◌, ◌+◌, ◌*◌, ℕ, List, length, slice_index_or, sym, ◌∙◌, inl, inr}
use Rattle.std.proofs.lemmas.Bool.{cases_lt}
use Rattle.std.proofs.lemmas.List.{get_or_past}
use Rattle.edges.specs.LongestChains.{longest}
use Rattle.edges.proofs.Longest.{longest_past}
use Rattle.cluster_types.specs.declared.cluster.Cluster.{Cluster}
use Rattle.cluster_types.specs.Numbers.{StepsHaveNoLoop}
use Rattle.cluster_types.specs.declared.leaf.Op.{Op}
use Rattle.cluster_types.specs.declared.leaf.Op.TheVariants.{Start, Stop, Promote, Demote, Monitor}
use Rattle.loops.specs.Inner.Edges.{step_edges}
use Rattle.loops.specs.FirstLoops.{AllOrder}
use Rattle.loops.proofs.LinkLoops.{steps_within}
use Rattle.loops.proofs.StepPlaces.{spot_of}
use Rattle.loops.specs.Inner.RankList.{all_ranked, rank_in}
use Rattle.loops.specs.Ranks.{AreRanks}
use Rattle.loops.proofs.ChainWays.{rank_is}
use Rattle.loops.proofs.RankTables.{rank_of_all}

module _ (c : Cluster) (ordered : AllOrder c) (free : StepsHaveNoLoop c) (ranks : List ℕ) (size : length ranks ≡ 4 * length c.leaves)
    (each : (x : ℕ) → x < 4 * length c.leaves → slice_index_or ranks x 0 ≡ longest (4 * length c.leaves) (step_edges c) x) where
  -- behind the last position there is nothing
  at_each : (x : ℕ) → slice_index_or ranks x 0 ≡ longest (4 * length c.leaves) (step_edges c) x
  at_each x = elim (cases_lt x (4 * length c.leaves)) [
    | inl lt ↦ each x lt
    | inr le ↦
        get_or_past ranks x 0 (omega arith)
        ∙ sym (longest_past (4 * length c.leaves) (step_edges c) (steps_within c ordered) (4 * length c.leaves) x le)
  ]

  at_op : (o : Op) (r : ℕ) → rank_in ranks o r ≡ longest (4 * length c.leaves) (step_edges c) (spot_of (length c.leaves) o r)
  at_op Demote r = let e : 4 * r + 0 ≡ 4 * r = omega arith in rw e (at_each (4 * r))
  at_op Stop r = at_each (4 * r + 1)
  at_op Start r = at_each (4 * r + 2)
  at_op Promote r = at_each (4 * r + 3)
  at_op Monitor r =
      sym (longest_past (4 * length c.leaves) (step_edges c) (steps_within c ordered) (4 * length c.leaves) (4 * (length c.leaves + r))
      (omega arith))

  pub are_ranks : AreRanks c (all_ranked ranks)
  are_ranks s = rank_of_all ranks s.what s.leaf ∙ at_op s.what s.leaf ∙ sym (rank_is c ordered free s)
