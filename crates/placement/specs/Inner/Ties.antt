-- Marks on leaves that must be with a leaf, as they are set tie by tie (follows from the definition of ties).
use Rattle.std.specs.Prelude.{◌≡◌, ℕ, ◌==◌, ◌&&◌, ◌||◌, Bool, true, not, if◌then◌else◌, List, length, count_by, slice_index_or, slice_set}
use Rattle.listed.specs.Flags.{is_marked}
use Rattle.cluster_types.specs.declared.cluster.Cluster.{Cluster}
use Rattle.cluster_types.specs.Terms.{IsTied}
use Rattle.edges.specs.declared.edge.Edge.{Edge}

-- the leaf is there and has no mark
abbrev pub lacks_mark : List Bool → ℕ → Bool
lacks_mark marks s = not (slice_index_or marks s true)

-- how many leaves have no mark
abbrev pub unmarked : List Bool → ℕ
unmarked marks = count_by not marks

-- these marks, with one more where `more`
abbrev pub with_mark_if : List Bool → ℕ → Bool → List Bool
with_mark_if marks s more = if more then slice_set marks s true else marks

-- the tie ties its dependent to r, or to a leaf that has a mark
abbrev pub leads : ℕ → List Bool → Edge → Bool
leads r marks tie = tie.before == r || is_marked marks tie.before

-- its dependent lacks the mark that it should have then
abbrev pub is_missed : ℕ → List Bool → Edge → Bool
is_missed r marks tie = lacks_mark marks tie.after && leads r marks tie

module _ (c : Cluster) where
  -- each leaf with a mark is tied to r
  pub record AreTied (r : ℕ) (marks : List Bool) : Type 0 where
    pub size : length marks ≡ length c.leaves
    pub tied : (s : ℕ) → is_marked marks s ≡ true → IsTied c s r
