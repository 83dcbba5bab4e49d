-- Sets of node numbers.
use Rattle.std.specs.Prelude.{ℕ, Bool, ◌/◌, ◌%◌, ◌==◌, slice_index_or}
use Rattle.std.specs.Int.{bit_at}
use Rattle.score.specs.declared.node_set.NodeSet.{NodeSet}

-- the bit of a word is set
abbrev pub is_set : ℕ → ℕ → Bool
is_set word k = bit_at word k == 1

-- the node is in the set: its bit is set, of words of 64
unfoldable pub has : NodeSet → ℕ → Bool
has set node = is_set (slice_index_or set.words (node / 64) 0) (node % 64)
