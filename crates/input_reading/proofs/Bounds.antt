-- In which range lies what is read.
use Rattle.std.proofs.Common.{position, ◌≡◌, ℕ, nat_lt, nat_le, ◌&&◌, Bool, true, false, List, length, IfOk, IfSome, arith, ◌^◌}
use Rattle.std.specs.List.{position_or_len}
use Rattle.std.specs.Str.Parse.{digits_value}
use Rattle.std.proofs.lemmas.Bool.Decides.{nat_tests}
use Rattle.faults.specs.Digits.{is_number}
use Rattle.cluster_types.specs.declared.cluster.Cluster.{Cluster}
use Rattle.names.specs.Names.{node_of_word}
use Rattle.input_reading.specs.Numbers.{read_seconds}
use Rattle.input_reading.specs.WordPlaces.{WordsOfLine, node_at, seconds_at, word_at}
use Rattle.input_reading.proofs.Steps.{any_step, given, where_true}

place_within : {X : Type 0} (test : X → Bool) (xs : List X) → IfSome (position test xs) (λ n. nat_lt n (length xs) ≡ true)
place_within test xs =
    where_true (λ n. nat_lt n (length xs) ≡ true) (nat_lt (position_or_len test xs) (length xs)) (position_or_len test xs) (λ h. h)

-- a node that is named is one of the cluster
pub node_known : (c : Cluster) (place : ℕ) (words : WordsOfLine) → IfOk (node_at c place words) (λ n. nat_lt n (length c.nodes) ≡ true)
unfolding node_at
node_known c place words = any_step _ (word_at place words) _ (λ word. given _ (node_of_word c word) _ (place_within _ c.nodes))

small : (a : Bool) (n : ℕ) → a && nat_le n 1099511627775 ≡ true → nat_lt n (2 ^ 40) ≡ true
small true n h = grind (arith, nat_tests)
small false n h = cc

below : (word : List ℕ) → is_number 1099511627775 word ≡ true → nat_lt (digits_value 10 word) (2 ^ 40) ≡ true
below word h = small _ (digits_value 10 word) h

-- seconds are below 2^40
pub seconds_small : (place : ℕ) (words : WordsOfLine) → IfOk (seconds_at place words) (λ s. nat_lt s (2 ^ 40) ≡ true)
unfolding seconds_at
seconds_small place words =
    any_step _ (word_at place words) _ (λ word. given _ (read_seconds word) _
    (where_true (λ s. nat_lt s (2 ^ 40) ≡ true) (is_number 1099511627775 word) (digits_value 10 word) (below word)))
