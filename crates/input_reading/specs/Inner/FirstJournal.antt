-- What is known of the lines of a status on the way to the first journal (follows from the definition of the first journal).
use Rattle.std.specs.Prelude.{ℕ, ◌^◌, nat_lt, ◌&&◌, not, Bool, true, List, ◌∷◌, length, map, []}
use Rattle.std.specs.List.{enumerate_from, flat_map, list_any, range_with_len}
use Rattle.cluster_types.specs.declared.cluster.Cluster.{Cluster}
use Rattle.cluster_types.specs.declared.journal.Event.{Event}
use Rattle.cluster_types.specs.Journals as journals
use Rattle.cluster_types.specs.Journals.{is_history_event}
use Rattle.input_reading.specs.declared.status.line_meaning.Fact.{Fact}
use Rattle.input_reading.specs.declared.status.line_meaning.Fact.TheVariants.{Now, Past}
use Rattle.input_reading.specs.FirstJournal.{is_again, word_of}

-- a moment that is told is below 2^40, and an event is one of the history of so many nodes. Of other facts nothing is asked
abbrev pub is_known : ℕ → Fact → Bool
is_known nodes (Now seconds) = nat_lt seconds (2 ^ 40)
is_known nodes (Past event) = is_history_event nodes event
is_known nodes _ = true

-- how the nodes leave, in their order
abbrev pub leavings : Cluster → List Fact → List Event
leavings c told = flat_map (journals.leaving c) (enumerate_from 0 (map (word_of told) (range_with_len 0 (length c.nodes))))

-- no line says again what one before it said
abbrev pub all_differ : List Fact → Bool
all_differ [] = true
all_differ (told ∷ more) = not (list_any (is_again told) more) && all_differ more
