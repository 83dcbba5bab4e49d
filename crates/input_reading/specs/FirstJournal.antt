-- The first journal: what a status tells as a whole (Pacemaker Explained, operation history; the form of a journal is a rule of this project).
use Rattle.std.specs.Prelude.{ℕ, ◌==◌, ◌&&◌, Bool, true, false, if◌then◌else◌, List, ◌∷◌, ◌++◌, length, map, Option, Some, None, unwrap_or, Result, Ok, Err, []}
use Rattle.std.specs.List.{filter_map, list_any, range_with_len}
use Rattle.crm_lex.specs.declared.line.Line.{Line}
use Rattle.cluster_types.specs.declared.cluster.Cluster.{Cluster}
use Rattle.cluster_types.specs.declared.journal.Event.{Event}
use Rattle.cluster_types.specs.declared.journal.Journal.{Journal}
use Rattle.cluster_types.specs.declared.journal.Promotion.{Promotion}
use Rattle.cluster_types.specs.Journals as journals
use Rattle.cluster_types.specs.Journals.{first_events}
use Rattle.faults.specs.declared.fault.Fault.{Fault}
use Rattle.faults.specs.declared.fault.Fault.TheVariants.{At}
use Rattle.faults.specs.Reading.{◌>>=◌, faulting, on_line}
use Rattle.input_reading.specs.declared.history_fault.StatusCause.{StatusCause}
use Rattle.input_reading.specs.declared.history_fault.StatusCause.TheVariants.{Form, Repeated}
use Rattle.input_reading.specs.declared.status.line_meaning.NodeWord.{NodeWord}
use Rattle.input_reading.specs.declared.status.line_meaning.NodeWord.TheVariants as said
use Rattle.input_reading.specs.declared.status.line_meaning.Fact.{Fact}
use Rattle.input_reading.specs.declared.status.line_meaning.Fact.TheVariants.{Now, Quorum, Node, Past, Promoting}
use Rattle.input_reading.specs.Status.{told_of}

abbrev pub is_promotion_of_same_cell : Promotion → Promotion → Bool
is_promotion_of_same_cell one other = one.leaf == other.leaf && one.node == other.node

-- the second line says again what may be said once: the moment, quorum, the state of a node, the promotion score of a cell
abbrev pub is_again : Fact → Fact → Bool
is_again (Now before) (Now seconds) = true
is_again (Quorum before) (Quorum quorate) = true
is_again (Node before state) (Node node word) = before == node
is_again (Promoting before) (Promoting promotion) = is_promotion_of_same_cell before promotion
is_again _ _ = false

abbrev pub is_repeated : List Fact → Fact → Bool
is_repeated before told = list_any (λ earlier. is_again earlier told) before

-- what some lines tell, and what one more line tells
abbrev pub with_told : List Fact → ℕ → Fact → Result (List Fact) (Fault StatusCause)
with_told before line told = if is_repeated before told then Err (At line Repeated) else Ok (before ++ told ∷ [])

abbrev pub with_status_line : Cluster → List Fact → Line → Result (List Fact) (Fault StatusCause)
with_status_line c before line = faulting Form (on_line line.line (told_of c line.words)) >>= with_told before line.line

-- what some lines tell, and what further lines do; the first line that is at fault counts
abbrev pub with_status_lines : Cluster → List Fact → List Line → Result (List Fact) (Fault StatusCause)
with_status_lines c before [] = Ok before
with_status_lines c before (line ∷ lines) = with_status_line c before line >>= (λ more. with_status_lines c more lines)

-- the first that is said of something
abbrev pub first_said : {X : Type 0} → (Fact → Option X) → List Fact → Option X
first_said says [] = None
first_said says (told ∷ more) = elim (says told) [ None ↦ first_said says more | Some x ↦ Some x ]

abbrev pub now_in : Fact → Option ℕ
now_in (Now seconds) = Some seconds
now_in _ = None

abbrev pub quorum_in : Fact → Option Bool
quorum_in (Quorum quorate) = Some quorate
quorum_in _ = None

-- what a line says of the state of this node
abbrev pub word_in : ℕ → Fact → Option NodeWord
word_in n (Node node word) = if node == n then Some word else None
word_in n _ = None

abbrev pub past_in : Fact → Option Event
past_in (Past event) = Some event
past_in _ = None

abbrev pub promotion_in : Fact → Option Promotion
promotion_in (Promoting promotion) = Some promotion
promotion_in _ = None

-- the moment is 0 where none is said
abbrev pub now_of : List Fact → ℕ
now_of told = unwrap_or (first_said now_in told) 0

-- there is no quorum where none is said
abbrev pub quorum_of : List Fact → Bool
quorum_of told = unwrap_or (first_said quorum_in told) false

-- how a node stands by the first line on it, if there is one
abbrev pub word_as : Option NodeWord → journals.NodeSaid
word_as (Some said.Online) = journals.online
word_as (Some said.Offline) = journals.offline
word_as (Some said.Unclean) = journals.unclean
word_as None = journals.unsaid

abbrev pub word_of : List Fact → ℕ → journals.NodeSaid
word_of told n = word_as (first_said (word_in n) told)

-- the operations that ended and the cells that were cleaned up, in the order of the lines
abbrev pub history_of : List Fact → List Event
history_of told = filter_map past_in told

-- the first journal: each node joins, then comes the history, then those leave that aren't online, then come the word on quorum and the moment
abbrev pub events_of : Cluster → List Fact → List Event
events_of c told = first_events c (history_of told) (map (word_of told) (range_with_len 0 (length c.nodes))) (quorum_of told) (now_of told)

abbrev pub journal_of : Cluster → List Fact → Journal
journal_of c told = record { events = events_of c told; promotions = filter_map promotion_in told }

-- the first journal of the lines of a status, or their first fault
abbrev pub status_journal : Cluster → List Line → Result Journal (Fault StatusCause)
status_journal c lines = with_status_lines c [] lines >>= (λ told. Ok (journal_of c told))
