-- What the word `replay` answers says what it has to of the input.
use Rattle.std.proofs.Common.{◌≡◌, inr, ℕ, Bool, Option, Some, None, List, [], IfSome, refl, sym, ap, subst}
use Rattle.std.proofs.lemmas.Option.{IfSome_then}
use Rattle.cluster_io.specs.Readings.{Reading}
use Rattle.cluster_io.proofs.Bearing.{Bears-as, Bears-then}
use Rattle.cluster_io.specs.Streams.{Bears}
use Rattle.cluster_types.specs.declared.cluster.Cluster.{Cluster}
use Rattle.cluster_types.specs.declared.journal.Journal.{Journal}
use Rattle.live_run.specs.AnswersToCome.{Coming}
use Rattle.live_run.specs.declared.head.HeadStop.{HeadStop}
use Rattle.live_run.specs.declared.live_end.LiveEnd.{LiveEnd}
use Rattle.live_run.specs.declared.live_end.LiveEnd.TheVariants as end
use Rattle.live_run.specs.Ends.{EndGets}
use Rattle.live_run.specs.RunReached as run
use Rattle.live_run.specs.RunReached.{ReachesEnd, results_behind}
use Rattle.input_reading.specs.declared.input.reading.Head.{Head}
use Rattle.sim_core.specs.declared.status.Status.{Status}
use Rattle.sim_core.specs.declared.status.Status.TheVariants.{ReadFault, WriteFault}
use Rattle.sim_core.specs.LiveAnswers.{IsBehindHead, SaysLive, behind_head, of_run, between_two}
use Rattle.sim_core.specs.Inner.LiveSteps.{IsBehind, StopsBy, status_of}
use Rattle.sim_core.specs.Replay.{IsTextOfRun, coming_behind}
use Rattle.sim_core.proofs.SameComing.{same_coming}

-- the status of a failed read is that of this end alone
pub read_fault_by : (how : LiveEnd) → status_of how ≡ ReadFault → how ≡ end.ReadFault
read_fault_by end.ReadFault e = refl
read_fault_by _ e = cc

-- and that of a failed write
pub write_fault_by : (how : LiveEnd) → status_of how ≡ WriteFault → how ≡ end.WriteFault
write_fault_by end.WriteFault e = refl
write_fault_by _ e = cc

-- the run that follows from the head
module _ (input : List ℕ) (head : Head) (reading : Reading) (from left before after : Option (List ℕ)) (k : IsBehind input head reading from) where
  -- what is to come is the same
  coming_is : results_behind head.cluster head.journal reading k.unread ≡ coming_behind input k.bytes head reading.next reading.room
  coming_is = same_coming input k.bytes k.unread head reading k.longest k.parts

  text_of_run : (how : LiveEnd) (text : List ℕ) → EndGets head.cluster head.journal (results_behind head.cluster head.journal reading k.unread) how text
      → IsTextOfRun (λ c journal all. EndGets c journal all how) input text
  text_of_run how text gets = record {
    bytes = k.bytes;
    head = head;
    next = reading.next;
    room = reading.room;
    begun = k.begun;
    says = subst (λ (all : Coming). EndGets head.cluster head.journal all how text) coming_is gets;
  }

  behind_the_head : (Became : Cluster → Journal → Reading → List ℕ → Option (List ℕ) → Option (List ℕ) → Option (List ℕ) → Type 0)
      → Became head.cluster head.journal reading k.unread left before after → IsBehindHead input left before after Became
  behind_the_head Became became = record {
    bytes = k.bytes;
    head = head;
    reading = reading;
    unread = k.unread;
    begun = k.begun;
    longest = k.longest;
    parts = k.parts;
    short = k.short;
    became = became;
  }

  reached : (how : LiveEnd) → ReachesEnd head.cluster head.journal reading k.unread left before after how → (how ≡ end.Done → IfSome left (λ l. l ≡ []))
      → SaysLive input left before after (status_of how)
  reached end.Done r at_end = record { at_end = at_end refl; written = record { text = r.text; due = text_of_run end.Done r.text r.gets; added = r.added } }
  reached end.Unexpected r at_end = record { text = r.text; due = text_of_run end.Unexpected r.text r.gets; added = r.added }
  reached end.Refused r at_end = record { text = r.text; due = inr (text_of_run end.Refused r.text r.gets); added = r.added }
  reached end.TooLarge r at_end = record { text = r.text; due = inr (text_of_run end.TooLarge r.text r.gets); added = r.added }
  reached end.ReadFault r at_end = behind_head (behind_the_head run.HasReadFailed r)
  reached end.WriteFault r at_end = of_run (behind_the_head run.HasSinkFailed r)
  reached end.NoMemory r at_end = between_two (behind_the_head run.HasNoMemory r)

pub run_says : (before_all from left before after : Option (List ℕ)) (head : Head) (reading : Reading) (how : LiveEnd) → IfSome before_all (λ input. IsBehind input head reading from)
    → IfSome from (λ unread. ReachesEnd head.cluster head.journal reading unread left before after how) → (how ≡ end.Done → IfSome left (λ l. l ≡ []))
    → IfSome before_all (λ input. SaysLive input left before after (status_of how))
run_says None from left before after head reading how k r at_end = tt
run_says (Some input) None left before after head reading how k r at_end = let none = k.left_is in absurd cc
run_says (Some input) (Some unread) left before after head reading how k r at_end =
    let given : Some unread ≡ Some k.unread = k.left_is in
    let same : unread ≡ k.unread = cc in
    reached input head reading (Some unread) left before after k how
    (subst (λ (u : List ℕ). ReachesEnd head.cluster head.journal reading u left before after how) same r) at_end

-- what is said of the source as it is lent on: that of the reader, of the answers and at the end
module _ {S : Type 0} (left : S → Option (List ℕ)) where
  pub stop_told : (src over begun final : S) (before after : Option (List ℕ)) (how : HeadStop) (status : Status) → over ≡ src → final ≡ begun
      → IfSome (left over) (λ input. StopsBy input (left begun) how)
      → ((input : List ℕ) (rest : Option (List ℕ)) → StopsBy input rest how → SaysLive input rest before after status)
      → IfSome (left src) (λ input. SaysLive input (left final) before after status)
  stop_told src over begun final before after how status lent back told says =
      subst (λ (s : S). IfSome (left s) (λ input. SaysLive input (left final) before after status)) lent
      (subst (λ (s : S). IfSome (left over) (λ input. SaysLive input (left s) before after status)) (sym back)
      (IfSome_then (left over) told (λ input stopped. says input (left begun) stopped)))

  -- what became of a run over the answers of a reader, of the source that comes back
  pub reaches_by : (asked begun done final : S) (before after : Option (List ℕ)) (cluster other : Cluster) (journal : Journal) (reading at : Reading) (how : LiveEnd)
      → asked ≡ begun → final ≡ done → at ≡ reading → cluster ≡ other
      → IfSome (left asked) (λ unread. ReachesEnd cluster journal at unread (left done) before after how)
      → IfSome (left begun) (λ unread. ReachesEnd other journal reading unread (left final) before after how)
  reaches_by asked begun done final before after cluster other journal reading at how asks back same of reached =
      subst (λ (s : S). IfSome (left begun) (λ unread. ReachesEnd other journal reading unread (left s) before after how)) (sym back)
      (subst (λ (s : S). IfSome (left s) (λ unread. ReachesEnd other journal reading unread (left done) before after how)) asks
      (subst (λ (r : Reading). IfSome (left asked) (λ unread. ReachesEnd other journal r unread (left done) before after how)) same
      (subst (λ (x : Cluster). IfSome (left asked) (λ unread. ReachesEnd x journal at unread (left done) before after how)) of reached)))

  -- what a run behind a head leaves of the count of failed reads
  pub reads_bear : (faults : S → ℕ) (alone : Bool) (failed : Type 0) (src over begun done final : S) (how : LiveEnd) (status : Status)
      → over ≡ src → final ≡ done → status ≡ status_of how
      → Bears alone failed (faults over) (faults begun) → (failed → ⊥) → Bears alone (how ≡ end.ReadFault) (faults begun) (faults done)
      → Bears alone (status ≡ ReadFault) (faults src) (faults final)
  reads_bear faults alone failed src over begun done final how status lent back is first none last =
      subst (λ (s : S). Bears alone (status ≡ ReadFault) (faults s) (faults final)) lent
      (subst (λ (s : S). Bears alone (status ≡ ReadFault) (faults over) (faults s)) (sym back)
      (subst (λ (s : Status). Bears alone (s ≡ ReadFault) (faults over) (faults done)) (sym is)
      (Bears-then alone failed (status_of how ≡ ReadFault) (faults over) (faults begun) (faults done) none first
      (Bears-as alone (how ≡ end.ReadFault) (status_of how ≡ ReadFault) (faults begun) (faults done) (λ e. ap status_of e) (read_fault_by how) last))))

  pub run_told : (src over begun done final : S) (before after : Option (List ℕ)) (head : Head) (reading : Reading) (how : LiveEnd) (status : Status)
      → over ≡ src → final ≡ done → status ≡ status_of how
      → IfSome (left over) (λ input. IsBehind input head reading (left begun))
      → IfSome (left begun) (λ unread. ReachesEnd head.cluster head.journal reading unread (left done) before after how)
      → (how ≡ end.Done → IfSome (left done) (λ l. l ≡ []))
      → IfSome (left src) (λ input. SaysLive input (left final) before after status)
  run_told src over begun done final before after head reading how status lent back is behind reaches at_end =
      subst (λ (s : S). IfSome (left s) (λ input. SaysLive input (left final) before after status)) lent
      (subst (λ (s : S). IfSome (left over) (λ input. SaysLive input (left s) before after status)) (sym back)
      (subst (λ (s : Status). IfSome (left over) (λ input. SaysLive input (left done) before after s)) (sym is)
      (run_says (left over) (left begun) (left done) before after head reading how behind reaches at_end)))
