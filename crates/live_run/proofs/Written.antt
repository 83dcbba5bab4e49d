-- What is written of several lines, one after the other, and what is held back of them.
use Rattle.std.specs.Prelude.{IsErr}
use Rattle.std.proofs.Common.{◌≡◌, ◌≤◌, inl, inr, ℕ, Bool, Option, Some, Result, Ok, Err, List, [], ◌∷◌, ◌++◌, append-nil, append_assoc, length, length-append, refl, ap, sym, subst, ◌∙◌, arith}
use Rattle.cluster_io.specs.Streams.{Adds, Bears}
use Rattle.cluster_io.specs.declared.sink.WriteFault.{WriteFault}
use Rattle.cluster_io.proofs.Bearing.{Bears-as}
use Rattle.cluster_io.proofs.Pieces.{Adds-then}
use Rattle.cluster_types.specs.declared.cluster.Cluster.{Cluster}
use Rattle.cluster_types.specs.declared.run.RunLine.{RunLine}
use Rattle.cluster_types.specs.Texts.{run_line}
use Rattle.graph_exec.specs.WatcherLines.{StopsAmong}
use Rattle.live_run.specs.Ends.{run_lines_text}
use Rattle.live_run.specs.Inner.SourceFollowedLaws.{lines_later, lines_then}
use Rattle.live_run.specs.Inner.Fronts.{short_rest}
use Rattle.live_run.specs.HeldAndWritten.{WritesInPart, GoesOut, HasFailedBehind, HasWrittenLines, IsSameSink, OffersHeld, OffersLast, Puts, PutsLast, WriterView, most_held}
use Rattle.live_run.specs.Inner.WriteResults.{HoldsBehind, PutsBehind, PutsLine, has_left, has_room}

-- and then all leaves
pub goes_all : (r : Result (Unit {0}) WriteFault) (text held held_then : List ℕ) (before middle after : Option (List ℕ)) → GoesOut text held held_then before middle
    → Puts r held_then middle after → length held_then ≤ most_held → PutsLast r text held before after
goes_all (Ok done) text held held_then before middle after a p few =
    subst (λ (t : List ℕ). Adds before t after) (sym a.parts) (Adds-then before middle after a.out held_then a.written p)
goes_all (Err fault) text held held_then before middle after a p few =
    let size = ap length a.parts in
    short_rest held text a.out held_then before middle after a.parts a.written p
    (omega (arith, few, size, length-append held text, length-append a.out held_then))

offers_together : (text held held_then : List ℕ) (before middle after : Option (List (List ℕ))) → held_then ≡ held ++ text → middle ≡ before
    → OffersHeld held_then middle after → OffersHeld (held ++ text) before after
offers_together text held held_then before middle after is same all =
    subst (λ (t : List ℕ). OffersHeld t before after) is (subst (λ (m : Option (List (List ℕ))). OffersHeld held_then m after) same all)

-- what is offered as a last text leaves behind what was held back
pub offers_all : (r : Result (Unit {0}) WriteFault) (text held held_then : List ℕ) (before middle after : Option (List (List ℕ)))
    → HoldsBehind text held held_then before middle → OffersHeld held_then middle after → OffersLast r text held before after
offers_all (Ok done) text held held_then before middle after (has_room is same) all = inl (offers_together text held held_then before middle after is same all)
offers_all (Ok done) text held held_then before middle after (has_left is first) all =
    inr (record { between = middle; first = first; last = subst (λ (t : List ℕ). OffersHeld t middle after) is all })
offers_all (Err fault) text held held_then before middle after (has_room is same) all = inl (inl (offers_together text held held_then before middle after is same all))
offers_all (Err fault) text held held_then before middle after (has_left is first) all =
    inl (inr (record { between = middle; first = first; last = subst (λ (t : List ℕ). OffersHeld t middle after) is all }))

one_text : (c : Cluster) (line : RunLine) → run_lines_text c (line ∷ []) ≡ run_line c line
one_text c line = append-nil (run_line c line)

bears_none : (exact : Bool) (faults faults_now : ℕ) (done : Unit {0}) → Bears exact (IsErr {T = Unit {0}} {E = WriteFault} (Ok done)) faults faults_now
    → Bears exact ⊥ faults faults_now
bears_none exact faults faults_now done b = Bears-as exact (IsErr {T = Unit {0}} {E = WriteFault} (Ok done)) ⊥ faults faults_now (λ e. let f : ⊥ = cc in f) (λ none. absurd none) b

bears_failed : (exact : Bool) (faults faults_now : ℕ) (fault : WriteFault) → Bears exact (IsErr {T = Unit {0}} {E = WriteFault} (Err fault)) faults faults_now
    → Bears exact (Unit {0}) faults faults_now
bears_failed exact faults faults_now fault b = Bears-as exact (IsErr {T = Unit {0}} {E = WriteFault} (Err fault)) (Unit {0}) faults faults_now (λ e. tt) (λ u. refl) b

-- a line is told to a writer, or it stops there
pub puts_one : (exact : Bool) (old new : WriterView) (same : new.names ≡ old.names) (sink : IsSameSink old.loan new.loan) (line : RunLine) (r : Result (Unit {0}) WriteFault)
    → PutsBehind r (run_line old.names line) old.held new.held old.written new.written → Bears exact (IsErr r) old.faults new.faults → PutsLine exact old new r line
puts_one exact old new same sink line (Ok done) p b = record {
  names_stay = same;
  put = record { bears = bears_none exact old.faults new.faults done b; same_sink = sink };
  text = subst (λ (t : List ℕ). GoesOut t old.held new.held old.written new.written) (sym (one_text old.names line)) p;
}
puts_one exact old new same sink line (Err fault) p b = record {
  names_stay = same;
  put = record { bears = bears_failed exact old.faults new.faults fault b; same_sink = sink };
  text = subst (λ (t : List ℕ). WritesInPart t (run_line old.names line) old.written new.written) (sym (append-nil old.held)) p;
}

-- the first of some lines were added, and these are left
pub record IsPut (exact : Bool) (old now : WriterView) (lines left : List RunLine) : Type 0 where
  pub passed : List RunLine
  pub parts : lines ≡ passed ++ left
  pub wrote : HasWrittenLines exact old now passed

module _ (exact : Bool) (old now new : WriterView) (lines left rest : List RunLine) (line : RunLine) (next : left ≡ line ∷ rest) (p : IsPut exact old now lines left) where
  parts : lines ≡ p.passed ++ line ∷ rest
  parts = p.parts ∙ ap (λ (ls : List RunLine). p.passed ++ ls) next

  pub put_more : HasWrittenLines exact now new (line ∷ []) → IsPut exact old new lines rest
  put_more wrote = record {
    passed = p.passed ++ line ∷ [];
    parts = parts ∙ sym (append_assoc p.passed (line ∷ []) rest);
    wrote = lines_then exact old now new p.passed (line ∷ []) p.wrote wrote;
  }

  -- the sink fails at the next
  pub put_failed : HasFailedBehind exact now new [] (Some line) → StopsAmong (λ (front : List RunLine) (at : RunLine). HasFailedBehind exact old new front (Some at)) lines
  put_failed failed = record {
    before = p.passed;
    at = line;
    behind = rest;
    parts = parts;
    stopped = subst (λ (ls : List RunLine). HasFailedBehind exact old new ls (Some line)) (append-nil p.passed)
        (lines_later exact old now new p.passed [] p.wrote (Some line) failed);
  }

-- none is left
pub put_all : (exact : Bool) (old new : WriterView) (lines left : List RunLine) → left ≡ [] → IsPut exact old new lines left → HasWrittenLines exact old new lines
put_all exact old new lines left none p =
    subst (HasWrittenLines exact old new) (sym (p.parts ∙ (ap (λ (ls : List RunLine). p.passed ++ ls) none ∙ append-nil p.passed))) p.wrote

-- a text was added where nothing was held back, and then all leaves, with a last text behind it or with none
module _ (text held : List ℕ) (old middle new : Option (List ℕ)) (a : GoesOut text [] held old middle) where
  pub all_out : (last : List ℕ) → Adds middle (held ++ last) new → Adds old (text ++ last) new
  all_out last p =
      subst (λ (t : List ℕ). Adds old t new) (sym (append_assoc a.out held last) ∙ ap (λ (t : List ℕ). t ++ last) (sym a.parts))
      (Adds-then old middle new a.out (held ++ last) a.written p)

  pub all_left : Adds middle held new → Adds old text new
  all_left p = subst (λ (t : List ℕ). Adds old t new) (sym a.parts) (Adds-then old middle new a.out held a.written p)

-- nothing is held back any more
pub none_left : (text held : List ℕ) (old middle : Option (List ℕ)) → GoesOut text [] held old middle → held ≡ [] → Adds old text middle
none_left text held old middle a none =
    subst (λ (t : List ℕ). Adds old t middle) (sym (a.parts ∙ (ap (λ (t : List ℕ). a.out ++ t) none ∙ append-nil a.out))) a.written
