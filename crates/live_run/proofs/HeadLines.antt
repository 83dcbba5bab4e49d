-- Which logical lines of an input its head has taken, line by line.
use Rattle.std.proofs.Common.{◌≡◌, ℕ, ◌+◌, Option, Some, None, Result, Ok, Err, List, [], ◌∷◌, ◌++◌, length, option_map, length-append, refl, ap, subst, sym, ◌∙◌, arith}
use Rattle.std.proofs.lemmas.List.Sums.{sum_by-append}
use Rattle.cluster_io.specs.Readings.{ReaderAnswered, Reading}
use Rattle.cluster_io.specs.declared.line_step.LineStep.{LineStep}
use Rattle.cluster_io.specs.declared.line_step.LineStep.TheVariants.{Line, Failed}
use Rattle.crm_lex.specs.RawLines.{physical_lines, raw_lines}
use Rattle.crm_lex.specs.Reading.{reads_line}
use Rattle.live_run.specs.SourceFollowed.{bytes_of}
use Rattle.live_run.specs.Heads.{HasHeadGoneOn, HasTaken, HeadFound, goes_on_behind, line_by_words, line_of_head, taken, found_by}
use Rattle.live_run.specs.Inner.HeadSteps.{StillAmid, came_to}
use Rattle.live_run.specs.declared.head.HeadStop.{HeadStop}
use Rattle.live_run.specs.declared.head.HeadStop.TheVariants as stop
use Rattle.live_run.specs.Inner.ReadLaws.{bytes_joined, lines_joined, whole_then}
use Rattle.live_run.proofs.Bringing.{longest_is, next_is, room_is}
use Rattle.live_run.proofs.HeadBringing.{line_on, next_stays, none_go_on, on_more}
use Rattle.live_run.proofs.Stepping.{bytes_one, line_cut, line_open, line_stands, still_open, unmoved, unmoved_cut, was_open}

-- none yet
pub none_taken : (reading : Reading) (left : Option (List ℕ)) → HasTaken reading reading [] left left
none_taken reading None = record { lines = []; text_is = refl; cut = refl; whole = λ unended. (unended, λ rest. refl); number = omega arith; room = omega arith }
none_taken reading (Some left) = record { lines = []; text_is = refl; cut = refl; whole = λ unended. (unended, λ rest. refl); number = omega arith; room = omega arith }

pub none_gone : (reading : Reading) (left : Option (List ℕ)) → HasHeadGoneOn reading reading [] left left
unfolding none_taken
none_gone reading None = record { taken = none_taken reading None; same_size = refl; goes_on = tt }
none_gone reading (Some left) = record { taken = none_taken reading (Some left); same_size = refl; goes_on = none_go_on reading.longest reading.room reading.next }

module _ (first old new : Reading) (text : List ℕ) (given before after : Option (List ℕ)) (t : HasTaken first old text given before) where
  -- one more is handed out
  pub line_taken : ReaderAnswered Line old new before after → HasTaken first new (text ++ new.raw) given after
  line_taken a = record {
    lines = t.lines ++ line;
    text_is = ap (λ (x : List ℕ). x ++ new.raw) t.text_is
        ∙ (ap (λ (x : List ℕ). bytes_of t.lines ++ x) (sym (bytes_one new.raw)) ∙ sym (bytes_joined t.lines line));
    cut = t.cut
        ∙ lines_joined t.lines line (λ left. raw_lines (old.held ++ left)) (λ left. raw_lines (new.held ++ left)) before after (line_cut old new before after a);
    whole = λ now.
        let unended = line_open old new before after a now in
        let first = t.whole (was_open Line old new before after a unended) in
        (first.0, whole_then t.lines line first.1 (line_stands old new before after a unended));
    number =
        let number = t.number in
        let next = next_is old new before after a in
        let sum = sum_by-append (λ (one : List (List ℕ)). length one) t.lines line in
        omega (arith, number, next, sum);
    room =
        let room = t.room in
        let left = room_is old new before after a in
        let in_room = a.leaves.in_room in
        let sum = length-append text new.raw in
        omega (arith, room, left, in_room, sum);
  }
    where
      line : List (List (List ℕ))
      line = physical_lines new.raw ∷ []

  -- none is handed out
  pub still_taken : (step : LineStep) → ReaderAnswered step old new before after → (step ≡ Line → ⊥) → HasTaken first new text given after
  still_taken step a other =
      let u = unmoved step old new before after a other in
      record {
        lines = t.lines;
        text_is = t.text_is;
        cut = t.cut ∙ behind before after (unmoved_cut old new before after a.bytes a.taken u.0);
        whole = λ unended. t.whole (still_open step old new before after a other unended);
        number = next_stays step old new before after a other ∙ t.number;
        room = ap (λ (n : ℕ). length text + n) u.1.0 ∙ t.room;
      }
    where
      behind : (x y : Option (List ℕ)) → option_map (λ left. raw_lines (old.held ++ left)) x ≡ option_map (λ left. raw_lines (new.held ++ left)) y
          → option_map (λ left. t.lines ++ raw_lines (old.held ++ left)) x ≡ option_map (λ left. t.lines ++ raw_lines (new.held ++ left)) y
      behind None None e = refl
      behind None (Some y) e = cc
      behind (Some x) None e = cc
      behind (Some x) (Some y) e = ap (option_map (λ (rest : List (List (List ℕ))). t.lines ++ rest)) e

module _ (first old new : Reading) (text : List ℕ) (given : Option (List ℕ)) where
  -- behind one more the head goes on
  pub line_gone : (before after : Option (List ℕ)) → HasHeadGoneOn first old text given before → (a : ReaderAnswered Line old new before after)
      → (came : Option (Result (Unit {0}) HeadStop)) → came ≡ None
      → ((others : HeadFound) → came_to came (text ++ new.raw) new others ≡ found_by (line_by_words (reads_line old.next new.raw)) (taken (text ++ new.raw) new.next new.room) others)
      → HasHeadGoneOn first new (text ++ new.raw) given after
  unfolding line_taken
  line_gone before None h a came none says = record {
    taken = line_taken first old new text given before None h.taken a;
    same_size = longest_is old new before None a ∙ h.same_size;
    goes_on = tt;
  }
  line_gone None (Some left) h a came none says = let taken = a.taken in absurd (let f : ⊥ = cc in f)
  line_gone (Some bytes) (Some left) h a came none says = record {
    taken = line_taken first old new text given (Some bytes) (Some left) h.taken a;
    same_size = longest_is old new (Some bytes) (Some left) a ∙ h.same_size;
    goes_on =
        let size = ap length h.taken.text_is in
        let room = h.taken.room in
        on_more first.longest first.room first.next h.taken.lines (physical_lines new.raw) old.room old.next (omega (arith, size, room)) h.taken.number
        (subst (λ (n : ℕ). line_of_head n old.room old.next (physical_lines new.raw) ≡ goes_on_behind) h.same_size
        (line_on (text ++ new.raw) old new (Some bytes) left a came none says)) h.goes_on;
  }

  -- where the source fails, no more was taken
  pub still_gone : (before after : Option (List ℕ)) → HasHeadGoneOn first old text given before → (a : ReaderAnswered Failed old new before after)
      → HasHeadGoneOn first new text given after
  unfolding still_taken
  still_gone before None h a = record {
    taken = still_taken first old new text given before None h.taken Failed a (λ e. cc);
    same_size = ap (λ (r : Reading). r.longest) a.leaves.0 ∙ h.same_size;
    goes_on = tt;
  }
  still_gone None (Some left) h a = let none = a.taken in absurd (let f : ⊥ = cc in f)
  still_gone (Some bytes) (Some left) h a = record {
    taken = still_taken first old new text given (Some bytes) (Some left) h.taken Failed a (λ e. cc);
    same_size = ap (λ (r : Reading). r.longest) a.leaves.0 ∙ h.same_size;
    goes_on = h.goes_on;
  }

-- reading goes on, and then it goes on so
pub amid_line : (came : Option (Result (Unit {0}) HeadStop)) (P : Type 0) → (came ≡ Some (Err stop.ReadFault) → ⊥) → (came ≡ None → P) → StillAmid came P
amid_line None P other goes = goes refl
amid_line (Some (Ok end)) P other goes = tt
amid_line (Some (Err stop.ReadFault)) P other goes = absurd (other refl)
amid_line (Some (Err (stop.Refused line why))) P other goes = tt
amid_line (Some (Err stop.TooLarge)) P other goes = tt
amid_line (Some (Err stop.NoMemory)) P other goes = tt

-- what holds where the source failed
pub where_failed : (came : Option (Result (Unit {0}) HeadStop)) (P : Type 0) → came ≡ Some (Err stop.ReadFault) → StillAmid came P → P
where_failed came P fault h = subst (λ (k : Option (Result (Unit {0}) HeadStop)). StillAmid k P) fault h
