-- What one answer of a reader of lines has read.
use Rattle.std.proofs.Common.{◌≡◌, ◌⊎◌, inl, inr, ℕ, ◌+◌, ◌-◌, ◌<◌, Bool, true, false, Option, Some, None, List, [], ◌∷◌, ◌++◌, length, option_map, IfSome, append-nil, append_assoc, length-append, refl, ap, sym, subst, ◌∙◌, arith}
use Rattle.std.specs.List.{concat}
use Rattle.cluster_io.specs.NextLine.{first_line, first_line_of, holds_line, line_answer, IsUndecided}
use Rattle.cluster_io.specs.Readings.{ReaderAnswered, CameBy, Reading, nothing_came, more_came}
use Rattle.cluster_io.specs.declared.line_step.LineStep.{LineStep}
use Rattle.cluster_io.specs.declared.line_step.LineStep.TheVariants.{Line, End, TooLong, TooLarge, Failed}
use Rattle.cluster_io.proofs.LineAnswers.{answer_some}
use Rattle.cluster_types.specs.declared.cluster.Cluster.{Cluster}
use Rattle.crm_lex.specs.RawLines.{physical_lines, raw_lines}
use Rattle.crm_lex.specs.declared.fault.LexCause.TheVariants.{LineTooLong}
use Rattle.crm_lex.proofs.PhysicalLines.{concat-lines}
use Rattle.live_run.specs.AnswersToCome.{Coming, LineReaderAt, coming, no_more, said_first}
use Rattle.live_run.specs.Inner.ComingSteps.{said_came}
use Rattle.live_run.specs.SourceFollowed.{AreNear, LastLineSays, HasRead, IsStoppedBy, StandWhole, bytes_of, count_said, results_first, said_by}
use Rattle.run_safety.specs.TwoRuns.{IsFront}
use Rattle.live_run.specs.Inner.ReadSteps.{ReadUntil}
use Rattle.live_run.specs.LineSays.{due_line_says, place_behind_said, line_says_within, sized_says}
use Rattle.live_run.specs.declared.result_reader.Came.TheVariants as came
use Rattle.live_run.specs.declared.line_stop.LineCause.TheVariants as cause
use Rattle.live_run.specs.declared.line_stop.LineStop.{LineStop}
use Rattle.live_run.specs.declared.line_stop.LineStop.TheVariants as why
use Rattle.live_run.specs.declared.place.Place.{Place}
use Rattle.live_run.specs.declared.line_saying.Said.{Said}
use Rattle.live_run.specs.declared.line_saying.Said.TheVariants as said
use Rattle.live_run.proofs.Bringing.{handed_answer, handed_cut, line_first, lines_at, longest_is, room_is, some_if}
use Rattle.live_run.proofs.Cuts.{cut_of}
use Rattle.live_run.proofs.Standing.{first_stands}
use Rattle.live_run.proofs.Unfinished.{longer}
use Rattle.input_reading.specs.declared.results.result_lines.ResultLine.{ResultLine}

pub bytes_one : (raw : List ℕ) → bytes_of (physical_lines raw ∷ []) ≡ raw
bytes_one raw = append-nil (concat (physical_lines raw)) ∙ concat-lines raw

-- a source that hasn't ended by now hadn't before
pub was_open : (step : LineStep) (old new : Reading) (before after : Option (List ℕ)) (a : ReaderAnswered step old new before after) → a.ended ≡ false → old.ended ≡ false
was_open step old new before after a unended = by old.ended refl
  where
    by : (ended : Bool) → old.ended ≡ ended → ended ≡ false
    by false is = refl
    by true is = let now = (a.remembers is).0 in cc

pub line_open : (old new : Reading) (before after : Option (List ℕ)) (a : ReaderAnswered Line old new before after) → new.ended ≡ false → a.ended ≡ false
line_open old new before after a unended = sym (ap (λ (r : Reading). r.ended) a.leaves.others) ∙ unended

-- a line is handed out, behind which these bytes are held
pub handed_parts : (old new : Reading) (before after : Option (List ℕ)) (a : ReaderAnswered Line old new before after)
    → old.held ++ a.bytes ≡ bytes_of (physical_lines new.raw ∷ []) ++ new.held
handed_parts old new before after a = a.leaves.parts ∙ ap (λ (t : List ℕ). t ++ new.held) (sym (bytes_one new.raw))

-- before the end of the source it has its line end
pub line_stands : (old new : Reading) (before after : Option (List ℕ)) (a : ReaderAnswered Line old new before after) → a.ended ≡ false
    → StandWhole (physical_lines new.raw ∷ [])
line_stands old new before after a unended rest =
    let feed : List ℕ = 10 ∷ [] in
    let text : (old.held ++ a.bytes) ++ feed ≡ new.raw ++ (new.held ++ feed)
    = ap (λ (t : List ℕ). t ++ feed) a.leaves.parts ∙ append_assoc new.raw new.held feed in
    let first : first_line (new.raw ++ (new.held ++ feed)) ≡ physical_lines new.raw
    = ap first_line (sym text) ∙ a.leaves.first feed (λ ended. (let none : ⊥ = cc in absurd none)) in
    let size = length-append new.held feed in
    ap (λ (t : List ℕ). raw_lines (t ++ rest)) (bytes_one new.raw)
    ∙ first_stands new.raw (new.held ++ feed) (omega (arith, size)) first rest

-- a line is handed out, which is the first of those to come
pub line_cut : (old new : Reading) (before after : Option (List ℕ)) (a : ReaderAnswered Line old new before after)
    → option_map (λ left. raw_lines (old.held ++ left)) before ≡ option_map (λ left. (physical_lines new.raw ∷ []) ++ raw_lines (new.held ++ left)) after
line_cut old new before after a = ap (option_map (λ left. raw_lines (old.held ++ left))) a.taken ∙ on after refl
  where
    on : (left : Option (List ℕ)) → after ≡ left → option_map (λ rest. raw_lines (old.held ++ rest)) (option_map (λ rest. a.bytes ++ rest) left)
        ≡ option_map (λ rest. (physical_lines new.raw ∷ []) ++ raw_lines (new.held ++ rest)) left
    on None is = refl
    on (Some left) is =
        ap Some (ap raw_lines (sym (append_assoc old.held a.bytes left))
        ∙ (handed_cut old new before after a left (λ ended. subst (λ (o : Option (List ℕ)). IfSome o (λ (t : List ℕ). t ≡ [])) is (a.at_end ended))).lines)

-- what comes of it
module _ (c : Cluster) (at : Place) (old new : Reading) (before after : Option (List ℕ)) (a : ReaderAnswered Line old new before after) where
  abbrev lines : List (List (List ℕ))
  lines = physical_lines new.raw ∷ []

  abbrev behind : Said → LineReaderAt
  behind s = lines_at (place_behind_said at s (length (physical_lines new.raw))) new

  line_parts : old.held ++ a.bytes ≡ bytes_of lines ++ new.held
  line_parts = handed_parts old new before after a

  line_near : AreNear (lines_at at old) lines a.bytes
  line_near =
      let size = ap length line_parts in
      let both = length-append (bytes_of lines) new.held in
      let short = a.leaves.short in
      inr (omega (arith, size, both, short))

  -- what the line says, and then the others
  says_first : (s : Said) → due_line_says c at new.raw ≡ s → (others : List (List (List ℕ))) → said_by c (lines_at at old) (lines ++ others) ≡ said_first at s (said_by c (behind s) others)
  says_first s is others =
      line_first c old.longest old.room at new.raw others (handed_answer old new before after a [] (λ ended. refl))
      ∙ (ap (λ (r : ℕ). said_first at (due_line_says c at new.raw)
      (coming c old.longest r (place_behind_said at (due_line_says c at new.raw) (length (physical_lines new.raw))) others)) (sym (room_is old new before after a))
      ∙ (ap (λ (n : ℕ). said_first at (due_line_says c at new.raw)
      (coming c n new.room (place_behind_said at (due_line_says c at new.raw) (length (physical_lines new.raw))) others)) (sym (longest_is old new before after a))
      ∙ ap (λ (t : Said). said_first at t (said_by c (behind t) others)) is))

  line_read : (s : Said) (given : List ResultLine) → due_line_says c at new.raw ≡ s → ((others : Coming) → said_first at s others ≡ results_first given others)
      → HasRead c (lines_at at old) (behind s) before after lines given a.bytes
  line_read s given is gives = record {
    taken = a.taken;
    parts = line_parts;
    cut = line_cut old new before after a;
    whole = λ now.
        let unended = line_open old new before after a now in
        (was_open Line old new before after a unended, line_stands old new before after a unended);
    answered = λ others. says_first s is others ∙ gives (said_by c (behind s) others);
    room =
        let left = room_is old new before after a in
        let in_room = a.leaves.in_room in
        let size = ap length (bytes_one new.raw) in
        omega (arith, left, in_room, size);
    same_size = longest_is old new before after a;
  }

  line_last : (s : Said) (whole : Coming) → due_line_says c at new.raw ≡ s → said_first at s (said_by c (behind s) []) ≡ whole → 0 < count_said whole → LastLineSays c (lines_at at old) lines
  line_last s whole is line_says_within some =
      let counted = ap count_said (says_first s is [] ∙ line_says_within) in
      record { front = []; last = physical_lines new.raw; joined = refl; fewer = omega (arith, counted, some) }

  by_said : (s : Said) → due_line_says c at new.raw ≡ s → ReadUntil c (said_came at.line s) (lines_at at old) (behind s) before after
  by_said said.Nothing is = record { lines = lines; bytes = a.bytes; read = line_read said.Nothing [] is (λ others. refl); near = line_near }
  by_said (said.Answer given) is = record {
    lines = lines;
    bytes = a.bytes;
    read = line_read (said.Answer given) (record { line = at.line; answer = given } ∷ []) is (λ others. refl);
    near = line_near;
    ends = line_last (said.Answer given) (record { results = record { line = at.line; answer = given } ∷ []; stop = None }) is refl (omega arith);
  }
  by_said (said.Stop w) is = record {
    lines = lines;
    first = first before (line_cut old new before after a);
    said = says_first (said.Stop w) is [];
    ends = line_last (said.Stop w) (no_more (Some w)) is refl (omega arith);
    bytes = a.bytes;
    taken = a.taken;
    near = line_near;
  }
    where
      first : (left : Option (List ℕ)) → option_map (λ rest. raw_lines (old.held ++ rest)) left ≡ option_map (λ rest. lines ++ raw_lines (new.held ++ rest)) after
          → IfSome left (λ rest. IsFront lines (raw_lines (old.held ++ rest)))
      first None e = tt
      first (Some rest) e = by after e
        where
          by : (left : Option (List ℕ)) → Some (raw_lines (old.held ++ rest)) ≡ option_map (λ t. lines ++ raw_lines (new.held ++ t)) left → IsFront lines (raw_lines (old.held ++ rest))
          by None f = cc
          by (Some left) f = record { more = raw_lines (new.held ++ left); joined = cc }

  pub line_until : ReadUntil c (said_came at.line (due_line_says c at new.raw)) (lines_at at old) (behind (due_line_says c at new.raw)) before after
  line_until = by_said (due_line_says c at new.raw) refl

-- no line is handed out
pub unmoved : (step : LineStep) (old new : Reading) (before after : Option (List ℕ)) (a : ReaderAnswered step old new before after) → (step ≡ Line → ⊥)
    → (new.held ≡ old.held ++ a.bytes) × ((new.room ≡ old.room) × (new.longest ≡ old.longest))
unmoved Line old new before after a other = absurd (other refl)
unmoved End old new before after a other =
    (ap (λ (r : Reading). r.held) a.leaves.0, (ap (λ (r : Reading). r.room) a.leaves.0, ap (λ (r : Reading). r.longest) a.leaves.0))
unmoved TooLong old new before after a other =
    (ap (λ (r : Reading). r.held) a.leaves, (ap (λ (r : Reading). r.room) a.leaves, ap (λ (r : Reading). r.longest) a.leaves))
unmoved TooLarge old new before after a other =
    (ap (λ (r : Reading). r.held) a.leaves, (ap (λ (r : Reading). r.room) a.leaves, ap (λ (r : Reading). r.longest) a.leaves))
unmoved Failed old new before after a other =
    (ap (λ (r : Reading). r.held) a.leaves.0, (ap (λ (r : Reading). r.room) a.leaves.0, ap (λ (r : Reading). r.longest) a.leaves.0))

-- no line is handed out, and the source hasn't ended
pub still_open : (step : LineStep) (old new : Reading) (before after : Option (List ℕ)) (a : ReaderAnswered step old new before after) → (step ≡ Line → ⊥)
    → new.ended ≡ false → old.ended ≡ false
still_open Line old new before after a other unended = absurd (other refl)
still_open End old new before after a other unended = let ended = ap (λ (r : Reading). r.ended) a.leaves.0 in cc
still_open TooLong old new before after a other unended = was_open TooLong old new before after a (sym (ap (λ (r : Reading). r.ended) a.leaves) ∙ unended)
still_open TooLarge old new before after a other unended = was_open TooLarge old new before after a (sym (ap (λ (r : Reading). r.ended) a.leaves) ∙ unended)
still_open Failed old new before after a other unended = sym (ap (λ (r : Reading). r.ended) a.leaves.0) ∙ unended

-- a source that fails hasn't ended
pub failed_open : (old new : Reading) (before after : Option (List ℕ)) → ReaderAnswered Failed old new before after → new.ended ≡ false
failed_open old new before after a = ap (λ (r : Reading). r.ended) a.leaves.0 ∙ was_open Failed old new before after a a.leaves.2

-- what is to come stays
pub unmoved_cut : (old new : Reading) (before after : Option (List ℕ)) (bytes : List ℕ) → before ≡ option_map (λ left. bytes ++ left) after
    → new.held ≡ old.held ++ bytes → option_map (λ left. raw_lines (old.held ++ left)) before ≡ option_map (λ left. raw_lines (new.held ++ left)) after
unmoved_cut old new before after bytes taken held = ap (option_map (λ left. raw_lines (old.held ++ left))) taken ∙ on after
  where
    on : (left : Option (List ℕ)) → option_map (λ rest. raw_lines (old.held ++ rest)) (option_map (λ rest. bytes ++ rest) left)
        ≡ option_map (λ rest. raw_lines (new.held ++ rest)) left
    on None = refl
    on (Some left) = ap (λ (t : List ℕ). Some (raw_lines t)) (sym (append_assoc old.held bytes left) ∙ ap (λ (t : List ℕ). t ++ left) (sym held))

unmoved_read : (c : Cluster) (at : Place) (old new : Reading) (before after : Option (List ℕ)) (bytes : List ℕ) → before ≡ option_map (λ left. bytes ++ left) after
    → new.held ≡ old.held ++ bytes → new.room ≡ old.room → new.longest ≡ old.longest → (new.ended ≡ false → old.ended ≡ false)
    → HasRead c (lines_at at old) (lines_at at new) before after [] [] bytes
unmoved_read c at old new before after bytes taken held room longest was = record {
  taken = taken;
  parts = sym held;
  cut = unmoved_cut old new before after bytes taken held;
  whole = λ unended. (was unended, λ rest. refl);
  answered = λ others. ap (λ (r : ℕ). coming c old.longest r at others) (sym room) ∙ ap (λ (n : ℕ). coming c n new.room at others) (sym longest);
  room = omega (arith, room);
  same_size = longest;
}

pub end_until : (c : Cluster) (at : Place) (old new : Reading) (before after : Option (List ℕ)) → ReaderAnswered End old new before after
    → ReadUntil c (Some came.End) (lines_at at old) (lines_at at new) before after
end_until c at old new before after a =
    let u = unmoved End old new before after a (λ e. cc) in
    record {
      lines = [];
      bytes = a.bytes;
      read = unmoved_read c at old new before after a.bytes a.taken u.0 u.1.0 u.1.1 (still_open End old new before after a (λ e. cc));
      all = record { none_held = u.0 ∙ a.leaves.1; none_left = a.at_end a.leaves.2 };
    }

-- what is held gives no answer yet
pub undecided_now : (old new : Reading) (before after : Option (List ℕ)) → ReaderAnswered Failed old new before after → IsUndecided new.room new.longest new.held
undecided_now old new before after a = subst (λ (r : Reading). IsUndecided r.room r.longest r.held) (sym a.leaves.0) (a.undecided refl)

pub fault_until : (c : Cluster) (at : Place) (old new : Reading) (before after : Option (List ℕ)) → ReaderAnswered Failed old new before after
    → ReadUntil c (Some came.Fault) (lines_at at old) (lines_at at new) before after
fault_until c at old new before after a =
    let u = unmoved Failed old new before after a (λ e. cc) in
    record {
      lines = [];
      bytes = a.bytes;
      read = unmoved_read c at old new before after a.bytes a.taken u.0 u.1.0 u.1.1 (still_open Failed old new before after a (λ e. cc));
      not_ended = failed_open old new before after a;
      unfinished = ap holds_line u.0 ∙ a.leaves.1;
      undecided = undecided_now old new before after a;
    }

-- a line isn't given, by its size: fewer than 4,096 bytes were taken behind it
needed_near : (held bytes rest : List ℕ) → CameBy held bytes → (bytes ≡ []) ⊎ (length (held ++ bytes) < length (concat (first_line ((held ++ bytes) ++ rest))) + 4096)
needed_near held _ rest nothing_came = inl refl
needed_near held bytes rest (more_came earlier last _ sooner unended some small is) =
    let both : held ++ bytes ≡ (held ++ earlier) ++ last = ap (λ (t : List ℕ). held ++ t) is ∙ sym (append_assoc held earlier last) in
    let size = ap length both in
    let sum = length-append (held ++ earlier) last in
    let on = length-append last rest in
    let past = longer (held ++ earlier) (last ++ rest) unended (omega (arith, on, some)) in
    let whole : (held ++ bytes) ++ rest ≡ (held ++ earlier) ++ (last ++ rest)
    = ap (λ (t : List ℕ). t ++ rest) both ∙ append_assoc (held ++ earlier) last rest in
    let line = ap (λ (t : List ℕ). length (concat (first_line t))) whole in
    inr (omega (arith, size, sum, past, line, small))

module _ (c : Cluster) (at : Place) (old new : Reading) (before after : Option (List ℕ)) (step : LineStep) (w : LineStop) (a : ReaderAnswered step old new before after)
    (sized : (lines : List (List ℕ)) → sized_says c at step lines ≡ said.Stop w) (other : step ≡ End → ⊥) (given : step ≡ Failed → ⊥) where
  stopped_at : (rest : List ℕ) → (a.ended ≡ true → rest ≡ []) → IfSome before (λ left. left ≡ a.bytes ++ rest)
      → IsStoppedBy c (lines_at at old) before after [] w
  stopped_at rest ends is =
      let text = (old.held ++ a.bytes) ++ rest in
      let exact = a.exact given rest ends in
      let some = some_if step old.room old.longest text other exact in
      let k = cut_of text some in
      let answer : line_answer old.room old.longest (physical_lines k.raw) ≡ step
      = sym (exact ∙ (answer_some old.room old.longest text some ∙ ap (λ ls. line_answer old.room old.longest (first_line_of ls)) k.lines)) in
      let says_is : line_says_within c old.longest old.room at (physical_lines k.raw) ≡ said.Stop w
      = ap (λ s. sized_says c at s (physical_lines k.raw)) answer ∙ sized (physical_lines k.raw) in
      let whole : said_by c (lines_at at old) (physical_lines k.raw ∷ []) ≡ no_more (Some w)
      = ap (λ s. said_first at s (coming c old.longest (old.room - length (concat (physical_lines k.raw))) (place_behind_said at s (length (physical_lines k.raw))) [])) says_is in
      let counted = ap count_said whole in
      let first : first_line text ≡ physical_lines k.raw = ap first_line_of k.lines in
      record {
        lines = physical_lines k.raw ∷ [];
        first = stands before is k.rest k.raw k.lines;
        said = whole;
        ends = record { front = []; last = physical_lines k.raw; joined = refl; fewer = omega (arith, counted) };
        bytes = a.bytes;
        taken = a.taken;
        near = subst (λ (t : List ℕ). (a.bytes ≡ []) ⊎ (length (old.held ++ a.bytes) < length t + 4096)) (ap concat first ∙ (concat-lines k.raw ∙ sym (bytes_one k.raw)))
            (needed_near old.held a.bytes rest a.needed);
      }
    where
      stands : (left : Option (List ℕ)) → IfSome left (λ (t : List ℕ). t ≡ a.bytes ++ rest) → (more raw : List ℕ)
          → raw_lines ((old.held ++ a.bytes) ++ rest) ≡ physical_lines raw ∷ raw_lines more → IfSome left (λ (t : List ℕ). IsFront (physical_lines raw ∷ []) (raw_lines (old.held ++ t)))
      stands None h more raw cut = tt
      stands (Some left) h more raw cut = record {
        more = raw_lines more;
        joined = ap (λ (t : List ℕ). raw_lines (old.held ++ t)) h ∙ (ap raw_lines (sym (append_assoc old.held a.bytes rest)) ∙ cut);
      }

  stop_until : IsStoppedBy c (lines_at at old) before after [] w
  stop_until = by after refl
    where
      by : (left : Option (List ℕ)) → after ≡ left → IsStoppedBy c (lines_at at old) before after [] w
      by None is = stopped_at [] (λ ended. refl) (none_told before (a.taken ∙ ap (option_map (λ (t : List ℕ). a.bytes ++ t)) is))
        where
          none_told : (left : Option (List ℕ)) → left ≡ None → IfSome left (λ (t : List ℕ). t ≡ a.bytes ++ [])
          none_told None e = tt
          none_told (Some t) e = cc
      by (Some left) is =
          stopped_at left (λ ended. subst (λ (o : Option (List ℕ)). IfSome o (λ (t : List ℕ). t ≡ [])) is (a.at_end ended))
          (all_told before (a.taken ∙ ap (option_map (λ (t : List ℕ). a.bytes ++ t)) is))
        where
          all_told : (o : Option (List ℕ)) → o ≡ Some (a.bytes ++ left) → IfSome o (λ (t : List ℕ). t ≡ a.bytes ++ left)
          all_told None e = tt
          all_told (Some t) e = cc

pub too_long_until : (c : Cluster) (at : Place) (old new : Reading) (before after : Option (List ℕ)) → ReaderAnswered TooLong old new before after
    → ReadUntil c (Some (came.Stop (why.Refused at.line (cause.Words LineTooLong)))) (lines_at at old) (lines_at at new) before after
too_long_until c at old new before after a =
    stop_until c at old new before after TooLong (why.Refused at.line (cause.Words LineTooLong)) a (λ lines. refl) (λ e. cc) (λ e. cc)

pub too_large_until : (c : Cluster) (at : Place) (old new : Reading) (before after : Option (List ℕ)) → ReaderAnswered TooLarge old new before after
    → ReadUntil c (Some (came.Stop why.TooLarge)) (lines_at at old) (lines_at at new) before after
too_large_until c at old new before after a = stop_until c at old new before after TooLarge why.TooLarge a (λ lines. refl) (λ e. cc) (λ e. cc)
