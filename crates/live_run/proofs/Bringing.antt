-- What one answer of a reader of lines brings of what is to come.
use Rattle.std.proofs.Common.{◌≡◌, ℕ, zero, suc, ◌+◌, ◌-◌, ◌^◌, ◌≤◌, ◌<◌, nat_lt, nat_le, Bool, true, false, if◌then◌else◌, Option, Some, None, List, [], ◌∷◌, ◌++◌, length, option_map, append_assoc, refl, ap, sym, ◌∙◌, arith}
use Rattle.std.specs.List.{concat}
use Rattle.std.proofs.lemmas.Bool.{le-ltb}
use Rattle.cluster_io.specs.NextLine.{reader_answer, content_within, first_line, first_line_of, line_answer}
use Rattle.cluster_io.specs.Readings.{Reading, ReaderAnswered}
use Rattle.cluster_io.specs.declared.line_step.LineStep.{LineStep}
use Rattle.cluster_io.specs.declared.line_step.LineStep.TheVariants.{Line, End, TooLong, TooLarge, Failed}
use Rattle.cluster_io.proofs.LineAnswers.{answer_some}
use Rattle.cluster_io.proofs.PhysicalLines.{content_within_none}
use Rattle.cluster_types.specs.declared.cluster.Cluster.{Cluster}
use Rattle.crm_lex.specs.RawLines.{physical_lines, raw_lines}
use Rattle.crm_lex.specs.declared.fault.LexCause.TheVariants.{LineTooLong}
use Rattle.crm_lex.proofs.PhysicalLines.{concat-lines, few_lines}
use Rattle.live_run.specs.AnswersToCome.{AreReady, Coming, LineReaderAt, coming, coming_of, no_more, said_first}
use Rattle.live_run.specs.Inner.ComingSteps.{Brings, answers_in, came_first, said_came, told_coming}
use Rattle.live_run.specs.LineSays.{due_line_says, place_behind_said, line_says_within, sized_says}
use Rattle.live_run.specs.Inner.LineFits.{SaidFits}
use Rattle.live_run.specs.declared.result_reader.Came.TheVariants as came
use Rattle.live_run.specs.declared.line_stop.LineCause.TheVariants as cause
use Rattle.live_run.specs.declared.line_stop.LineStop.{LineStop}
use Rattle.live_run.specs.declared.line_stop.LineStop.TheVariants as why
use Rattle.live_run.specs.declared.place.Place.{Place}
use Rattle.live_run.specs.declared.line_saying.Said.{Said}
use Rattle.live_run.specs.declared.line_saying.Said.TheVariants as said
use Rattle.live_run.proofs.Cuts.{CutAt, cut_at, cut_of}

-- the place and the reading
abbrev pub lines_at : Place → Reading → LineReaderAt
lines_at at reading = record { at = at; reading = reading }

first_same : (at : Place) (s : Said) (others : Coming) → said_first at s others ≡ came_first (said_came at.line s) others
first_same at said.Nothing others = refl
first_same at (said.Answer given) others = refl
first_same at (said.Stop w) others = refl

-- a text that is answered by a line, or by one that isn't given, isn't empty
pub some_if : (step : LineStep) (room longest : ℕ) (text : List ℕ) → (step ≡ End → ⊥) → step ≡ reader_answer room longest text → 0 < length text
some_if step room longest [] other e = absurd (other e)
some_if step room longest (b ∷ bs) other e = omega arith

-- what a line says that is handed out, and then what the others say
module _ (c : Cluster) (longest room : ℕ) (at : Place) (raw : List ℕ) (others : List (List (List ℕ))) (line : line_answer room longest (physical_lines raw) ≡ Line) where
  first_says : line_says_within c longest room at (physical_lines raw) ≡ due_line_says c at raw
  first_says = ap (λ s. sized_says c at s (physical_lines raw)) line ∙ ap (due_line_says c at) (concat-lines raw)

  pub line_first : coming c longest room at (physical_lines raw ∷ others)
      ≡ said_first at (due_line_says c at raw) (coming c longest (room - length raw) (place_behind_said at (due_line_says c at raw) (length (physical_lines raw))) others)
  line_first =
      ap (λ s. said_first at s (coming c longest (room - length (concat (physical_lines raw))) (place_behind_said at s (length (physical_lines raw))) others)) first_says
      ∙ ap (λ (t : List ℕ). said_first at (due_line_says c at raw)
      (coming c longest (room - length t) (place_behind_said at (due_line_says c at raw) (length (physical_lines raw))) others)) (concat-lines raw)

-- a line is handed out
module _ (old new : Reading) (before after : Option (List ℕ)) (a : ReaderAnswered Line old new before after) where
  module _ (rest : List ℕ) (ends : a.ended ≡ true → rest ≡ []) where
    abbrev pub all_bytes : List ℕ
    all_bytes = (old.held ++ a.bytes) ++ rest

    pub handed_cut : CutAt all_bytes new.raw (new.held ++ rest)
    handed_cut =
        cut_at all_bytes new.raw (new.held ++ rest) (ap (λ (t : List ℕ). t ++ rest) a.leaves.parts ∙ append_assoc new.raw new.held rest)
        (some_if Line old.room old.longest all_bytes (λ e. cc) (a.exact (λ e. cc) rest ends)) (a.leaves.first rest ends)

    pub handed_answer : line_answer old.room old.longest (physical_lines new.raw) ≡ Line
    handed_answer =
        let some = some_if Line old.room old.longest all_bytes (λ e. cc) (a.exact (λ e. cc) rest ends) in
        sym (ap (line_answer old.room old.longest) (a.leaves.first rest ends))
        ∙ (sym (answer_some old.room old.longest all_bytes some) ∙ sym (a.exact (λ e. cc) rest ends))

  pub next_is : new.next ≡ old.next + length (physical_lines new.raw)
  next_is = ap (λ (r : Reading). r.next) a.leaves.others

  pub room_is : new.room ≡ old.room - length new.raw
  room_is = ap (λ (r : Reading). r.room) a.leaves.others

  pub longest_is : new.longest ≡ old.longest
  longest_is = ap (λ (r : Reading). r.longest) a.leaves.others

  pub number_is : new.number ≡ old.next
  number_is = ap (λ (r : Reading). r.number) a.leaves.others

  pub stop_is : new.stop ≡ old.stop
  stop_is = ap (λ (r : Reading). r.stop) a.leaves.others

  pub fewer_left : new.room < old.room
  fewer_left = let k = handed_cut [] (λ _. refl) in omega (arith, room_is, a.leaves.in_room, k.some)

  pub numbers_fit : old.next + old.room ≤ 2 ^ 32 → old.next + length (physical_lines new.raw) ≤ 2 ^ 32
  numbers_fit h = omega (arith, h, few_lines new.raw, a.leaves.in_room)

  pub ready_behind : (at : Place) (s : Said) → AreReady (lines_at at old) → SaidFits at s
      → AreReady (lines_at (place_behind_said at s (length (physical_lines new.raw))) new)
  ready_behind at s r fits =
      let few = few_lines new.raw in
      let in_room = a.leaves.in_room in
      let numbered : new.next + new.room ≤ 2 ^ 32 = omega (arith, next_is, room_is, few, in_room, r.numbered) in
      by_said s fits numbered
    where
      line_on : at.line + length (physical_lines new.raw) ≡ new.next
      line_on = ap (λ l. l + length (physical_lines new.raw)) r.line ∙ sym next_is

      by_said : (s : Said) → SaidFits at s → new.next + new.room ≤ 2 ^ 32
          → AreReady (lines_at (place_behind_said at s (length (physical_lines new.raw))) new)
      by_said said.Nothing f n = record { moment = r.moment; few = r.few; line = line_on; numbered = n }
      by_said (said.Answer given) f n = record { moment = f.1; few = omega (arith, f.0); line = line_on; numbered = n }
      by_said (said.Stop w) f n = record { moment = r.moment; few = r.few; line = line_on; numbered = n }

line_whole : (c : Cluster) (at : Place) (old new : Reading) (before : Option (List ℕ)) (left : List ℕ) (a : ReaderAnswered Line old new before (Some left))
    → coming_of c (lines_at at old) (a.bytes ++ left)
    ≡ came_first (said_came at.line (due_line_says c at new.raw))
    (coming_of c (lines_at (place_behind_said at (due_line_says c at new.raw) (length (physical_lines new.raw))) new) left)
line_whole c at old new before left a =
    let s = due_line_says c at new.raw in
    let behind = place_behind_said at s (length (physical_lines new.raw)) in
    let others = raw_lines (new.held ++ left) in
    ap (λ (t : List ℕ). coming c old.longest old.room at (raw_lines t)) (sym (append_assoc old.held a.bytes left))
    ∙ ap (coming c old.longest old.room at) (handed_cut old new before (Some left) a left a.at_end).lines
    ∙ line_first c old.longest old.room at new.raw (raw_lines (new.held ++ left)) (handed_answer old new before (Some left) a left a.at_end)
    ∙ first_same at s (coming c old.longest (old.room - length new.raw) behind others)
    ∙ ap (λ (n : ℕ). came_first (said_came at.line s) (coming c n (old.room - length new.raw) behind others)) (sym (longest_is old new before (Some left) a))
    ∙ ap (λ (n : ℕ). came_first (said_came at.line s) (coming c new.longest n behind others)) (sym (room_is old new before (Some left) a))

pub line_brings : (c : Cluster) (at : Place) (old new : Reading) (before after : Option (List ℕ)) → ReaderAnswered Line old new before after
    → Brings c (said_came at.line (due_line_says c at new.raw)) (lines_at at old)
    (lines_at (place_behind_said at (due_line_says c at new.raw) (length (physical_lines new.raw))) new) before after
line_brings c at old new before None a = ap (option_map (coming_of c (lines_at at old))) a.taken
line_brings c at old new before (Some left) a = ap (option_map (coming_of c (lines_at at old))) a.taken ∙ ap Some (line_whole c at old new before left a)

-- a line isn't given, by its size
stops_text : (c : Cluster) (longest room : ℕ) (at : Place) (text : List ℕ) (step : LineStep) (w : LineStop)
    → ((lines : List (List ℕ)) → sized_says c at step lines ≡ said.Stop w) → (step ≡ End → ⊥) → step ≡ reader_answer room longest text
    → coming c longest room at (raw_lines text) ≡ no_more (Some w)
stops_text c longest room at text step w sized other exact =
    let some = some_if step room longest text other exact in
    let k = cut_of text some in
    let answer : line_answer room longest (physical_lines k.raw) ≡ step
    = sym (exact ∙ (answer_some room longest text some ∙ ap (λ ls. line_answer room longest (first_line_of ls)) k.lines)) in
    let said_is : line_says_within c longest room at (physical_lines k.raw) ≡ said.Stop w
    = ap (λ s. sized_says c at s (physical_lines k.raw)) answer ∙ sized (physical_lines k.raw) in
    ap (coming c longest room at) k.lines
    ∙ ap (λ s. said_first at s (coming c longest (room - length (concat (physical_lines k.raw))) (place_behind_said at s (length (physical_lines k.raw))) (raw_lines k.rest)))
    said_is

stop_brings : (c : Cluster) (at : Place) (old new : Reading) (before after : Option (List ℕ)) (step : LineStep) (w : LineStop) → ReaderAnswered step old new before after
    → ((lines : List (List ℕ)) → sized_says c at step lines ≡ said.Stop w) → (step ≡ End → ⊥) → (step ≡ Failed → ⊥)
    → Brings c (Some (came.Stop w)) (lines_at at old) (lines_at at new) before after
stop_brings c at old new before None step w a sized other given = ap (option_map (coming_of c (lines_at at old))) a.taken
stop_brings c at old new before (Some left) step w a sized other given =
    ap (option_map (coming_of c (lines_at at old))) a.taken
    ∙ ap (λ (t : List ℕ). Some (coming c old.longest old.room at (raw_lines t))) (sym (append_assoc old.held a.bytes left))
    ∙ ap Some (stops_text c old.longest old.room at ((old.held ++ a.bytes) ++ left) step w sized other (a.exact given left a.at_end))

pub too_long_brings : (c : Cluster) (at : Place) (old new : Reading) (before after : Option (List ℕ)) → ReaderAnswered TooLong old new before after
    → Brings c (Some (came.Stop (why.Refused at.line (cause.Words LineTooLong)))) (lines_at at old) (lines_at at new) before after
too_long_brings c at old new before after a =
    stop_brings c at old new before after TooLong (why.Refused at.line (cause.Words LineTooLong)) a (λ lines. refl) (λ e. cc) (λ e. cc)

pub too_large_brings : (c : Cluster) (at : Place) (old new : Reading) (before after : Option (List ℕ)) → ReaderAnswered TooLarge old new before after
    → Brings c (Some (came.Stop why.TooLarge)) (lines_at at old) (lines_at at new) before after
too_large_brings c at old new before after a = stop_brings c at old new before after TooLarge why.TooLarge a (λ lines. refl) (λ e. cc) (λ e. cc)

-- a line that is too long begins within the limit, so that its number is below 2^32
neither : (s t : Bool) → s ≡ false → TooLong ≡ (if s then TooLong else if t then Line else TooLarge) → ⊥
neither true t h e = cc
neither false true h e = cc
neither false false h e = cc

pub long_room : (room longest : ℕ) (text : List ℕ) → TooLong ≡ reader_answer room longest text → 0 < room
long_room (suc room) longest text e = omega arith
long_room zero longest [] e = cc
long_room zero longest (b ∷ bs) e =
    let lines = first_line (b ∷ bs) in
    let z : content_within 0 lines ≤ longest = omega (arith, content_within_none lines) in
    absurd (neither (nat_lt longest (content_within 0 lines)) (nat_le (length (concat lines)) 0) (le-ltb longest (content_within 0 lines) z) e)

pub long_number : (at : Place) (old new : Reading) (before after : Option (List ℕ)) → ReaderAnswered TooLong old new before after → AreReady (lines_at at old)
    → at.line < 2 ^ 32
long_number at old new before after a r =
    let some = long_room old.room old.longest ((old.held ++ a.bytes) ++ []) (a.exact (λ e. cc) [] (λ _. refl)) in
    omega (arith, r.line, r.numbered, some)

-- how many answers a line gives
pub before_behind : (at : Place) (s : Said) (lines : ℕ) → (place_behind_said at s lines).before ≡ at.before + answers_in (said_came at.line s)
before_behind at said.Nothing lines = omega arith
before_behind at (said.Answer given) lines = refl
before_behind at (said.Stop w) lines = omega arith

pub none_brings : (c : Cluster) (old new : LineReaderAt) (before after : Option (List ℕ)) → Brings c None old new before after → told_coming c old before ≡ told_coming c new after
none_brings c old new before None b = b
none_brings c old new before (Some left) b = b
