-- What one answer of a reader of lines brings of the head of an input.
use Rattle.std.proofs.Common.{◌≡◌, ℕ, ◌+◌, ◌-◌, ◌^◌, ◌≤◌, ◌<◌, Bool, true, false, if◌then◌else◌, Option, Some, None, Result, Ok, Err, List, [], ◌∷◌, ◌++◌, length, length-append, option_map, append_assoc, refl, ap, subst, sym, ◌∙◌, arith}
use Rattle.std.specs.Bool.{then_some}
use Rattle.std.specs.List.{concat}
use Rattle.cluster_io.specs.NextLine.{reader_answer, first_line_of, line_answer}
use Rattle.cluster_io.specs.Readings.{Reading, ReaderAnswered}
use Rattle.cluster_io.specs.declared.line_step.LineStep.{LineStep}
use Rattle.cluster_io.specs.declared.line_step.LineStep.TheVariants.{Line, End, TooLong, TooLarge, Failed}
use Rattle.cluster_io.proofs.LineAnswers.{answer_some}
use Rattle.crm_lex.specs.RawLines.{physical_lines, raw_lines}
use Rattle.crm_lex.specs.Reading.{Kept, kept, kept_of, reads_line, without_words}
use Rattle.crm_lex.specs.declared.fault.LexCause.{LexCause}
use Rattle.crm_lex.specs.declared.fault.LexCause.TheVariants.{LineTooLong}
use Rattle.crm_lex.proofs.PhysicalLines.{concat-lines, few_lines}
use Rattle.faults.specs.declared.fault.Fault.{Fault}
use Rattle.input_reading.specs.declared.input.cause.InputCause.TheVariants.{Words}
use Rattle.live_run.specs.SourceFollowed.{bytes_of, count_lines}
use Rattle.live_run.specs.Heads.{AllGoOnBehind, CanGoOn, HeadFound, KeepsBytes, LineOfHead, begins_results, ends_head, goes_on_behind, has_bad_words, head_behind, head_found, head_line_behind, line_by_size, line_by_words, line_of_head, passes_limit, so_far, refused, taken, too_large, found_by}
use Rattle.live_run.specs.Inner.HeadSteps.{BringsHead, came_to, lacks_memory, WhileWell}
use Rattle.live_run.specs.declared.head.HeadStop.{HeadStop}
use Rattle.live_run.specs.declared.head.HeadStop.TheVariants as stop
use Rattle.live_run.proofs.Bringing.{handed_answer, handed_cut, long_room, longest_is, next_is, numbers_fit, room_is, some_if, stop_is}
use Rattle.live_run.proofs.Cuts.{cut_of}

-- what the words say that were read of a line
pub words_said : (read : Result (List (List ℕ)) (Fault LexCause)) (words : Kept) (ends : Bool) (came : Option (Result (Unit {0}) HeadStop))
    → (done : Unit {0}) → without_words read ≡ Ok done → words ≡ kept_of read → ((all : List (List ℕ)) → words ≡ kept all → ends ≡ begins_results all)
    → came ≡ then_some ends (Ok tt) → (text : List ℕ) (reading : Reading) (others : HeadFound)
    → came_to came text reading others ≡ found_by (line_by_words read) (taken text reading.next reading.room) others
words_said (Ok all) words ends came done ok is begins by text reading others =
    ap (λ (k : Option (Result (Unit {0}) HeadStop)). came_to k text reading others) by ∙ split ends (begins all is)
  where
    split : (e : Bool) → e ≡ begins_results all → came_to (then_some e (Ok tt)) text reading others
        ≡ found_by (if begins_results all then ends_head else goes_on_behind) (taken text reading.next reading.room) others
    split true h = ap (λ (t : Bool). found_by (if t then ends_head else goes_on_behind) (taken text reading.next reading.room) others) h
    split false h = ap (λ (t : Bool). found_by (if t then ends_head else goes_on_behind) (taken text reading.next reading.room) others) h
words_said (Err fault) words ends came done ok is begins by text reading others = cc

-- what a line says that is handed out
pub line_is : (longest room n : ℕ) (raw : List ℕ) → line_answer room longest (physical_lines raw) ≡ Line
    → line_of_head longest room n (physical_lines raw) ≡ line_by_words (reads_line n raw)
line_is longest room n raw line =
    ap (λ s. line_by_size s n (concat (physical_lines raw))) line ∙ ap (λ (t : List ℕ). line_by_words (reads_line n t)) (concat-lines raw)

-- and then others
pub line_head : (longest room n : ℕ) (before raw : List ℕ) (more : List (List (List ℕ))) → line_answer room longest (physical_lines raw) ≡ Line
    → head_found longest room n before (physical_lines raw ∷ more)
    ≡ found_by (line_by_words (reads_line n raw)) (taken (before ++ raw) (n + length (physical_lines raw)) (room - length raw))
    (head_found longest (room - length raw) (n + length (physical_lines raw)) (before ++ raw) more)
line_head longest room n before raw more line =
    let bytes = concat (physical_lines raw) in
    let lines = length (physical_lines raw) in
    ap (λ (l : LineOfHead). found_by l (taken (before ++ bytes) (n + lines) (room - length bytes))
    (head_found longest (room - length bytes) (n + lines) (before ++ bytes) more)) (line_is longest room n raw line)
    ∙ ap (λ (t : List ℕ). found_by (line_by_words (reads_line n raw)) (taken (before ++ t) (n + lines) (room - length t))
    (head_found longest (room - length t) (n + lines) (before ++ t) more)) (concat-lines raw)

module _ (text : List ℕ) (old new : Reading) (before : Option (List ℕ)) (left : List ℕ) (a : ReaderAnswered Line old new before (Some left)) where
  -- the line, and then others
  pub line_then : (more : List (List (List ℕ))) → head_found old.longest old.room old.next text (physical_lines new.raw ∷ more)
      ≡ found_by (line_by_words (reads_line old.next new.raw)) (taken (text ++ new.raw) new.next new.room) (head_found new.longest new.room new.next (text ++ new.raw) more)
  line_then more =
      line_head old.longest old.room old.next text new.raw more (handed_answer old new before (Some left) a left a.at_end)
      ∙ rw (longest_is old new before (Some left) a, room_is old new before (Some left) a, next_is old new before (Some left) a) refl

  line_whole : head_behind text old (a.bytes ++ left)
      ≡ found_by (line_by_words (reads_line old.next new.raw)) (taken (text ++ new.raw) new.next new.room) (head_behind (text ++ new.raw) new left)
  line_whole =
      ap (λ (t : List ℕ). head_found old.longest old.room old.next text (raw_lines t)) (sym (append_assoc old.held a.bytes left))
      ∙ ap (head_found old.longest old.room old.next text) (handed_cut old new before (Some left) a left a.at_end).lines
      ∙ line_then (raw_lines (new.held ++ left))

-- a line behind which there is found what the others have is one behind which the head goes on
only_on : (says : LineOfHead) (with_it : HeadFound) → ((others : HeadFound) → others ≡ found_by says with_it others) → says ≡ goes_on_behind
only_on goes_on_behind with_it h = refl
only_on ends_head with_it h =
    let large : too_large ≡ with_it = h too_large in
    let none : taken [] 0 0 ≡ with_it = h (taken [] 0 0) in
    absurd (let f : ⊥ = cc in f)
only_on (has_bad_words line why) with_it h = let large : too_large ≡ refused line (Words why) = h too_large in absurd (let f : ⊥ = cc in f)
only_on passes_limit with_it h = let none : taken [] 0 0 ≡ too_large = h (taken [] 0 0) in absurd (let f : ⊥ = cc in f)

pub line_on : (text : List ℕ) (old new : Reading) (before : Option (List ℕ)) (left : List ℕ) → ReaderAnswered Line old new before (Some left)
    → (came : Option (Result (Unit {0}) HeadStop)) → came ≡ None
    → ((others : HeadFound) → came_to came text new others ≡ found_by (line_by_words (reads_line old.next new.raw)) (taken text new.next new.room) others)
    → line_of_head old.longest old.room old.next (physical_lines new.raw) ≡ goes_on_behind
line_on text old new before left a came none says =
    line_is old.longest old.room old.next new.raw (handed_answer old new before (Some left) a left a.at_end)
    ∙ only_on (line_by_words (reads_line old.next new.raw)) (taken text new.next new.room)
    (λ others. ap (λ (k : Option (Result (Unit {0}) HeadStop)). came_to k text new others) (sym none) ∙ says others)

-- no line is behind which it doesn't
pub none_go_on : (longest room n : ℕ) → AllGoOnBehind longest room n []
none_go_on longest room n [] after lines e = cc
none_go_on longest room n (first ∷ before) after lines e = cc

-- the last of some lines and one more, or one before it
module _ {X : Type 0} (R : Type 0) (y z : X) where
  one_apart : (before after : List X) → y ∷ [] ≡ before ++ z ∷ after → (before ≡ [] → y ≡ z → R) → R
  one_apart [] after e last = last refl (same_heads e)
    where
      same_heads : {u v : X} {us vs : List X} → u ∷ us ≡ v ∷ vs → u ≡ v
      same_heads f = cc
  one_apart (b ∷ []) after e last = cc
  one_apart (b ∷ d ∷ before) after e last = cc

  last_apart : (xs before after : List X) → xs ++ y ∷ [] ≡ before ++ z ∷ after → ((rest : List X) → xs ≡ before ++ z ∷ rest → R) → (before ≡ xs → y ≡ z → R) → R
  last_apart [] before after e among last = one_apart before after e last
  last_apart (x ∷ xs) [] after e among last = among xs (let same : x ≡ z = cc in ap (λ (t : X). t ∷ xs) same)
  last_apart (x ∷ xs) (b ∷ before) after e among last =
      let same : x ≡ b = cc in
      let others : xs ++ y ∷ [] ≡ before ++ z ∷ after = cc in
      last_apart xs before after others (λ rest f. among rest (ap (λ (t : List X). x ∷ t) f ∙ ap (λ (t : X). t ∷ (before ++ z ∷ rest)) same))
      (λ f. last (ap (λ (t : List X). b ∷ t) f ∙ ap (λ (t : X). t ∷ xs) (sym same)))

-- some lines behind which the head goes on, and one more
pub on_more : (longest room n : ℕ) (lines : List (List (List ℕ))) (line : List (List ℕ)) (left next : ℕ) → left ≡ room - length (bytes_of lines)
    → next ≡ n + count_lines lines → line_of_head longest left next line ≡ goes_on_behind → AllGoOnBehind longest room n lines
    → AllGoOnBehind longest room n (lines ++ line ∷ [])
on_more longest room n lines line left next at_room at_line says all before after one e =
    last_apart (head_line_behind longest room n before one ≡ goes_on_behind) line one lines before after e
    (λ rest f. all before rest one f)
    (λ f same.
    let here = at_room ∙ ap (λ (ls : List (List (List ℕ))). room - length (bytes_of ls)) (sym f) in
    let there = at_line ∙ ap (λ (ls : List (List (List ℕ))). n + count_lines ls) (sym f) in
    subst (λ (l : List (List ℕ)). line_of_head longest (room - length (bytes_of before)) (n + count_lines before) l ≡ goes_on_behind) same
    (subst (λ (k : ℕ). line_of_head longest (room - length (bytes_of before)) k line ≡ goes_on_behind) there
    (subst (λ (k : ℕ). line_of_head longest k next line ≡ goes_on_behind) here says)))

pub line_brings : (came : Option (Result (Unit {0}) HeadStop)) (text : List ℕ) (old new : Reading) (before after : Option (List ℕ)) → ReaderAnswered Line old new before after
    → ((others : HeadFound) → came_to came (text ++ new.raw) new others
    ≡ found_by (line_by_words (reads_line old.next new.raw)) (taken (text ++ new.raw) new.next new.room) others)
    → BringsHead came (so_far text old) (so_far (text ++ new.raw) new) before after
line_brings came text old new before None a says memory = ap (option_map (head_behind text old)) a.taken
line_brings came text old new before (Some left) a says memory =
    ap (option_map (head_behind text old)) a.taken
    ∙ ap Some (line_whole text old new before left a ∙ sym (says (head_behind (text ++ new.raw) new left)))

pub line_keeps : (text : List ℕ) (old new : Reading) (before after : Option (List ℕ)) → ReaderAnswered Line old new before after
    → KeepsBytes (so_far text old) (so_far (text ++ new.raw) new) before after
line_keeps text old new before None a = ap (option_map (λ (left : List ℕ). text ++ (old.held ++ left))) a.taken
line_keeps text old new before (Some left) a =
    ap (option_map (λ (left : List ℕ). text ++ (old.held ++ left))) a.taken
    ∙ ap (λ (t : List ℕ). Some (text ++ t))
    (sym (append_assoc old.held a.bytes left) ∙ (ap (λ (t : List ℕ). t ++ left) a.leaves.parts ∙ append_assoc new.raw new.held left))
    ∙ ap Some (sym (append_assoc text new.raw (new.held ++ left)))

pub line_can : (old new : Reading) (before after : Option (List ℕ)) → ReaderAnswered Line old new before after → CanGoOn old → CanGoOn new
line_can old new before after a can = record {
  longest = longest_is old new before after a ∙ can.longest;
  going = stop_is old new before after a ∙ can.going;
  numbered =
      let next = next_is old new before after a in
      let room = room_is old new before after a in
      let fit = numbers_fit old new before after a can.numbered in
      let in_room = a.leaves.in_room in
      let numbered = can.numbered in
      let few = few_lines new.raw in
      omega (arith, next, room, fit, in_room, numbered, few);
}

-- a line isn't given, by its size
stops_text : (longest room n : ℕ) (text bytes : List ℕ) (step : LineStep) (h : HeadFound)
    → ((raw : List ℕ) (ends goes_on : HeadFound) → found_by (line_by_size step n raw) ends goes_on ≡ h) → (step ≡ End → ⊥) → step ≡ reader_answer room longest bytes
    → head_found longest room n text (raw_lines bytes) ≡ h
stops_text longest room n text bytes step h sized other exact =
    let some = some_if step room longest bytes other exact in
    let k = cut_of bytes some in
    let answer : line_answer room longest (physical_lines k.raw) ≡ step
    = sym (exact ∙ (answer_some room longest bytes some ∙ ap (λ ls. line_answer room longest (first_line_of ls)) k.lines)) in
    let raw = concat (physical_lines k.raw) in
    let lines = length (physical_lines k.raw) in
    let ends = taken (text ++ raw) (n + lines) (room - length raw) in
    let others = head_found longest (room - length raw) (n + lines) (text ++ raw) (raw_lines k.rest) in
    ap (head_found longest room n text) k.lines ∙ (ap (λ s. found_by (line_by_size s n raw) ends others) answer ∙ sized raw ends others)

stop_brings : (text : List ℕ) (old new : Reading) (before after : Option (List ℕ)) (step : LineStep) (why : HeadStop) (h : HeadFound) → ReaderAnswered step old new before after
    → ((raw : List ℕ) (ends goes_on : HeadFound) → found_by (line_by_size step old.next raw) ends goes_on ≡ h) → ((others : HeadFound) → came_to (Some (Err why)) text new others ≡ h)
    → (step ≡ End → ⊥) → (step ≡ Failed → ⊥) → BringsHead (Some (Err why)) (so_far text old) (so_far text new) before after
stop_brings text old new before None step why h a sized came other given memory = ap (option_map (head_behind text old)) a.taken
stop_brings text old new before (Some left) step why h a sized came other given memory =
    ap (option_map (head_behind text old)) a.taken
    ∙ ap (λ (t : List ℕ). Some (head_found old.longest old.room old.next text (raw_lines t))) (sym (append_assoc old.held a.bytes left))
    ∙ ap Some (stops_text old.longest old.room old.next text ((old.held ++ a.bytes) ++ left) step h sized other (a.exact given left a.at_end)
    ∙ sym (came (head_behind text new left)))

pub too_long_brings : (text : List ℕ) (old new : Reading) (before after : Option (List ℕ)) → ReaderAnswered TooLong old new before after
    → BringsHead (Some (Err (stop.Refused old.next (Words LineTooLong)))) (so_far text old) (so_far text new) before after
too_long_brings text old new before after a =
    stop_brings text old new before after TooLong (stop.Refused old.next (Words LineTooLong)) (refused old.next (Words LineTooLong)) a (λ raw ends goes_on. refl) (λ others. refl)
    (λ e. cc) (λ e. cc)

pub too_large_brings : (text : List ℕ) (old new : Reading) (before after : Option (List ℕ)) → ReaderAnswered TooLarge old new before after
    → BringsHead (Some (Err stop.TooLarge)) (so_far text old) (so_far text new) before after
too_large_brings text old new before after a =
    stop_brings text old new before after TooLarge stop.TooLarge too_large a (λ raw ends goes_on. refl) (λ others. refl) (λ e. cc) (λ e. cc)

-- a line that is too long begins within the limit, so that its number is below 2^32
pub long_number : (old new : Reading) (before after : Option (List ℕ)) → ReaderAnswered TooLong old new before after → CanGoOn old → old.next < 2 ^ 32
long_number old new before after a can =
    let some = long_room old.room old.longest ((old.held ++ a.bytes) ++ []) (a.exact (λ e. cc) [] (λ _. refl)) in
    omega (arith, can.numbered, some)

pub next_stays : (step : LineStep) (old new : Reading) (before after : Option (List ℕ)) → ReaderAnswered step old new before after → (step ≡ Line → ⊥)
    → new.next ≡ old.next
next_stays Line old new before after a other = absurd (other refl)
next_stays End old new before after a other = ap (λ (r : Reading). r.next) a.leaves.0
next_stays TooLong old new before after a other = ap (λ (r : Reading). r.next) a.leaves
next_stays TooLarge old new before after a other = ap (λ (r : Reading). r.next) a.leaves
next_stays Failed old new before after a other = ap (λ (r : Reading). r.next) a.leaves.0

pub while_well : (came : Option (Result (Unit {0}) HeadStop)) (P : Type 0) → P → WhileWell came P
while_well None P p = p
while_well (Some (Ok end)) P p = p
while_well (Some (Err why)) P p = tt

-- what is taken into the text lies within the limit
pub line_within : (came : Option (Result (Unit {0}) HeadStop)) (text more raw : List ℕ) (room left : ℕ) → (lacks_memory came ≡ false → more ≡ text ++ raw)
    → left ≡ room - length raw → length raw ≤ room → WhileWell came (length more + left ≡ length text + room)
line_within None text more raw room left joined is fits =
    let both : length more ≡ length text + length raw = ap (λ (t : List ℕ). length t) (joined refl) ∙ length-append text raw in
    omega (arith, both, is, fits)
line_within (Some (Ok end)) text more raw room left joined is fits =
    let both : length more ≡ length text + length raw = ap (λ (t : List ℕ). length t) (joined refl) ∙ length-append text raw in
    omega (arith, both, is, fits)
line_within (Some (Err why)) text more raw room left joined is fits = tt
