-- What is found as a head says of its lines.
use Rattle.std.proofs.Common.{arith, ◌≡◌, ◌<◌, ◌≤◌, ◌+◌, ◌-◌, ℕ, Bool, true, false, if◌then◌else◌, List, [], ◌∷◌, ◌++◌, length, length-append, codes, Ok, append_assoc, append-nil, refl, sym, ap, subst, ◌∙◌}
use Rattle.std.specs.Prelude.{Some, min, nat_lt, nat_le}
use Rattle.std.specs.List.{concat, list_any}
use Rattle.std.proofs.lemmas.Bool.Decides.{nat_tests}
use Rattle.std.proofs.lemmas.List.Sums.{sum_by-append}
use Rattle.cluster_io.specs.NextLine.{content_within, line_answer}
use Rattle.cluster_io.specs.declared.line_step.LineStep.{LineStep}
use Rattle.cluster_io.specs.declared.line_step.LineStep.TheVariants as step
use Rattle.crm_lex.specs.LogicalLines.{content_length, faults, line_text}
use Rattle.crm_lex.specs.Names.{is}
use Rattle.crm_lex.specs.RawLines.{content, physical_lines}
use Rattle.crm_lex.specs.Reading.{faults_from, first_lex_fault, reads_line, row, rows_from}
use Rattle.crm_lex.specs.Words.{words_of}
use Rattle.crm_lex.specs.declared.fault.LexCause.{LexCause}
use Rattle.crm_lex.specs.declared.fault.LexCause.TheVariants.{LineTooLong}
use Rattle.crm_lex.specs.declared.line.Line.{Line}
use Rattle.crm_lex.proofs.Pieces.{AllOwn}
use Rattle.faults.specs.declared.fault.Fault.{Fault}
use Rattle.faults.specs.declared.fault.Fault.TheVariants.{At, NoMemory}
use Rattle.faults.specs.Reading.{unless}
use Rattle.input_reading.specs.declared.input.cause.InputCause.{InputCause}
use Rattle.input_reading.specs.declared.input.cause.InputCause.TheVariants.{Words}
use Rattle.input_reading.proofs.Faults.{StandsAt, first_group}
use Rattle.live_run.specs.Heads as heads
use Rattle.crm_lex.proofs.FaultOrder.{count_lines}
use Rattle.live_run.specs.SourceFollowed.{bytes_of}
use Rattle.live_run.proofs.LinesJoined.{none_first}

-- a line begins the results
abbrev pub results_row : Line → Bool
results_row line = heads.begins_results line.words

-- how a head ends: with the last of all lines, or with the one that begins the results
pub data EndsHead (rows : List Line) (more : List (List (List ℕ))) : Type 0 where
  with_all : list_any results_row rows ≡ false → more ≡ [] → EndsHead rows more
  at_results : (front : List Line) (mark : Line) → rows ≡ front ++ mark ∷ [] → list_any results_row front ≡ false → results_row mark ≡ true → EndsHead rows more

-- a head of the first lines, which have no fault
pub record HasHead (before : List ℕ) (room n : ℕ) (groups : List (List (List ℕ))) (text : List ℕ) (next left : ℕ) : Type 0 where
  pub first : List (List (List ℕ))
  pub more : List (List (List ℕ))
  pub parts : groups ≡ first ++ more
  pub text_is : text ≡ before ++ bytes_of first
  pub number : next ≡ n + count_lines first
  pub room_is : left ≡ room - length (bytes_of first)
  pub within : length (bytes_of first) ≤ room
  pub clean : faults_from n first ≡ []
  pub ends : EndsHead (rows_from n first) more

-- lines can't all be cut into words: this is their first fault
pub record LackWords (n : ℕ) (groups : List (List (List ℕ))) (line : ℕ) (why : InputCause) : Type 0 where
  pub lack : LexCause
  pub is_lack : why ≡ Words lack
  pub first : first_lex_fault (faults_from n groups) ≡ Some (At line lack)

-- what is found says: a head; the first fault of the lines; or that they don't lie within the limit
abbrev pub SaysHead : List ℕ → ℕ → ℕ → List (List (List ℕ)) → heads.HeadFound → Type 0
SaysHead before room n groups (heads.taken text next left) = HasHead before room n groups text next left
SaysHead before room n groups (heads.refused line why) = LackWords n groups line why
SaysHead before room n groups heads.too_large = room < length (bytes_of groups)

short_within : (room : ℕ) (lines : List (List ℕ)) → content_within room lines ≤ content_length lines
short_within room [] = omega arith
short_within room (line ∷ lines) =
    let rest = short_within (room - length line) lines in
    let least : min room (length (content line)) ≤ length (content line) = omega arith in
    let one : content_length (line ∷ []) ≡ 0 + length (content line) = refl in
    let sum : content_length (line ∷ lines) ≡ content_length (line ∷ []) + content_length lines = sum_by-append (λ (l : List ℕ). length (content l)) (line ∷ []) lines in
    omega (arith, rest, least, sum, one)

-- what the answer to a line says of its size
abbrev pub SaysSize : ℕ → List (List ℕ) → LineStep → Type 0
SaysSize room group step.Line = length (concat group) ≤ room
SaysSize room group step.TooLong = (n : ℕ) (found : List (Fault LexCause)) → first_lex_fault (faults n group ++ found) ≡ Some (At n LineTooLong)
SaysSize room group step.TooLarge = room < length (concat group)
SaysSize room group _ = ⊥

pub size_says : (room : ℕ) (group : List (List ℕ)) → SaysSize room group (line_answer room 1048576 group)
size_says room group = by (nat_lt 1048576 (content_within room group)) (nat_le (length (concat group)) room) refl refl
  where
    too_long : (group : List (List ℕ)) → nat_lt 1048576 (content_within room group) ≡ true → (n : ℕ) (found : List (Fault LexCause)) → first_lex_fault (faults n group ++ found) ≡ Some (At n LineTooLong)
    too_long [] long n found = absurd (let f : ⊥ = cc in f)
    too_long (line ∷ lines) long n found =
        let least = short_within room (line ∷ lines) in
        let over : nat_lt 1048576 (content_length (line ∷ lines)) ≡ true = grind (arith, nat_tests) in
        rw over refl

    by : (long within : Bool) → nat_lt 1048576 (content_within room group) ≡ long → nat_le (length (concat group)) room ≡ within
        → SaysSize room group (if long then step.TooLong else if within then step.Line else step.TooLarge)
    by true within long fits = too_long group long
    by false true long fits = grind (arith, nat_tests)
    by false false long fits = grind (arith, nat_tests)

-- what is read of a logical line, by its faults
pub line_read : (n : ℕ) (group : List (List ℕ)) → physical_lines (concat group) ≡ group → reads_line n (concat group) ≡ unless (first_lex_fault (faults n group)) (words_of (line_text group))
line_read n group own = ap (λ (lines : List (List ℕ)). unless (first_lex_fault (faults n lines)) (words_of (line_text lines))) own

-- the first fault of lines behind others that have none
pub fault_behind : (found more : List (Fault LexCause)) (line : ℕ) (why : LexCause) → found ≡ [] → first_lex_fault more ≡ Some (At line why) → first_lex_fault (found ++ more) ≡ Some (At line why)
fault_behind found more line why none first = rw none first

module _ (before : List ℕ) (room n : ℕ) (group : List (List ℕ)) (groups : List (List (List ℕ))) where
  -- what is found in the lines behind the first
  abbrev Behind : heads.HeadFound → Type 0
  Behind = SaysHead (before ++ concat group) (room - length (concat group)) (n + length group) groups

  no_row : (words : List (List ℕ)) (rows : List Line) → heads.begins_results words ≡ false → list_any results_row rows ≡ false → list_any results_row (row n words ++ rows) ≡ false
  no_row [] rows plain none = none
  no_row (word ∷ words) rows plain none = rw (plain, none) refl

  ends_behind : (first more : List (List (List ℕ))) → heads.begins_results (words_of (line_text group)) ≡ false → EndsHead (rows_from (n + length group) first) more → EndsHead (rows_from n (group ∷ first)) more
  ends_behind first more plain (with_all none end) = with_all (no_row (words_of (line_text group)) (rows_from (n + length group) first) plain none) end
  ends_behind first more plain (at_results front mark is none there) =
      let here = row n (words_of (line_text group)) in
      at_results (here ++ front) mark (ap (λ (rows : List Line). here ++ rows) is ∙ sym (append_assoc here front (mark ∷ []))) (no_row (words_of (line_text group)) front plain none) there

  goes_on : (verdict : heads.HeadFound) → length (concat group) ≤ room → faults n group ≡ [] → heads.begins_results (words_of (line_text group)) ≡ false → Behind verdict → SaysHead before room n (group ∷ groups) verdict
  goes_on (heads.taken text next left) fits clean plain h =
      let size = length-append (concat group) (bytes_of h.first) in
      let number = h.number in
      let space = h.room_is in
      let rest = h.within in
      record {
        first = group ∷ h.first;
        more = h.more;
        parts = ap (λ (gs : List (List (List ℕ))). group ∷ gs) h.parts;
        text_is = h.text_is ∙ append_assoc before (concat group) (bytes_of h.first);
        number = omega (arith, number);
        room_is = omega (arith, space, size);
        within = omega (arith, fits, rest, size);
        clean = none_first (faults n group) (faults_from (n + length group) h.first) clean h.clean;
        ends = ends_behind h.first h.more plain h.ends;
      }
  goes_on (heads.refused line why) fits clean plain h =
      record { lack = h.lack; is_lack = h.is_lack; first = fault_behind (faults n group) (faults_from (n + length group) groups) line h.lack clean h.first }
  goes_on heads.too_large fits clean plain h = let size = length-append (concat group) (bytes_of groups) in omega (arith, h, size)

  -- by the words of the first line
  abbrev With : heads.HeadFound
  With = heads.taken (before ++ concat group) (n + length group) (room - length (concat group))

  of_words : (verdict : heads.HeadFound) (words : List (List ℕ)) → length (concat group) ≤ room → words_of (line_text group) ≡ words → faults n group ≡ [] → Behind verdict
      → SaysHead before room n (group ∷ groups) (heads.found_by (heads.line_by_words (Ok words)) With verdict)
  of_words verdict [] fits same clean h = goes_on verdict fits clean (rw same refl) h
  of_words verdict (word ∷ words) fits same clean h = by (is word (codes "%results")) refl
    where
      by : (b : Bool) → is word (codes "%results") ≡ b → SaysHead before room n (group ∷ groups) (heads.found_by (if b then heads.ends_head else heads.goes_on_behind) With verdict)
      by true there =
          let bytes : concat group ++ [] ≡ concat group = append-nil (concat group) in
          record {
            first = group ∷ [];
            more = groups;
            parts = refl;
            text_is = ap (λ (bs : List ℕ). before ++ bs) (sym bytes);
            number = omega arith;
            room_is = ap (λ (bs : List ℕ). room - length bs) (sym bytes);
            within = subst (λ (bs : List ℕ). length bs ≤ room) (sym bytes) fits;
            clean = none_first (faults n group) [] clean refl;
            ends = at_results [] (record { line = n; words = word ∷ words }) (rw same refl) refl there;
          }
      by false plain = goes_on verdict fits clean (rw same plain) h

  of_faults : (verdict : heads.HeadFound) (found : List (Fault LexCause)) → length (concat group) ≤ room → faults n group ≡ found → Behind verdict
      → SaysHead before room n (group ∷ groups) (heads.found_by (heads.line_by_words (unless (first_lex_fault found) (words_of (line_text group)))) With verdict)
  of_faults verdict [] fits clean h = of_words verdict (words_of (line_text group)) fits refl clean h
  of_faults verdict (At line why ∷ found) fits at h = record { lack = why; is_lack = refl; first = rw at refl }
  of_faults verdict (NoMemory ∷ found) fits at h = absurd (subst (λ (faults : List (Fault LexCause)). StandsAt (first_lex_fault faults)) at (first_group n group))

  of_size : (verdict : heads.HeadFound) (size : LineStep) → SaysSize room group size → physical_lines (concat group) ≡ group → Behind verdict
      → SaysHead before room n (group ∷ groups) (heads.found_by (heads.line_by_size size n (concat group)) With verdict)
  of_size verdict step.Line s own h =
      subst (λ (read : _). SaysHead before room n (group ∷ groups) (heads.found_by (heads.line_by_words read) With verdict)) (sym (line_read n group own))
      (of_faults verdict (faults n group) s refl h)
  of_size verdict step.TooLong s own h = record { lack = LineTooLong; is_lack = refl; first = s n (faults_from (n + length group) groups) }
  of_size verdict step.TooLarge s own h = let size = length-append (concat group) (bytes_of groups) in omega (arith, s, size)
  of_size verdict step.End s own h = absurd s
  of_size verdict step.Failed s own h = absurd s

pub head_is : (before : List ℕ) (room n : ℕ) (groups : List (List (List ℕ))) → AllOwn groups → SaysHead before room n groups (heads.head_found 1048576 room n before groups)
head_is before room n [] own = record {
  first = [];
  more = [];
  parts = refl;
  text_is = sym (append-nil before);
  number = omega arith;
  room_is = omega arith;
  within = omega arith;
  clean = refl;
  ends = with_all refl refl;
}
head_is before room n (group ∷ groups) own =
    of_size before room n group groups (heads.head_found 1048576 (room - length (concat group)) (n + length group) (before ++ concat group) groups) (line_answer room 1048576 group)
    (size_says room group) own.0 (head_is (before ++ concat group) (room - length (concat group)) (n + length group) groups own.1)
