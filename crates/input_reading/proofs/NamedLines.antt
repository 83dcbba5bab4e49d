-- What is read of the lines of a run names a rule, if it does, by a name.
use Rattle.std.proofs.Common.{◌≡◌, ℕ, Bool, true, false, List, [], ◌∷◌, ◌++◌, codes, refl}
use Rattle.std.specs.Prelude.{Some, None, Result, Ok, Err, IfOk, if◌then◌else◌}
use Rattle.std.specs.Option.{ok_or}
use Rattle.cluster_types.specs.declared.cluster.Cluster.{Cluster}
use Rattle.cluster_types.specs.declared.journal.Action.{Action}
use Rattle.cluster_types.specs.declared.journal.Answer.{Answer}
use Rattle.cluster_types.specs.declared.placement.NoReason.{NoReason}
use Rattle.cluster_types.specs.declared.placement.NoReason.TheVariants.{NoCopies, Stopped, OnFail, StopAll, NoQuorum, NoNode, Held}
use Rattle.cluster_types.specs.declared.placement.Pin.{Pin}
use Rattle.cluster_types.specs.declared.placement.Target.{Target}
use Rattle.cluster_types.specs.declared.run.RunLine.{RunLine}
use Rattle.cluster_types.specs.declared.run.RunLine.TheVariants as line
use Rattle.crm_lex.specs.declared.line.Line.{Line}
use Rattle.crm_lex.specs.Names.{is, is_name}
use Rattle.faults.specs.declared.fault.Fault.{Fault}
use Rattle.faults.specs.Reading.{◌>>=◌, on_line}
use Rattle.input_reading.specs.declared.words.word_cause.WordCause.{WordCause}
use Rattle.input_reading.specs.declared.words.word_cause.WordCause.TheVariants.{BadValue}
use Rattle.input_reading.specs.WordPlaces.{WordsOfLine, line_end_at, leaf_at, node_at, number_at, word_at}
use Rattle.input_reading.specs.declared.run.text.RunTextLine.{RunTextLine}
use Rattle.input_reading.specs.declared.run.words.ActionWord.{ActionWord}
use Rattle.input_reading.specs.declared.run.words.LineWord.{LineWord}
use Rattle.input_reading.specs.declared.run.words.LineWord.TheVariants as word
use Rattle.input_reading.specs.LineWords.{action_word_at, id_at, line_word, pin_at, reason_of, target_at}
use Rattle.input_reading.specs.RunReading.{aborted_line, action_as, answer_line, begin_line, complete_line, held_line, lacking_line, line_as, line_of_words, read_run_lines, number_alone, pinned_line, plain_line, target_line, text_line, transition_line, unexpected_line, with_run_lines}
use Rattle.input_reading.specs.Results.{answer_of}
use Rattle.input_reading.specs.PrintedLines.{AreNamed, IsLineNamed}

-- a number alone behind the first word
number_then : (make : ℕ → RunLine) → ((k : ℕ) → IsLineNamed (make k)) → (read : Result ℕ WordCause) → IfOk (read >>= (λ k. Ok (make k))) IsLineNamed
number_then make h (Ok k) = h k
number_then make h (Err e) = tt

named_transition : (words : WordsOfLine) → IfOk (transition_line words) IsLineNamed
unfolding transition_line
named_transition words = number_then (λ k. line.Transition k) (λ k. tt) (number_alone words)

named_complete : (words : WordsOfLine) → IfOk (complete_line words) IsLineNamed
unfolding complete_line
named_complete words = number_then (λ k. line.Complete k) (λ k. tt) (number_alone words)

named_aborted : (words : WordsOfLine) → IfOk (aborted_line words) IsLineNamed
unfolding aborted_line
named_aborted words = number_then (λ k. line.Aborted k) (λ k. tt) (number_alone words)

named_unexpected : (words : WordsOfLine) → IfOk (unexpected_line words) IsLineNamed
unfolding unexpected_line
named_unexpected words = number_then (λ k. line.Unexpected k) (λ k. tt) (number_alone words)

-- a rule is read as a name
id_then : (leaf : ℕ) (word : Result (List ℕ) WordCause) (end : Result (Unit {0}) WordCause)
    → IfOk ((word >>= (λ text. if is_name text then Ok text else Err BadValue)) >>= (λ id. end >>= (λ e. Ok (line.Lacking leaf (Held id))))) IsLineNamed
id_then leaf (Err e) end = tt
id_then leaf (Ok text) end = by (is_name text) refl end where
  by : (b : Bool) → is_name text ≡ b → (end : Result (Unit {0}) WordCause)
      → IfOk ((if is_name text then Ok text else Err BadValue) >>= (λ id. end >>= (λ e. Ok (line.Lacking leaf (Held id))))) IsLineNamed
  by true e (Ok f) = rw e e
  by true e (Err f) = rw e tt
  by false e end = rw e tt

named_held : (leaf : ℕ) (words : WordsOfLine) → IfOk (held_line leaf words) IsLineNamed
unfolding held_line id_at
named_held leaf words = id_then leaf (word_at 3 words) (line_end_at 4 words)

-- no other reason names a rule
abbrev NamesNone : NoReason → Type 0
NamesNone reason = (leaf : ℕ) → IsLineNamed (line.Lacking leaf reason)

reasons_name_none : (a b c d e f : Bool) → IfOk (ok_or (if a then Some NoCopies else if b then Some Stopped else if c then Some OnFail else if d then Some StopAll
    else if e then Some NoQuorum else if f then Some NoNode else None) BadValue) NamesNone
reasons_name_none true b c d e f = λ leaf. tt
reasons_name_none false true c d e f = λ leaf. tt
reasons_name_none false false true d e f = λ leaf. tt
reasons_name_none false false false true e f = λ leaf. tt
reasons_name_none false false false false true f = λ leaf. tt
reasons_name_none false false false false false true = λ leaf. tt
reasons_name_none false false false false false false = tt

plain_then : (leaf : ℕ) (reason : Result NoReason WordCause) (end : Result (Unit {0}) WordCause) → IfOk reason NamesNone
    → IfOk (reason >>= (λ reason. end >>= (λ e. Ok (line.Lacking leaf reason)))) IsLineNamed
plain_then leaf (Err e) end h = tt
plain_then leaf (Ok reason) (Err e) h = tt
plain_then leaf (Ok reason) (Ok e) h = h leaf

named_plain : (leaf : ℕ) (text : List ℕ) (words : WordsOfLine) → IfOk (plain_line leaf text words) IsLineNamed
unfolding plain_line reason_of
named_plain leaf text words =
    plain_then leaf (ok_or (reason_of text) BadValue) (line_end_at 3 words)
    (reasons_name_none (is text (codes "NoCopies")) (is text (codes "Stopped")) (is text (codes "OnFail")) (is text (codes "StopAll")) (is text (codes "NoQuorum")) (is text (codes "NoNode")))

module _ (c : Cluster) where
  pinned_then : (leaf : Result ℕ WordCause) (pin : Result Pin WordCause) (end : Result (Unit {0}) WordCause)
      → IfOk (leaf >>= (λ r. pin >>= (λ p. end >>= (λ e. Ok (line.Pinned r p))))) IsLineNamed
  pinned_then (Err e) pin end = tt
  pinned_then (Ok r) (Err e) end = tt
  pinned_then (Ok r) (Ok p) (Err e) = tt
  pinned_then (Ok r) (Ok p) (Ok e) = tt

  named_pinned : (words : WordsOfLine) → IfOk (pinned_line c words) IsLineNamed
  unfolding pinned_line
  named_pinned words = pinned_then (leaf_at c 1 words) (pin_at 2 words) (line_end_at 3 words)

  target_then : (leaf node : Result ℕ WordCause) (goal : Result Target WordCause) (end : Result (Unit {0}) WordCause)
      → IfOk (leaf >>= (λ r. node >>= (λ n. goal >>= (λ t. end >>= (λ e. Ok (line.Goal r n t)))))) IsLineNamed
  target_then (Err e) node goal end = tt
  target_then (Ok r) (Err e) goal end = tt
  target_then (Ok r) (Ok n) (Err e) end = tt
  target_then (Ok r) (Ok n) (Ok t) (Err e) = tt
  target_then (Ok r) (Ok n) (Ok t) (Ok e) = tt

  named_target : (words : WordsOfLine) → IfOk (target_line c words) IsLineNamed
  unfolding target_line
  named_target words = target_then (leaf_at c 1 words) (node_at c 2 words) (target_at 3 words) (line_end_at 4 words)

  begin_then : (number : Result ℕ WordCause) (form : Result ActionWord WordCause) (what : ActionWord → Result Action WordCause)
      → IfOk (number >>= (λ k. form >>= (λ w. what w >>= (λ a. Ok (line.Begin k a))))) IsLineNamed
  begin_then (Err e) form what = tt
  begin_then (Ok k) (Err e) what = tt
  begin_then (Ok k) (Ok w) what = by (what w) where
    by : (a : Result Action WordCause) → IfOk (a >>= (λ a. Ok (line.Begin k a))) IsLineNamed
    by (Ok a) = tt
    by (Err e) = tt

  named_begin : (words : WordsOfLine) → IfOk (begin_line c words) IsLineNamed
  unfolding begin_line
  named_begin words = begin_then (number_at 1 words) (action_word_at 2 words) (λ form. action_as c form words)

  answer_then : (given : Result Answer WordCause) → IfOk (given >>= (λ a. Ok (line.Taken a))) IsLineNamed
  answer_then (Ok a) = tt
  answer_then (Err e) = tt

  named_answer : (words : WordsOfLine) → IfOk (answer_line c words) IsLineNamed
  unfolding answer_line
  named_answer words = answer_then (answer_of c 0 words)

  lacking_then : (words : WordsOfLine) (leaf : Result ℕ WordCause) (word : Result (List ℕ) WordCause)
      → IfOk (leaf >>= (λ r. word >>= (λ text. if is text (codes "Held") then held_line r words else plain_line r text words))) IsLineNamed
  lacking_then words (Err e) word = tt
  lacking_then words (Ok r) (Err e) = tt
  lacking_then words (Ok r) (Ok text) = by (is text (codes "Held")) where
    by : (b : Bool) → IfOk (if b then held_line r words else plain_line r text words) IsLineNamed
    by true = named_held r words
    by false = named_plain r text words

  named_lacking : (words : WordsOfLine) → IfOk (lacking_line c words) IsLineNamed
  unfolding lacking_line
  named_lacking words = lacking_then words (leaf_at c 1 words) (word_at 2 words)

  named_form : (form : LineWord) (words : WordsOfLine) → IfOk (line_as c form words) IsLineNamed
  named_form word.Transition words = named_transition words
  named_form word.Pinned words = named_pinned words
  named_form word.Target words = named_target words
  named_form word.Lacking words = named_lacking words
  named_form word.Begin words = named_begin words
  named_form word.Complete words = named_complete words
  named_form word.Aborted words = named_aborted words
  named_form word.Unexpected words = named_unexpected words
  named_form word.Answer words = named_answer words

  first_then : (words : WordsOfLine) (first : Result (List ℕ) WordCause) → IfOk (first >>= (λ text. line_as c (line_word text) words)) IsLineNamed
  first_then words (Err e) = tt
  first_then words (Ok text) = named_form (line_word text) words

  named_words : (words : WordsOfLine) → IfOk (line_of_words c words) IsLineNamed
  unfolding line_of_words
  named_words words = first_then words (word_at 0 words)

  named_text : (at : Line) → IfOk (text_line c at) (λ (l : RunTextLine). IsLineNamed l.what)
  named_text at = by (line_of_words c at.words) (named_words at.words) where
    by : (read : Result RunLine WordCause) → IfOk read IsLineNamed
        → IfOk (on_line at.line read >>= (λ (what : RunLine). Ok (record { line = at.line; what = what }))) (λ (l : RunTextLine). IsLineNamed l.what)
    by (Ok what) h = h
    by (Err e) h = tt

  more_named : (lines : List RunTextLine) (one : RunTextLine) → AreNamed lines → IsLineNamed one.what → AreNamed (lines ++ one ∷ [])
  more_named [] one h k = (k, tt)
  more_named (l ∷ lines) one h k = (h.0, more_named lines one h.1 k)

  named_lines : (so_far : List RunTextLine) (lines : List Line) → AreNamed so_far → IfOk (with_run_lines c so_far lines) AreNamed
  named_lines so_far [] h = h
  named_lines so_far (at ∷ lines) h = by (text_line c at) (named_text at) (λ one k. named_lines (so_far ++ one ∷ []) lines (more_named so_far one h k)) where
    by : (read : Result RunTextLine (Fault WordCause)) → IfOk read (λ (l : RunTextLine). IsLineNamed l.what)
        → ((one : RunTextLine) → IsLineNamed one.what → IfOk (with_run_lines c (so_far ++ one ∷ []) lines) AreNamed)
        → IfOk (read >>= (λ (one : RunTextLine). with_run_lines c (so_far ++ one ∷ []) lines)) AreNamed
    by (Ok one) k on = on one k
    by (Err e) k on = tt

  -- all lines that are read
  pub read_named : (lines : List Line) → IfOk (read_run_lines c lines) AreNamed
  read_named lines = named_lines [] lines tt
