-- A result line that is held is read without any byte more.
use Rattle.std.proofs.Common.{◌≡◌, ◌≢◌, ℕ, true, false, Option, Some, None, Result, Ok, Err, List, [], ◌∷◌, ◌++◌, append-nil, refl, ap, sym, ◌∙◌}
use Rattle.cluster_io.specs.NextLine.{first_line, holds_line}
use Rattle.cluster_io.specs.Readings.{CameBy, ReaderAnswered, Reading, more_came, nothing_came}
use Rattle.cluster_io.specs.declared.line_step.LineStep.TheVariants as step
use Rattle.cluster_types.specs.declared.cluster.Cluster.{Cluster}
use Rattle.cluster_types.specs.declared.journal.Answer.{Answer}
use Rattle.crm_lex.specs.LogicalLines.{faults, line_text}
use Rattle.crm_lex.specs.RawLines.{physical_lines}
use Rattle.crm_lex.specs.Reading.{first_lex_fault}
use Rattle.crm_lex.specs.Words.{words_of}
use Rattle.crm_lex.specs.declared.fault.LexCause.{LexCause}
use Rattle.faults.specs.Reading.{unless}
use Rattle.faults.specs.declared.fault.Fault.{Fault}
use Rattle.input_reading.specs.declared.history_fault.ResultCause.{ResultCause}
use Rattle.live_run.specs.AnswersAtHand.{HoldsResultLine}
use Rattle.live_run.specs.Inner.ComingSteps.{said_came}
use Rattle.live_run.specs.LineSays.{answer_says, due_line_says, read_says, words_say}
use Rattle.live_run.specs.declared.place.Place.{Place}
use Rattle.live_run.specs.declared.line_saying.Said.{Said}
use Rattle.live_run.specs.declared.line_saying.Said.TheVariants as said

came_none : (held bytes : List ℕ) → CameBy held bytes → holds_line held ≡ true → bytes ≡ []
came_none held _ nothing_came h = refl
came_none held _ (more_came earlier last bytes came unheld some few is) h =
    let none = came_none held earlier came h in
    let wrong : holds_line held ≡ false = sym (ap holds_line (ap (λ (t : List ℕ). held ++ t) none ∙ append-nil held)) ∙ unheld in
    let f : ⊥ = cc in absurd f

answer_said : (read : Result Answer (Fault ResultCause)) → answer_says read ≡ said.Nothing → ⊥
answer_said (Ok given) e = cc
answer_said (Err fault) e = cc

words_said : (c : Cluster) (at : Place) (words : List (List ℕ)) → words ≢ [] → words_say c at words ≡ said.Nothing → ⊥
words_said c at [] some e = some refl
words_said c at (word ∷ words) some e = answer_said _ e

read_said : (c : Cluster) (at : Place) (fault : Option (Fault LexCause)) (words : List (List ℕ)) → words ≢ [] → read_says c at (unless fault words) ≡ said.Nothing → ⊥
read_said c at None words some e = words_said c at words some e
read_said c at (Some fault) words some e = cc

none_said : (line : ℕ) (s : Said) → said_came line s ≡ None → s ≡ said.Nothing
none_said line said.Nothing e = refl
none_said line (said.Answer given) e = cc
none_said line (said.Stop why) e = cc

module _ (old new : Reading) (before after : Option (List ℕ)) (h : HoldsResultLine old.held) where
  same_held : (bytes : List ℕ) → CameBy old.held bytes → old.held ++ bytes ≡ old.held
  same_held bytes came = ap (λ (t : List ℕ). old.held ++ t) (came_none old.held bytes came h.whole) ∙ append-nil old.held

  -- it says something
  pub line_says_some : (c : Cluster) (at : Place) (line : ℕ) → ReaderAnswered step.Line old new before after → said_came line (due_line_says c at new.raw) ≢ None
  line_says_some c at line a e =
      let lines : physical_lines new.raw ≡ first_line old.held
      = sym (sym (ap first_line (append-nil (old.held ++ a.bytes) ∙ same_held a.bytes a.needed)) ∙ a.leaves.first [] (λ ended. refl)) in
      read_said c at (first_lex_fault (faults at.line (physical_lines new.raw))) (words_of (line_text (physical_lines new.raw)))
      (λ none. h.has_words (sym (ap (λ (ls : List (List ℕ)). words_of (line_text ls)) lines) ∙ none))
      (none_said line (due_line_says c at new.raw) e)

  -- and the source isn't read
  pub never_fails : ReaderAnswered step.Failed old new before after → ⊥
  never_fails a =
      let wrong : holds_line old.held ≡ false = sym (ap holds_line (same_held a.bytes a.needed)) ∙ a.leaves.1 in
      let whole = h.whole in
      let f : ⊥ = cc in f
