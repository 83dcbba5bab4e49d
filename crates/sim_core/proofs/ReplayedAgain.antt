-- What `replay` writes is read again.
use Rattle.std.proofs.Common.{◌≡◌, ℕ, true, Some, List, ◌∷◌, is_none, map, refl, sym, subst, Contains}
use Rattle.std.proofs.lemmas.List.Elements.{Contains-append_right}
use Rattle.lemmas.proofs.Members.{at_head}
use Rattle.input_reading.specs.declared.results.result_lines.ResultLine.{ResultLine}
use Rattle.live_run.specs.Ends.{IsCutText, IsWholeText}
use Rattle.written_runs.proofs.RunsAgain.{cut_again, whole_again}
use Rattle.sim_core.specs.Replay.{IsTextOfRun, coming_behind}
use Rattle.sim_core.specs.ReplayedAgain.{IsCutRunReadAgain, IsWholeRunReadAgain}
use Rattle.sim_core.proofs.FrontRead.{front_fits, front_is_input, front_text}

module _ (input text : List ℕ) where
  pub whole_read_again : IsTextOfRun IsWholeText input text → IsWholeRunReadAgain input text
  whole_read_again run =
      let w = run.says in
      let front = front_text input run.bytes run.next run.room run.begun.is run.head run.begun.says in
      let read = front_is_input input run.bytes run.next run.room run.begun.is run.head run.begun.says in
      record {
        bytes = run.bytes;
        head = run.head;
        next = run.next;
        room = run.room;
        begun = run.begun;
        says = record { written = w; again = whole_again front _ read true w.run.journal_now w.lines w.run.run };
      }

  pub cut_read_again : IsTextOfRun IsCutText input text → IsCutRunReadAgain input text
  cut_read_again run =
      let w = run.says in
      let come = coming_behind input run.bytes run.head run.next run.room in
      let front = front_text input run.bytes run.next run.room run.begun.is run.head run.begun.says in
      let read = front_is_input input run.bytes run.next run.room run.begun.is run.head run.begun.says in
      let fits = front_fits input run.bytes run.next run.room run.begun.is run.head run.begun.says in
      let there : Contains come.results w.result
      = subst (λ (results : List ResultLine). Contains results w.result) (sym w.run.parts)
      (Contains-append_right w.given (w.result ∷ w.run.behind) w.result (at_head w.result w.run.behind w.result refl)) in
      record {
        bytes = run.bytes;
        head = run.head;
        next = run.next;
        room = run.room;
        begun = run.begun;
        says = record {
          written = w;
          again = cut_again front _ read (is_none come.stop) fits w.result there w.run.journal_now (Some (map (λ (r : ResultLine). r.answer) w.run.behind)) w.lines w.run.run;
        };
      }
