-- What is to come behind a head is the same by the input and by its reader.
use Rattle.std.proofs.Common.{◌≡◌, ℕ, List, ◌++◌, drop, length, sym, ap, ◌∙◌}
use Rattle.std.proofs.Math.Seq.{drop-append_seam}
use Rattle.cluster_io.specs.Readings.{Reading}
use Rattle.cluster_types.specs.Journals.{moment_of}
use Rattle.crm_lex.specs.RawLines.{raw_lines}
use Rattle.input_reading.specs.declared.input.reading.Head.{Head}
use Rattle.input_reading.specs.Reading.{longest_line}
use Rattle.live_run.specs.AnswersToCome.{coming}
use Rattle.live_run.specs.RunReached.{results_behind}
use Rattle.live_run.specs.declared.place.Place.{Place}
use Rattle.sim_core.specs.Replay.{coming_behind}

pub same_coming : (input bytes unread : List ℕ) (head : Head) (reading : Reading) → reading.longest ≡ longest_line → input ≡ bytes ++ (reading.held ++ unread)
    → results_behind head.cluster head.journal reading unread ≡ coming_behind input bytes head reading.next reading.room
same_coming input bytes unread head reading longest parts =
    let at : Place = record { moment = moment_of head.journal.events; before = 0; line = reading.next } in
    let same : reading.held ++ unread ≡ drop (length bytes) input
    = sym (drop-append_seam bytes (reading.held ++ unread)) ∙ ap (λ (t : List ℕ). drop (length bytes) t) (sym parts) in
    ap (λ (n : ℕ). coming head.cluster n reading.room at (raw_lines (reading.held ++ unread))) longest
    ∙ ap (λ (t : List ℕ). coming head.cluster 1048576 reading.room at (raw_lines t)) same
