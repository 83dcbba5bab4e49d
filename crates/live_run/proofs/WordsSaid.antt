-- What a line says, by the words that were read of it.
use Rattle.std.proofs.Common.{◌≡◌, ℕ, Result, Ok, Err, List}
use Rattle.cluster_types.specs.declared.cluster.Cluster.{Cluster}
use Rattle.crm_lex.specs.Reading.{Kept, kept, kept_of, without_words}
use Rattle.crm_lex.specs.declared.fault.LexCause.{LexCause}
use Rattle.faults.specs.declared.fault.Fault.{Fault}
use Rattle.live_run.specs.LineSays.{read_says, refused_for, words_say}
use Rattle.live_run.specs.declared.line_stop.LineCause.TheVariants as cause
use Rattle.live_run.specs.declared.place.Place.{Place}
use Rattle.live_run.specs.declared.line_saying.Said.{Said}
use Rattle.live_run.specs.declared.line_saying.Said.TheVariants as said

pub words_read : (c : Cluster) (at : Place) (read : Result (List (List ℕ)) (Fault LexCause)) (words : Kept) (s : Said) → without_words read ≡ Ok tt
    → words ≡ kept_of read → ((all : List (List ℕ)) → words ≡ kept all → s ≡ words_say c at all) → s ≡ read_says c at read
words_read c at (Ok all) words s ok is says = says all is
words_read c at (Err fault) words s ok is says = cc

pub words_refused : (c : Cluster) (at : Place) (read : Result (List (List ℕ)) (Fault LexCause)) (fault : Fault LexCause) → without_words read ≡ Err fault
    → said.Stop (refused_for cause.Words fault) ≡ read_says c at read
words_refused c at (Ok all) fault e = cc
words_refused c at (Err found) fault e = cc
