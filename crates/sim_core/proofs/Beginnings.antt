-- What reading the head of an input came to, by what the reader of its lines says.
use Rattle.std.proofs.Common.{◌≡◌, ℕ, ◌-◌, Option, Some, None, List, [], ◌++◌, length, Err, IfSome, refl, sym, ap, subst, ◌∙◌, arith}
use Rattle.cluster_io.specs.NextLine.{IsUndecided}
use Rattle.cluster_io.specs.Readings.{Reading}
use Rattle.faults.specs.declared.fault.Fault.{Fault}
use Rattle.faults.specs.declared.fault.Fault.TheVariants.{At}
use Rattle.faults.specs.Reading.{UnlessMemory}
use Rattle.live_run.specs.SourceFollowed.{bytes_of}
use Rattle.live_run.specs.Heads as heads
use Rattle.live_run.specs.Heads.{IsStopOf, head_behind, taken}
use Rattle.live_run.specs.declared.head.HeadStop.{HeadStop}
use Rattle.live_run.specs.declared.head.HeadStop.TheVariants as stop
use Rattle.input_reading.specs.declared.input.cause.InputCause.{InputCause}
use Rattle.sim_core.specs.LiveAnswers.{IsAmidHead}
use Rattle.sim_core.specs.Inner.LiveSteps.{StopsBy, fresh}
use Rattle.input_reading.specs.Reading.{longest_line, most_bytes, lone_head_of}
use Rattle.sim_core.specs.Replay.{head_in, words_refused, head_refused}

-- the head behind a reader that was just made is that of the input
same_head : (old : Reading) (input : List ℕ) → old ≡ fresh → head_in input ≡ head_behind [] old input
same_head old input e = ap (λ (r : Reading). head_behind [] r input) (sym e)

-- it says nothing
pub faulty : (old new : Reading) (text : List ℕ) (next : ℕ) (before after : Option (List ℕ)) (line : ℕ) (cause : InputCause) → old ≡ fresh
    → IfSome before (λ left. head_behind [] old left ≡ taken text next new.room) → lone_head_of text ≡ Err (At line cause)
    → IfSome before (λ input. StopsBy input after (stop.Refused line cause))
faulty old new text next None after line cause e told says = tt
faulty old new text next (Some input) after line cause e told says = head_refused text next new.room line cause (same_head old input e ∙ told) says

-- reading it stopped
amid : (old new : Reading) (input : List ℕ) (after : Option (List ℕ)) → old ≡ fresh → heads.IsAmid old new (Some input) after
    → IsAmidHead input after
amid old new input None e a = let none = a.keeps in absurd cc
amid old new input (Some unread) e a = record {
  whole = record {
    lines = a.gone_on.taken.lines;
    held = new.held;
    unread = unread;
    left_is = refl;
    parts =
        let all : Some input ≡ Some (a.text ++ (new.held ++ unread))
        = subst (λ (r : Reading). Some ([] ++ (r.held ++ input)) ≡ Some (a.text ++ (new.held ++ unread))) e a.keeps in
        let whole : input ≡ a.text ++ (new.held ++ unread) = cc in
        whole ∙ ap (λ (t : List ℕ). t ++ (new.held ++ unread)) a.gone_on.taken.text_is;
    whole = (a.gone_on.taken.whole a.not_ended).1;
  };
  goes_on = subst (λ (r : Reading). heads.AllGoOnBehind r.longest r.room r.next a.gone_on.taken.lines) e a.gone_on.goes_on;
  no_answer = record {
    unfinished = a.none_whole;
    undecided = subst (λ (n : ℕ). IsUndecided n longest_line new.held) room (subst (λ (n : ℕ). IsUndecided new.room n new.held) size a.undecided);
  };
}
  where
    size : new.longest ≡ longest_line
    size = a.gone_on.same_size ∙ ap (λ (r : Reading). r.longest) e

    room : new.room ≡ most_bytes - length (bytes_of a.gone_on.taken.lines)
    room =
        let text = ap length a.gone_on.taken.text_is in
        let left = a.gone_on.taken.room in
        let first : old.room ≡ most_bytes = ap (λ (r : Reading). r.room) e in
        omega (arith, text, left, first)

pub stops : (old new : Reading) (before after : Option (List ℕ)) (found : HeadStop) → old ≡ fresh → IfSome before (λ left. IsStopOf (head_behind [] old left) found)
    → (found ≡ stop.ReadFault → heads.IsAmid old new before after) → IfSome before (λ input. StopsBy input after found)
stops old new None after found e told broken = tt
stops old new (Some input) after (stop.Refused line cause) e told broken = words_refused line cause (same_head old input e ∙ told)
stops old new (Some input) after stop.TooLarge e told broken = same_head old input e ∙ told
stops old new (Some input) after stop.ReadFault e told broken = amid old new input after e (broken refl)
stops old new (Some input) after stop.NoMemory e told broken = tt

-- the same, by what reading it gave
pub faulty_read : (old new : Reading) (text : List ℕ) (next : ℕ) (before after : Option (List ℕ)) (found : Fault InputCause) (line : ℕ) (cause : InputCause)
    → old ≡ fresh → IfSome before (λ left. head_behind [] old left ≡ taken text next new.room) → found ≡ At line cause
    → UnlessMemory found (lone_head_of text ≡ Err found) → IfSome before (λ input. StopsBy input after (stop.Refused line cause))
faulty_read old new text next before after found line cause e told is says =
    faulty old new text next before after line cause e told (subst (λ (f : Fault InputCause). UnlessMemory f (lone_head_of text ≡ Err f)) is says)
