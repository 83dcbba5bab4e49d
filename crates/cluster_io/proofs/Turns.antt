-- What a reader of lines gives of what it has found, and one turn after another.
use Rattle.std.proofs.Common.{◌≡◌, ℕ, ◌+◌, ◌-◌, ◌≤◌, ◌<◌, Bool, true, Option, Some, None, List, [], ◌++◌, length, take, drop, IfSome, option_map, arith, refl, ap, sym, subst, ◌∙◌, append_assoc}
use Rattle.std.proofs.lemmas.Bool.{both_ways}
use Rattle.std.proofs.lemmas.List.{append-nil, length-drop, length-take-le, take-append-drop, take_all}
use Rattle.crm_lex.specs.RawLines.{physical_lines}
use Rattle.cluster_io.specs.Streams.{TakesBytes}
use Rattle.cluster_io.specs.NextLine.{reader_answer, first_line, holds_line}
use Rattle.cluster_io.specs.Readings.{Reading, HandsOut, ReaderIsLeft, nothing_came, more_came, ReaderAnswered, TellsAnswer}
use Rattle.cluster_io.specs.Inner.FoundLines.{Finds, FindsLast}
use Rattle.cluster_io.specs.Inner.ReaderTurns.{GivesFound, Settles, ReadsOn, Sofar}
use Rattle.cluster_io.specs.declared.line_scan.Scan.{Scan}
use Rattle.cluster_io.specs.declared.line_scan.Bounds.{Bounds}
use Rattle.cluster_io.specs.declared.line_scan.Found.{Found}
use Rattle.cluster_io.specs.declared.line_scan.Found.TheVariants as found
use Rattle.cluster_io.specs.declared.line_step.LineStep.{LineStep}
use Rattle.cluster_io.specs.declared.line_step.LineStep.TheVariants.{Line, End, TooLong, TooLarge, Failed}
use Rattle.cluster_io.proofs.Pieces.{Takes-then}

-- what is given is no failure
pub given_is_no_failure : (f : Found) (step : LineStep) (old new : Reading) → GivesFound f step old new → step ≡ Failed → ⊥
given_is_no_failure (found.Line count lines) step old new g e = cc
given_is_no_failure found.TooLong step old new g e = cc
given_is_no_failure found.TooLarge step old new g e = cc
given_is_no_failure found.More step old new g e = g

-- what is given leaves the end as it was
pub given_keeps_end : (f : Found) (step : LineStep) (old new : Reading) → GivesFound f step old new → new.ended ≡ old.ended
given_keeps_end (found.Line count lines) step old new g = ap (λ (r : Reading). r.ended) g.1
given_keeps_end found.TooLong step old new g = ap (λ (r : Reading). r.ended) g.1
given_keeps_end found.TooLarge step old new g = ap (λ (r : Reading). r.ended) g.1
given_keeps_end found.More step old new g = absurd g

line_is_no_failure : Line ≡ Failed → ⊥
line_is_no_failure e = cc

too_long_is_no_failure : TooLong ≡ Failed → ⊥
too_long_is_no_failure e = cc

too_large_is_no_failure : TooLarge ≡ Failed → ⊥
too_large_is_no_failure e = cc

-- the first bytes of what is held are handed out
abbrev handed_out : Reading → ℕ → ℕ → Bool → Reading
handed_out old count lines ended = record old {
  held = drop count old.held;
  raw = take count old.held;
  number = old.next;
  next = old.next + lines;
  room = old.room - count;
  ended = ended;
}

hands_out : (old : Reading) (count lines : ℕ) (ended : Bool) → count ≤ length old.held → length old.held < count + 4096 → count ≤ old.room
    → lines ≡ length (physical_lines (take count old.held))
    → ((rest : List ℕ) → (ended ≡ true → rest ≡ []) → first_line (old.held ++ rest) ≡ physical_lines (take count old.held))
    → HandsOut old (handed_out old count lines ended) ended
hands_out old count lines ended within small in_room counted first =
    let len : length (take count old.held) ≡ count = length-take-le count old.held within in
    record {
      parts = sym (take-append-drop count old.held);
      first = first;
      short = omega (arith, length-drop count old.held);
      in_room = omega (arith, len);
      others = rw (len, ← counted) refl;
    }

-- what is found in what is held, whatever follows
pub settles_found : (f : Found) (bounds : Bounds) (scanned : ℕ) (scan : Scan) (step : LineStep) (old new : Reading) (before : Option (List ℕ))
    → bounds.room ≡ old.room → bounds.longest ≡ old.longest → Finds f bounds old.held scanned scan → length old.held ≤ scanned + 4096
    → (old.ended ≡ true → IfSome before (λ left. left ≡ [])) → GivesFound f step old new → Settles step old new before before
settles_found (found.Line count lines) bounds scanned scan step old new before room longest l fresh known g =
    subst (λ s. Settles s old new before before) (sym g.0)
    (subst (λ n. Settles Line old n before before) (sym g.1) (record {
      unread = refl;
      ended = old.ended;
      at_end = known;
      remembers = λ e. e;
      exact = λ _ rest _. sym (rw (room, longest) at (l.answer rest));
      undecided = λ e. absurd (line_is_no_failure e);
      leaves = hands_out old count lines old.ended l.within (omega (arith, l.beyond)) (omega (arith, l.in_room, room)) l.lines_counted (λ rest _. l.first rest);
    }))
settles_found found.TooLong bounds scanned scan step old new before room longest f fresh known g =
    subst (λ s. Settles s old new before before) (sym g.0) (record {
      unread = refl;
      ended = old.ended;
      at_end = known;
      remembers = λ e. e;
      exact = λ _ rest _. sym (rw (room, longest) at (f rest));
      undecided = λ e. absurd (too_long_is_no_failure e);
      leaves = g.1;
    })
settles_found found.TooLarge bounds scanned scan step old new before room longest f fresh known g =
    subst (λ s. Settles s old new before before) (sym g.0) (record {
      unread = refl;
      ended = old.ended;
      at_end = known;
      remembers = λ e. e;
      exact = λ _ rest _. sym (rw (room, longest) at (f rest));
      undecided = λ e. absurd (too_large_is_no_failure e);
      leaves = g.1;
    })
settles_found found.More bounds scanned scan step old new before room longest f fresh known g = absurd g

at_no_rest : {A : Type 0} (f : List ℕ → A) (text rest : List ℕ) → rest ≡ [] → f (text ++ rest) ≡ f text
at_no_rest f text rest none = ap (λ (t : List ℕ). f (text ++ t)) none ∙ ap f (append-nil text)

-- what is found at the end of the source
pub settles_last : (f : Found) (bounds : Bounds) (step : LineStep) (old new : Reading) (before after : Option (List ℕ))
    → bounds.room ≡ old.room → bounds.longest ≡ old.longest → length old.held ≤ old.room → FindsLast f bounds old.held
    → GivesFound f step (record old { ended = true }) new → after ≡ before → IfSome before (λ left. left ≡ []) → Settles step old new before after
settles_last (found.Line count lines) bounds step old new before after room longest fits l g same none =
    let all : take count old.held ≡ old.held = take_all count old.held (omega (arith, l.whole)) in
    subst (λ s. Settles s old new before after) (sym g.0)
    (subst (λ n. Settles Line old n before after) (sym g.1) (record {
      unread = same;
      ended = true;
      at_end = λ _. rw same none;
      remembers = λ _. refl;
      exact = λ _ rest end. sym (at_no_rest (reader_answer old.room old.longest) old.held rest (end refl) ∙ (rw (room, longest) at l.answer));
      undecided = λ e. absurd (line_is_no_failure e);
      leaves = hands_out old count lines true (omega (arith, l.whole)) (omega (arith, l.whole)) (omega (arith, l.whole))
          (l.lines_counted ∙ ap (λ (t : List ℕ). length (physical_lines t)) (sym all))
          (λ rest end. at_no_rest first_line old.held rest (end refl) ∙ (l.first ∙ ap physical_lines (sym all)));
    }))
settles_last found.TooLong bounds step old new before after room longest fits f g same none =
    subst (λ s. Settles s old new before after) (sym g.0) (record {
      unread = same;
      ended = true;
      at_end = λ _. rw same none;
      remembers = λ _. refl;
      exact = λ _ rest end. sym (at_no_rest (reader_answer old.room old.longest) old.held rest (end refl) ∙ (rw (room, longest) at f));
      undecided = λ e. absurd (too_long_is_no_failure e);
      leaves = g.1;
    })
settles_last found.TooLarge bounds step old new before after room longest fits f g same none = absurd f
settles_last found.More bounds step old new before after room longest fits f g same none = absurd f

-- a reader of which nothing but equal bytes was set
pub same_reading : (a : Reading) (held raw : List ℕ) → held ≡ a.held → raw ≡ a.raw → record a { held = held; raw = raw } ≡ a
same_reading a held raw h r = ap (λ (t : List ℕ). record a { held = t; raw = raw }) h ∙ ap (λ (t : List ℕ). record a { raw = t }) r

nothing_taken : (before : Option (List ℕ)) → TakesBytes before [] before
nothing_taken None = refl
nothing_taken (Some left) = refl

-- what an answer leaves doesn't tell which line was handed out before
leaves_of : (step : LineStep) (old new : Reading) (ended : Bool) (raw : List ℕ) → ReaderIsLeft step old new ended → ReaderIsLeft step (record old { raw = raw }) new ended
leaves_of Line old new ended raw l = record { parts = l.parts; first = l.first; short = l.short; in_room = l.in_room; others = l.others }
leaves_of End old new ended raw l = l
leaves_of TooLong old new ended raw l = l
leaves_of TooLarge old new ended raw l = l
leaves_of Failed old new ended raw l = l

-- before the first turn nothing is taken
pub Sofar-none : (old : Reading) (before : Option (List ℕ)) → Sofar old (record old { raw = [] }) before before
Sofar-none old before = record {
  bytes = [];
  taken = nothing_taken before;
  leaves = ap (λ (t : List ℕ). record old { held = t; raw = [] }) (sym (append-nil old.held));
  needed = nothing_came;
  unread = λ _. refl;
  quiet = λ _. refl;
}

-- one more turn that reads
pub Sofar-more : (old now new : Reading) (before between after : Option (List ℕ))
    → Sofar old now before between → ReadsOn now new between after → Sofar old new before after
Sofar-more old now new before between after s r =
    let q = subst (λ n. ReadsOn n new between after) s.leaves r in
    record {
      bytes = s.bytes ++ q.bytes;
      taken = Takes-then before between after s.bytes q.bytes s.taken q.taken;
      leaves = q.leaves ∙ ap (λ (t : List ℕ). record old { held = t; raw = [] }) (append_assoc old.held s.bytes q.bytes);
      needed = more_came s.bytes q.bytes (s.bytes ++ q.bytes) s.needed q.unfinished q.some q.small refl;
      unread = λ h.
          let same : old.held ++ s.bytes ≡ old.held = ap (λ (t : List ℕ). old.held ++ t) (s.unread h) ∙ append-nil old.held in
          absurd (both_ways (holds_line (old.held ++ s.bytes)) q.unfinished (ap holds_line same ∙ h));
      quiet = λ h. absurd (both_ways old.ended q.going h);
    }

-- turns that read, and then one that answers
pub Sofar-settled : (step : LineStep) (old now new : Reading) (before between after : Option (List ℕ))
    → Sofar old now before between → Settles step now new between after → ReaderAnswered step old new before after
Sofar-settled step old now new before between after s r =
    let q = subst (λ n. Settles step n new between after) s.leaves r in
    record {
      bytes = s.bytes;
      taken = rw q.unread s.taken;
      needed = s.needed;
      ended = q.ended;
      at_end = q.at_end;
      remembers = λ h. (q.remembers h, s.quiet h);
      exact = q.exact;
      undecided = q.undecided;
      leaves = leaves_of step (record old { held = old.held ++ s.bytes; raw = [] }) new q.ended old.raw q.leaves;
    }

-- what is told of a source that ended is that nothing is left, and what was taken stands before what is left
told_left : (bytes left rest : List ℕ) → Some left ≡ option_map (λ more. bytes ++ more) (Some rest) → left ≡ bytes ++ rest
told_left bytes left rest e = cc

some_is_none : (left : List ℕ) → Some left ≡ None → ⊥
some_is_none left e = cc

-- an answer where the source tells its bytes
pub told : (step : LineStep) (old new : Reading) (before after : Option (List ℕ)) → ReaderAnswered step old new before after → TellsAnswer step old before
told step old new None after a = tt
told step old new (Some left) None a = absurd (some_is_none left a.taken)
told step old new (Some left) (Some rest) a = λ no_failure.
    a.exact no_failure rest a.at_end
    ∙ ap (reader_answer old.room old.longest)
    (append_assoc old.held a.bytes rest ∙ ap (λ (t : List ℕ). old.held ++ t) (sym (told_left a.bytes left rest a.taken)))

pub ruleset turns = (Sofar-none, Sofar-more, Sofar-settled, told)

-- a whole line that was held is held still
pub held_so_far : (old now : Reading) (before between : Option (List ℕ)) → Sofar old now before between
    → holds_line old.held ≡ true → holds_line now.held ≡ true
held_so_far old now before between s h =
    let same : old.held ++ s.bytes ≡ old.held = ap (λ (t : List ℕ). old.held ++ t) (s.unread h) ∙ append-nil old.held in
    ap (λ (r : Reading). holds_line r.held) s.leaves ∙ (ap holds_line same ∙ h)
