use Rattle.std.proofs.Common.{◌≡◌, ℕ, ◌≤◌, Bool, true, false, IfSome, List, [], length, sym, ap, subst, refl, ◌∙◌}
use Rattle.std.proofs.lemmas.Bool.{both_ways, false≢true}
use Rattle.cluster_io.specs.NextLine.{holds_line, IsUndecided}
use Rattle.cluster_io.specs.Readings.{Reading}
use Rattle.cluster_io.specs.declared.line_step.LineStep.TheVariants.{Failed}
use Rattle.cluster_io.specs.Inner.FoundLines.{Finds, FindsLast}
use Rattle.cluster_io.specs.Inner.ReaderTurns.{GivesFound, Settles}
use Rattle.cluster_io.proofs.Turns.{settles_found, settles_last, same_reading, given_is_no_failure, given_keeps_end}
use Rattle.cluster_io.proofs.Bearing.{Bears-none}
use Rattle.cluster_io.proofs.held_lines.HeldLines.turn.Goals as goal

pub returns-in_default : goal.returns-in_default
returns-in_default g c =
    let h = c.self.inside in
    let found =
    subst (λ (h : List ℕ). Finds c.look-found.result.1 c.self.inside.bounds h c.self.inside.scan.scanned c.look-found.result.0)
    c.held.ensures c.look-found.ensures.found in
    let known : h.window.ended ≡ true → IfSome (g.S.Source.left c.args.src.now) (λ left. left ≡ []) =
    λ over. c.requires.at_end (sym (ap (λ (r : Reading). r.ended) c.self.view_is) ∙ over) in
    record {
      turned =
          subst (λ (o : Reading). Settles c.give.result o c.give.new.self (g.S.Source.left c.args.src.now) (g.S.Source.left c.args.src.now))
          c.self.view_is
          (settles_found c.look-found.result.1 c.self.inside.bounds c.self.inside.scan.scanned c.look-found.result.0
          c.give.result _ c.give.new.self _ refl refl found c.self.invariant.fresh known c.give.ensures);
      untouched = λ _. refl;
      quiet = λ _. refl;
      same_end =
          given_keeps_end c.look-found.result.1 c.give.result _ c.give.new.self c.give.ensures
          ∙ (ap (λ (r : Reading). r.ended) c.self.view_is ∙ c.requires.same_end);
      bears = Bears-none _ _ _ (λ e. given_is_no_failure c.look-found.result.1 c.give.result _ c.give.new.self c.give.ensures cc);
    }

pub returns-in-End-2-clause-turned : goal.returns-in-End-2-clause-turned
returns-in-End-2-clause-turned g c =
    let h = c.self.inside in
    let seen : Reading = record {
      held = h.window.held;
      raw = h.window.handed;
      number = h.number;
      next = h.next;
      room = h.bounds.room;
      longest = h.bounds.longest;
      stop = h.stop;
      ended = h.window.ended;
    } in
    let ended = c.in-End-2.ensures.received in
    let open_line =
    subst (λ f. Finds f h.bounds c.held.result.now h.scan.scanned c.look-found.result.0) c.in-More.is
    c.look-found.ensures.found in
    let fits : length c.read_from.new.self.held ≤ h.bounds.room =
    rw (ended.0, ← c.held.ensures) open_line.in_room in
    let last =
    subst (λ (t : List ℕ). FindsLast c.last_line-last.result h.bounds t) c.held-in-End-2.ensures c.last_line-last.ensures in
    let empty : h.window.handed ≡ [] = ap (λ (r : Reading). r.raw) c.self.view_is ∙ c.requires.empty in
    let over : c.read_from.new.self.ended ≡ true = cc in
    let gives = subst (λ (t : Bool). GivesFound c.last_line-last.result c.give-in-End-2.result
    (record seen { held = c.read_from.new.self.held; raw = c.read_from.new.self.handed; ended = t }) c.give-in-End-2.new.self)
    over c.give-in-End-2.ensures in
    subst (λ (o : Reading). Settles c.give-in-End-2.result o c.give-in-End-2.new.self (g.S.Source.left c.args.src.now) (g.S.Source.left c.read_from.new.src))
    (same_reading seen c.read_from.new.self.held c.read_from.new.self.handed ended.0 (c.read_from.ensures.handed ∙ sym empty) ∙ c.self.view_is)
    (settles_last c.last_line-last.result h.bounds c.give-in-End-2.result
    (record seen { held = c.read_from.new.self.held; raw = c.read_from.new.self.handed }) c.give-in-End-2.new.self _ _ refl refl fits
    last gives ended.1 ended.2)

pub returns-in-Failed-clause-turned : goal.returns-in-Failed-clause-turned
returns-in-Failed-clause-turned g c =
    let h = c.self.inside in
    let seen : Reading = record {
      held = h.window.held;
      raw = h.window.handed;
      number = h.number;
      next = h.next;
      room = h.bounds.room;
      longest = h.bounds.longest;
      stop = h.stop;
      ended = h.window.ended;
    } in
    let received = c.in-Failed.ensures.received in
    let held = c.read_from.new.self.held in
    let raw = c.read_from.new.self.handed in
    let going : h.window.ended ≡ false = c.in-Failed.ensures.going (λ e. cc) in
    let same : c.read_from.new.self.ended ≡ h.window.ended = c.in-Failed.ensures.ended ∙ sym going in
    let open_line =
    subst (λ f. Finds f h.bounds c.held.result.now h.scan.scanned c.look-found.result.0) c.in-More.is
    c.look-found.ensures.found in
    subst (λ (o : Reading). Settles Failed o
    (record seen { held = held; raw = raw; ended = c.read_from.new.self.ended }) (g.S.Source.left c.args.src.now) (g.S.Source.left c.read_from.new.src))
    c.self.view_is
    (record {
      unread = received.1;
      ended = false;
      at_end = λ e. absurd (false≢true e);
      remembers = λ e. absurd (both_ways h.window.ended going e);
      exact = λ fails. absurd (fails refl);
      undecided = λ _. subst (λ (t : List ℕ). IsUndecided h.bounds.room h.bounds.longest t) c.held.ensures open_line.undecided;
      leaves = (
        ap (λ (t : Bool). record seen { held = held; raw = raw; ended = t }) same
            ∙ same_reading (record seen { raw = [] }) held raw received.0 c.read_from.ensures.handed,
        ap holds_line (sym c.held.ensures) ∙ open_line.unfinished,
        refl,
      );
    })
