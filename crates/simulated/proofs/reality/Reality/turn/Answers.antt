use Rattle.std.proofs.Common.{◌≡◌, ◌+◌, Option, Some, None, ◌∙◌}
use Rattle.simulated.specs.declared.turn.Turn.{Turn}
use Rattle.cases.specs.Draws.{draw}
use Rattle.simulated.specs.Inner.NodeTurns.{draws_for_node, node_turn}
use Rattle.simulated.specs.Turns.{first_number}
use Rattle.simulated.specs.Inner.Turns.{calm, with_draws}
use Rattle.simulated.proofs.Turned.{ends_may, low_early, none_shows, none_turn, of_node_may, some_shows, some_turn}
use Rattle.simulated.proofs.reality.Reality.turn.Goals as goal

abbrev nothing : Option Turn
nothing = None

pub returns-in-Some-clause-turn : goal.returns-in-Some-clause-turn
returns-in-Some-clause-turn c = λ w s.
    let of = c.args.self.now in
    let s1 = c.settle.ensures.shows w s in
    let s2 = c.roll-first.ensures.shows (calm w) s1 in
    let e : c.settle.new.self.cluster ≡ of.cluster = c.settle.ensures.same.cluster in
    let f : c.settle.new.self.number ≡ of.number = c.settle.ensures.same.number in
    let g : c.roll-first.new.self.cluster ≡ of.cluster = c.roll-first.ensures.same.cluster ∙ e in
    let i : c.roll-first.new.self.number ≡ of.number = c.roll-first.ensures.same.number ∙ f in
    let rolled : c.roll-first.result ≡ first_number c.settle.new.self.number (calm w) = c.roll-first.ensures.first (calm w) s1 in
    let same = rw f at rolled in
    let came : Some c.in-Some.turn ≡ node_turn c.roll-first.new.self.cluster c.roll-first.new.self.number (with_draws (calm w) 1) c.roll-first.result = c.in-Some.ensures.turn (with_draws (calm w) 1) s2 in
    let node = rw (g, i) at came in
    some_turn of.cluster of.number w c.args.count c.roll-first.result same c.in-Some.turn node

pub returns-in-Some-clause-shows : goal.returns-in-Some-clause-shows
returns-in-Some-clause-shows c = λ w s.
    let of = c.args.self.now in
    let s1 = c.settle.ensures.shows w s in
    let s2 = c.roll-first.ensures.shows (calm w) s1 in
    let e : c.settle.new.self.cluster ≡ of.cluster = c.settle.ensures.same.cluster in
    let f : c.settle.new.self.number ≡ of.number = c.settle.ensures.same.number in
    let g : c.roll-first.new.self.cluster ≡ of.cluster = c.roll-first.ensures.same.cluster ∙ e in
    let i : c.roll-first.new.self.number ≡ of.number = c.roll-first.ensures.same.number ∙ f in
    let rolled : c.roll-first.result ≡ first_number c.settle.new.self.number (calm w) = c.roll-first.ensures.first (calm w) s1 in
    let same = rw f at rolled in
    let came : Some c.in-Some.turn ≡ node_turn c.roll-first.new.self.cluster c.roll-first.new.self.number (with_draws (calm w) 1) c.roll-first.result = c.in-Some.ensures.turn (with_draws (calm w) 1) s2 in
    let node = rw (g, i) at came in
    some_shows of.cluster of.number w c.args.count c.roll-first.result same c.node_turn.new.self c.in-Some.turn node c.in-Some.ensures.low
    (c.in-Some.ensures.shows (with_draws (calm w) 1) s2)

pub returns-in-Some-clause-may : goal.returns-in-Some-clause-may
returns-in-Some-clause-may c =
    let low = c.in-Some.ensures.low in
    let early = low_early c.roll-first.new.self.faults c.roll-first.result low c.roll-first.ensures.early in
    rw c.in-Some.ensures.faults (of_node_may c.args.count c.roll-first.new.self.faults c.in-Some.turn c.in-Some.ensures.node early)

pub returns-in-Some-clause-calm : goal.returns-in-Some-clause-calm
returns-in-Some-clause-calm c = c.in-Some.ensures.rising ∙ (c.roll-first.ensures.rising ∙ c.settle.ensures.none)

pub returns-in-Some-clause-same : goal.returns-in-Some-clause-same
returns-in-Some-clause-same c =
    let a = c.in-Some.ensures.same in
    let b = c.roll-first.ensures.same in
    let d = c.settle.ensures.same in
    record { cluster = a.cluster ∙ (b.cluster ∙ d.cluster); number = a.number ∙ (b.number ∙ d.number) }

pub returns-in-None-clause-turn : goal.returns-in-None-clause-turn
returns-in-None-clause-turn c = λ w s.
    let of = c.args.self.now in
    let s1 = c.settle.ensures.shows w s in
    let s2 = c.roll-first.ensures.shows (calm w) s1 in
    let s3 = c.in-None.ensures.shows (with_draws (calm w) 1) s2 in
    let e : c.settle.new.self.cluster ≡ of.cluster = c.settle.ensures.same.cluster in
    let f : c.settle.new.self.number ≡ of.number = c.settle.ensures.same.number in
    let g : c.roll-first.new.self.cluster ≡ of.cluster = c.roll-first.ensures.same.cluster ∙ e in
    let i : c.roll-first.new.self.number ≡ of.number = c.roll-first.ensures.same.number ∙ f in
    let rolled : c.roll-first.result ≡ first_number c.settle.new.self.number (calm w) = c.roll-first.ensures.first (calm w) s1 in
    let same = rw f at rolled in
    let came : nothing ≡ node_turn c.roll-first.new.self.cluster c.roll-first.new.self.number (with_draws (calm w) 1) c.roll-first.result = c.in-None.ensures.turn (with_draws (calm w) 1) s2 in
    let node = rw (g, i) at came in
    let j : c.node_turn.new.self.number ≡ of.number = c.in-None.ensures.same.number ∙ i in
    let drawn : c.draw-place.result ≡ draw c.node_turn.new.self.number (w.drawn + 1 + draws_for_node c.roll-first.result + 1) c.args.count = c.draw-place.ensures.drawn (with_draws (with_draws (calm w) 1) (draws_for_node c.roll-first.result)) s3 in
    let place = rw j at drawn in
    none_turn of.cluster of.number w c.args.count c.roll-first.result same c.draw-place.result c.fate_by-fate.result node place c.fate_by-fate.ensures

pub returns-in-None-clause-shows : goal.returns-in-None-clause-shows
returns-in-None-clause-shows c = λ w s.
    let of = c.args.self.now in
    let s1 = c.settle.ensures.shows w s in
    let s2 = c.roll-first.ensures.shows (calm w) s1 in
    let s3 = c.in-None.ensures.shows (with_draws (calm w) 1) s2 in
    let e : c.settle.new.self.cluster ≡ of.cluster = c.settle.ensures.same.cluster in
    let f : c.settle.new.self.number ≡ of.number = c.settle.ensures.same.number in
    let g : c.roll-first.new.self.cluster ≡ of.cluster = c.roll-first.ensures.same.cluster ∙ e in
    let i : c.roll-first.new.self.number ≡ of.number = c.roll-first.ensures.same.number ∙ f in
    let rolled : c.roll-first.result ≡ first_number c.settle.new.self.number (calm w) = c.roll-first.ensures.first (calm w) s1 in
    let same = rw f at rolled in
    let came : nothing ≡ node_turn c.roll-first.new.self.cluster c.roll-first.new.self.number (with_draws (calm w) 1) c.roll-first.result = c.in-None.ensures.turn (with_draws (calm w) 1) s2 in
    let node = rw (g, i) at came in
    none_shows of.cluster of.number w c.args.count c.roll-first.result same c.draw-place.new.self node
    (c.draw-place.ensures.shows (with_draws (with_draws (calm w) 1) (draws_for_node c.roll-first.result)) s3)

pub returns-in-None-clause-may : goal.returns-in-None-clause-may
returns-in-None-clause-may c =
    rw (c.draw-place.ensures.faults, c.in-None.ensures.faults)
    (ends_may c.args.count c.roll-first.new.self.faults c.roll-first.result c.draw-place.result c.fate_by-fate.result c.fate_by-fate.ensures c.draw-place.ensures.low
    c.roll-first.ensures.early)

pub returns-in-None-clause-calm : goal.returns-in-None-clause-calm
returns-in-None-clause-calm c = c.draw-place.ensures.rising ∙ (c.in-None.ensures.rising ∙ (c.roll-first.ensures.rising ∙ c.settle.ensures.none))

pub returns-in-None-clause-same : goal.returns-in-None-clause-same
returns-in-None-clause-same c =
    let e = c.draw-place.ensures.same in
    let a = c.in-None.ensures.same in
    let b = c.roll-first.ensures.same in
    let d = c.settle.ensures.same in
    record { cluster = e.cluster ∙ (a.cluster ∙ (b.cluster ∙ d.cluster)); number = e.number ∙ (a.number ∙ (b.number ∙ d.number)) }
