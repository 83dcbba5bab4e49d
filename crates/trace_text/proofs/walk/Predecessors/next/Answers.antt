use Rattle.std.proofs.Common.{arith, ◌≡◌, [], drop, take, refl}
use Rattle.std.proofs.lemmas.List.{drop_all, length-take-le}
use Rattle.listed.specs.Sets.{members}
use Rattle.trace_text.proofs.Places.{next_told}
use Rattle.trace_text.proofs.walk.Predecessors.next.Goals as goal

pub returns-then-self : goal.returns-then-self
returns-then-self c =
    let p = c.self.inside in
    let size = length-take-le p.count (members p.found) c.self.invariant.few in
    let none : drop p.told (take p.count (members p.found)) ≡ [] = drop_all p.told (take p.count (members p.found)) (omega (arith, size, c.if-self.true)) in
    record { next = rw (← c.self.view_is, none) refl; left = rw (← c.self.view_is, none) refl }

pub returns : goal.returns
returns c =
    let p = c.self.inside in
    let next = next_told (members p.found) p.count p.told c.nth-number.result c.if-self.false c.self.invariant.few c.nth-number.ensures in
    record { next = rw (← c.self.view_is, next) refl; left = rw (← c.self.view_is, next) refl }
