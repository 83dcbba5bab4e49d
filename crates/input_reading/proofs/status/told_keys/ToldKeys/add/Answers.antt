use Rattle.std.proofs.Common.{rules, ◌≡◌, ℕ, true, cond, refl}
use Rattle.std.specs.HashSet.{contains}
use Rattle.input_reading.specs.declared.status.told_keys.ToldKeys.{ToldKeys}
use Rattle.input_reading.specs.Inner.Repeats.{is_same_pair}
use Rattle.input_reading.proofs.Repeats.{adds_cell}
use Rattle.input_reading.proofs.status.told_keys.ToldKeys.add.Goals as goal

pub returns-in_ok-insert-in-Promoting : goal.returns-in_ok-insert-in-Promoting
returns-in_ok-insert-in-Promoting c =
    let p = c.in-Promoting.promotion in
    let old = c.args.self.now in
    let more = c.insert-in-Promoting.new.self in
    let cells : (cell : ℕ × ℕ) → contains is_same_pair more cell
    ≡ cond (is_same_pair (p.leaf, p.node) cell) true (contains is_same_pair old.cells cell) = search rules in
    let new : ToldKeys = record { moment = old.moment; quorum = old.quorum; nodes = old.nodes; cells = more } in
    rw c.in-Promoting.is (adds_cell old new p refl refl refl cells)
