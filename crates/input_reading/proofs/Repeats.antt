-- One more line.
use Rattle.std.proofs.Common.{◌≡◌, ℕ, true, cond, refl, ◌∙◌, sym}
use Rattle.std.proofs.Math.Bool.{or-false}
use Rattle.std.specs.HashSet.{contains}
use Rattle.lemmas.proofs.Booleans.{cond-or}
use Rattle.cluster_types.specs.declared.journal.Promotion.{Promotion}
use Rattle.input_reading.specs.declared.status.line_meaning.Fact.TheVariants.{Now, Quorum, Node, Past, Promoting}
use Rattle.input_reading.specs.declared.status.told_keys.ToldKeys.{ToldKeys}
use Rattle.input_reading.specs.Inner.Repeats.{is_same_pair, AddsKey}

-- one more cell adds what its line tells
pub adds_cell : (old new : ToldKeys) (p : Promotion) → new.moment ≡ old.moment → new.quorum ≡ old.quorum → new.nodes ≡ old.nodes
    → ((cell : ℕ × ℕ) → contains is_same_pair new.cells cell ≡ cond (is_same_pair (p.leaf, p.node) cell) true (contains is_same_pair old.cells cell))
    → AddsKey old new (Promoting p)
adds_cell old new p moment quorum nodes cells (Now seconds) = moment ∙ sym (or-false old.moment)
adds_cell old new p moment quorum nodes cells (Quorum now) = quorum ∙ sym (or-false old.quorum)
adds_cell old new p moment quorum nodes cells (Node node word) = rw nodes (sym (or-false _))
adds_cell old new p moment quorum nodes cells (Past event) = refl
adds_cell old new p moment quorum nodes cells (Promoting q) = cells (q.leaf, q.node) ∙ cond-or (is_same_pair (p.leaf, p.node) (q.leaf, q.node)) _
