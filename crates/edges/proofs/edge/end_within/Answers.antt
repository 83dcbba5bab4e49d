use Rattle.std.proofs.Common.{arith, ◌≡◌, refl, inl, inr}
use Rattle.std.proofs.lemmas.Bool.{cases_lt}
use Rattle.edges.proofs.SourceRows.{end_of, ends_at}
use Rattle.edges.proofs.edge.end_within.Goals.{then-edge-positions-via-then-edge-positions, then-edge-positions-via-else-edge-positions+then-edge-positions-2}
use Rattle.edges.proofs.edge.end_within.Goals as goal

pub returns-then-edge-positions : goal.returns-then-edge-positions
returns-then-edge-positions c = (
  λ h. cc,
  λ ends.
      let a = ends_at c.args.positions c.args.edges.now c.loop-edge.edge-index (record { before = 0; after = 0 }) ends
      c.loop-edge-test.true in
      elim c.then-edge-positions.branch [
        | then-edge-positions-via-then-edge-positions w ↦ absurd (let f : ⊥ = omega arith in f)
        | then-edge-positions-via-else-edge-positions+then-edge-positions-2 w ↦ absurd (let f : ⊥ = omega arith in f)
      ],
)

pub loop-edge-preserved : goal.loop-edge-preserved
loop-edge-preserved c = λ k lt. elim (cases_lt k c.loop-edge.edge-index) [
  | inl old ↦ c.loop-edge.invariant k old
  | inr new ↦ let e : k ≡ c.loop-edge.edge-index = omega arith in rw e (c.if-edge-positions.false, c.if-edge-positions-2.false)
]

pub returns : goal.returns
returns c = (
  λ h. end_of c.args.positions c.args.edges.now (record { before = 0; after = 0 }) (λ k lt. c.loop-edge.invariant k (omega arith)),
  λ
      ends. refl,
)
