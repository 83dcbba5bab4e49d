use Rattle.std.proofs.Common.{arith, ◌≡◌, ◌≤◌, ◌+◌, ◌==◌, ◌∷◌, [], ℕ, count_by, drop, slice_index_or}
use Rattle.std.proofs.lemmas.List.{drop_more, drop_all}
use Rattle.edges.specs.Inner.Clearing.{Clears}
use Rattle.edges.proofs.Steps.{counted_off, enough_off}
use Rattle.edges.proofs.clearing.Clearing.count_off_all.Goals as goal

pub loop-source-preserved : goal.loop-source-preserved
loop-source-preserved c =
    let i = c.loop-source.source-index in
    let p = slice_index_or c.args.sources.now i 0 in
    let pending = drop (i + 1) c.args.sources.now in
    let more : drop i c.args.sources.now ≡ p ∷ pending = drop_more c.args.sources.now i 0 c.loop-source-test.true in
    let waiting = c.loop-source.self.waiting.items in
    let enough : (x : ℕ) → count_by (◌==◌ x) (p ∷ pending) ≤ slice_index_or waiting x 0 = rw more at c.loop-source.invariant.enough in
    let off = enough_off p pending waiting enough in
    record {
      enough = rw c.in_ok-count_off.ensures.waiting off.1;
      kept = λ positions taken edges begun.
          let now : Clears positions edges taken (p ∷ pending) waiting c.loop-source.self.cleared.items
          = rw more at (c.loop-source.invariant.kept positions taken edges begun) in
          rw (c.in_ok-count_off.ensures.waiting, c.in_ok-count_off.ensures.cleared)
          (counted_off positions edges taken p pending waiting c.loop-source.self.cleared.items now off.0);
    }

pub returns : goal.returns
returns c = λ positions taken edges begun.
    let none : drop c.loop-source.source-index c.args.sources.now ≡ []
    = drop_all c.loop-source.source-index c.args.sources.now (omega arith) in
    rw none at (c.loop-source.invariant.kept positions taken edges begun)
