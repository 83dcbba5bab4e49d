use Rattle.std.proofs.Common.{rules, ◌≡◌, ◌++◌, ◌+◌, ◌∷◌, [], ◌∙◌}
use Rattle.cluster_types.proofs.Walks.{with_marked, without}
use Rattle.cluster_types.proofs.befores.numbers_marked.Goals as goal

pub loop-place-preserved-then-not-marks-place : goal.loop-place-preserved-then-not-marks-place
loop-place-preserved-then-not-marks-place c = without c.args.marks.now c.loop-place.place c.loop-place.numbers.items c.loop-place.invariant (search rules)

pub loop-place-preserved : goal.loop-place-preserved
loop-place-preserved c =
    let l = c.loop-place in
    let pushed : c.push.new.self.items ≡ l.numbers.items ++ (l.place + 1) ∷ [] = search rules in
    pushed ∙ with_marked c.args.marks.now l.place l.numbers.items l.invariant (search rules)
