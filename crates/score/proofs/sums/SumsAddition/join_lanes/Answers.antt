use Rattle.std.proofs.Common.{◌+◌, ◌-◌, ◌<◌, ◌∙◌, arith, replicate}
use Rattle.std.specs.Simd.Lanes.{zip2}
use Rattle.std.proofs.lemmas.Simd.{get_or-zip2, get_or-replicate, length-replicate, length-zip2}
use Rattle.score.specs.StoredRows.{bias}
use Rattle.score.proofs.Blocks.{Each2_from}
use Rattle.score.proofs.sums.SumsAddition.join_lanes.Goals as goal

pub overflow_add-result : goal.overflow_add-result
overflow_add-result c =
    Each2_from _ c.args.ours c.args.theirs (λ k l.
    let most = (c.requires.fits k (omega (arith, c.requires.ours))).1 in omega arith)

pub overflow_sub-result : goal.overflow_sub-result
overflow_sub-result c =
    let ours = c.args.ours in
    let theirs = c.args.theirs in
    let r = c.requires in
    let many = length-zip2 ◌+◌ ours theirs (omega (arith, r.ours, r.theirs)) in
    Each2_from _ (zip2 ◌+◌ ours theirs) (replicate 8 bias) (λ k l.
    let within : k < 8 = omega (arith, r.ours) in
    let sum = get_or-zip2 ◌+◌ ours theirs k 0 0 0 (omega (arith, r.ours)) (omega (arith, r.theirs)) in
    let splat = get_or-replicate 8 k bias 0 within in
    let least = (r.fits k within).0 in
    rw (sum, splat) (omega arith))

pub returns-clause-lanes : goal.returns-clause-lanes
returns-clause-lanes c =
    let ours = c.args.ours in
    let theirs = c.args.theirs in
    let r = c.requires in
    let many = length-zip2 ◌+◌ ours theirs (omega (arith, r.ours, r.theirs)) in
    let splats = length-replicate 8 bias in
    length-zip2 ◌-◌ (zip2 ◌+◌ ours theirs) (replicate 8 bias) (omega (arith, r.ours)) ∙ (many ∙ r.ours)

pub returns-clause-each : goal.returns-clause-each
returns-clause-each c = λ k within.
    let ours = c.args.ours in
    let theirs = c.args.theirs in
    let r = c.requires in
    let many = length-zip2 ◌+◌ ours theirs (omega (arith, r.ours, r.theirs)) in
    let splats = length-replicate 8 bias in
    let sum = get_or-zip2 ◌+◌ ours theirs k 0 0 0 (omega (arith, r.ours)) (omega (arith, r.theirs)) in
    let splat = get_or-replicate 8 k bias 0 within in
    let lane = get_or-zip2 ◌-◌ (zip2 ◌+◌ ours theirs) (replicate 8 bias) k 0 0 0 (omega (arith, r.ours)) (omega arith) in
    rw (sum, splat) at lane
