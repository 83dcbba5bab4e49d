use Rattle.std.proofs.Common.{◌≡◌, ℕ, get_or, replicate}
use Rattle.std.proofs.lemmas.Simd.{get_or-replicate}
use Rattle.score.specs.Inner.StoredTotals.{stored_least, stored_most}
use Rattle.score.proofs.StoredTotals.{stored_total_by}
use Rattle.score.proofs.row_totals.total_lanes.Goals as goal

pub returns-clause-each : goal.returns-clause-each
returns-clause-each c = λ k l.
    let none : ℕ = 0 in
    let unset : get_or (replicate 8 none) k 0 ≡ none = get_or-replicate 8 k none 0 l in
    let least = get_or-replicate 8 k stored_least 0 l in
    let most = get_or-replicate 8 k stored_most 0 l in
    let a = c.where_less-at_most.ensures.each k l in
    let b = c.where_less-cut.ensures.each k l in
    let d = c.where_less-with_plus.ensures.each k l in
    let e = c.where_less.ensures.each k l in
    let at_most = rw most at a in
    let cut = rw least at b in
    let with_plus = rw (unset, most) at d in
    let total = rw (unset, least) at e in
    stored_total_by _ _ _ _ _ _ _ at_most cut with_plus total
