use Rattle.std.proofs.Common.{rules, ◌≡◌, ◌++◌, ap, ◌∙◌, length, map, take, drop, arith}
use Rattle.std.specs.List.{range_with_len}
use Rattle.std.proofs.Math.Seq.{take-append_seam}
use Rattle.std.proofs.lemmas.List.FromFn.{length-map-range_with_len}
use Rattle.std.proofs.lemmas.Simd.{map-map}
use Rattle.score.specs.Total.{total_of}
use Rattle.placement.specs.Rows.{each_of}
use Rattle.placement.proofs.totals.row_totals.totals_of.Goals as goal

pub returns-clause-totals : goal.returns-clause-totals
returns-clause-totals c = λ terms is.
    let nodes = c.args.nodes in
    let out = c.totals.new.out in
    let made : out ≡ map (λ n. total_of (terms n)) (range_with_len 0 nodes) = c.totals.ensures (each_of nodes terms) is.stands ∙ map-map total_of terms (range_with_len 0 nodes) in
    let long : length out ≡ nodes = ap length made ∙ length-map-range_with_len (λ n. total_of (terms n)) 0 nodes in
    let all : c.in_ok-all.all.len ≡ nodes = search rules in
    ap (λ k. take k (out ++ drop (length out) c.in_ok-all.all.items)) (let e : c.in_ok-all.all.len ≡ length out = omega (arith, long, all) in e)
    ∙ (take-append_seam out (drop (length out) c.in_ok-all.all.items) ∙ made)
