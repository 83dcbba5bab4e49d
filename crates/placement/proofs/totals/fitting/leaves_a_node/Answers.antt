use Rattle.std.proofs.Common.{◌≡◌, ◌&&◌, not, ap, ◌∙◌, map}
use Rattle.std.specs.Int.{is_negative}
use Rattle.std.specs.List.{range_with_len}
use Rattle.score.specs.Choice.{has_enough}
use Rattle.score.specs.NodeSet.{has}
use Rattle.lemmas.proofs.Ranges.{any-same}
use Rattle.score.specs.Total.{total_of}
use Rattle.placement.proofs.Fits.{candidate-is}
use Rattle.placement.proofs.totals.fitting.leaves_a_node.Goals as goal

pub returns : goal.returns
returns c = λ terms is.
    let usable = has c.args.usable.now in
    let made : c.deref.result.now ≡ map (λ n. total_of (terms n)) (range_with_len 0 c.args.nodes) = c.deref.ensures.value ∙ c.in_ok-totals.ensures.totals terms is in
    c.has_any.ensures
    ∙ any-same (has c.candidates-set.result) (λ n. usable n && not (is_negative (total_of (terms n)))) c.args.nodes
    (λ n low. c.candidates-set.ensures n ∙ (ap (λ ts. usable n && has_enough ts n) made ∙ ap (λ b. usable n && b) (candidate-is c.args.nodes terms n low)))
