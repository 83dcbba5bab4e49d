use Rattle.std.proofs.Common.{false, cond, ltb, length, get_or, ap, ◌∙◌, arith, w64}
use Rattle.std.specs.Simd.Lanes.{zip2, sel_l}
use Rattle.std.proofs.lemmas.Simd.{tops_compared, length-zip2, length-sel_l, get_or-sel_l, get_or-zip2}
use Rattle.score.proofs.row_totals.where_less.Goals as goal

pub returns-clause-lanes : goal.returns-clause-lanes
returns-clause-lanes c =
    let r = c.requires in
    let long = length-zip2 ltb c.args.a c.args.b (omega (arith, r.a, r.b)) in
    ap (λ ms. length (sel_l ms c.args.yes c.args.no)) (tops_compared w64 ltb c.args.a c.args.b)
    ∙ omega (arith, r.a, length-sel_l (zip2 ltb c.args.a c.args.b) c.args.yes c.args.no (omega (arith, r.a, r.yes)) (omega (arith, r.a, r.no)))

pub returns-clause-each : goal.returns-clause-each
returns-clause-each c = λ k l.
    let a = c.requires.a in
    let b = c.requires.b in
    let yes = c.requires.yes in
    let no = c.requires.no in
    let long = length-zip2 ltb c.args.a c.args.b (omega arith) in
    ap (λ ms. get_or (sel_l ms c.args.yes c.args.no) k 0) (tops_compared w64 ltb c.args.a c.args.b)
    ∙ get_or-sel_l (zip2 ltb c.args.a c.args.b) c.args.yes c.args.no k 0 (omega arith) (omega arith) (omega arith)
    ∙ ap (λ t. cond t (get_or c.args.yes k 0) (get_or c.args.no k 0)) (get_or-zip2 ltb c.args.a c.args.b k 0 0 false (omega arith) (omega arith))
