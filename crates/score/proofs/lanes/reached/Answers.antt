use Rattle.std.proofs.Common.{◌/◌, ◌%◌, ◌^◌, ◌≡◌, ◌<◌, ℕ, false, cond, ltb, leb, if◌then◌else◌, get_or, replicate, length, ap, subst, sym, ◌∙◌, arith, w32}
use Rattle.std.specs.Simd.Lanes.{zip2, mask_l}
use Rattle.std.proofs.lemmas.Simd.{tops_compared, length-zip2, length-replicate, get_or-replicate, mask_l-mod, mask_l-lt, bit_mask_l, get_or-zip2}
use Rattle.score.proofs.lanes.reached.Goals as goal

-- at least, as not less
not_less : (a b : ℕ) → ◌≡◌ {A = ℕ} (cond (leb a b) 1 0) (if ltb b a then 0 else 1)
not_less a b = grind arith

pub returns-clause-eight : goal.returns-clause-eight
returns-clause-eight c =
    let floor = c.args.floor in
    let lanes = c.args.lanes in
    let floors = replicate 8 floor in
    let eight : length floors ≡ 8 = length-replicate 8 floor in
    let eights = c.requires in
    let long = length-zip2 leb floors lanes (omega arith) in
    let is = ap (λ ms. mask_l ms % 2 ^ 64) (tops_compared w32 leb floors lanes) ∙ mask_l-mod (zip2 leb floors lanes) 64 (omega arith) in
    let few = mask_l-lt (zip2 leb floors lanes) in
    subst (λ n. n < 2 ^ 8) (sym is) (subst (λ k. mask_l (zip2 leb floors lanes) < 2 ^ k) (long ∙ eight) few)

pub returns-clause-each : goal.returns-clause-each
returns-clause-each c = λ k l.
    let floor = c.args.floor in
    let lanes = c.args.lanes in
    let floors = replicate 8 floor in
    let eight : length floors ≡ 8 = length-replicate 8 floor in
    let eights = c.requires in
    let long = length-zip2 leb floors lanes (omega arith) in
    ap (λ n. n / 2 ^ k % 2) (ap (λ ms. mask_l ms % 2 ^ 64) (tops_compared w32 leb floors lanes) ∙ mask_l-mod (zip2 leb floors lanes) 64 (omega arith))
    ∙ bit_mask_l (zip2 leb floors lanes) k
    ∙ ap (λ t. cond t 1 0) (get_or-zip2 leb floors lanes k 0 0 false (omega arith) (omega arith) ∙ ap (λ f. leb f (get_or lanes k 0)) (get_or-replicate 8 k floor 0 l))
    ∙ not_less floor (get_or lanes k 0)
