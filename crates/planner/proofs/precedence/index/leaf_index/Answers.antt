use Rattle.std.proofs.Common.{arith, rules, ◌≡◌, ◌<◌, length, sym, subst, IfSome}
use Rattle.std.specs.Prelude.{vec_len}
use Rattle.std.proofs.lemmas.List.Elements.{Contains-get_or}
use Rattle.std.proofs.lemmas.Option.{slice_get-get_or}
use Rattle.planner.proofs.IndexMore.{index_more}
use Rattle.planner.proofs.precedence.index.leaf_index.Goals as goal

pub loop-place-preserved : goal.loop-place-preserved
loop-place-preserved c =
    let long : length c.loop-place.index.items ≡ c.args.leaves = search rules in
    let still : vec_len c.add_place.new.index ≡ c.args.leaves = search rules in
    let below : c.loop-place.place < length c.args.actions.now = grind arith in (
      still,
      index_more c.args.actions.now c.args.leaves c.loop-place.place c.loop-place.index.items c.add_place.new.index.items _ c.leaf_if.result long
          (slice_get-get_or c.args.actions.now c.loop-place.place _ below) (sym c.leaf_if.ensures)
          (subst (λ v. IfSome v (λ r. r < c.args.leaves)) (sym c.leaf_if.ensures) (c.requires.inside _ (Contains-get_or c.args.actions.now c.loop-place.place _ below)))
          c.loop-place.invariant.1 c.in_ok-add_place.ensures.more,
    )
