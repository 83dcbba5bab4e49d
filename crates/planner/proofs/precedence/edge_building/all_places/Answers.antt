use Rattle.std.proofs.Common.{arith, rules, ◌≡◌, ◌<◌, ◌++◌, ◌∷◌, [], sym, ap, ◌∙◌, subst, All}
use Rattle.std.proofs.lemmas.List.Elements.{All-push}
use Rattle.lemmas.proofs.Ranges.{range-more}
use Rattle.planner.proofs.precedence.edge_building.all_places.Goals as goal

pub loop-place-preserved : goal.loop-place-preserved
loop-place-preserved c =
    let items : c.push.new.self.items ≡ c.loop-place.places.items ++ c.loop-place.place ∷ [] = search rules in
    let below : c.loop-place.place < c.args.count = grind arith in (
      items ∙ (ap (λ v. v ++ c.loop-place.place ∷ []) c.loop-place.invariant.0 ∙ sym (range-more c.loop-place.place)),
      subst (λ v. All (λ place. place < c.args.count) v) (sym items)
          (All-push (λ place. place < c.args.count) c.loop-place.places.items c.loop-place.place c.loop-place.invariant.1 below),
    )
