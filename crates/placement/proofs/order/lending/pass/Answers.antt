use Rattle.std.proofs.Common.{◌≤◌, ◌∙◌, Bool, List, Option, if◌then◌else◌, fold, length, refl, set, slice_index_or, sym, ap}
use Rattle.std.proofs.lemmas.Bool.{or_parts}
use Rattle.std.proofs.lemmas.List.{take_all}
use Rattle.std.proofs.lemmas.List.Sums.{fold_more}
use Rattle.edges.specs.declared.edge.Edge.{Edge}
use Rattle.cluster_types.specs.Decisions.{Key}
use Rattle.placement.specs.Inner.Lending.{key_in, lent_along}
use Rattle.placement.proofs.order.lending.pass.Goals as goal

pub loop-link-init : goal.loop-link-init
loop-link-init c = record { slots = refl; same = λ _. refl }

pub loop-link-preserved : goal.loop-link-preserved
loop-link-preserved c =
    let l = c.loop-link in
    let links = c.args.links.now in
    let i = l.link-index in
    let lt = c.loop-link-test.true in
    -- what the loop reads at this place
    let link : Edge = slice_index_or links i (record { before = 0; after = 0 }) in
    let on = c.lend-raised.ensures in
    record {
      slots = on.slots ∙ (ap (λ (ss : List (Option Key)). lent_along ss link) l.invariant.slots
          ∙ sym (fold_more lent_along c.args.slots.now.items links i (record { before = 0; after = 0 }) lt));
      same = λ e.
          let none = or_parts l.raised c.lend-raised.result e in
          on.slots ∙ (ap (λ (b : Bool). if b then set l.slots.items link.before (key_in l.slots.items link.after) else l.slots.items) (sym on.raised ∙ none.1)
          ∙ l.invariant.same none.0);
    }

pub returns-clause-slots : goal.returns-clause-slots
returns-clause-slots c =
    let l = c.loop-link in
    let links = c.args.links.now in
    let end : length links ≤ l.link-index = c.loop-link-test.false in
    l.invariant.slots ∙ ap (fold lent_along c.args.slots.now.items) (take_all l.link-index links end)
