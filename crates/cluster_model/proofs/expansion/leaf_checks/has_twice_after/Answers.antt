use Rattle.std.proofs.Common.{rules, ◌≡◌, ◌+◌, ◌++◌, ◌∷◌, false, drop, sym, ap, ◌∙◌}
use Rattle.std.proofs.lemmas.List.{drop_more}
use Rattle.cluster_model.specs.Faults.{has_twice}
use Rattle.crm_lex.specs.NameSets.{IsWithName, has_name}
use Rattle.cluster_model.proofs.Twice.{next_part}
use Rattle.cluster_model.proofs.expansion.leaf_checks.has_twice_after.Goals as goal

pub loop-part-preserved : goal.loop-part-preserved
loop-part-preserved c =
    let l = c.loop-part in
    let names = c.args.names.now in
    let parts = c.args.parts.now in
    let part = c.part-item.result in
    let new : has_name names part ≡ false = sym c.has.ensures ∙ c.if-has.false in
    let other : has_name l.before part ≡ false = sym c.has-else-has.ensures ∙ c.if-has-2.false in
    let added : IsWithName l.before part c.add.new.self = search rules in
    let front : drop l.part-index parts ≡ part ∷ drop (l.part-index + 1) parts
    = drop_more parts l.part-index part c.loop-part-test.true ∙ ap (λ first. first ∷ drop (l.part-index + 1) parts) (sym c.part-item.is) in
    l.invariant
    ∙ (ap (has_twice (names ++ l.before)) front ∙ next_part names l.before c.add.new.self part (drop (l.part-index + 1) parts) new other added)
