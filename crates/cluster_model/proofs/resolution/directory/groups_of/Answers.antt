use Rattle.std.proofs.Common.{rules, ◌≡◌, ◌+◌, ◌++◌, ◌∷◌, ℕ, List, drop, map, refl, sym, ap, ◌∙◌}
use Rattle.std.proofs.lemmas.List.{append_assoc, drop_more}
use Rattle.cluster_model.specs.Inner.Directories.{grouped_from, members_in}
use Rattle.cluster_model.proofs.resolution.directory.groups_of.Goals as goal

pub loop-statement-preserved : goal.loop-statement-preserved
loop-statement-preserved c =
    let l = c.loop-statement in
    let statements = c.args.statements.now in
    let s = c.statement-item.result in
    let rest = drop (l.statement-index + 1) statements in
    let members : List (List ℕ × ℕ) = map (λ member. (member, l.number)) (members_in s.form) in
    let front : drop l.statement-index statements ≡ s ∷ rest
    = drop_more statements l.statement-index s c.loop-statement-test.true ∙ ap (λ first. first ∷ rest) (sym c.statement-item.is) in
    let added : c.add_members.new.groups ≡ l.groups ++ members = search rules in
    record {
      all =
          l.invariant.all
          ∙ (ap (λ more. l.groups ++ grouped_from l.number more) front
          ∙ (sym (append_assoc l.groups members (grouped_from (l.number + 1) rest)) ∙ rw added refl));
      so_many = ap (λ n. n + 1) l.invariant.so_many;
    }
