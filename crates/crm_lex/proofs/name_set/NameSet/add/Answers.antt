use Rattle.std.proofs.Common.{rules, ◌≡◌, nat_cmp, true, cond}
use Rattle.std.specs.Cmp.Lexicographic.{slice_cmp}
use Rattle.std.specs.List.{list_any}
use Rattle.std.specs.Ordering.{eq_by_cmp}
use Rattle.crm_lex.proofs.Orders.{added}
use Rattle.crm_lex.proofs.name_set.NameSet.add.Goals as goal

pub returns-clause-ok : goal.returns-clause-ok
returns-clause-ok c each =
    let more : list_any (λ x. eq_by_cmp (slice_cmp nat_cmp) each x) c.insert.new.self.keys
    ≡ cond (eq_by_cmp (slice_cmp nat_cmp) c.args.name.now each) true (list_any (λ x. eq_by_cmp (slice_cmp nat_cmp) each x) c.self.inside.names.keys) = search rules in
    rw (← c.self.view_is) (added c.self.inside.names.keys c.insert.new.self.keys c.args.name.now each more)
