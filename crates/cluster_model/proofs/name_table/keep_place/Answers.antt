use Rattle.std.proofs.Common.{rules, ◌≡◌, None}
use Rattle.cluster_model.specs.Inner.TableRows.{place_found}
use Rattle.cluster_model.proofs.TableRows.{kept}
use Rattle.cluster_model.proofs.name_table.keep_place.Goals as goal

pub returns-in_ok-insert-clause-ok : goal.returns-in_ok-insert-clause-ok
returns-in_ok-insert-clause-ok c =
    let none : place_found c.args.places.now c.args.name.now ≡ None = search rules in
    kept c.args.places.now.entries c.insert.new.self.entries c.args.name c.args.place none c.in_ok-insert.ensures.updates.0
