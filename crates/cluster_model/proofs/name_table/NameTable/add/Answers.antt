use Rattle.std.proofs.Common.{rules, ◌≡◌, ◌++◌, ◌∷◌, [], length}
use Rattle.cluster_model.proofs.TableRows.{one_more}
use Rattle.cluster_model.proofs.name_table.NameTable.add.Goals as goal

pub invariant_of-self-2 : goal.invariant_of-self-2
invariant_of-self-2 g c =
    let rows = c.self.inside.rows.items in
    let size : c.len.result ≡ length rows = search rules in
    let items : c.push_reserved.new.self.items ≡ rows ++ (c.bytes-name.result, c.args.value) ∷ [] = search rules in
    record {
      has = λ each. rw (c.in_ok-keep_place.ensures.ok each, c.self.invariant.has each, size, items) (one_more c.bytes-name.result c.args.value each rows);
    }
