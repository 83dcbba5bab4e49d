-- What a clone says of its copies (Pacemaker Explained, "Clones"; crmsh manual, clone and ms).
use Rattle.std.specs.Prelude.{ℕ, nat_lt, if◌then◌else◌, List, codes, unwrap_or}
use Rattle.std.specs.Option.{option_or}
use Rattle.crm_parse.specs.declared.pair.Kv.{Kv}
use Rattle.crm_parse.specs.Values.{count_of}
use Rattle.cluster_model.specs.Metas.{read_as}

-- how many copies there are of what is cloned: one for each node, or fewer where clone-max says so
abbrev pub copies_in : ℕ → List Kv → ℕ
copies_in nodes pairs =
    let most = unwrap_or (read_as count_of (codes "clone-max") pairs) nodes in if nat_lt most nodes then most else nodes

-- how many copies may be promoted: promoted-max, or by its old name master-max; else 1
abbrev pub promoted_in : List Kv → ℕ
promoted_in pairs = unwrap_or (option_or (read_as count_of (codes "promoted-max") pairs) (read_as count_of (codes "master-max") pairs)) 1
