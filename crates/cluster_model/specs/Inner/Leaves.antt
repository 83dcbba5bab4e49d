-- The leaves as the code makes them: with the help of tables of what clones and groups give.
use Rattle.std.specs.Prelude.{ℕ, pos, false, true, not, ◌&&◌, List, [], ◌∷◌, codes, is_some, unwrap_or}
use Rattle.std.specs.List.{flat_map}
use Rattle.score.specs.Total.{infinity}
use Rattle.crm_parse.specs.declared.form.Form.{Form}
use Rattle.crm_parse.specs.declared.form.Form.TheVariants as form
use Rattle.crm_parse.specs.declared.pair.Kv.{Kv}
use Rattle.crm_parse.specs.declared.pair.Operation.{Operation}
use Rattle.crm_parse.specs.declared.statement.Statement.{Statement}
use Rattle.crm_parse.specs.declared.values.RoleName.TheVariants as named
use Rattle.cluster_types.specs.declared.leaf.Leaf.{Leaf}
use Rattle.cluster_types.specs.declared.leaf.OnFail.TheVariants.{Restart}
use Rattle.cluster_model.specs.declared.expansion.clones.InClone.{InClone}
use Rattle.cluster_model.specs.declared.expansion.groups.InGroup.{InGroup}
use Rattle.cluster_model.specs.declared.expansion.meta.Meta.{Meta}
use Rattle.cluster_model.specs.declared.expansion.surroundings.Surroundings.{Surroundings}
use Rattle.cluster_model.specs.Inner.Clones.{cloned_by, uncloned}
use Rattle.cluster_model.specs.Inner.Groups.{grouped_by}
use Rattle.cluster_model.specs.Inner.Metas.{meta_of, no_meta, or_meta}
use Rattle.cluster_model.specs.Operations.{after_a_stop, fail_of, monitors_of}
use Rattle.cluster_model.specs.Settings.{count_nodes, option_given}
use Rattle.cluster_model.specs.Inner.Settings.{defaults_of}
use Rattle.cluster_model.specs.Inner.Tables.{lookup}
use Rattle.cluster_model.specs.Leaves.{target_role_named, plain_stickiness}

-- what stands around the primitives of a configuration
unfoldable pub surroundings_of : List Statement → Surroundings
surroundings_of statements =
    let cloned = cloned_by (count_nodes statements) statements in record {
      fencing = option_given (codes "stonith-enabled") true statements;
      maintenance = option_given (codes "maintenance-mode") false statements;
      defaults = defaults_of statements;
      cloned = cloned;
      grouped = grouped_by cloned statements;
    }

-- the group of a primitive with its clone; a primitive outside of groups may be in a clone of its own
abbrev pub around : Surroundings → List ℕ → InGroup
around s id = unwrap_or (lookup s.grouped id) (record { meta = no_meta; follower = false; clone = lookup s.cloned id })

-- a value is looked up in the primitive, its group, its clone, and the defaults (Pacemaker Explained, "Setting Global Defaults for Resource
-- Meta-Attributes")
abbrev pub meta_around : Surroundings → InGroup → InClone → List Kv → Meta
meta_around s group clone pairs = or_meta (or_meta (or_meta (meta_of pairs) group.meta) clone.meta) s.defaults

-- the leaf of a primitive
unfoldable pub primitive_leaf : Surroundings → List ℕ → List Kv → List Operation → Leaf
primitive_leaf s id pairs ops =
    let group = around s id in
    let clone = unwrap_or group.clone uncloned in
    let meta = meta_around s group clone pairs in
    record {
      name = id;
      copies = clone.copies;
      promoted_copies = clone.promoted_copies;
      cloned = is_some group.clone;
      interleave = clone.interleave;
      promotable = clone.promotable;
      follower = group.follower;
      priority = unwrap_or meta.priority (pos 0);
      stickiness = unwrap_or meta.stickiness (plain_stickiness (is_some group.clone));
      threshold = unwrap_or meta.threshold infinity;
      timeout_ms = unwrap_or meta.timeout_ms 0;
      target_role = target_role_named (unwrap_or meta.target_role named.Started);
      managed = unwrap_or meta.managed true && not s.maintenance;
      migrates = unwrap_or meta.migrates false;
      start_fail = unwrap_or (fail_of (codes "start") ops) Restart;
      stop_fail = unwrap_or (fail_of (codes "stop") ops) (after_a_stop s.fencing);
      promote_fail = unwrap_or (fail_of (codes "promote") ops) Restart;
      demote_fail = unwrap_or (fail_of (codes "demote") ops) Restart;
      monitors = monitors_of ops;
    }

abbrev pub leaf_in : Surroundings → Form → List Leaf
leaf_in s (form.Primitive id agent description params meta utilization operations ops) = primitive_leaf s id meta ops ∷ []
leaf_in s _ = []

-- each primitive is one leaf
abbrev pub leaves_in : Surroundings → List Statement → List Leaf
leaves_in s statements = flat_map (λ statement. leaf_in s statement.form) statements

unfoldable pub leaves_of : List Statement → List Leaf
leaves_of statements = leaves_in (surroundings_of statements) statements

-- the id of a primitive
abbrev pub primitive_in : Form → List (List ℕ)
primitive_in (form.Primitive id agent description params meta utilization operations ops) = id ∷ []
primitive_in _ = []
