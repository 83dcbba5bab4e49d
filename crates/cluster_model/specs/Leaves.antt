-- The leaf of each primitive: what its own statement, its group, its clone, the defaults and the options of the cluster say of it (Pacemaker
-- Explained, "Resource Meta-Attributes", "Setting Global Defaults for Resource Meta-Attributes", "Groups" and "Clones").
use Rattle.std.specs.Prelude.{ℤ, pos, Bool, false, true, not, ◌&&◌, List, [], ◌∷◌, map, codes, is_some, unwrap_or}
use Rattle.std.specs.Option.{option_map_or}
use Rattle.score.specs.ScoreText.{read_score}
use Rattle.score.specs.Total.{infinity}
use Rattle.crm_parse.specs.declared.pair.Kv.{Kv}
use Rattle.crm_parse.specs.declared.statement.Statement.{Statement}
use Rattle.crm_parse.specs.declared.values.RoleName.TheVariants as named
use Rattle.crm_parse.specs.Statements.{says_promotable}
use Rattle.crm_parse.specs.Values.{bool_of, role_of, time_of}
use Rattle.crm_parse.specs.declared.values.RoleName.{RoleName}
use Rattle.cluster_types.specs.declared.leaf.Leaf.{Leaf}
use Rattle.cluster_types.specs.declared.leaf.OnFail.TheVariants.{Restart}
use Rattle.cluster_types.specs.declared.leaf.TargetRole.{TargetRole}
use Rattle.cluster_types.specs.declared.leaf.TargetRole.TheVariants as target
use Rattle.cluster_model.specs.Clones.{copies_in, promoted_in}
use Rattle.cluster_model.specs.Metas.{read_as, first_given}
use Rattle.cluster_model.specs.Operations.{after_a_stop, fail_of, monitors_of}
use Rattle.cluster_model.specs.Resources.{Clone, Group, Primitive, all_primitives, clone_around, group_with, is_later_member}
use Rattle.cluster_model.specs.Settings.{count_nodes, defaults_in, option_given}

abbrev pub target_role_named : RoleName → TargetRole
target_role_named named.Started = target.Started
target_role_named named.Stopped = target.Stopped
target_role_named named.Promoted = target.Promoted
target_role_named named.Unpromoted = target.Unpromoted

-- resource-stickiness where none is given: 1 in a clone, else 0 (Pacemaker Explained, "resource-stickiness")
abbrev pub plain_stickiness : Bool → ℤ
plain_stickiness true = pos 1
plain_stickiness false = pos 0

-- where an attribute of a primitive is looked for, in this order: its own statement, its group, its clone, and the defaults
abbrev pub attributes_around : List Statement → Primitive → List (List Kv)
attributes_around statements p =
    p.meta
    ∷ option_map_or (λ (group : Group). group.meta) (group_with statements p.id) []
    ∷ option_map_or (λ (clone : Clone). clone.meta) (clone_around statements p.id) []
    ∷ map (λ s. defaults_in s.form) statements

-- the leaf of a primitive
unfoldable pub leaf_said : List Statement → Primitive → Leaf
leaf_said statements p =
    let group = group_with statements p.id in
    let clone = clone_around statements p.id in
    let attributes = attributes_around statements p in
    record {
      name = p.id;
      copies = option_map_or (λ (c : Clone). copies_in (count_nodes statements) c.meta) clone 1;
      promoted_copies = option_map_or (λ (c : Clone). promoted_in c.meta) clone 1;
      cloned = is_some clone;
      interleave = option_map_or (λ (c : Clone). unwrap_or (read_as bool_of (codes "interleave") c.meta) false) clone false;
      promotable = option_map_or (λ (c : Clone). says_promotable c.ms c.meta) clone false;
      follower = option_map_or (λ (g : Group). is_later_member g.members p.id) group false;
      priority = unwrap_or (first_given read_score (codes "priority") attributes) (pos 0);
      stickiness = unwrap_or (first_given read_score (codes "resource-stickiness") attributes) (plain_stickiness (is_some clone));
      threshold = unwrap_or (first_given read_score (codes "migration-threshold") attributes) infinity;
      timeout_ms = unwrap_or (first_given time_of (codes "failure-timeout") attributes) 0;
      target_role = target_role_named (unwrap_or (first_given role_of (codes "target-role") attributes) named.Started);
      managed = unwrap_or (first_given bool_of (codes "is-managed") attributes) true && not (option_given (codes "maintenance-mode") false statements);
      migrates = unwrap_or (first_given bool_of (codes "allow-migrate") attributes) false;
      start_fail = unwrap_or (fail_of (codes "start") p.ops) Restart;
      stop_fail = unwrap_or (fail_of (codes "stop") p.ops) (after_a_stop (option_given (codes "stonith-enabled") true statements));
      promote_fail = unwrap_or (fail_of (codes "promote") p.ops) Restart;
      demote_fail = unwrap_or (fail_of (codes "demote") p.ops) Restart;
      monitors = monitors_of p.ops;
    }

-- each primitive is one leaf, in the order of the text
unfoldable pub leaves_said : List Statement → List Leaf
leaves_said statements = map (leaf_said statements) (all_primitives statements)
