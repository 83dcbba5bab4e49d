-- The meta attributes that have effect, as the code keeps them beside each other.
use Rattle.std.specs.Prelude.{List, None, codes}
use Rattle.std.specs.Option.{option_or}
use Rattle.score.specs.ScoreText.{read_score}
use Rattle.crm_parse.specs.declared.pair.Kv.{Kv}
use Rattle.crm_parse.specs.Values.{bool_of, role_of, time_of}
use Rattle.cluster_model.specs.declared.expansion.meta.Meta.{Meta}
use Rattle.cluster_model.specs.Metas.{read_as}

-- no attribute is given
abbrev pub no_meta : Meta
no_meta = record {
  priority = None;
  stickiness = None;
  threshold = None;
  timeout_ms = None;
  target_role = None;
  managed = None;
  migrates = None;
}

-- what some pairs give
unfoldable pub meta_of : List Kv → Meta
meta_of pairs = record {
  priority = read_as read_score (codes "priority") pairs;
  stickiness = read_as read_score (codes "resource-stickiness") pairs;
  threshold = read_as read_score (codes "migration-threshold") pairs;
  timeout_ms = read_as time_of (codes "failure-timeout") pairs;
  target_role = read_as role_of (codes "target-role") pairs;
  managed = read_as bool_of (codes "is-managed") pairs;
  migrates = read_as bool_of (codes "allow-migrate") pairs;
}

-- what the one gives, and else the other
unfoldable pub or_meta : Meta → Meta → Meta
or_meta one other = record {
  priority = option_or one.priority other.priority;
  stickiness = option_or one.stickiness other.stickiness;
  threshold = option_or one.threshold other.threshold;
  timeout_ms = option_or one.timeout_ms other.timeout_ms;
  target_role = option_or one.target_role other.target_role;
  managed = option_or one.managed other.managed;
  migrates = option_or one.migrates other.migrates;
}
