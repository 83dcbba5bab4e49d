-- Roles of locations.
use Rattle.std.specs.Prelude.{Bool}
use Rattle.cluster_types.specs.declared.leaf.Role.{Role}
use Rattle.cluster_types.specs.declared.leaf.Role.TheVariants.{Started, Promoted}
use Rattle.cluster_types.specs.Terms.{is_started, is_promoted}

-- the role is this one
abbrev pub is_role : Role → Role → Bool
is_role Started role = is_started role
is_role Promoted role = is_promoted role
