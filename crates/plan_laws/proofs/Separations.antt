-- Of two leaves that must be apart, what takes the role of one comes before what gives the other its own.
use Rattle.std.proofs.Common.{◌≡◌, ◌==◌, ◌&&◌, ℕ, true, List, Contains, refl, subst}
use Rattle.std.proofs.lemmas.Bool.{and_parts, eqb-true}
use Rattle.lemmas.proofs.Booleans.{either}
use Rattle.cluster_types.specs.declared.cluster.Cluster.{Cluster}
use Rattle.cluster_types.specs.declared.journal.Action.{Action}
use Rattle.cluster_types.specs.declared.journal.Event.{Event}
use Rattle.cluster_types.specs.declared.leaf.Role.{Role}
use Rattle.cluster_types.specs.declared.rules.Colocation.{Colocation}
use Rattle.cluster_types.specs.Choice.{is_separation}
use Rattle.cluster_types.specs.NeededActions.{GetsStepAnywhere, Needed}
use Rattle.cluster_types.specs.Numbers.{is_earlier}
use Rattle.cluster_types.specs.Precedence.{gives_role, is_migrating, is_parted, parts_first, takes_or_probes}
use Rattle.cluster_types.specs.Tables.{Targets}
use Rattle.plan_laws.proofs.NeededActions.{Migrant, migrant_disturbed, migrating}
use Rattle.plan_laws.proofs.Phases.{takes_before_gives}
use Rattle.plan_laws.proofs.Roles.{given, taken}
use Rattle.plan_laws.proofs.Words.{both_there}

module _ (c : Cluster) (es : List Event) (targets : Targets) (actions : List Action) (needed : (a : Action) → Contains actions a → Needed c es targets a) where
  -- of two leaves that must be apart no more than one migrates
  parted_upward : (r s : ℕ) (r_role s_role : Role) (x y : Action) → Contains actions y → (is_migrating actions r ≡ true → is_migrating actions s ≡ true → ⊥)
      → is_parted r r_role s s_role x y ≡ true → is_earlier c actions x y ≡ true
  parted_upward r s r_role s_role x y iny apart h =
      let b = both_there (λ a b. a.leaf == r && b.leaf == s && a.node == b.node) (takes_or_probes r_role x) (gives_role s_role y) h in
      let leaves = (and_parts (b.one.leaf == r && b.other.leaf == s) (b.one.node == b.other.node) b.passes).0 in
      let (left, right) = and_parts (b.one.leaf == r) (b.other.leaf == s) leaves in
      takes_before_gives c actions x y b.one.leaf b.other.leaf (taken r_role x b.one b.is_one) (given s_role y b.other b.is_other) iny
      (λ m k. apart (subst (λ v. is_migrating actions v ≡ true) (eqb-true b.one.leaf r left) m) (subst (λ v. is_migrating actions v ≡ true) (eqb-true b.other.leaf s right) k))

  disturbed : (r : ℕ) → is_migrating actions r ≡ true → GetsStepAnywhere c es targets r
  disturbed r h = let one : Migrant c es targets r = migrating c es targets actions needed r h in migrant_disturbed c es targets r one.source one.goal one.migrates

  pub parts_upward : (col : Colocation) → Contains c.colocations col → (x y : Action) → Contains actions y → parts_first col x y ≡ true → is_earlier c actions x y ≡ true
  parts_upward col present x y iny h =
      let (separate, one) = and_parts (is_separation col) _ h in
      either (is_parted col.dependent col.dependent_role col.primary col.primary_role x y) (is_parted col.primary col.primary_role col.dependent col.dependent_role x y) one
      (parted_upward col.dependent col.primary col.dependent_role col.primary_role x y iny
      (λ m k. ((migrating c es targets actions needed col.dependent m).migrates.colocations col present).as_dependent separate refl (disturbed col.primary k)))
      (parted_upward col.primary col.dependent col.primary_role col.dependent_role x y iny
      (λ m k. ((migrating c es targets actions needed col.primary m).migrates.colocations col present).as_primary separate refl (disturbed col.dependent k)))
