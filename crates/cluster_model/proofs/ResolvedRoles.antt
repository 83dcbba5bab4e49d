-- The roles and words of the rules of a cluster that a configuration resolves to.
use Rattle.std.proofs.Common.{arith, ◌≡◌, List, [], length, refl, ap, sym, ◌∙◌, Contains}
use Rattle.std.specs.Prelude.{Ok}
use Rattle.std.proofs.Math.Seq.{take-length}
use Rattle.cluster_types.specs.declared.cluster.Cluster.{Cluster}
use Rattle.cluster_types.specs.declared.rules.Colocation.{Colocation}
use Rattle.cluster_types.specs.declared.rules.Location.{Location}
use Rattle.cluster_types.specs.declared.rules.Order.{Order}
use Rattle.cluster_types.specs.declared.rules.RuleLocation.{RuleLocation}
use Rattle.cluster_types.specs.Valid.{FitsRole}
use Rattle.crm_parse.specs.declared.statement.Statement.{Statement}
use Rattle.cluster_model.specs.declared.expansion.leaves.Leaves.{Leaves}
use Rattle.lemmas.proofs.Members.{of_flat}
use Rattle.cluster_model.specs.declared.resolution.checks.Checked.{Checked}
use Rattle.cluster_model.specs.declared.resolution.directory.Directory.{Directory}
use Rattle.cluster_model.specs.Inner.Colocations.{colocations_in}
use Rattle.cluster_model.specs.Inner.Counting.{nothing_counted}
use Rattle.cluster_model.specs.Inner.Directories.{directory_of}
use Rattle.cluster_model.specs.Inner.Locations.{location_in, rule_locations_in}
use Rattle.cluster_model.specs.Inner.Orders.{orders_in}
use Rattle.cluster_model.specs.Inner.Resolution.{cluster_of, own_cause}
use Rattle.cluster_model.specs.Resolution.{resolution_of}
use Rattle.cluster_model.proofs.Outcome.{IsClean, clean, none-own}
use Rattle.cluster_model.proofs.Passes.{passes}
use Rattle.cluster_model.proofs.Split.{none_all}
use Rattle.cluster_model.proofs.Roles.{Agrees, HasRoles, HasWords, colocation-roles, location-role, order-words, promotes-alike, rule-role}
use Rattle.cluster_model.proofs.Sound.{IsSound, all-sound, as-many}

module _ (leaves : Leaves) (statements : List Statement) (c : Cluster) (r : resolution_of leaves statements ≡ Ok c) where
  abbrev pub d : Directory
  d = directory_of leaves statements

  pub is-clean : IsClean d leaves.leaves statements c
  is-clean = clean leaves statements c r

  has-leaves : c.leaves ≡ leaves.leaves
  unfolding cluster_of
  has-leaves = ap (λ (c : Cluster). c.leaves) is-clean.is_whole

  pub agrees : Agrees d c
  agrees = record {
    many = as-many d leaves statements refl ∙ ap length (sym has-leaves);
    promotes = promotes-alike d c leaves statements refl has-leaves;
  }

  pub sound : (s : Statement) → Contains statements s → IsSound d s.form
  sound s h =
      let whole = ap (λ (found : Checked). found.sound) (passes d statements) ∙ none_all (own_cause d) [] statements (none-own d leaves.leaves statements c is-clean) in
      all-sound d 0 nothing_counted statements (length statements) (omega (arith, whole)) s (rw (sym (take-length statements)) at h)

  pub colocations : (col : Colocation) → Contains c.colocations col → HasRoles d c agrees col
  unfolding cluster_of
  colocations col h =
      let same = ap (λ (c : Cluster). c.colocations) is-clean.is_whole in
      let m = of_flat (λ s. colocations_in d s.form) statements col (rw same at h) in
      colocation-roles d c agrees m.source.form (sound m.source m.among) col m.gives

  pub orders : (o : Order) → Contains c.orders o → HasWords d c agrees o
  unfolding cluster_of
  orders o h =
      let same = ap (λ (c : Cluster). c.orders) is-clean.is_whole in
      let m = of_flat (λ s. orders_in d s.form) statements o (rw same at h) in
      order-words d c agrees m.source.form (sound m.source m.among) o m.gives

  pub locations : (l : Location) → Contains c.locations l → FitsRole c l.leaf l.role
  unfolding cluster_of
  locations l h =
      let same = ap (λ (c : Cluster). c.locations) is-clean.is_whole in
      let m = of_flat (λ s. location_in d s.form) statements l (rw same at h) in
      location-role d c agrees m.source.form (sound m.source m.among) l m.gives

  pub rule_locations : (l : RuleLocation) → Contains c.rule_locations l → FitsRole c l.leaf l.role
  unfolding cluster_of
  rule_locations l h =
      let same = ap (λ (c : Cluster). c.rule_locations) is-clean.is_whole in
      let m = of_flat (λ s. rule_locations_in d s.form) statements l (rw same at h) in
      rule-role d c agrees m.source.form (sound m.source m.among) l m.gives
