-- The colocations as the code makes them by its directory.
use Rattle.std.specs.Prelude.{ℕ, ℤ, List, [], ◌∷◌, map}
use Rattle.std.specs.List.{flat_map}
use Rattle.score.specs.Total.{infinity}
use Rattle.crm_parse.specs.declared.form.Form.{Form}
use Rattle.crm_parse.specs.declared.form.Form.TheVariants as form
use Rattle.crm_parse.specs.declared.statement.Statement.{Statement}
use Rattle.cluster_types.specs.declared.leaf.Role.{Role}
use Rattle.cluster_types.specs.declared.leaf.Role.TheVariants as role
use Rattle.cluster_types.specs.declared.rules.Colocation.{Colocation}
use Rattle.cluster_model.specs.declared.resolution.colocations.Bearer.{Bearer}
use Rattle.cluster_model.specs.declared.resolution.directory.Directory.{Directory}
use Rattle.cluster_model.specs.SuccessivePairs.{successive}
use Rattle.cluster_model.specs.Inner.Directories.{first_named, last_named}
use Rattle.cluster_model.specs.Locations.{role_of_word}

-- the side that wants to be somewhere: of a group its first member
abbrev pub dependent_at : Directory → List ℕ → Role → Bearer
dependent_at d resource role = record { leaf = first_named d resource; role = role }

-- the side that it wants to be with: of a group its last member
abbrev pub primary_at : Directory → List ℕ → Role → Bearer
primary_at d resource role = record { leaf = last_named d resource; role = role }

abbrev pub colocation_of : List ℕ → ℤ → Bearer → Bearer → Colocation
colocation_of id score dependent primary = record {
  id = id;
  dependent = dependent.leaf;
  dependent_role = dependent.role;
  primary = primary.leaf;
  primary_role = primary.role;
  score = score;
}

-- a member of a group must be where the member before it is
abbrev pub member_colocation : Directory → List ℕ → List ℕ × List ℕ → Colocation
member_colocation d id pair = colocation_of id infinity (dependent_at d pair.1 role.Started) (primary_at d pair.0 role.Started)

abbrev pub colocations_in : Directory → Form → List Colocation
colocations_in d (form.Colocation id score dependent primary) =
    colocation_of id score (dependent_at d dependent.resource (role_of_word dependent.role)) (primary_at d primary.resource (role_of_word primary.role))
    ∷ []
colocations_in d (form.Group id members description params meta) = map (member_colocation d id) (successive members)
colocations_in d _ = []

-- in the order of the text, those of a group at its statement
abbrev pub colocations_of : Directory → List Statement → List Colocation
colocations_of d statements = flat_map (λ s. colocations_in d s.form) statements
