-- Who wants to be where another is (crmsh manual, colocation and group; Pacemaker Explained, "Placing Resources Relative to other Resources" and
-- "Groups").
use Rattle.std.specs.Prelude.{ℕ, ℤ, List, [], ◌∷◌, map}
use Rattle.score.specs.Total.{infinity}
use Rattle.crm_parse.specs.declared.form.Form.{Form}
use Rattle.crm_parse.specs.declared.form.Form.TheVariants as form
use Rattle.cluster_types.specs.declared.leaf.Role.{Role}
use Rattle.cluster_types.specs.declared.leaf.Role.TheVariants as role
use Rattle.cluster_types.specs.declared.rules.Colocation.{Colocation}
use Rattle.cluster_model.specs.SuccessivePairs.{successive}
use Rattle.cluster_model.specs.Locations.{role_of_word}
use Rattle.cluster_model.specs.declared.expansion.leaves.Leaves.{Leaves}
use Rattle.cluster_model.specs.NamesInRules.{first_leaf, last_leaf}

module _ (leaves : Leaves) where
  -- a colocation of the first leaf of the dependent and the last leaf of the primary
  abbrev pub colocation_said : List ℕ → ℤ → List ℕ → Role → List ℕ → Role → Colocation
  colocation_said id score dependent dependent_role primary primary_role = record {
    id = id;
    dependent = first_leaf leaves dependent;
    dependent_role = dependent_role;
    primary = last_leaf leaves primary;
    primary_role = primary_role;
    score = score;
  }

  -- a written colocation is one; and each member of a group must be where the member before it is
  abbrev pub its_colocations : Form → List Colocation
  its_colocations (form.Colocation id score dependent primary) =
      colocation_said id score dependent.resource (role_of_word dependent.role) primary.resource (role_of_word primary.role) ∷ []
  its_colocations (form.Group id members description params meta) =
      map (λ (pair : List ℕ × List ℕ). colocation_said id infinity pair.1 role.Started pair.0 role.Started) (successive members)
  its_colocations _ = []
