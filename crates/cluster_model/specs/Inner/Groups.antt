-- The table of what each group gives to its members.
use Rattle.std.specs.Prelude.{ℕ, Bool, false, true, List, [], ◌∷◌, map, Option}
use Rattle.std.specs.List.{flat_map}
use Rattle.crm_parse.specs.declared.form.Form.{Form}
use Rattle.crm_parse.specs.declared.form.Form.TheVariants as form
use Rattle.crm_parse.specs.declared.statement.Statement.{Statement}
use Rattle.cluster_model.specs.declared.expansion.clones.InClone.{InClone}
use Rattle.cluster_model.specs.declared.expansion.groups.InGroup.{InGroup}
use Rattle.cluster_model.specs.declared.expansion.meta.Meta.{Meta}
use Rattle.cluster_model.specs.Inner.Metas.{meta_of}
use Rattle.cluster_model.specs.Inner.Tables.{lookup}

-- what a group gives to a member; the members after the first are followers
abbrev pub membership_of : Meta → Option InClone → Bool → InGroup
membership_of meta clone follower = record { meta = meta; follower = follower; clone = clone }

abbrev pub members_of : Meta → Option InClone → List (List ℕ) → List (List ℕ × InGroup)
members_of meta clone [] = []
members_of meta clone (first ∷ others) = (first, membership_of meta clone false) ∷ map (λ other. (other, membership_of meta clone true)) others

-- the members of a group, each with what its group gives to it, where these are cloned
abbrev pub grouped_in : List (List ℕ × InClone) → Form → List (List ℕ × InGroup)
grouped_in cloned (form.Group id members description params meta) = members_of (meta_of meta) (lookup cloned id) members
grouped_in cloned _ = []

-- each member of a group
abbrev pub grouped_by : List (List ℕ × InClone) → List Statement → List (List ℕ × InGroup)
grouped_by cloned statements = flat_map (λ s. grouped_in cloned s.form) statements
