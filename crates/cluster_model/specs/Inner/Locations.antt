-- The locations as the code makes them by its directory.
use Rattle.std.specs.Prelude.{ℕ, List, [], ◌∷◌, map, Option}
use Rattle.std.specs.List.{flat_map}
use Rattle.std.specs.Option.{option_or}
use Rattle.crm_parse.specs.declared.form.Form.{Form}
use Rattle.crm_parse.specs.declared.form.Form.TheVariants as form
use Rattle.crm_parse.specs.declared.rule_form.RuleForm.{RuleForm}
use Rattle.crm_parse.specs.declared.statement.Statement.{Statement}
use Rattle.crm_parse.specs.declared.words.RoleWord.{RoleWord}
use Rattle.cluster_types.specs.declared.rules.Location.{Location}
use Rattle.cluster_types.specs.declared.rules.RuleLocation.{RuleLocation}
use Rattle.cluster_model.specs.declared.resolution.directory.Directory.{Directory}
use Rattle.cluster_model.specs.Inner.Directories.{first_named, node_named}
use Rattle.cluster_model.specs.Locations.{role_written}

-- a location of a group is one of its first member, and one of a clone is one of its child
abbrev pub location_in : Directory → Form → List Location
location_in d (form.Location id resource written discovery score node) =
    record { id = id; leaf = first_named d resource; role = role_written written; score = score; node = node_named d node } ∷ []
location_in d _ = []

-- the role that a rule writes counts in place of that of its statement
abbrev pub rule_location_of : Directory → List ℕ → List ℕ → Option RoleWord → RuleForm → RuleLocation
rule_location_of d id resource written rule = record {
  id = id;
  leaf = first_named d resource;
  role = role_written (option_or rule.role written);
  score = rule.score;
  rule = rule.rule;
}

-- each rule of a statement is one
abbrev pub rule_locations_in : Directory → Form → List RuleLocation
rule_locations_in d (form.RuledLocation id resource written discovery rules) = map (rule_location_of d id resource written) rules
rule_locations_in d _ = []

-- in the order of the text
abbrev pub locations_of : Directory → List Statement → List Location
locations_of d statements = flat_map (λ s. location_in d s.form) statements

abbrev pub rule_locations_of : Directory → List Statement → List RuleLocation
rule_locations_of d statements = flat_map (λ s. rule_locations_in d s.form) statements
