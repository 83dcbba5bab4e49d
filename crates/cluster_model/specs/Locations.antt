-- How much resources want to be on nodes (crmsh manual, location; Pacemaker Explained, "Deciding Which Nodes a Resource Can Run On").
use Rattle.std.specs.Prelude.{List, [], ◌∷◌, map, unwrap_or, Option}
use Rattle.std.specs.Option.{option_or}
use Rattle.crm_parse.specs.declared.form.Form.{Form}
use Rattle.crm_parse.specs.declared.form.Form.TheVariants as form
use Rattle.crm_parse.specs.declared.rule_form.RuleForm.{RuleForm}
use Rattle.crm_parse.specs.declared.statement.Statement.{Statement}
use Rattle.crm_parse.specs.declared.words.RoleWord.{RoleWord}
use Rattle.crm_parse.specs.declared.words.RoleWord.TheVariants as word
use Rattle.cluster_types.specs.declared.leaf.Role.{Role}
use Rattle.cluster_types.specs.declared.leaf.Role.TheVariants as role
use Rattle.cluster_types.specs.declared.rules.Location.{Location}
use Rattle.cluster_types.specs.declared.rules.RuleLocation.{RuleLocation}
use Rattle.cluster_model.specs.declared.expansion.leaves.Leaves.{Leaves}
use Rattle.cluster_model.specs.NamesInRules.{first_leaf, node_number}

abbrev pub role_of_word : RoleWord → Role
role_of_word word.Started = role.Started
role_of_word word.Promoted = role.Promoted

-- a role that isn't written is Started
abbrev pub role_written : Option RoleWord → Role
role_written written = role_of_word (unwrap_or written word.Started)

module _ (leaves : Leaves) (statements : List Statement) where
  -- a location of a group is one of its first member
  abbrev pub its_locations : Form → List Location
  its_locations (form.Location id resource written discovery score node) =
      record {
        id = id;
        leaf = first_leaf leaves resource;
        role = role_written written;
        score = score;
        node = node_number statements node;
      }
      ∷ []
  its_locations _ = []

  -- each rule of a statement is one. The role that a rule writes counts in place of that of its statement
  abbrev pub its_rule_locations : Form → List RuleLocation
  its_rule_locations (form.RuledLocation id resource written discovery rules) =
      map
      (λ (rule : RuleForm). record {
        id = id;
        leaf = first_leaf leaves resource;
        role = role_written (option_or rule.role written);
        score = rule.score;
        rule = rule.rule;
      })
      rules
  its_rule_locations _ = []
