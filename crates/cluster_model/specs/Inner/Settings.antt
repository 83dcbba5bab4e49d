-- The defaults, statement by statement.
use Rattle.std.specs.Prelude.{List, [], ◌∷◌}
use Rattle.crm_parse.specs.declared.statement.Statement.{Statement}
use Rattle.cluster_model.specs.declared.expansion.meta.Meta.{Meta}
use Rattle.cluster_model.specs.Inner.Metas.{meta_of, no_meta, or_meta}
use Rattle.cluster_model.specs.Settings.{defaults_in}

-- the defaults, each as the first statement that gives it says
abbrev pub defaults_from : Meta → List Statement → Meta
defaults_from found [] = found
defaults_from found (s ∷ statements) = defaults_from (or_meta found (meta_of (defaults_in s.form))) statements

abbrev pub defaults_of : List Statement → Meta
defaults_of statements = defaults_from no_meta statements
