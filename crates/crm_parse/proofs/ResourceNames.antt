-- The names of resources.
use Rattle.std.proofs.Common.{◌≡◌, ℕ, true, List, Ok, ap, ◌∙◌}
use Rattle.crm_lex.specs.Names.{is_name}
use Rattle.crm_parse.specs.declared.fault.ParseCause.TheVariants.{Unsupported}
use Rattle.crm_parse.specs.Reading.{begins_set, name_of, resource_of}
use Rattle.crm_parse.proofs.Binds.{name_of-ok, unless-ok}

-- the name of a resource is one
pub record IsResource (name : List ℕ) : Type 0 where
  pub named : is_name name ≡ true
  pub read : resource_of name ≡ Ok name

pub resource-ok : (word name : List ℕ) → resource_of word ≡ Ok name → IsResource name × (name ≡ word)
resource-ok word name e =
    let (is_one, no_set) = unless-ok (begins_set word) (name_of word) name Unsupported e in
    let (same, good) = name_of-ok word name is_one in
    (record { named = rw same good; read = rw same (e ∙ ap Ok same) }, same)
