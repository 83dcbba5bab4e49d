-- A node is read again from its words.
use Rattle.std.proofs.Common.{◌≡◌, ℕ, true, List, ◌∷◌, ◌++◌, Option, Ok, refl, subst}
use Rattle.std.specs.Prelude.{codes}
use Rattle.crm_lex.specs.Names.{is_name}
use Rattle.crm_parse.specs.declared.form.Form.{Form}
use Rattle.crm_parse.specs.declared.form.Form.TheVariants as form
use Rattle.crm_parse.specs.declared.owner.Owner.TheVariants as owner
use Rattle.crm_parse.specs.declared.owner.SectionWord.TheVariants.{Attributes, Utilization}
use Rattle.crm_parse.specs.declared.pair.Kv.{Kv}
use Rattle.crm_parse.specs.Node.{node_statement_at}
use Rattle.crm_parse.specs.Reading.{Words, given_at, name_at, some_name}
use Rattle.crm_parse.specs.Sections.{place_of, sections_at}
use Rattle.crm_parse.proofs.Affixes.{given_words, colon_at-again, name-no_colon_at}
use Rattle.crm_parse.proofs.Binds.{given_at-again, given_at-ok, name_at-again, name_at-ok}
use Rattle.faults.proofs.Steps.{bind-ok}
use Rattle.crm_parse.proofs.PairLists.{Kept}
use Rattle.crm_print.proofs.SectionsAgain.{node_sections-again}
use Rattle.crm_parse.proofs.SectionsKept.{sections_at-kept}
use Rattle.crm_print.proofs.Written.{Again, section_words}

node-again : (id : Option (List ℕ)) (name : List ℕ) (attributes utilization : List Kv) → some_name id ≡ Ok id → is_name name ≡ true
    → Kept (place_of owner.Node Attributes) attributes → Kept (place_of owner.Node Utilization) utilization
    → node_statement_at (given_words id ++ name ∷ (section_words (codes "attributes") attributes ++ section_words (codes "utilization") utilization))
    ≡ Ok (form.Node id name attributes utilization)
unfolding node_statement_at
node-again id name attributes utilization i n a u =
    let rest = section_words (codes "attributes") attributes ++ section_words (codes "utilization") utilization in
    let first : given_at (given_words id ++ name ∷ rest) ≡ Ok (id, name ∷ rest) =
    given_at-again id (name ∷ rest) (given_words id ++ name ∷ rest) (colon_at-again id (name ∷ rest) (name-no_colon_at name rest n)) i in
    rw (first, name_at-again name rest n, node_sections-again attributes utilization a u) refl

-- what is read as a node is read again
pub node_at-again : (words : Words) (read : Form) → node_statement_at words ≡ Ok read → Again node_statement_at (codes "node") read
unfolding node_statement_at
node_at-again words read e =
    let (id, given, after_id) = bind-ok (given_at words) _ read e in
    let (name, named, after_name) = bind-ok (name_at id.1) _ read after_id in
    let (sections, are, last) = bind-ok (sections_at owner.Node name.1) _ read after_name in
    let kept = sections_at-kept owner.Node name.1 sections are in
    let made = form.Node id.0 name.0 sections.attributes sections.utilization in
    let same : made ≡ read = cc in
    let again = node-again id.0 name.0 sections.attributes sections.utilization (given_at-ok words id given).1 (name_at-ok id.1 name named).1 kept.attributes kept.utilization in
    subst (Again node_statement_at (codes "node")) same (given_words id.0 ++ name.0 ∷ (section_words (codes "attributes") sections.attributes ++ section_words (codes "utilization") sections.utilization), refl, again)
