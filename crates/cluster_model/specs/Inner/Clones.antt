-- The table of what each clone gives to what is in it.
use Rattle.std.specs.Prelude.{ℕ, Bool, false, List, [], ◌∷◌, codes, unwrap_or}
use Rattle.std.specs.List.{flat_map}
use Rattle.crm_parse.specs.declared.form.Form.{Form}
use Rattle.crm_parse.specs.declared.form.Form.TheVariants as form
use Rattle.crm_parse.specs.declared.pair.Kv.{Kv}
use Rattle.crm_parse.specs.declared.statement.Statement.{Statement}
use Rattle.crm_parse.specs.Statements.{says_promotable}
use Rattle.crm_parse.specs.Values.{bool_of}
use Rattle.cluster_model.specs.declared.expansion.clones.InClone.{InClone}
use Rattle.cluster_model.specs.Inner.Metas.{meta_of, no_meta}
use Rattle.cluster_model.specs.Metas.{read_as}
use Rattle.cluster_model.specs.Clones.{copies_in, promoted_in}

-- what a clone gives to what is in it, where there are so many nodes
unfoldable pub in_clone : ℕ → Bool → List Kv → InClone
in_clone nodes ms pairs = record {
  meta = meta_of pairs;
  copies = copies_in nodes pairs;
  promoted_copies = promoted_in pairs;
  interleave = unwrap_or (read_as bool_of (codes "interleave") pairs) false;
  promotable = says_promotable ms pairs;
}

-- what holds outside of clones: one copy, which isn't promoted
abbrev pub uncloned : InClone
uncloned = record { meta = no_meta; copies = 1; promoted_copies = 1; interleave = false; promotable = false }

-- the child of a clone, with what its clone gives to it
abbrev pub cloned_in : ℕ → Form → List (List ℕ × InClone)
cloned_in nodes (form.Cloned id child ms description params meta) = (child, in_clone nodes ms meta) ∷ []
cloned_in nodes _ = []

-- each child of a clone
abbrev pub cloned_by : ℕ → List Statement → List (List ℕ × InClone)
cloned_by nodes statements = flat_map (λ s. cloned_in nodes s.form) statements
