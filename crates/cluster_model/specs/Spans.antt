-- The first and the last leaf of each resource (crmsh manual, group and clone).
use Rattle.std.specs.Prelude.{ℕ, ◌-◌, List, [], ◌∷◌, length, slice_get, unwrap_or, Option}
use Rattle.std.specs.List.{flat_map, position_from}
use Rattle.std.specs.Option.{option_map_or}
use Rattle.crm_lex.specs.Names.{is}
use Rattle.crm_parse.specs.declared.form.Form.{Form}
use Rattle.crm_parse.specs.declared.form.Form.TheVariants as form
use Rattle.crm_parse.specs.declared.statement.Statement.{Statement}
use Rattle.cluster_model.specs.declared.expansion.leaves.Span.{Span}
use Rattle.cluster_model.specs.Resources.{Primitive, all_primitives, members_named}

-- the number of a primitive's leaf: its place among the primitives. What isn't there would have number 0 (rule of this project)
abbrev pub leaf_number : List Statement → Option (List ℕ) → ℕ
leaf_number statements name =
    option_map_or (λ name. unwrap_or (position_from (λ (p : Primitive). is name p.id) 0 (all_primitives statements)) 0) name 0

-- a resource with its first and its last leaf, where it stands for these primitives
abbrev pub span_over : List Statement → List ℕ → List (List ℕ) → Span
span_over statements id members = record {
  name = id;
  first = leaf_number statements (slice_get members 0);
  last = leaf_number statements (slice_get members (length members - 1));
}

-- a primitive and a group stand for themselves, and a clone for its child
abbrev pub its_span : List Statement → Form → List Span
its_span all (form.Primitive id agent description params meta utilization operations ops) = span_over all id (members_named all id) ∷ []
its_span all (form.Group id members description params meta) = span_over all id (members_named all id) ∷ []
its_span all (form.Cloned id child ms description params meta) = span_over all id (members_named all child) ∷ []
its_span all _ = []

-- each resource with its first and its last leaf, in the order of the text
unfoldable pub spans_said : List Statement → List Span
spans_said statements = flat_map (λ s. its_span statements s.form) statements
