-- The spans that the code makes are those that the statements say.
use Rattle.std.proofs.Common.{◌≡◌, ℕ, ◌+◌, ◌-◌, Bool, true, false, cond, List, [], ◌∷◌, ◌++◌, length, map, slice_get, Option, Some, None, unwrap_or, refl, ap, ◌∙◌}
use Rattle.std.specs.List.{find, flat_map, position_from}
use Rattle.std.specs.Option.{option_map, option_map_or}
use Rattle.crm_lex.specs.Names.{is}
use Rattle.crm_parse.specs.declared.form.Form.{Form}
use Rattle.crm_parse.specs.declared.form.Form.TheVariants as form
use Rattle.crm_parse.specs.declared.statement.Statement.{Statement}
use Rattle.cluster_model.specs.declared.expansion.spans.Ends.{Ends}
use Rattle.cluster_model.specs.Spans.{its_span, leaf_number, span_over, spans_said}
use Rattle.cluster_model.specs.Leaves.{leaf_said, leaves_said}
use Rattle.cluster_model.specs.Resources.{Group, Primitive, all_groups, all_primitives, group_named, its_group, members_named}
use Rattle.cluster_model.specs.Inner.Spans.{ends_by, ends_named, ends_of, group_ends_in, number, number_of, numbers_from, numbers_of, span, span_in, spans_in, spans_of}
use Rattle.cluster_model.specs.Inner.Tables.{lookup}

module _ (statements : List Statement) where
  abbrev numbers : List (List ℕ × ℕ)
  numbers = numbers_of (leaves_said statements)

  place_is : (name : List ℕ) (n : ℕ) (ps : List Primitive)
      → lookup (numbers_from n (map (leaf_said statements) ps)) name ≡ position_from (λ (p : Primitive). is name p.id) n ps
  unfolding leaf_said
  place_is name n [] = refl
  place_is name n (p ∷ ps) = ap (λ (found : Option ℕ). cond (is name p.id) (Some n) found) (place_is name (n + 1) ps)

  number_is : (name : Option (List ℕ)) → number_of numbers name ≡ leaf_number statements name
  unfolding leaves_said
  number_is None = refl
  number_is (Some name) = ap (λ (found : Option ℕ). unwrap_or found 0) (place_is name 0 (all_primitives statements))

  group_found : (name : List ℕ) (f : Form) (rest : List (List ℕ × Ends)) (groups : List Group)
      → lookup rest name ≡ option_map (λ (g : Group). ends_of numbers g.members) (find (λ (g : Group). is name g.id) groups)
      → lookup (group_ends_in numbers f ++ rest) name
      ≡ option_map (λ (g : Group). ends_of numbers g.members) (find (λ (g : Group). is name g.id) (its_group f ++ groups))
  group_found name (form.Group id members description params meta) rest groups e = on (is name id) where
    on : (b : Bool) → cond b (Some (ends_of numbers members)) (lookup rest name)
        ≡ option_map (λ (g : Group). ends_of numbers g.members)
        (cond b (Some (record { id = id; members = members; meta = meta })) (find (λ (g : Group). is name g.id) groups))
    on true = refl
    on false = e
  group_found name _ rest groups e = e

  ends_found : (name : List ℕ) (some : List Statement)
      → lookup (ends_by numbers some) name ≡ option_map (λ (g : Group). ends_of numbers g.members) (group_named some name)
  ends_found name [] = refl
  ends_found name (s ∷ some) = group_found name s.form (ends_by numbers some) (all_groups some) (ends_found name some)

  span_is : (id whole : List ℕ) → span id (ends_named numbers (ends_by numbers statements) whole) ≡ span_over statements id (members_named statements whole)
  span_is id whole = ap (λ (found : Option Ends). span id (unwrap_or found (record { first = number numbers whole; last = number numbers whole }))) (ends_found whole statements)
      ∙ on (group_named statements whole) where
        on : (g : Option Group)
            → span id (unwrap_or (option_map (λ (g : Group). ends_of numbers g.members) g) (record { first = number numbers whole; last = number numbers whole }))
            ≡ span_over statements id (option_map_or (λ (g : Group). g.members) g (whole ∷ []))
        on None = let e = number_is (Some whole) in rw e refl
        on (Some g) =
            let first = number_is (slice_get g.members 0) in
            let last = number_is (slice_get g.members (length g.members - 1)) in
            rw (first, last) refl

  its_spans : (f : Form) → span_in numbers (ends_by numbers statements) f ≡ its_span statements f
  its_spans (form.Primitive id agent description params meta utilization operations ops) = ap (λ one. one ∷ []) (span_is id id)
  its_spans (form.Group id members description params meta) = ap (λ one. one ∷ []) (span_is id id)
  its_spans (form.Cloned id child ms description params meta) = ap (λ one. one ∷ []) (span_is id child)
  its_spans _ = refl

  spans_from : (some : List Statement) → spans_in numbers (ends_by numbers statements) some ≡ flat_map (λ s. its_span statements s.form) some
  spans_from [] = refl
  spans_from (s ∷ some) = let one = its_spans s.form in let more = spans_from some in rw (one, more) refl

  pub spans_are : spans_of (leaves_said statements) statements ≡ spans_said statements
  unfolding spans_of spans_said
  spans_are = spans_from statements
