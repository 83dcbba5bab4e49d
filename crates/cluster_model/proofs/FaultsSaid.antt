-- The faults of resources that the code finds are those that the statements have.
use Rattle.std.proofs.Common.{◌≡◌, ℕ, Bool, true, false, cond, not, List, [], ◌∷◌, ◌++◌, map, Option, Some, None, refl, sym, ap, ◌∙◌}
use Rattle.std.specs.Prelude.{is_none}
use Rattle.std.specs.List.{find, flat_map, list_any}
use Rattle.std.specs.Option.{option_map, option_map_or}
use Rattle.std.proofs.lemmas.Grind.{flat_map-append}
use Rattle.std.proofs.lemmas.List.{append-nil}
use Rattle.crm_lex.specs.Names.{is}
use Rattle.crm_parse.specs.declared.form.Form.{Form}
use Rattle.crm_parse.specs.declared.form.Form.TheVariants as form
use Rattle.crm_parse.specs.declared.statement.Statement.{Statement}
use Rattle.cluster_model.specs.declared.expansion.kinds.Kind.{Kind}
use Rattle.cluster_model.specs.declared.expansion.kinds.Kind.TheVariants as kind
use Rattle.cluster_model.specs.declared.expansion.seen_names.Seen.{Seen}
use Rattle.cluster_model.specs.Inner.Faults.{expand_cause_of, fault_of, first_expand_fault, is_group, kinds_of, may_contain, nothing_seen, promotes_group, resource_kinds_in, seen_after}
use Rattle.cluster_model.specs.Faults.{ids_in, parts_in, is_a_group, is_resource, expand_cause, may_have_part, promotes_members, resource_named}
use Rattle.cluster_model.specs.FirstFaults.{first_fault}
use Rattle.cluster_model.specs.Settings.{node_names_in}
use Rattle.cluster_model.specs.Inner.Tables.{lookup}

-- tests that agree on each element
pub any_same : {X : Type 0} (one other : X → Bool) → ((x : X) → one x ≡ other x) → (xs : List X) → list_any one xs ≡ list_any other xs
any_same one other same [] = refl
any_same one other same (x ∷ xs) = let here = same x in let more = any_same one other same xs in rw (here, more) refl

abbrev pub kind_of : Form → Kind
kind_of (form.Primitive id agent description params meta utilization operations ops) = kind.Primitive
kind_of (form.Group id members description params meta) = kind.Group
kind_of _ = kind.Clone

module _ (name : List ℕ) where
  kind_case : (k : Kind) (f : Form) → kind_of f ≡ k → (found : Option Kind) (more : Option Form) → found ≡ option_map kind_of more → (b : Bool)
      → cond b (Some k) found ≡ option_map kind_of (cond b (Some f) more)
  kind_case k f is found more e true = ap Some (sym is)
  kind_case k f is found more e false = e

  kind_found : (f : Form) (rest : List (List ℕ × Kind)) (forms : List Form) → lookup rest name ≡ option_map kind_of (find (is_resource name) forms)
      → lookup (resource_kinds_in f ++ rest) name ≡ option_map kind_of (find (is_resource name) (f ∷ forms))
  kind_found (form.Primitive id agent description params meta utilization operations ops) rest forms e =
      kind_case kind.Primitive (form.Primitive id agent description params meta utilization operations ops) refl (lookup rest name) _ e (is name id)
  kind_found (form.Group id members description params meta) rest forms e =
      kind_case kind.Group (form.Group id members description params meta) refl (lookup rest name) _ e (is name id)
  kind_found (form.Cloned id child ms description params meta) rest forms e =
      kind_case kind.Clone (form.Cloned id child ms description params meta) refl (lookup rest name) _ e (is name id)
  kind_found _ rest forms e = e

  pub kinds_found : (statements : List Statement) → lookup (kinds_of statements) name ≡ option_map kind_of (resource_named statements name)
  kinds_found [] = refl
  kinds_found (s ∷ statements) = kind_found s.form (kinds_of statements) (map (λ (s : Statement). s.form) statements) (kinds_found statements)

-- a part of each kind
may_is : (f part : Form) → may_contain f (kind_of part) ≡ may_have_part f part
may_is (form.Group i m d p n) (form.Primitive id agent description params meta utilization operations ops) = refl
may_is (form.Group i m d p n) (form.Group id members description params meta) = refl
may_is (form.Group i m d p n) _ = refl
may_is _ (form.Primitive id agent description params meta utilization operations ops) = refl
may_is _ (form.Group id members description params meta) = refl
may_is _ _ = refl

group_is : (f : Form) → is_group (kind_of f) ≡ is_a_group f
group_is (form.Primitive id agent description params meta utilization operations ops) = refl
group_is (form.Group id members description params meta) = refl
group_is _ = refl

module _ (statements : List Statement) where
  abbrev kinds : List (List ℕ × Kind)
  kinds = kinds_of statements

  unknown_is : (part : List ℕ) → is_none (lookup kinds part) ≡ is_none (resource_named statements part)
  unknown_is part = ap is_none (kinds_found part statements) ∙ on (resource_named statements part) where
    on : (found : Option Form) → is_none (option_map kind_of found) ≡ is_none found
    on None = refl
    on (Some f) = refl

  may_be : (f : Form) (part : List ℕ)
      → not (option_map_or (may_contain f) (lookup kinds part) true) ≡ not (option_map_or (may_have_part f) (resource_named statements part) true)
  may_be f part = ap (λ (k : Option Kind). not (option_map_or (may_contain f) k true)) (kinds_found part statements) ∙ on (resource_named statements part) where
    on : (found : Option Form) → not (option_map_or (may_contain f) (option_map kind_of found) true) ≡ not (option_map_or (may_have_part f) found true)
    on None = refl
    on (Some part) = ap not (may_is f part)

  is_group_part : (part : List ℕ) → option_map_or is_group (lookup kinds part) false ≡ option_map_or is_a_group (resource_named statements part) false
  is_group_part part = ap (λ (k : Option Kind). option_map_or is_group k false) (kinds_found part statements) ∙ on (resource_named statements part) where
    on : (found : Option Form) → option_map_or is_group (option_map kind_of found) false ≡ option_map_or is_a_group found false
    on None = refl
    on (Some f) = group_is f

  promotes_is : (f : Form) → promotes_group kinds f ≡ promotes_members statements f
  promotes_is (form.Cloned id child ms description params meta) = let e = is_group_part child in rw e refl
  promotes_is _ = refl

  -- what was seen of the statements before
  record HasSeen (seen : Seen) (before : List Statement) : Type 0 where
    nodes : seen.nodes ≡ flat_map (λ s. node_names_in s.form) before
    ids : seen.ids ≡ flat_map (λ s. ids_in s.form) before
    parts : seen.parts ≡ flat_map (λ s. parts_in s.form) before

  seen_more : (gives : Form → List (List ℕ)) (names : List (List ℕ)) (before : List Statement) (s : Statement) → names ≡ flat_map (λ s. gives s.form) before
      → names ++ gives s.form ≡ flat_map (λ s. gives s.form) (before ++ s ∷ [])
  seen_more gives names before s e =
      let both = flat_map-append (λ (s : Statement). gives s.form) before (s ∷ []) in
      let last = append-nil (gives s.form) in
      rw (both, last, e) refl

  seen_next : (seen : Seen) (before : List Statement) (s : Statement) → HasSeen seen before → HasSeen (seen_after seen s.form) (before ++ s ∷ [])
  unfolding seen_after
  seen_next seen before s h = record {
    nodes = seen_more node_names_in seen.nodes before s h.nodes;
    ids = seen_more ids_in seen.ids before s h.ids;
    parts = seen_more parts_in seen.parts before s h.parts;
  }

  cause_is : (seen : Seen) (before : List Statement) (s : Statement) → HasSeen seen before → expand_cause_of kinds seen s.form ≡ expand_cause statements before s
  unfolding expand_cause_of expand_cause
  cause_is seen before s h =
      let unknown = any_same _ _ unknown_is (parts_in s.form) in
      let kind = any_same _ _ (may_be s.form) (parts_in s.form) in
      rw (h.nodes, h.ids, h.parts, unknown, kind, promotes_is s.form) refl

  first_is : (seen : Seen) (before some : List Statement) → HasSeen seen before
      → first_expand_fault kinds seen some ≡ first_fault (expand_cause statements) before some
  first_is seen before [] h = refl
  first_is seen before (s ∷ some) h =
      let here = cause_is seen before s h in
      let more = first_is (seen_after seen s.form) (before ++ s ∷ []) some (seen_next seen before s h) in
      rw (here, more) refl

  pub fault_is : fault_of statements ≡ first_fault (expand_cause statements) [] statements
  unfolding fault_of
  fault_is = first_is nothing_seen [] statements (record { nodes = refl; ids = refl; parts = refl })
