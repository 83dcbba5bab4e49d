-- Where no statement is at fault, no two leaves have one name.
use Rattle.std.proofs.Common.{◌≡◌, ◌≢◌, ℕ, nat_eq, Bool, true, false, if◌then◌else◌, List, [], ◌∷◌, ◌++◌, Option, None, Some, All, AllPairs, refl, sym, subst, ◌∙◌, true≢false, arith}
use Rattle.std.specs.List.{list_any}
use Rattle.std.specs.Cmp.Lexicographic.{nat_list_eq_equiv, pointwise}
use Rattle.std.proofs.lemmas.Bool.{or_parts}
use Rattle.std.proofs.lemmas.List.{append-nil}
use Rattle.std.proofs.lemmas.List.Elements.{All-cons}
use Rattle.std.proofs.lemmas.List.Kept.{AllPairs-cons}
use Rattle.crm_parse.specs.declared.form.Form.{Form}
use Rattle.crm_parse.specs.declared.form.Form.TheVariants as form
use Rattle.crm_parse.specs.declared.statement.Statement.{Statement}
use Rattle.cluster_types.specs.declared.leaf.Leaf.{Leaf}
use Rattle.cluster_model.specs.declared.expansion.expand_fault.ExpandCause.{ExpandCause}
use Rattle.cluster_model.specs.declared.expansion.expand_fault.ExpandCause.TheVariants.{DuplicateName}
use Rattle.faults.specs.declared.fault.Fault.{Fault}
use Rattle.faults.specs.Reading.{fault_at}
use Rattle.cluster_model.specs.declared.expansion.kinds.Kind.{Kind}
use Rattle.cluster_model.specs.declared.expansion.seen_names.Seen.{Seen}
use Rattle.cluster_model.specs.declared.expansion.surroundings.Surroundings.{Surroundings}
use Rattle.cluster_model.specs.Inner.Faults.{expand_cause_of, fault_of, first_expand_fault, kinds_of, nothing_seen, seen_after}
use Rattle.cluster_model.specs.Faults.{ids_in}
use Rattle.cluster_model.specs.Laws.{NamesDiffer}
use Rattle.cluster_model.specs.Inner.Leaves.{leaf_in, primitive_leaf, leaves_in, leaves_of, surroundings_of}
use Rattle.cluster_model.specs.Settings.{node_names_in}
use Rattle.crm_lex.specs.NameSets.{has_name}
use Rattle.cluster_model.proofs.SameNames.{has-more}
use Rattle.cluster_model.proofs.FaultsSaid.{fault_is}
use Rattle.cluster_model.proofs.LeavesSaid.{leaves_are}

is_itself : (name : List ℕ) → pointwise nat_eq name name ≡ true
is_itself name = nat_list_eq_equiv.refl name

pub kept : (names : List (List ℕ)) (name x : List ℕ) → has_name (names ++ name ∷ []) x ≡ false → has_name names x ≡ false
kept names name x h = (or_parts (has_name names x) (has_name (name ∷ []) x) (sym (has-more names (name ∷ []) x) ∙ h)).0

pub other : (names : List (List ℕ)) (name x : List ℕ) → has_name (names ++ name ∷ []) x ≡ false → name ≢ x
other names name x h e =
    let apart = (or_parts (pointwise nat_eq name x) false (or_parts (has_name names x) (has_name (name ∷ []) x) (sym (has-more names (name ∷ []) x) ∙ h)).1).0 in
    true≢false (sym (is_itself x) ∙ subst (λ y. pointwise nat_eq y x ≡ false) e apart)

record Fresh (ids : List (List ℕ)) (leaves : List Leaf) : Type 0 where
  new : All (λ leaf. has_name ids leaf.name ≡ false) leaves
  apart : AllPairs (λ (one other : Leaf). one.name ≢ other.name) leaves

no_more : (ids : List (List ℕ)) (leaves : List Leaf) → Fresh (ids ++ []) leaves → Fresh ids leaves
no_more ids leaves h = subst (λ (names : List (List ℕ)). Fresh names leaves) (append-nil ids) h

more : (ids : List (List ℕ)) (id : List ℕ) (leaves : List Leaf) → Fresh (ids ++ id ∷ []) leaves → Fresh ids leaves
more ids id leaves h = record { new = λ k d l. kept ids id _ (h.new k d l); apart = h.apart }

module _ (s : Surroundings) where
  step : (ids : List (List ℕ)) (f : Form) (leaves : List Leaf) → list_any (has_name ids) (ids_in f) ≡ false
      → Fresh (ids ++ ids_in f) leaves → Fresh ids (leaf_in s f ++ leaves)
  unfolding primitive_leaf
  step ids (form.Primitive id agent description params meta utilization operations ops) leaves n h = record {
    new = All-cons (λ (leaf : Leaf). has_name ids leaf.name ≡ false) _ _ (or_parts (has_name ids id) false n).0 (λ k d l. kept ids id _ (h.new k d l));
    apart = AllPairs-cons (λ (one other : Leaf). one.name ≢ other.name) _ _ (λ k d l. other ids id _ (h.new k d l)) h.apart;
  }
  step ids (form.Node id name attributes utilization) leaves n h = no_more ids leaves h
  step ids (form.Group id members description params meta) leaves n h = more ids id leaves h
  step ids (form.Cloned id child ms description params meta) leaves n h = more ids id leaves h
  step ids (form.Location id resource role discovery score node) leaves n h = more ids id leaves h
  step ids (form.RuledLocation id resource role discovery rules) leaves n h = more ids id leaves h
  step ids (form.Colocation id score dependent primary) leaves n h = more ids id leaves h
  step ids (form.Order id kind steps symmetrical) leaves n h = more ids id leaves h
  step ids (form.Settings what set pairs) leaves n h = no_more ids leaves h
  step ids (form.Kept words) leaves n h = no_more ids leaves h

-- a statement that isn't at fault has a new id
pub not_first : (b : Bool) (rest : Option ExpandCause) → (if b then Some DuplicateName else rest) ≡ None → b ≡ false
not_first true rest h = absurd (cc)
not_first false rest h = refl

new_id : (kinds : List (List ℕ × Kind)) (seen : Seen) (f : Form) → expand_cause_of kinds seen f ≡ None → list_any (has_name seen.ids) (ids_in f) ≡ false
unfolding expand_cause_of
new_id kinds seen f h = (or_parts (list_any (has_name seen.nodes) (node_names_in f)) (list_any (has_name seen.ids) (ids_in f)) (not_first _ _ h)).1

module _ (s : Surroundings) (kinds : List (List ℕ × Kind)) where
  fresh_by : (seen : Seen) (st : Statement) (leaves : List Leaf) (cause : Option ExpandCause) (later : Option (Fault ExpandCause))
      → expand_cause_of kinds seen st.form ≡ cause → fault_at st.line cause later ≡ None
      → (later ≡ None → Fresh (seen_after seen st.form).ids leaves) → Fresh seen.ids (leaf_in s st.form ++ leaves)
  unfolding seen_after
  fresh_by seen st leaves (Some cause) later e h f = absurd (cc)
  fresh_by seen st leaves None later e h f = step s seen.ids st.form leaves (new_id kinds seen st.form e) (f h)

  fresh : (seen : Seen) (statements : List Statement) → first_expand_fault kinds seen statements ≡ None → Fresh seen.ids (leaves_in s statements)
  fresh seen [] h = record { new = λ k d l. absurd (omega (arith, l)); apart = λ i j d l within. absurd (omega (arith, within)) }
  fresh seen (st ∷ statements) h =
      fresh_by seen st (leaves_in s statements) (expand_cause_of kinds seen st.form) (first_expand_fault kinds (seen_after seen st.form) statements) refl h
      (λ e. fresh (seen_after seen st.form) statements e)

-- the names of the leaves of the code differ
pub names_differ : (statements : List Statement) → fault_of statements ≡ None → AllPairs (λ (one other : Leaf). one.name ≢ other.name) (leaves_of statements)
unfolding fault_of leaves_of
names_differ statements h = (fresh (surroundings_of statements) (kinds_of statements) nothing_seen statements h).apart

-- the names of leaves differ
pub said_names_differ : NamesDiffer
said_names_differ statements h =
    subst (AllPairs (λ (one other : Leaf). one.name ≢ other.name)) (leaves_are statements) (names_differ statements (fault_is statements ∙ h))
