-- Where no statement is at fault, no two nodes have one name.
use Rattle.std.proofs.Common.{◌≡◌, ◌≢◌, ℕ, false, List, [], ◌∷◌, ◌++◌, Option, None, Some, All, AllPairs, refl, subst, arith}
use Rattle.std.specs.List.{flat_map, list_any}
use Rattle.std.proofs.lemmas.Bool.{or_parts}
use Rattle.std.proofs.lemmas.List.{append-nil}
use Rattle.std.proofs.lemmas.List.Elements.{All-cons}
use Rattle.std.proofs.lemmas.List.Kept.{AllPairs-cons}
use Rattle.crm_parse.specs.declared.form.Form.{Form}
use Rattle.crm_parse.specs.declared.form.Form.TheVariants as form
use Rattle.crm_parse.specs.declared.statement.Statement.{Statement}
use Rattle.cluster_model.specs.declared.expansion.expand_fault.ExpandCause.{ExpandCause}
use Rattle.faults.specs.declared.fault.Fault.{Fault}
use Rattle.faults.specs.Reading.{fault_at}
use Rattle.cluster_model.specs.declared.expansion.kinds.Kind.{Kind}
use Rattle.cluster_model.specs.declared.expansion.seen_names.Seen.{Seen}
use Rattle.cluster_model.specs.Inner.Faults.{expand_cause_of, fault_of, first_expand_fault, kinds_of, nothing_seen, seen_after}
use Rattle.cluster_model.specs.Faults.{ids_in}
use Rattle.cluster_model.specs.Settings.{node_names_in}
use Rattle.crm_lex.specs.NameSets.{has_name}
use Rattle.cluster_model.proofs.NameLaws.{kept, not_first, other}

-- names that are none of those before and differ from each other
record Fresh (before names : List (List ℕ)) : Type 0 where
  new : All (λ name. has_name before name ≡ false) names
  apart : AllPairs (λ (one other : List ℕ). one ≢ other) names

no_more : (before names : List (List ℕ)) → Fresh (before ++ []) names → Fresh before names
no_more before names h = subst (λ (all : List (List ℕ)). Fresh all names) (append-nil before) h

step : (before : List (List ℕ)) (f : Form) (names : List (List ℕ)) → list_any (has_name before) (node_names_in f) ≡ false
    → Fresh (before ++ node_names_in f) names → Fresh before (node_names_in f ++ names)
step before (form.Node id name attributes utilization) names n h = record {
  new = All-cons (λ (x : List ℕ). has_name before x ≡ false) _ _ (or_parts (has_name before name) false n).0 (λ k d l. kept before name _ (h.new k d l));
  apart = AllPairs-cons (λ (one other : List ℕ). one ≢ other) _ _ (λ k d l. other before name _ (h.new k d l)) h.apart;
}
step before (form.Primitive id agent description params meta utilization operations ops) names n h = no_more before names h
step before (form.Group id members description params meta) names n h = no_more before names h
step before (form.Cloned id child ms description params meta) names n h = no_more before names h
step before (form.Location id resource role discovery score node) names n h = no_more before names h
step before (form.RuledLocation id resource role discovery rules) names n h = no_more before names h
step before (form.Colocation id score dependent primary) names n h = no_more before names h
step before (form.Order id kind steps symmetrical) names n h = no_more before names h
step before (form.Settings what set pairs) names n h = no_more before names h
step before (form.Kept words) names n h = no_more before names h

-- a statement that isn't at fault has a new node
new_node : (kinds : List (List ℕ × Kind)) (seen : Seen) (f : Form) → expand_cause_of kinds seen f ≡ None → list_any (has_name seen.nodes) (node_names_in f) ≡ false
unfolding expand_cause_of
new_node kinds seen f h = (or_parts (list_any (has_name seen.nodes) (node_names_in f)) (list_any (has_name seen.ids) (ids_in f)) (not_first _ _ h)).0

module _ (kinds : List (List ℕ × Kind)) where
  fresh_by : (seen : Seen) (st : Statement) (names : List (List ℕ)) (cause : Option ExpandCause) (later : Option (Fault ExpandCause))
      → expand_cause_of kinds seen st.form ≡ cause → fault_at st.line cause later ≡ None
      → (later ≡ None → Fresh (seen_after seen st.form).nodes names) → Fresh seen.nodes (node_names_in st.form ++ names)
  unfolding seen_after
  fresh_by seen st names (Some cause) later e h f = absurd (cc)
  fresh_by seen st names None later e h f = step seen.nodes st.form names (new_node kinds seen st.form e) (f h)

  fresh : (seen : Seen) (statements : List Statement) → first_expand_fault kinds seen statements ≡ None
      → Fresh seen.nodes (flat_map (λ s. node_names_in s.form) statements)
  fresh seen [] h = record { new = λ k d l. absurd (omega (arith, l)); apart = λ i j d l within. absurd (omega (arith, within)) }
  fresh seen (st ∷ statements) h =
      fresh_by seen st (flat_map (λ s. node_names_in s.form) statements) (expand_cause_of kinds seen st.form)
      (first_expand_fault kinds (seen_after seen st.form) statements) refl h
      (λ e. fresh (seen_after seen st.form) statements e)

-- the names of nodes differ
pub node_names_differ : (statements : List Statement) → fault_of statements ≡ None
    → AllPairs (λ (one other : List ℕ). one ≢ other) (flat_map (λ s. node_names_in s.form) statements)
unfolding fault_of
node_names_differ statements h = (fresh (kinds_of statements) nothing_seen statements h).apart
