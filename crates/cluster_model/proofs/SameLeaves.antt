-- Statements that say the same stand for the same leaves.
use Rattle.std.proofs.Common.{◌≡◌, ℕ, Bool, true, false, is_none, unwrap_or, Option, Some, None, List, [], ◌∷◌, length, codes, Ok, refl, sym, ap, ◌∙◌}
use Rattle.std.specs.List.{flat_map}
use Rattle.std.specs.Option.{option_or}
use Rattle.crm_parse.specs.declared.statement.Statement.{Statement}
use Rattle.crm_parse.specs.Values.{bool_of}
use Rattle.cluster_model.specs.declared.expansion.kinds.Kind.{Kind}
use Rattle.cluster_model.specs.declared.expansion.leaves.Leaves.{Leaves}
use Rattle.cluster_model.specs.declared.expansion.leaves.Span.{Span}
use Rattle.cluster_model.specs.declared.expansion.spans.Ends.{Ends}
use Rattle.cluster_model.specs.declared.expansion.surroundings.Surroundings.{Surroundings}
use Rattle.cluster_model.specs.declared.expansion.clones.InClone.{InClone}
use Rattle.cluster_model.specs.declared.expansion.groups.InGroup.{InGroup}
use Rattle.cluster_model.specs.declared.expansion.meta.Meta.{Meta}
use Rattle.cluster_model.specs.declared.expansion.seen_names.Seen.{Seen}
use Rattle.cluster_model.specs.Inner.Clones.{cloned_by, cloned_in}
use Rattle.cluster_model.specs.Expansion.{expansion_of}
use Rattle.cluster_model.specs.Inner.Expansion.{leaves_with_spans}
use Rattle.cluster_model.specs.Inner.Faults.{expand_cause_of, fault_of, first_expand_fault, resource_kinds_in, kinds_of, nothing_seen, seen_after}
use Rattle.cluster_model.specs.Inner.Groups.{grouped_by, grouped_in}
use Rattle.cluster_model.specs.Inner.Leaves.{leaf_in, leaves_of, surroundings_of}
use Rattle.cluster_model.specs.Inner.Metas.{meta_of, no_meta, or_meta}
use Rattle.cluster_model.specs.Metas.{read_as}
use Rattle.cluster_model.specs.Settings.{count_nodes, defaults_in, node_names_in, option_as, properties_in}
use Rattle.cluster_model.specs.Inner.Settings.{defaults_from}
use Rattle.cluster_model.specs.Inner.Spans.{ends_by, group_ends_in, numbers_of, span_in, spans_of}
use Rattle.cluster_types.specs.declared.leaf.Leaf.{Leaf}
use Rattle.faults.specs.declared.fault.Fault.{Fault}
use Rattle.faults.specs.Reading.{fault_at}
use Rattle.faults.proofs.Steps.{unless-ok}
use Rattle.crm_parse.proofs.SameForms.{IsLineless, alike, cleared, each-lineless, forms, unless-none}
use Rattle.cluster_model.proofs.ExpansionSaid.{expansion_is}

pub option-lineless : {V : Type 0} (reader : List ℕ → Option V) (key : List ℕ) → IsLineless (option_as reader key)
option-lineless reader key [] = refl
option-lineless reader key (s ∷ statements) =
    ap (λ (found : Option _). option_or (read_as reader key (properties_in s.form)) found) (option-lineless reader key statements)

defaults-lineless : (found : Meta) → IsLineless (defaults_from found)
defaults-lineless found [] = refl
defaults-lineless found (s ∷ statements) = defaults-lineless (or_meta found (meta_of (defaults_in s.form))) statements

count-lineless : IsLineless count_nodes
count-lineless statements = ap length (each-lineless node_names_in statements)

kinds-lineless : IsLineless kinds_of
kinds-lineless statements = each-lineless resource_kinds_in statements

abbrev cloned : List Statement → List (List ℕ × InClone)
cloned statements = cloned_by (count_nodes statements) statements

cloned-lineless : IsLineless cloned
cloned-lineless statements =
    ap (λ (n : ℕ). cloned_by n (cleared statements)) (count-lineless statements)
    ∙ each-lineless (cloned_in (count_nodes statements)) statements

grouped-lineless : IsLineless (λ statements. grouped_by (cloned statements) statements)
grouped-lineless statements =
    ap (λ (c : List (List ℕ × InClone)). grouped_by c (cleared statements)) (cloned-lineless statements)
    ∙ each-lineless (grouped_in (cloned statements)) statements

-- five equal parts make equal surroundings
made : (a b : Bool) (c d : Bool) (e f : Meta) (g h : List (List ℕ × InClone)) (i j : List (List ℕ × InGroup)) → a ≡ b → c ≡ d → e ≡ f → g ≡ h → i ≡ j
    → (let s : Surroundings = record { fencing = a; maintenance = c; defaults = e; cloned = g; grouped = i } in s)
    ≡ record { fencing = b; maintenance = d; defaults = f; cloned = h; grouped = j }
made a b c d e f g h i j one two three four five = cc

surroundings-lineless : IsLineless surroundings_of
unfolding surroundings_of
surroundings-lineless statements =
    made _ _ _ _ _ _ _ _ _ _ (ap (λ (o : Option Bool). unwrap_or o true) (option-lineless bool_of (codes "stonith-enabled") statements))
    (ap (λ (o : Option Bool). unwrap_or o false) (option-lineless bool_of (codes "maintenance-mode") statements))
    (defaults-lineless no_meta statements) (cloned-lineless statements) (grouped-lineless statements)

leaves-lineless : IsLineless leaves_of
unfolding leaves_of
leaves-lineless statements =
    each-lineless (leaf_in (surroundings_of (cleared statements))) statements
    ∙ ap (λ (s : Surroundings). flat_map (λ (statement : Statement). leaf_in s statement.form) statements) (surroundings-lineless statements)

spans-lineless : (leaves : List Leaf) → IsLineless (spans_of leaves)
unfolding spans_of
spans-lineless leaves statements =
    let numbers = numbers_of leaves in
    each-lineless (span_in numbers (ends_by numbers (cleared statements))) statements
    ∙ ap (λ (e : List (List ℕ × Ends)). flat_map (λ (s : Statement). span_in numbers e s.form) statements) (each-lineless (group_ends_in numbers) statements)

both_parts : (one other : List Leaf) (first second : List Span) → one ≡ other → first ≡ second
    → (let l : Leaves = record { leaves = one; spans = first } in l) ≡ record { leaves = other; spans = second }
both_parts one other first second e f = cc

with_spans-lineless : IsLineless leaves_with_spans
with_spans-lineless statements =
    both_parts _ _ _ _ (leaves-lineless statements)
    (ap (λ (l : List Leaf). spans_of l (cleared statements)) (leaves-lineless statements) ∙ spans-lineless (leaves_of statements) statements)

-- whether a statement is at fault
pub none-at : {C : Type 0} (line other : ℕ) (cause why : Option C) (more again : Option (Fault C)) → why ≡ cause → is_none again ≡ is_none more
    → is_none (fault_at other why again) ≡ is_none (fault_at line cause more)
none-at line other None why more again e h = rw e h
none-at line other (Some cause) why more again e h = rw e refl

sound-lineless : (kinds : List (List ℕ × Kind)) (seen : Seen) → IsLineless (λ statements. is_none (first_expand_fault kinds seen statements))
sound-lineless kinds seen [] = refl
sound-lineless kinds seen (s ∷ statements) =
    none-at s.line 0 (expand_cause_of kinds seen s.form) (expand_cause_of kinds seen s.form) (first_expand_fault kinds (seen_after seen s.form) statements) (first_expand_fault kinds (seen_after seen s.form) (cleared statements))
    refl (sound-lineless kinds (seen_after seen s.form) statements)

fault-lineless : IsLineless (λ statements. is_none (fault_of statements))
unfolding fault_of
fault-lineless statements =
    ap (λ (k : List (List ℕ × Kind)). is_none (first_expand_fault k nothing_seen (cleared statements))) (kinds-lineless statements)
    ∙ sound-lineless (kinds_of statements) nothing_seen statements

-- statements that say the same stand for the same leaves
pub same-expansion : (one other : List Statement) (leaves : Leaves) → forms one ≡ forms other → expansion_of one ≡ Ok leaves → expansion_of other ≡ Ok leaves
same-expansion one other leaves same e =
    let found = unless-ok (fault_of one) (leaves_with_spans one) leaves (sym (expansion_is one) ∙ e) in
    let none = sym (alike (λ statements. is_none (fault_of statements)) fault-lineless one other same) ∙ ap is_none found.0 in
    let given = sym (alike leaves_with_spans with_spans-lineless one other same) ∙ found.1 in
    expansion_is other ∙ (unless-none (fault_of other) (leaves_with_spans other) none ∙ ap Ok given)
