-- Sets with the same names find the same faults.
use Rattle.std.proofs.Common.{◌≡◌, ◌||◌, ◌<◌, ◌+◌, ℕ, nat_eq, List, [], ◌∷◌, ◌++◌, length, drop, slice_index_or, Option, None, refl, sym, ap, ◌∙◌}
use Rattle.std.specs.Cmp.Lexicographic.{pointwise}
use Rattle.std.specs.List.{list_any}
use Rattle.std.proofs.lemmas.List.{append-nil, drop_more}
use Rattle.std.proofs.lemmas.List.Folds.{list_any-append}
use Rattle.std.proofs.Math.Bool.{or-false}
use Rattle.crm_lex.specs.NameSets.{IsWithName, has_name}
use Rattle.crm_parse.specs.declared.form.Form.{Form}
use Rattle.crm_parse.specs.declared.statement.Statement.{Statement}
use Rattle.cluster_model.specs.declared.expansion.expand_fault.ExpandCause.{ExpandCause}
use Rattle.cluster_model.specs.declared.expansion.kinds.Kind.{Kind}
use Rattle.cluster_model.specs.declared.expansion.seen_names.Seen.{Seen}
use Rattle.faults.specs.Reading.{fault_at}
use Rattle.cluster_model.specs.Inner.Faults.{AreAlike, HaveTheSame, expand_cause_of, first_expand_fault, seen_after}
use Rattle.cluster_model.specs.Faults.{has_twice, ids_in, parts_in}
use Rattle.cluster_model.specs.Settings.{node_names_in}

pub has-more : (one more : List (List ℕ)) (name : List ℕ) → has_name (one ++ more) name ≡ (has_name one name || has_name more name)
has-more one more name = list_any-append (λ (each : List ℕ). pointwise nat_eq each name) one more

pub with_one : (old : List (List ℕ)) (name : List ℕ) (new : List (List ℕ)) → IsWithName old name new → HaveTheSame new (old ++ name ∷ [])
with_one old name new h x =
    h x ∙ (ap (λ b. has_name old x || b) (sym (or-false (pointwise nat_eq name x))) ∙ sym (has-more old (name ∷ []) x))

pub with_none : (old : List (List ℕ)) → HaveTheSame old (old ++ [])
with_none old x = ap (λ (names : List (List ℕ)). has_name names x) (sym (append-nil old))

-- the same with some more names
pub same_more : (one other more : List (List ℕ)) → HaveTheSame one other → HaveTheSame (one ++ more) (other ++ more)
same_more one other more h x = has-more one more x ∙ (ap (λ b. b || has_name more x) (h x) ∙ sym (has-more other more x))

-- sets that are alike find the same

any_alike : (one other names : List (List ℕ)) → HaveTheSame one other → list_any (has_name one) names ≡ list_any (has_name other) names
any_alike one other [] h = refl
any_alike one other (name ∷ names) h = rw (h name, any_alike one other names h) refl

pub twice_alike : (one other parts : List (List ℕ)) → HaveTheSame one other → has_twice one parts ≡ has_twice other parts
twice_alike one other [] h = refl
twice_alike one other (part ∷ parts) h =
    rw (h part, twice_alike (one ++ part ∷ []) (other ++ part ∷ []) parts (same_more one other (part ∷ []) h)) refl

module _ (kinds : List (List ℕ × Kind)) where
  cause_alike : (one other : Seen) (f : Form) → AreAlike one other → expand_cause_of kinds one f ≡ expand_cause_of kinds other f
  unfolding expand_cause_of
  cause_alike one other f h =
      rw (any_alike one.nodes other.nodes (node_names_in f) h.nodes)
      (rw (any_alike one.ids other.ids (ids_in f) h.ids)
      (rw (twice_alike one.parts other.parts (parts_in f) h.parts) refl))

  after_alike : (one other : Seen) (f : Form) → AreAlike one other → AreAlike (seen_after one f) (seen_after other f)
  unfolding seen_after
  after_alike one other f h = record {
    nodes = same_more one.nodes other.nodes (node_names_in f) h.nodes;
    ids = same_more one.ids other.ids (ids_in f) h.ids;
    parts = same_more one.parts other.parts (parts_in f) h.parts;
  }

  pub fault_alike : (one other : Seen) (statements : List Statement) → AreAlike one other → first_expand_fault kinds one statements ≡ first_expand_fault kinds other statements
  fault_alike one other [] h = refl
  fault_alike one other (s ∷ statements) h =
      rw (cause_alike one other s.form h, fault_alike (seen_after one s.form) (seen_after other s.form) statements (after_alike one other s.form h)) refl

  -- a statement without a cause was added to what was seen
  pub next_seen : (seen then_seen : Seen) (statements : List Statement) (i : ℕ) (s : Statement) → i < length statements → s ≡ slice_index_or statements i s
      → expand_cause_of kinds seen s.form ≡ None → AreAlike then_seen (seen_after seen s.form)
      → first_expand_fault kinds seen (drop i statements) ≡ first_expand_fault kinds then_seen (drop (i + 1) statements)
  next_seen seen then_seen statements i s lt is none alike =
      let front : drop i statements ≡ s ∷ drop (i + 1) statements
      = drop_more statements i s lt ∙ ap (λ first. first ∷ drop (i + 1) statements) (sym is) in
      let step : first_expand_fault kinds seen (s ∷ drop (i + 1) statements) ≡ first_expand_fault kinds (seen_after seen s.form) (drop (i + 1) statements)
      = ap (λ (found : Option ExpandCause). fault_at s.line found (first_expand_fault kinds (seen_after seen s.form) (drop (i + 1) statements))) none in
      ap (first_expand_fault kinds seen) front ∙ (step ∙ sym (fault_alike then_seen (seen_after seen s.form) (drop (i + 1) statements) alike))
