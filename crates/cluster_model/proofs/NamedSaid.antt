-- What the directory of the code has for a name is what the name stands for.
use Rattle.std.proofs.Common.{arith, ◌≡◌, ◌≤◌, ℕ, ◌+◌, ◌==◌, Bool, true, false, cond, ◌&&◌, ◌||◌, List, [], ◌∷◌, ◌++◌, map, slice_get, Option, Some, None, unwrap_or, refl, sym, ap, ◌∙◌}
use Rattle.std.specs.Prelude.{is_none}
use Rattle.std.specs.List.{find, flat_map, list_any, position_from}
use Rattle.std.specs.Option.{option_and_then, option_map, option_map_or, option_or}
use Rattle.std.proofs.lemmas.Bool.Decides.{nat_tests}
use Rattle.std.proofs.lemmas.List.{length-map}
use Rattle.std.proofs.lemmas.Option.{slice_get-map}
use Rattle.crm_lex.specs.Names.{is}
use Rattle.crm_parse.specs.declared.form.Form.{Form}
use Rattle.crm_parse.specs.declared.form.Form.TheVariants as form
use Rattle.crm_parse.specs.declared.statement.Statement.{Statement}
use Rattle.cluster_types.specs.declared.leaf.Leaf.{Leaf}
use Rattle.cluster_model.specs.declared.expansion.leaves.Leaves.{Leaves}
use Rattle.cluster_model.specs.declared.expansion.leaves.Span.{Span}
use Rattle.cluster_model.specs.declared.resolution.directory.Directory.{Directory}
use Rattle.cluster_model.specs.declared.expansion.spans.Ends.{Ends}
use Rattle.cluster_model.specs.declared.resolution.directory.Traits.{Traits}
use Rattle.cluster_model.specs.Inner.Directories.{are_joined, are_there, directory_of, ends_in_directory, first_named, grouped_from, groups_of, if_there, is_local_by, is_one_group, is_unknown, is_unknown_node, last_named, may_promote, members_in, node_named, numbered_from, resources_of, span_ends, traits_of}
use Rattle.cluster_model.specs.NamesInRules.{first_leaf, has_leaves, in_one_group, is_missing, is_local, is_local_between, last_leaf, node_number, place_of_node, promotes, span_named}
use Rattle.cluster_model.specs.Resources.{Group, all_groups, its_group}
use Rattle.cluster_model.specs.Settings.{node_names_in}
use Rattle.cluster_model.specs.Inner.Tables.{lookup}
use Rattle.cluster_model.proofs.LeavesSaid.{beside_all, lookup-append}

place_is : (name : List ℕ) (n : ℕ) (names : List (List ℕ)) → lookup (numbered_from n names) name ≡ position_from (is name) n names
place_is name n [] = refl
place_is name n (each ∷ names) = ap (λ (found : Option ℕ). cond (is name each) (Some n) found) (place_is name (n + 1) names)

span_found : (name : List ℕ) (spans : List Span) → lookup (resources_of spans) name ≡ option_map span_ends (find (λ (span : Span). is name span.name) spans)
span_found name [] = refl
span_found name (span ∷ spans) = on (is name span.name) (span_found name spans) where
  on : (b : Bool) → lookup (resources_of spans) name ≡ option_map span_ends (find (λ (span : Span). is name span.name) spans)
      → cond b (Some (span_ends span)) (lookup (resources_of spans) name)
      ≡ option_map span_ends (cond b (Some span) (find (λ (span : Span). is name span.name) spans))
  on true e = refl
  on false e = e

-- the number of a group is that of its statement or of one behind it
later_group : (name : List ℕ) (n : ℕ) (statements : List Statement) (k : ℕ) → lookup (grouped_from n statements) name ≡ Some k → n ≤ k
later_group name n [] k e = absurd cc
later_group name n (s ∷ statements) k e =
    on (list_any (is name) (members_in s.form))
    (sym (lookup-append (map (λ member. (member, n)) (members_in s.form)) (grouped_from (n + 1) statements) name
    ∙ ap (λ (found : Option ℕ). option_or found (lookup (grouped_from (n + 1) statements) name)) (beside_all n (members_in s.form) name)) ∙ e)
    (later_group name (n + 1) statements k) where
      on : (b : Bool) → option_or (cond b (Some n) None) (lookup (grouped_from (n + 1) statements) name) ≡ Some k
          → (lookup (grouped_from (n + 1) statements) name ≡ Some k → n + 1 ≤ k) → n ≤ k
      on true e more = let same : n ≡ k = cc in omega (arith, same)
      on false e more = let least = more e in omega (arith, least)

not_one : (n k : ℕ) → n + 1 ≤ k → (n == k) ≡ false
not_one n k h = grind (arith, nat_tests)

not_other : (n k : ℕ) → n + 1 ≤ k → (k == n) ≡ false
not_other n k h = grind (arith, nat_tests)

same_number : (n : ℕ) → (n == n) ≡ true
same_number n = grind (arith, nat_tests)

not_with_later : (n : ℕ) (found : Option ℕ) → ((k : ℕ) → found ≡ Some k → n + 1 ≤ k) → is_one_group (Some n) found ≡ false
not_with_later n None h = refl
not_with_later n (Some k) h = not_one n k (h k refl)

later_not_with : (n : ℕ) (found : Option ℕ) → ((k : ℕ) → found ≡ Some k → n + 1 ≤ k) → is_one_group found (Some n) ≡ false
later_not_with n None h = refl
later_not_with n (Some k) h = not_other n k (h k refl)

module _ (one other : List ℕ) where
  abbrev has_both : Group → Bool
  has_both group = list_any (is one) group.members && list_any (is other) group.members

  abbrev has_some : Group → Bool
  has_some group = list_any (is one) group.members || list_any (is other) group.members

  group_case : (n : ℕ) (group : Group) (found more : Option ℕ) (groups : List Group)
      → ((k : ℕ) → found ≡ Some k → n + 1 ≤ k) → ((k : ℕ) → more ≡ Some k → n + 1 ≤ k)
      → is_one_group found more ≡ option_map_or has_both (find has_some groups) false
      → (a b : Bool) → list_any (is one) group.members ≡ a → list_any (is other) group.members ≡ b
      → is_one_group (option_or (cond a (Some n) None) found) (option_or (cond b (Some n) None) more)
      ≡ option_map_or has_both (cond (a || b) (Some group) (find has_some groups)) false
  group_case n group found more groups f m e true true x y = same_number n ∙ sym (let both : has_both group ≡ true = rw (x, y) refl in both)
  group_case n group found more groups f m e true false x y = not_with_later n more m ∙ sym (let both : has_both group ≡ false = rw (x, y) refl in both)
  group_case n group found more groups f m e false true x y = later_not_with n found f ∙ sym (let both : has_both group ≡ false = rw x refl in both)
  group_case n group found more groups f m e false false x y = e

  group_of_form : (n : ℕ) (f : Form) (rest : List (List ℕ × ℕ)) (groups : List Group)
      → ((name : List ℕ) (k : ℕ) → lookup rest name ≡ Some k → n + 1 ≤ k)
      → is_one_group (lookup rest one) (lookup rest other) ≡ option_map_or has_both (find has_some groups) false
      → is_one_group (lookup (map (λ member. (member, n)) (members_in f) ++ rest) one) (lookup (map (λ member. (member, n)) (members_in f) ++ rest) other)
      ≡ option_map_or has_both (find has_some (its_group f ++ groups)) false
  group_of_form n (form.Group id members description params meta) rest groups later e =
      let first = lookup-append (map (λ member. (member, n)) members) rest one
      ∙ ap (λ (found : Option ℕ). option_or found (lookup rest one)) (beside_all n members one) in
      let second = lookup-append (map (λ member. (member, n)) members) rest other
      ∙ ap (λ (found : Option ℕ). option_or found (lookup rest other)) (beside_all n members other) in
      rw (first, second)
      (group_case n (record { id = id; members = members; meta = meta }) (lookup rest one) (lookup rest other) groups (later one) (later other) e
      (list_any (is one) members) (list_any (is other) members) refl refl)
  group_of_form n _ rest groups later e = e

  one_group_from : (n : ℕ) (statements : List Statement)
      → is_one_group (lookup (grouped_from n statements) one) (lookup (grouped_from n statements) other) ≡ in_one_group statements one other
  one_group_from n [] = refl
  one_group_from n (s ∷ statements) =
      group_of_form n s.form (grouped_from (n + 1) statements) (all_groups statements) (λ name k e. later_group name (n + 1) statements k e)
      (one_group_from (n + 1) statements)

module _ (leaves : Leaves) (statements : List Statement) where
  abbrev pub directory : Directory
  directory = directory_of leaves statements

  node_place : (name : List ℕ) → lookup directory.nodes name ≡ place_of_node statements name
  unfolding directory_of
  node_place name = place_is name 0 (flat_map (λ s. node_names_in s.form) statements)

  pub node_is : (name : List ℕ) → node_named directory name ≡ node_number statements name
  node_is name = ap (λ (found : Option ℕ). option_map_or (λ n. n) found 0) (node_place name) ∙ on (place_of_node statements name) where
    on : (found : Option ℕ) → option_map_or (λ n. n) found 0 ≡ unwrap_or found 0
    on None = refl
    on (Some n) = refl

  pub unknown_node_is : (name : List ℕ) → is_unknown_node directory name ≡ is_none (place_of_node statements name)
  unknown_node_is name = ap is_none (node_place name)

  there_is : (span : Span) → are_there directory (span_ends span) ≡ has_leaves leaves span
  unfolding directory_of
  there_is span = let same = length-map leaves.leaves (traits_of (groups_of statements)) in rw same refl

  ends_are : (name : List ℕ) → ends_in_directory directory name ≡ option_map span_ends (span_named leaves name)
  unfolding directory_of
  ends_are name =
      ap (option_and_then (if_there directory)) (span_found name leaves.spans) ∙ on (find (λ (span : Span). is name span.name) leaves.spans) where
        there : (span : Span) (b : Bool) → cond b (Some (span_ends span)) None ≡ option_map span_ends (cond b (Some span) None)
        there span true = refl
        there span false = refl

        on : (found : Option Span) → option_and_then (if_there directory) (option_map span_ends found)
            ≡ option_map span_ends (option_and_then (λ (span : Span). cond (has_leaves leaves span) (Some span) None) found)
        on None = refl
        on (Some span) = ap (λ (b : Bool). cond b (Some (span_ends span)) None) (there_is span) ∙ there span (has_leaves leaves span)

  pub first_is : (name : List ℕ) → first_named directory name ≡ first_leaf leaves name
  first_is name = ap (λ (found : Option Ends). option_map_or (λ (ends : Ends). ends.first) found 0) (ends_are name) ∙ on (span_named leaves name) where
    on : (found : Option Span) → option_map_or (λ (ends : Ends). ends.first) (option_map span_ends found) 0 ≡ option_map_or (λ (span : Span). span.first) found 0
    on None = refl
    on (Some span) = refl

  pub last_is : (name : List ℕ) → last_named directory name ≡ last_leaf leaves name
  last_is name = ap (λ (found : Option Ends). option_map_or (λ (ends : Ends). ends.last) found 0) (ends_are name) ∙ on (span_named leaves name) where
    on : (found : Option Span) → option_map_or (λ (ends : Ends). ends.last) (option_map span_ends found) 0 ≡ option_map_or (λ (span : Span). span.last) found 0
    on None = refl
    on (Some span) = refl

  pub unknown_is : (name : List ℕ) → is_unknown directory name ≡ is_missing leaves name
  unknown_is name = ap is_none (ends_are name) ∙ on (span_named leaves name) where
    on : (found : Option Span) → is_none (option_map span_ends found) ≡ is_none found
    on None = refl
    on (Some span) = refl

  traits_at : (n : ℕ) → slice_get directory.leaves n ≡ option_map (traits_of (groups_of statements)) (slice_get leaves.leaves n)
  unfolding directory_of
  traits_at n = slice_get-map (traits_of (groups_of statements)) leaves.leaves n

  pub promotes_is : (n : ℕ) → may_promote directory n ≡ promotes leaves n
  promotes_is n = ap (λ (found : Option Traits). option_map_or (λ (traits : Traits). traits.promotable) found false) (traits_at n) ∙ on (slice_get leaves.leaves n) where
    on : (found : Option Leaf) → option_map_or (λ (traits : Traits). traits.promotable) (option_map (traits_of (groups_of statements)) found) false
        ≡ option_map_or (λ (leaf : Leaf). leaf.promotable) found false
    on None = refl
    on (Some leaf) = refl

  pub local_is : (first later : ℕ) → is_local_by directory first later ≡ is_local leaves statements first later
  local_is first later =
      let one = traits_at first in
      let other = traits_at later in
      rw (one, other) (on (slice_get leaves.leaves first) (slice_get leaves.leaves later)) where
        on : (one other : Option Leaf) → are_joined (option_map (traits_of (groups_of statements)) one) (option_map (traits_of (groups_of statements)) other)
            ≡ is_local_between statements one other
        on None other = refl
        on (Some one) None = refl
        on (Some one) (Some other) =
            ap (λ (b : Bool). one.cloned && other.cloned && (other.interleave || b)) (one_group_from one.name other.name 0 statements)
