-- The edges of some joins are a group that says whoever is joined by one of them; with those of chains they say what must precede.
use Rattle.std.proofs.Common.{arith, ◌≡◌, ◌<◌, ◌≤◌, ◌+◌, ◌*◌, ◌||◌, ◌⊎◌, inl, inr, ◌↔◌, ℕ, Bool, true, false, Some, None, List, [], ◌∷◌, ◌++◌, length, Contains, refl, sym, subst, ◌∙◌, ap}
use Rattle.std.specs.List.{list_any, slice_get}
use Rattle.std.proofs.lemmas.Bool.{or_cases}
use Rattle.cluster_types.specs.declared.cluster.Cluster.{Cluster}
use Rattle.edges.specs.declared.edge.Edge.{Edge}
use Rattle.cluster_types.specs.declared.journal.Action.{Action}
use Rattle.cluster_types.specs.declared.rules.Order.{Order}
use Rattle.cluster_types.specs.Graphs.{LeadsByGates}
use Rattle.cluster_types.specs.Precedence.{both, is_one_cell, is_serialized, must_precede}
use Rattle.planner.specs.declared.precedence.sides.Join.{Join}
use Rattle.planner.specs.declared.precedence.sides.Side.{Side}
use Rattle.planner.specs.Inner.Gates.{edges_of_joins, gates_upto, join_edges, key_at}
use Rattle.planner.specs.Joins.{is_joined, joins_of, side_key_of}
use Rattle.planner.specs.Inner.Groups.{IsGroup}
use Rattle.planner.proofs.Groups.{group_after, group_says, no_group}
use Rattle.planner.proofs.JoinGroups.{Fits, join_group}
use Rattle.planner.proofs.JoinsSay.{joins-say}
use Rattle.lemmas.proofs.Members.{in_rest}
use Rattle.planner.proofs.Tests.{any_same}
use Rattle.std.specs.Option.{option_map_or}

pub one_or : (a b : Bool) → (a ≡ true) ⊎ (b ≡ true) → a || b ≡ true
one_or true b h = refl
one_or false b (inl h) = cc
one_or false b (inr h) = h

module _ (c : Cluster) (actions : List Action) (leaves width : Join → ℕ) (places : Join → List ℕ) where
  -- the join has the action at one position before that at another
  abbrev pub joined_at : ℕ → ℕ → Join → Bool
  joined_at x y j = both is_one_cell (key_at c actions j.from x) (key_at c actions j.to y)

  abbrev pub JoinFits : Join → Type 0
  JoinFits j = Fits (length actions) (leaves j) (width j) (key_at c actions j.from) (key_at c actions j.to) (places j)

  pub joins_group : (base : ℕ) (js : List Join) → length actions ≤ base → ((j : Join) → Contains js j → JoinFits j)
      → IsGroup (length actions) base (gates_upto c actions leaves width places base js) (edges_of_joins c actions leaves width places base js)
      (λ x y. list_any (joined_at x y) js ≡ true)
  joins_group base [] le fits =
      group_says (length actions) base base [] (λ x y. ⊥) (λ x y. false ≡ true) (λ x y l m h. absurd h) (λ x y l m h. cc) (no_group (length actions) base le)
  joins_group base (j ∷ js) le fits =
      let one = join_group (length actions) base (leaves j) (width j) (key_at c actions j.from) (key_at c actions j.to) (places j) le (fits j (0, omega arith, refl)) in
      let rest = joins_group (base + width j * leaves j) js (omega arith) (λ k m. fits k (in_rest j js k m)) in
      group_says (length actions) base (gates_upto c actions leaves width places (base + width j * leaves j) js)
      (join_edges base (width j) (key_at c actions j.from) (key_at c actions j.to) (places j) ++ edges_of_joins c actions leaves width places (base + width j * leaves j) js)
      (λ x y. (joined_at x y j ≡ true) ⊎ (list_any (joined_at x y) js ≡ true)) (λ x y. joined_at x y j || list_any (joined_at x y) js ≡ true)
      (λ x y l m h. one_or (joined_at x y j) (list_any (joined_at x y) js) h) (λ x y l m h. or_cases (joined_at x y j) (list_any (joined_at x y) js) h)
      (group_after (length actions) base (base + width j * leaves j) (gates_upto c actions leaves width places (base + width j * leaves j) js)
      (join_edges base (width j) (key_at c actions j.from) (key_at c actions j.to) (places j)) (edges_of_joins c actions leaves width places (base + width j * leaves j) js)
      (λ x y. joined_at x y j ≡ true) (λ x y. list_any (joined_at x y) js ≡ true) one rest)

  -- by the actions at the positions
  key_is : (side : Side) (x : ℕ) (a : Action) → slice_get actions x ≡ Some a → key_at c actions side x ≡ side_key_of c actions side a
  key_is side x a h = ap (λ v. option_map_or (side_key_of c actions side) v None) h

  pub same_join : (x y : ℕ) (a b : Action) → slice_get actions x ≡ Some a → slice_get actions y ≡ Some b → (js : List Join)
      → list_any (joined_at x y) js ≡ list_any (is_joined c actions a b) js
  same_join x y a b h k js =
      any_same (joined_at x y) (is_joined c actions a b)
      (λ j. ap (λ v. both is_one_cell v (key_at c actions j.to y)) (key_is j.from x a h) ∙ ap (λ v. both is_one_cell (side_key_of c actions j.from a) v) (key_is j.to y b k)) js

  -- groups of all joins and of all chains say together what must precede
  module _ (is_earlier : Action → Action → Bool) (base mid upto : ℕ) (chains : List Edge) (le : length actions ≤ base)
      (fits : (j : Join) → Contains (joins_of c) j → JoinFits j)
      (mid_is : mid ≡ gates_upto c actions leaves width places base (joins_of c))
      (Chained : ℕ → ℕ → Type 0)
      (chained : (x y : ℕ) (a b : Action) → slice_get actions x ≡ Some a → slice_get actions y ≡ Some b
      → Chained x y ↔ (list_any (λ (o : Order). is_serialized is_earlier o a b) c.orders ≡ true))
      (group : IsGroup (length actions) mid upto chains Chained) where
    abbrev all : List Edge
    all = edges_of_joins c actions leaves width places base (joins_of c) ++ chains

    pub whole_group : IsGroup (length actions) base upto all (λ x y. (list_any (joined_at x y) (joins_of c) ≡ true) ⊎ Chained x y)
    whole_group =
        group_after (length actions) base mid upto (edges_of_joins c actions leaves width places base (joins_of c)) chains (λ x y. list_any (joined_at x y) (joins_of c) ≡ true) Chained
        (subst (λ v. IsGroup (length actions) base v (edges_of_joins c actions leaves width places base (joins_of c)) (λ x y. list_any (joined_at x y) (joins_of c) ≡ true)) (sym mid_is)
        (joins_group base (joins_of c) le fits)) group

    pub leads_precede : (x y : ℕ) (a b : Action) → x < length actions → y < length actions → slice_get actions x ≡ Some a → slice_get actions y ≡ Some b
        → LeadsByGates (length actions) all x y ↔ (must_precede c actions is_earlier a b ≡ true)
    leads_precede x y a b l m h k =
        let says = joins-say c actions is_earlier a b in
        let same = same_join x y a b h k (joins_of c) in (
          λ way. rw says (one_or _ _ (elim (whole_group.only x y l m way) [
            | inl j ↦ inl (sym same ∙ j)
            | inr d ↦ inr ((chained x y a b h k).0 d)
          ])),
          λ must. whole_group.all x y l m (elim (or_cases _ _ (sym says ∙ must)) [
            | inl j ↦ inl (same ∙ j)
            | inr d ↦ inr ((chained x y a b h k).1 d)
          ]),
        )
