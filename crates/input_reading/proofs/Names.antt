-- Names of a cluster stand for their nodes and leaves.
use Rattle.std.proofs.Common.{arith, ◌≡◌, ◌≢◌, ◌<◌, nat_lt, ℕ, zero, suc, true, false, Some, List, [], ◌∷◌, length, get_or, AllPairs, refl, sym, ap, ◌∙◌}
use Rattle.std.specs.Prelude.{position, slice_get}
use Rattle.std.specs.List.{position_or_len}
use Rattle.std.proofs.lemmas.Bool.{false_from_ne_true}
use Rattle.std.proofs.lemmas.Bool.Decides.{nat_tests}
use Rattle.std.proofs.lemmas.List.Sums.{position_or_len_is}
use Rattle.std.proofs.lemmas.Option.{slice_get_within, get_or_from_slice_get}
use Rattle.cluster_types.specs.declared.cluster.Cluster.{Cluster}
use Rattle.cluster_types.specs.declared.leaf.Leaf.{Leaf}
use Rattle.cluster_types.specs.declared.node.Node.{Node}
use Rattle.cluster_types.specs.Fields.{leaf_name}
use Rattle.cluster_types.specs.Texts.{node_name}
use Rattle.cluster_types.specs.Valid.{IsValid}
use Rattle.crm_lex.specs.Names.{is, is_name}
use Rattle.crm_parse.proofs.Binds.{is-true, is-same}
use Rattle.names.specs.Names.{leaf_of_word, node_of_word}

-- what stands at a place
found_at : {X : Type 0} (xs : List X) (n : ℕ) → n < length xs → (x : X) × (slice_get xs n ≡ Some x)
found_at [] n h = absurd (let f : ⊥ = omega (arith, h) in f)
found_at (x ∷ xs) zero h = (x, refl)
found_at (x ∷ xs) (suc n) h = found_at xs n (omega (arith, h))

module _ {X : Type 0} (name_of : X → List ℕ) (xs : List X) (apart : AllPairs (λ (one other : X). name_of one ≢ name_of other) xs) where
  place_again : (n : ℕ) (x : X) → slice_get xs n ≡ Some x → position (λ y. is (name_of y) (name_of x)) xs ≡ Some n
  place_again n x e =
      let within : n < length xs = slice_get_within xs n x e in
      let at : get_or xs n x ≡ x = get_or_from_slice_get xs n x x e in
      let other : (k : ℕ) → k < n → is (name_of (get_or xs k x)) (name_of x) ≡ false =
      λ k less. false_from_ne_true (is (name_of (get_or xs k x)) (name_of x))
      (λ yes. apart k n x less within (is-true (name_of (get_or xs k x)) (name_of x) yes ∙ sym (ap name_of at))) in
      let here : is (name_of (get_or xs n x)) (name_of x) ≡ true = rw at (is-same (name_of x)) in
      let place : position_or_len (λ (y : X). is (name_of y) (name_of x)) xs ≡ n =
      position_or_len_is (λ (y : X). is (name_of y) (name_of x)) xs n x (omega (arith, within)) other (λ less. here) in
      let yes : nat_lt n (length xs) ≡ true = grind (arith, nat_tests) in
      rw (place, yes) refl

module _ (c : Cluster) (valid : IsValid c) where
  pub node_again : (n : ℕ) → n < length c.nodes → node_of_word c (node_name c n) ≡ Some n
  node_again n h =
      let (node, e) = found_at c.nodes n h in
      rw e (place_again (λ (node : Node). node.name) c.nodes valid.node_names n node e)

  pub leaf_again : (r : ℕ) → r < length c.leaves → leaf_of_word c (leaf_name c r) ≡ Some r
  leaf_again r h =
      let (leaf, e) = found_at c.leaves r h in
      rw e (place_again (λ (leaf : Leaf). leaf.name) c.leaves valid.leaf_names r leaf e)

  pub node_is_name : (n : ℕ) → n < length c.nodes → is_name (node_name c n) ≡ true
  node_is_name n h =
      let (node, e) = found_at c.nodes n h in
      rw e ((valid.nodes node (n, slice_get_within c.nodes n node e, get_or_from_slice_get c.nodes n node node e)).name)

  pub leaf_is_name : (r : ℕ) → r < length c.leaves → is_name (leaf_name c r) ≡ true
  leaf_is_name r h =
      let (leaf, e) = found_at c.leaves r h in
      rw e ((valid.leaves leaf (r, slice_get_within c.leaves r leaf e, get_or_from_slice_get c.leaves r leaf leaf e)).name)
