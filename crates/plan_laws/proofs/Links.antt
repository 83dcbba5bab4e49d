-- Which links a cluster has, by its leaves and by the words of its orders.
use Rattle.std.proofs.Common.{arith, ◌≡◌, ◌<◌, ◌&&◌, if◌then◌else◌, ℕ, Bool, true, false, List, [], ◌∷◌, ◌++◌, length, map, Contains, refl}
use Rattle.std.specs.List.{flat_map, range_with_len}
use Rattle.std.proofs.lemmas.Bool.{and_from}
use Rattle.std.proofs.lemmas.List.Elements.{Contains-append_left, Contains-append_right}
use Rattle.lemmas.proofs.Members.{at_head, in_filter, in_flat, in_map, in_range, in_rest}
use Rattle.lemmas.proofs.Searches.{of_none}
use Rattle.cluster_types.specs.declared.cluster.Cluster.{Cluster}
use Rattle.cluster_types.specs.declared.leaf.Op.{Op}
use Rattle.cluster_types.specs.declared.leaf.Op.TheVariants as op
use Rattle.cluster_types.specs.declared.rules.Order.{Order}
use Rattle.cluster_types.specs.Numbers.{Link, inverse_links, is_step, is_within_phase, leaf_links, link, links, order_links, step_of}
use Rattle.cluster_types.specs.Precedence.{inverse, is_serialize, is_giving, takers}
use Rattle.cluster_types.specs.Valid.{MayHaveWord}
use Rattle.cluster_types.proofs.Few.{of_one, of_two}

-- the word is that of a step at the leaf
pub step_by_word : (c : Cluster) (r : ℕ) (o : Op) → MayHaveWord c r o → is_step c (step_of o r) ≡ true
step_by_word c r op.Start h = refl
step_by_word c r op.Stop h = refl
step_by_word c r op.Promote h = h.1
step_by_word c r op.Demote h = h.1
step_by_word c r op.Monitor h = absurd h

pub inverse_by_word : (c : Cluster) (r : ℕ) (o : Op) → MayHaveWord c r o → is_step c (step_of (inverse o) r) ≡ true
inverse_by_word c r op.Start h = refl
inverse_by_word c r op.Stop h = refl
inverse_by_word c r op.Promote h = h.1
inverse_by_word c r op.Demote h = h.1
inverse_by_word c r op.Monitor h = absurd h

pub taker_by_word : (c : Cluster) (r : ℕ) (o p : Op) → MayHaveWord c r o → Contains (takers o) p → is_step c (step_of p r) ≡ true
taker_by_word c r op.Start p h k = of_one (λ v. is_step c (step_of v r) ≡ true) op.Stop p refl k
taker_by_word c r op.Stop p h k = of_none (λ v. is_step c (step_of v r) ≡ true) p k
taker_by_word c r op.Promote p h k = of_two (λ v. is_step c (step_of v r) ≡ true) op.Demote op.Stop p h.1 refl k
taker_by_word c r op.Demote p h k = of_none (λ v. is_step c (step_of v r) ≡ true) p k
taker_by_word c r op.Monitor p h k = absurd h

module _ (c : Cluster) where
  -- a link of one kind or the other that counts is among those of the cluster
  counts : (l : Link) → is_within_phase l ≡ true → is_step c l.before ≡ true → is_step c l.after ≡ true
      → Contains (flat_map leaf_links (range_with_len 0 (length c.leaves)) ++ flat_map order_links c.orders) l → Contains (links c) l
  counts l w b a k =
      in_filter (λ (l : Link). is_within_phase l && is_step c l.before && is_step c l.after)
      (flat_map leaf_links (range_with_len 0 (length c.leaves)) ++ flat_map order_links c.orders) l k
      (and_from (is_within_phase l && is_step c l.before) (is_step c l.after) (and_from (is_within_phase l) (is_step c l.before) w b) a)

  pub link_of_leaf : (r : ℕ) (l : Link) → r < length c.leaves → is_within_phase l ≡ true → is_step c l.before ≡ true → is_step c l.after ≡ true
      → Contains (leaf_links r) l → Contains (links c) l
  link_of_leaf r l lt w b a k =
      counts l w b a
      (Contains-append_left (flat_map leaf_links (range_with_len 0 (length c.leaves))) (flat_map order_links c.orders) l
      (in_flat leaf_links (range_with_len 0 (length c.leaves)) r l (in_range 0 (length c.leaves) r (omega arith) (omega (arith, lt))) k))

  pub link_of_order : (o : Order) (l : Link) → Contains c.orders o → is_within_phase l ≡ true → is_step c l.before ≡ true → is_step c l.after ≡ true
      → Contains (order_links o) l → Contains (links c) l
  link_of_order o l present w b a k =
      counts l w b a
      (Contains-append_right (flat_map leaf_links (range_with_len 0 (length c.leaves))) (flat_map order_links c.orders) l
      (in_flat order_links c.orders o l present k))
