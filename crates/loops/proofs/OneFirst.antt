-- There is one first rule with which rules have a loop.
use Rattle.std.proofs.Common.{arith, ◌≡◌, ◌<◌, ◌≤◌, ◌+◌, ℕ, List, ◌++◌, length, take, Option, Some, None, refl, ap, subst, inl, inr, Contains}
use Rattle.std.specs.List.{flat_map, range_with_len}
use Rattle.std.proofs.Math.Seq.{take-length}
use Rattle.std.proofs.lemmas.Bool.{cases_order}
use Rattle.std.proofs.lemmas.List.Elements.{Contains-append_cases, Contains-append_left, Contains-append_right}
use Rattle.edges.specs.declared.edge.Edge.{Edge}
use Rattle.edges.specs.Loops.{HasLoop}
use Rattle.edges.proofs.Fronts.{loop_with_more}
use Rattle.cluster_types.specs.declared.cluster.Cluster.{Cluster}
use Rattle.cluster_types.specs.declared.rules.Colocation.{Colocation}
use Rattle.cluster_types.specs.declared.rules.Order.{Order}
use Rattle.cluster_types.specs.Decisions.{NeedsHaveNoLoop}
use Rattle.cluster_types.specs.Numbers.{StepsHaveNoLoop, Link, leaf_links, links, order_links}
use Rattle.loops.specs.Inner.Edges.{counts_link, link_edge, need_edges, step_edges}
use Rattle.loops.specs.FirstLoops.{AllJoin, AllOrder, ClosesNeeds, ClosesSteps, IsFirstColocation, IsFirstOrder, NeedsHaveLoop, StepsHaveLoop, with_first_colocations, with_first_orders}
use Rattle.loops.proofs.FirstOrders.{first_ordered}
use Rattle.loops.proofs.LinkLoops.{loop_of_steps, steps_loop}
use Rattle.lemmas.proofs.Members.{contains_shorter, in_filter, in_flat, in_map, of_filter, of_flat, of_map}
use Rattle.loops.proofs.NeedLoops.{first_edges, first_joined, loop_of_needs, needs_loop}

pub needs_apart : (c : Cluster) → NeedsHaveLoop c → NeedsHaveNoLoop c → ⊥
needs_apart c l free = free l.decision l.loop

pub steps_apart : (c : Cluster) → StepsHaveLoop c → StepsHaveNoLoop c → ⊥
steps_apart c l free = free l.step l.loop

module _ (c : Cluster) (joined : AllJoin c) where
  -- more colocations keep a loop
  pub needs_stay : (j k : ℕ) → j ≤ k → NeedsHaveLoop (with_first_colocations c j) → NeedsHaveLoop (with_first_colocations c k)
  needs_stay j k le l =
      let fewer : List Edge = take (length c.leaves + j) (need_edges c) in
      let more : List Edge = take (length c.leaves + k) (need_edges c) in
      let before : HasLoop (take (length c.leaves + j) (need_edges c))
      = rw (first_edges c joined j) (loop_of_needs (with_first_colocations c j) (first_joined c joined j) l) in
      let after : HasLoop (need_edges (with_first_colocations c k))
      = rw (first_edges c joined k) at (loop_with_more fewer more
      (λ e h. contains_shorter (length c.leaves + j) (length c.leaves + k) (need_edges c) e (omega arith) h)
      before) in
      needs_loop (with_first_colocations c k) (first_joined c joined k) after

  pub all_colocations : NeedsHaveLoop (with_first_colocations c (length c.colocations)) → NeedsHaveLoop c
  all_colocations l = subst (λ (cs : List Colocation). NeedsHaveLoop record c { colocations = cs }) (take-length c.colocations) l

  some_needs : (k : ℕ) → ClosesNeeds c k → NeedsHaveLoop c
  some_needs k f = let w = f.within in all_colocations (needs_stay (k + 1) (length c.colocations) (omega arith) f.closed)

  not_later : (j k : ℕ) → j < k → ClosesNeeds c j → ClosesNeeds c k → ⊥
  not_later j k lt f g = needs_apart (with_first_colocations c k) (needs_stay (j + 1) k (omega arith) f.closed) g.before

pub one_colocation : (c : Cluster) (a b : Option ℕ) → AllJoin c → IsFirstColocation c a → IsFirstColocation c b → a ≡ b
one_colocation c None None joined f g = refl
one_colocation c None (Some k) joined f g = absurd (needs_apart c (some_needs c joined k g) f)
one_colocation c (Some k) None joined f g = absurd (needs_apart c (some_needs c joined k f) g)
one_colocation c (Some j) (Some k) joined f g = elim (cases_order j k) [
  | inl e ↦ ap (λ n. Some n) e
  | inr (inl lt) ↦ absurd (not_later c joined j k lt f g)
  | inr (inr gt) ↦ absurd (not_later c joined k j gt g f)
]

more_edges : (c : Cluster) (j k : ℕ) → j ≤ k → (e : Edge) → Contains (step_edges (with_first_orders c j)) e
    → Contains (step_edges (with_first_orders c k)) e
more_edges c j k le e h =
    let own : List Link = flat_map leaf_links (range_with_len 0 (length c.leaves)) in
    let some : List Link = flat_map order_links (take j c.orders) in
    let others : List Link = flat_map order_links (take k c.orders) in
    let m = of_map link_edge (links (with_first_orders c j)) e h in
    let kept = of_filter (counts_link (with_first_orders c j)) (own ++ some) m.source m.among in
    let among : Contains (own ++ others) m.source = elim (Contains-append_cases own some m.source kept.among) [
      | inl leaf ↦ Contains-append_left own others m.source leaf
      | inr order ↦
          let f = of_flat order_links (take j c.orders) m.source order in
          Contains-append_right own others m.source
          (in_flat order_links (take k c.orders) f.source m.source (contains_shorter j k c.orders f.source le f.among) f.gives)
    ] in
    let link : Contains (links (with_first_orders c k)) m.source
    = in_filter (counts_link (with_first_orders c k)) (own ++ others) m.source among kept.passes in
    rw m.gives at (in_map link_edge (links (with_first_orders c k)) m.source link)

module _ (c : Cluster) (ordered : AllOrder c) where
  -- more orders keep a loop
  pub steps_stay : (j k : ℕ) → j ≤ k → StepsHaveLoop (with_first_orders c j) → StepsHaveLoop (with_first_orders c k)
  steps_stay j k le l =
      steps_loop (with_first_orders c k) (first_ordered c ordered k)
      (loop_with_more (step_edges (with_first_orders c j)) (step_edges (with_first_orders c k)) (more_edges c j k le)
      (loop_of_steps (with_first_orders c j) (first_ordered c ordered j) l))

  pub all_orders_loop : StepsHaveLoop (with_first_orders c (length c.orders)) → StepsHaveLoop c
  all_orders_loop l = subst (λ (os : List Order). StepsHaveLoop record c { orders = os }) (take-length c.orders) l

  some_steps : (k : ℕ) → ClosesSteps c k → StepsHaveLoop c
  some_steps k f = let w = f.within in all_orders_loop (steps_stay (k + 1) (length c.orders) (omega arith) f.closed)

  not_earlier : (j k : ℕ) → j < k → ClosesSteps c j → ClosesSteps c k → ⊥
  not_earlier j k lt f g = steps_apart (with_first_orders c k) (steps_stay (j + 1) k (omega arith) f.closed) g.before

pub one_order : (c : Cluster) (a b : Option ℕ) → AllOrder c → IsFirstOrder c a → IsFirstOrder c b → a ≡ b
one_order c None None ordered f g = refl
one_order c None (Some k) ordered f g = absurd (steps_apart c (some_steps c ordered k g) f)
one_order c (Some k) None ordered f g = absurd (steps_apart c (some_steps c ordered k f) g)
one_order c (Some j) (Some k) ordered f g = elim (cases_order j k) [
  | inl e ↦ ap (λ n. Some n) e
  | inr (inl lt) ↦ absurd (not_earlier c ordered j k lt f g)
  | inr (inr gt) ↦ absurd (not_earlier c ordered k j gt g f)
]
