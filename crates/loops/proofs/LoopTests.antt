-- The tests of loops answer as the relations say, and, for a cluster with so many of the rules of another, by the place of its first loop.
use Rattle.std.proofs.Common.{arith, ◌≡◌, ◌≤◌, ◌+◌, ℕ, nat_lt, Bool, true, false, List, [], ◌++◌, length, map, take, Option, Some, None, refl, sym, ap, ◌∙◌, subst, Any}
use Rattle.std.proofs.lemmas.List.Folds.{Any-from_list_any}
use Rattle.std.proofs.Math.Seq.{take-length}
use Rattle.std.proofs.lemmas.List.{append-nil}
use Rattle.std.specs.Prelude.{◌↔◌}
use Rattle.std.proofs.lemmas.Bool.{both_ways, false_from_ne_true}
use Rattle.std.proofs.lemmas.Bool.Decides.{nat_tests}
use Rattle.lemmas.proofs.Booleans.{same_test}
use Rattle.lemmas.proofs.Searches.{passes_by}
use Rattle.edges.specs.declared.edge.Edge.{Edge}
use Rattle.edges.specs.Chains.{leads_through}
use Rattle.edges.specs.Loops.{HasLoop, HasNoLoop as NoLoopOfEdges}
use Rattle.cluster_types.specs.declared.cluster.Cluster.{Cluster}
use Rattle.cluster_types.specs.declared.leaf.Leaf.{Leaf}
use Rattle.cluster_types.specs.declared.rules.Colocation.{Colocation}
use Rattle.cluster_types.specs.declared.rules.Order.{Order}
use Rattle.cluster_types.specs.Decisions.{NeedsHaveNoLoop, all_decisions, needs_through}
use Rattle.cluster_types.specs.Numbers.{StepsHaveNoLoop, LeafStep, links}
use Rattle.loops.specs.Inner.Edges.{colocation_edge, leaf_edges, need_edges, step_edges}
use Rattle.loops.specs.FirstLoops.{AllJoin, AllOrder, IsFirstColocation, IsFirstOrder, NeedsHaveLoop, StepsHaveLoop, has_need_loop, has_step_loop, is_closed_by, is_link, with_first_colocations, with_first_orders}
use Rattle.lemmas.proofs.Members.{in_none}
use Rattle.loops.proofs.ComputedChains.{chain_begins, last_needed, links_computed, needs_computed}
use Rattle.loops.proofs.FirstOrders.{first_ordered, own_free}
use Rattle.loops.proofs.LinkLoops.{loop_of_steps, steps_free, steps_loop}
use Rattle.loops.proofs.NeedLoops.{first_joined, leaves_free, loop_of_needs, needs_free, needs_loop}
use Rattle.loops.proofs.OneFirst.{all_colocations, all_orders_loop, needs_apart, needs_stay, steps_apart, steps_stay}

module _ (c : Cluster) where
  pub loop_of_need : has_need_loop c ≡ true → NeedsHaveLoop c
  loop_of_need h = on (Any-from_list_any (λ d. needs_through c (all_decisions c) d d) (all_decisions c) h) where
    on : Any (λ d. needs_through c (all_decisions c) d d ≡ true) (all_decisions c) → NeedsHaveLoop c
    on (k, d, lt, at, h) = record { decision = d; loop = (needs_computed c (all_decisions c) d d).1 h }

  pub need_of_loop : NeedsHaveLoop c → has_need_loop c ≡ true
  need_of_loop l =
      passes_by (λ d. needs_through c (all_decisions c) d d) (all_decisions c) l.decision
      (last_needed c (all_decisions c) l.decision l.decision l.loop) ((needs_computed c (all_decisions c) l.decision l.decision).0 l.loop)

  pub need_of_none : has_need_loop c ≡ false → NeedsHaveNoLoop c
  need_of_none h d ring = both_ways _ h (need_of_loop (record { decision = d; loop = ring }))

  pub needs_tested : has_need_loop c ≡ false ↔ NeedsHaveNoLoop c
  needs_tested = (need_of_none, λ free. false_from_ne_true _ (λ h. let l = loop_of_need h in free l.decision l.loop))

  abbrev goes_round : LeafStep → Bool
  goes_round s = leads_through (is_link c) (map (λ l. l.before) (links c)) s s

  pub loop_of_step : has_step_loop c ≡ true → StepsHaveLoop c
  loop_of_step h = on (Any-from_list_any goes_round (map (λ l. l.before) (links c)) h) where
    on : Any (λ s. goes_round s ≡ true) (map (λ l. l.before) (links c)) → StepsHaveLoop c
    on (k, s, lt, at, h) = record { step = s; loop = (links_computed c s s).1 h }

  pub step_of_loop : StepsHaveLoop c → has_step_loop c ≡ true
  step_of_loop l =
      passes_by goes_round (map (λ l. l.before) (links c)) l.step (chain_begins c l.step l.step l.loop) ((links_computed c l.step l.step).0 l.loop)

  pub step_of_none : has_step_loop c ≡ false → StepsHaveNoLoop c
  step_of_none h s ring = both_ways _ h (step_of_loop (record { step = s; loop = ring }))

  pub steps_tested : has_step_loop c ≡ false ↔ StepsHaveNoLoop c
  steps_tested = (step_of_none, λ free. false_from_ne_true _ (λ h. let l = loop_of_step h in free l.step l.loop))

-- a cluster with the first so many colocations of another
module _ (c d : Cluster) (joined : AllJoin c) (count : ℕ) (few : count ≤ length c.colocations) (leaves : d.leaves ≡ c.leaves)
    (colocations : d.colocations ≡ take count c.colocations) where
  same_needs : need_edges d ≡ need_edges (with_first_colocations c count)
  same_needs =
      ap (λ (ls : List Leaf). need_edges record d { leaves = ls }) leaves
      ∙ ap (λ (cs : List Colocation). need_edges record d { leaves = c.leaves; colocations = cs }) colocations

  all_joined : AllJoin d
  all_joined col h =
      let j = first_joined c joined count col (rw colocations at h) in
      record { dependent = rw leaves j.dependent; primary = rw leaves j.primary }

  first_needs : NeedsHaveLoop d → NeedsHaveLoop (with_first_colocations c count)
  first_needs l =
      let looped : HasLoop (need_edges (with_first_colocations c count)) = subst HasLoop same_needs (loop_of_needs d all_joined l) in
      needs_loop (with_first_colocations c count) (first_joined c joined count) looped

  needs_of_first : NeedsHaveLoop (with_first_colocations c count) → NeedsHaveLoop d
  needs_of_first l =
      let looped : HasLoop (need_edges (with_first_colocations c count)) = loop_of_needs (with_first_colocations c count) (first_joined c joined count) l in
      needs_loop d all_joined (subst HasLoop (sym same_needs) looped)

  pub needs_closed : (place : Option ℕ) → IsFirstColocation c place → has_need_loop d ≡ is_closed_by place count
  needs_closed None free =
      false_from_ne_true _ (λ h. needs_apart c (all_colocations c joined (needs_stay c joined count (length c.colocations) few (first_needs (loop_of_need d h)))) free)
  needs_closed (Some place) closes =
      same_test (has_need_loop d) (nat_lt place count) (λ h. early h (nat_lt place count) refl)
      (λ h. need_of_loop d (needs_of_first (needs_stay c joined (place + 1) count (grind (arith, nat_tests)) closes.closed)))
    where
      early : has_need_loop d ≡ true → (b : Bool) → nat_lt place count ≡ b → nat_lt place count ≡ true
      early h true e = e
      early h false e =
          let late : count ≤ place = grind (arith, nat_tests) in
          absurd (needs_apart (with_first_colocations c place) (needs_stay c joined count place late (first_needs (loop_of_need d h))) closes.before)

-- a cluster with the first so many orders of another
module _ (c d : Cluster) (ordered : AllOrder c) (count : ℕ) (few : count ≤ length c.orders) (leaves : d.leaves ≡ c.leaves)
    (orders : d.orders ≡ take count c.orders) where
  same_steps : step_edges d ≡ step_edges (with_first_orders c count)
  same_steps =
      ap (λ (ls : List Leaf). step_edges record d { leaves = ls }) leaves
      ∙ ap (λ (os : List Order). step_edges record d { leaves = c.leaves; orders = os }) orders

  all_ordered : AllOrder d
  all_ordered o h =
      let s = first_ordered c ordered count o (rw orders at h) in
      record { first = rw leaves s.first; later = rw leaves s.later; first_word = s.first_word; later_word = s.later_word }

  first_steps : StepsHaveLoop d → StepsHaveLoop (with_first_orders c count)
  first_steps l =
      let looped : HasLoop (step_edges (with_first_orders c count)) = subst HasLoop same_steps (loop_of_steps d all_ordered l) in
      steps_loop (with_first_orders c count) (first_ordered c ordered count) looped

  steps_of_first : StepsHaveLoop (with_first_orders c count) → StepsHaveLoop d
  steps_of_first l =
      let looped : HasLoop (step_edges (with_first_orders c count)) = loop_of_steps (with_first_orders c count) (first_ordered c ordered count) l in
      steps_loop d all_ordered (subst HasLoop (sym same_steps) looped)

  pub steps_closed : (place : Option ℕ) → IsFirstOrder c place → has_step_loop d ≡ is_closed_by place count
  steps_closed None free =
      false_from_ne_true _ (λ h. steps_apart c (all_orders_loop c ordered (steps_stay c ordered count (length c.orders) few (first_steps (loop_of_step d h)))) free)
  steps_closed (Some place) closes =
      same_test (has_step_loop d) (nat_lt place count) (λ h. early h (nat_lt place count) refl)
      (λ h. step_of_loop d (steps_of_first (steps_stay c ordered (place + 1) count (grind (arith, nat_tests)) closes.closed)))
    where
      early : has_step_loop d ≡ true → (b : Bool) → nat_lt place count ≡ b → nat_lt place count ≡ true
      early h true e = e
      early h false e =
          let late : count ≤ place = grind (arith, nat_tests) in
          absurd (steps_apart (with_first_orders c place) (steps_stay c ordered count place late (first_steps (loop_of_step d h))) closes.before)

-- without rules there is no loop

no_needs : (c : Cluster) → c.colocations ≡ [] → NeedsHaveNoLoop c
no_needs c e =
    let joined : AllJoin c = λ col h. absurd (in_none col (rw e at h)) in
    let own = leaf_edges (length c.leaves) in
    let same : need_edges c ≡ take (length own) own = ap (λ (cs : List Colocation). own ++ map colocation_edge cs) e ∙ append-nil own ∙ sym (take-length own) in
    needs_free c joined
    (subst (λ (es : List Edge). NoLoopOfEdges es) (sym same) (leaves_free (length own) (length c.leaves)))

no_steps : (c : Cluster) → c.orders ≡ [] → StepsHaveNoLoop c
no_steps c e =
    let ordered : AllOrder c = λ o h. absurd (in_none o (rw e at h)) in
    let same : step_edges c ≡ step_edges (with_first_orders c 0) = ap (λ (os : List Order). step_edges record c { orders = os }) e in
    steps_free c ordered
    (subst (λ (es : List Edge). NoLoopOfEdges es) (sym same) (own_free c))

pub no_need_found : (c : Cluster) → c.colocations ≡ [] → has_need_loop c ≡ false
no_need_found c e = false_from_ne_true _ (λ h. let l = loop_of_need c h in no_needs c e l.decision l.loop)

pub no_step_found : (c : Cluster) → c.orders ≡ [] → has_step_loop c ≡ false
no_step_found c e = false_from_ne_true _ (λ h. let l = loop_of_step c h in no_steps c e l.step l.loop)
