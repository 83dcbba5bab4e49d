-- Orders that stand by falling rank of the stops of their firsts never come back to a first.
use Rattle.std.proofs.Common.{arith, ◌≡◌, ◌≢◌, ◌<◌, ◌≤◌, ◌&&◌, suc, Bool, true, false, List, [], ◌∷◌, length, cond, map, refl, ap, inl, inr, Contains}
use Rattle.std.specs.List.{flat_map, range_with_len}
use Rattle.std.proofs.lemmas.List.Elements.{Contains-append_right}
use Rattle.std.proofs.lemmas.Bool.{and_from}
use Rattle.cluster_types.specs.declared.cluster.Cluster.{Cluster}
use Rattle.cluster_types.specs.declared.leaf.Op.TheVariants.{Stop}
use Rattle.cluster_types.specs.declared.rules.Order.{Order}
use Rattle.cluster_types.specs.Numbers.{StepsHaveNoLoop, Link, inverse_links, leaf_links, link, links, order_links, rank, step_of}
use Rattle.cluster_types.specs.Precedence.{is_serialize, is_giving, takers}
use Rattle.loops.specs.Inner.Edges.{counts_link}
use Rattle.loops.specs.FirstLoops.{AllOrder}
use Rattle.cluster_types.specs.Precedes.{back}
use Rattle.cluster_types.proofs.OpLaws.{stop_takes}
use Rattle.cluster_types.proofs.OrderLinks.{link_of}
use Rattle.lemmas.proofs.Members.{head_or_rest, in_filter, in_flat, in_map, in_rest}
use Rattle.loops.proofs.RankChains.{rank_rises}
use Rattle.planner.specs.CycledCells.{FallByRank, NoneComesBack, is_cycling}
use Rattle.planner.proofs.OrderWords.{Cycles, cycles_of}

abbrev stops_link : Order → Link
stops_link o = link Stop o.then_leaf Stop o.first

module _ (c : Cluster) (o : Order) (k : Cycles o) where
  among_order : Contains (order_links o) (stops_link o)
  among_order =
      link_of o Stop Stop o.then_leaf o.first (ap is_serialize k.mandatory)
      (back Stop Stop k.both_ways (and_from (is_giving o.first_op) (is_giving o.then_op) k.first_up k.then_up) (stop_takes o.then_op k.then_up)
      (stop_takes o.first_op k.first_up))

  pub among_links : Contains c.orders o → Contains (links c) (stops_link o)
  among_links h =
      in_filter (counts_link c) (Rattle.std.specs.Prelude.◌++◌ (flat_map leaf_links (range_with_len 0 (length c.leaves))) (flat_map order_links c.orders))
      (stops_link o)
      (Contains-append_right (flat_map leaf_links (range_with_len 0 (length c.leaves))) (flat_map order_links c.orders) (stops_link o)
      (in_flat order_links c.orders o (stops_link o) h among_order)) refl

module _ (c : Cluster) (ordered : AllOrder c) (free : StepsHaveNoLoop c) where
  -- the then stops before the first
  pub then_stops_first : (o : Order) → Contains c.orders o → is_cycling o ≡ true
      → rank c (step_of Stop o.then_leaf) < rank c (step_of Stop o.first)
  then_stops_first o h cycling = rank_rises c ordered free (stops_link o) (among_links c o (cycles_of o cycling) h)

  head_apart : (o : Order) (os : List Order) → ((p : Order) → Contains (o ∷ os) p → Contains c.orders p × (is_cycling p ≡ true))
      → FallByRank c (o ∷ os) → (p : Order) → Contains (o ∷ os) p → p.then_leaf ≢ o.first
  head_apart o os each falls p h same =
      let e = each p h in
      let up = then_stops_first p e.0 e.1 in
      let at : rank c (step_of Stop p.then_leaf) ≡ rank c (step_of Stop o.first) = ap (λ r. rank c (step_of Stop r)) same in
      elim (head_or_rest o os p h) [
        | inl first ↦
            let f : rank c (step_of Stop o.first) ≡ rank c (step_of Stop p.first) = ap (λ (q : Order). rank c (step_of Stop q.first)) first in
            let g : ⊥ = omega arith in g
        | inr rest ↦ let g : ⊥ = on rest up at in g
      ]
    where
      on : Contains os p → rank c (step_of Stop p.then_leaf) < rank c (step_of Stop p.first)
          → rank c (step_of Stop p.then_leaf) ≡ rank c (step_of Stop o.first) → ⊥
      on (k, lt, is) up at =
          let le : rank c (step_of Stop p.first) ≤ rank c (step_of Stop o.first) = rw is at (falls 0 (suc k) p (omega arith) (omega arith)) in
          let f : ⊥ = omega arith in f

  pub none_comes_back : (os : List Order) → ((p : Order) → Contains os p → Contains c.orders p × (is_cycling p ≡ true))
      → FallByRank c os → NoneComesBack os
  none_comes_back [] each falls = tt
  none_comes_back (o ∷ os) each falls = (
    head_apart o os each falls,
    none_comes_back os (λ p h. each p (in_rest o os p h)) (λ i j d lt l. falls (suc i) (suc j) d (omega arith) (omega arith)),
  )
