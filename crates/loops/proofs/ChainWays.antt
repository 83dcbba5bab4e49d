-- The rank of a step is the length of the longest way to its position.
use Rattle.std.proofs.Common.{◌≡◌, ◌+◌, ◌*◌, ◌==◌, ℕ, Bool, true, false, List, [], ◌∷◌, length, map, filter, cond, fold, max, refl, sym, ◌∙◌, ap, Contains}
use Rattle.edges.specs.declared.edge.Edge.{Edge}
use Rattle.edges.specs.LongestChains.{longest}
use Rattle.edges.proofs.Longest.{longest_are_heights}
use Rattle.cluster_types.specs.declared.cluster.Cluster.{Cluster}
use Rattle.cluster_types.specs.Numbers.{StepsHaveNoLoop, Link, LeafStep, is_same_step, links, rank}
use Rattle.loops.specs.Inner.Edges.{link_edge, step_edges, step_position}
use Rattle.loops.specs.FirstLoops.{AllOrder}
use Rattle.loops.specs.Ranks.{IsRanking}
use Rattle.loops.proofs.LinkLoops.{BothStand, edges_free, links_stand, steps_within}
use Rattle.lemmas.proofs.Members.{at_head, in_rest}
use Rattle.loops.proofs.OneRanking.{one_ranking}
use Rattle.loops.proofs.StepPlaces.{position_is, spot, steps_alike}

module _ (n : ℕ) (height : ℕ → ℕ) (s : LeafStep) where
  -- a link into the step is an edge into its position
  one_link : (l : Link) (ls : List Link) (b : Bool) → BothStand n l → is_same_step l.after s ≡ b
      → map (λ l. height (spot n l.before) + 1) (filter (λ l. is_same_step l.after s) ls)
      ≡ map (λ x. height x + 1) (map (λ (e : Edge). e.before) (filter (λ (e : Edge). e.after == spot n s) (map link_edge ls)))
      → map (λ l. height (spot n l.before) + 1) (cond b (l ∷ filter (λ l. is_same_step l.after s) ls) (filter (λ l. is_same_step l.after s) ls))
      ≡ map (λ x. height x + 1)
      (map (λ (e : Edge). e.before) (cond (step_position l.after == spot n s)
      (link_edge l ∷ filter (λ (e : Edge). e.after == spot n s) (map link_edge ls))
      (filter (λ (e : Edge). e.after == spot n s) (map link_edge ls))))
  one_link l ls true stand same rest =
      let at : (step_position l.after == spot n s) ≡ true
      = rw (position_is n l.after stand.later) (sym (steps_alike n l.after s stand.later) ∙ same) in
      let first : height (spot n l.before) ≡ height (step_position l.before) = ap height (sym (position_is n l.before stand.first)) in
      rw (at, first, rest) refl
  one_link l ls false stand same rest =
      let at : (step_position l.after == spot n s) ≡ false
      = rw (position_is n l.after stand.later) (sym (steps_alike n l.after s stand.later) ∙ same) in
      rw at rest

  all_links : (ls : List Link) → ((l : Link) → Contains ls l → BothStand n l)
      → map (λ l. height (spot n l.before) + 1) (filter (λ l. is_same_step l.after s) ls)
      ≡ map (λ x. height x + 1) (map (λ (e : Edge). e.before) (filter (λ (e : Edge). e.after == spot n s) (map link_edge ls)))
  all_links [] stand = refl
  all_links (l ∷ ls) stand =
      one_link l ls (is_same_step l.after s) (stand l (at_head l ls l refl)) refl
      (all_links ls (λ k h. stand k (in_rest l ls k h)))

module _ (c : Cluster) (ordered : AllOrder c) (free : StepsHaveNoLoop c) where
  ways_rank : IsRanking c (λ s. longest (4 * length c.leaves) (step_edges c) (spot (length c.leaves) s))
  ways_rank s =
      longest_are_heights (4 * length c.leaves) (step_edges c) (steps_within c ordered) (edges_free c ordered free) (spot (length c.leaves) s)
      ∙ sym (ap (fold max 0) (all_links (length c.leaves) (longest (4 * length c.leaves) (step_edges c)) s (links c) (links_stand c ordered)))

  pub rank_is : (s : LeafStep) → rank c s ≡ longest (4 * length c.leaves) (step_edges c) (spot (length c.leaves) s)
  rank_is s = sym (one_ranking c ordered free (λ s. longest (4 * length c.leaves) (step_edges c) (spot (length c.leaves) s)) ways_rank s)
