-- The ranks are made up of those before them, and nothing else is.
use Rattle.std.proofs.Common.{arith, ◌≡◌, ◌<◌, ◌≤◌, ◌+◌, ℕ, suc, zero, List, [], ◌∷◌, map, fold, max, refl, sym, ◌∙◌, ap, Contains}
use Rattle.edges.specs.Chains.{ChainEnds, linked, no_link, then_link}
use Rattle.edges.proofs.Longest.{fold_each, map_alike}
use Rattle.cluster_types.specs.declared.cluster.Cluster.{Cluster}
use Rattle.cluster_types.specs.Numbers.{IsStepLink, StepsHaveNoLoop, Link, LeafStep, is_same_step, links, rank}
use Rattle.cluster_types.specs.Valid.{IsValid}
use Rattle.loops.specs.FirstLoops.{AllOrder}
use Rattle.lemmas.proofs.Members.{at_head, in_filter, in_rest, of_filter}
use Rattle.loops.proofs.StepPlaces.{same_step, step_itself}
use Rattle.loops.proofs.FromValid.{valid_order}
use Rattle.loops.specs.Ranks.{IsRanking, links_into}
use Rattle.loops.proofs.RankChains.{chain_of_rank, none_longer, rank_rises}

-- what is above a list is no higher than what each member is below
above_each : {X : Type 0} (height : X → ℕ) (a most : ℕ) (xs : List X) → a ≤ most → ((x : X) → Contains xs x → height x < most)
    → fold max a (map (λ x. height x + 1) xs) ≤ most
above_each height a most [] low each = low
above_each height a most (x ∷ xs) low each =
    let first : height x < most = each x (at_head x xs x refl) in
    above_each height (max a (height x + 1)) most xs (omega arith) (λ y h. each y (in_rest x xs y h))

module _ (c : Cluster) (ordered : AllOrder c) (free : StepsHaveNoLoop c) where
  before_lower : (s : LeafStep) (l : Link) → Contains (links_into c s) l → rank c l.before < rank c s
  before_lower s l h =
      let k = of_filter (λ (k : Link). is_same_step k.after s) (links c) l h in
      let same : l.after ≡ s = same_step l.after s k.passes in
      rw same at (rank_rises c ordered free l k.among)

  no_higher : (m : ℕ) (s : LeafStep) → ChainEnds (IsStepLink c) m s → m ≤ fold max 0 (map (λ l. rank c l.before + 1) (links_into c s))
  no_higher _ _ (no_link s) = omega arith
  no_higher _ _ (then_link n _ _ before (linked l h)) =
      let so_far = none_longer c ordered free n l.before before in
      let into : Contains (links_into c l.after) l = in_filter (λ (k : Link). is_same_step k.after l.after) (links c) l h (step_itself l.after) in
      let up = fold_each (λ (k : Link). rank c k.before) 0 (links_into c l.after) l into in
      omega arith

  pub rank_ranks : IsRanking c (rank c)
  rank_ranks s =
      let up = no_higher (rank c s) s (chain_of_rank c s) in
      let down = above_each (λ (l : Link). rank c l.before) 0 (rank c s) (links_into c s) (omega arith) (before_lower s) in
      omega arith

  module _ (height : LeafStep → ℕ) (is : IsRanking c height) where
    agrees : (m : ℕ) (s : LeafStep) → rank c s ≤ m → height s ≡ rank c s
    agrees zero s le =
        let none : links_into c s ≡ [] = no_link (links_into c s) (before_lower s) in
        is s ∙ ap (λ (ls : List Link). fold max 0 (map (λ l. height l.before + 1) ls)) none
        ∙ sym (rank_ranks s ∙ ap (λ (ls : List Link). fold max 0 (map (λ l. rank c l.before + 1) ls)) none)
      where
        no_link : (ls : List Link) → ((l : Link) → Contains ls l → rank c l.before < rank c s) → ls ≡ []
        no_link [] each = refl
        no_link (l ∷ ls) each = let lower = each l (at_head l ls l refl) in absurd (let f : ⊥ = omega arith in f)
    agrees (suc m) s le =
        is s
        ∙ ap (fold max 0) (map_alike (λ (l : Link). height l.before) (λ (l : Link). rank c l.before) (links_into c s) (λ l h.
        let lower = before_lower s l h in agrees m l.before (omega arith)))
        ∙ sym (rank_ranks s)

    pub one_ranking : (s : LeafStep) → height s ≡ rank c s
    one_ranking s = agrees (rank c s) s (omega arith)

-- in a valid cluster it rises along each link
pub valid_rise : (c : Cluster) → IsValid c → (l : Link) → Contains (links c) l → rank c l.before < rank c l.after
valid_rise c valid = rank_rises c (valid_order c valid.orders) valid.steps
