-- The nodes that are picked among the candidates are those that the decision chooses.
use Rattle.std.proofs.Common.{◌≡◌, ◌⊎◌, inl, inr, ℕ, ◌<◌, ◌==◌, ℤ, pos, ◌<ℤ◌, Bool, true, false, not, ◌&&◌, ◌||◌, nat_lt, int_lt, int_le, List, [], ◌∷◌, length, map, count_by, slice_index, refl, ap, subst, ◌∙◌, arith}
use Rattle.std.specs.Int.{is_negative}
use Rattle.std.specs.List.{range_with_len}
use Rattle.std.specs.Ordering.{int_eq}
use Rattle.std.proofs.lemmas.Int.{ints}
use Rattle.std.proofs.lemmas.List.FromFn.{get_or-map-range_with_len, length-map-range_with_len}
use Rattle.lemmas.proofs.Ranges.{count-same, map-same}
use Rattle.score.specs.Choice.{GoesBefore, points_at}
use Rattle.score.specs.Choice as lanes
use Rattle.score.specs.NodeSet.{has}
use Rattle.score.specs.declared.node_set.NodeSet.{NodeSet}
use Rattle.score.specs.Total.{total_of}
use Rattle.cluster_types.specs.declared.cluster.Cluster.{Cluster}
use Rattle.cluster_types.specs.declared.journal.Event.{Event}
use Rattle.cluster_types.specs.declared.journal.Promotion.{Promotion}
use Rattle.cluster_types.specs.declared.placement.Decision.{Decision}
use Rattle.cluster_types.specs.Choice.{cap_of, has_primaries, is_apart, is_candidate, is_chosen, is_better, is_permitted, is_placed_for, preference, total_on}
use Rattle.cluster_types.specs.Decisions.{leaf_of}
use Rattle.cluster_types.specs.NodeStates.{is_usable}
use Rattle.cluster_types.specs.Rights.{rights_of}
use Rattle.cluster_types.specs.Tables.{Targets, load_of}
use Rattle.cluster_types.specs.UnpackedStates.{states_of}
use Rattle.plan_laws.proofs.Picked.{picked_are_first}
use Rattle.plan_laws.proofs.FewChosen.{chosen_one_way}
use Rattle.placement.specs.Scores.{scores_of}
use Rattle.placement.proofs.OwnOfStates.{from-zero}
use Rattle.placement.proofs.TableOfStates.{total-is}
use Rattle.placement.specs.Inner.Picks.{ArePicked}
use Rattle.placement.specs.Inner.Reads.{is_candidate_in, total_in}
use Rattle.placement.specs.Steps.{Chooses}
use Rattle.placement.proofs.ReadOfStates.{open-is}

-- a node goes before another by total, load and number, and not the other way round
goes : (a b t u : ℤ) (i j l k n m : ℕ) → a ≡ t → b ≡ u → i ≡ l → j ≡ k → (b <ℤ a) ⊎ ((a ≡ b) × ((i < j) ⊎ ((i ≡ j) × (n < m))))
    → (int_lt u t || int_eq t u && (nat_lt l k || l == k && nat_lt n m)) ≡ true
goes a b t u i j l k n m e f g h (inl more) = grind (arith, ints)
goes a b t u i j l k n m e f g h (inr (same, inl less)) = grind (arith, ints)
goes a b t u i j l k n m e f g h (inr (same, inr (alike, first))) = grind (arith, ints)

ordered : (u m q p s t : Bool) → (((u && m && q) && (p && s)) && t) ≡ (u && m && t && p && s && q)
ordered false m q p s t = refl
ordered true false q p s t = refl
ordered true true false p s false = refl
ordered true true false false s true = refl
ordered true true false true false true = refl
ordered true true false true true true = refl
ordered true true true false s false = refl
ordered true true true false s true = refl
ordered true true true true false false = refl
ordered true true true true false true = refl
ordered true true true true true false = refl
ordered true true true true true true = refl

module _ (c : Cluster) (es : List Event) (ps : List Promotion) (table : Targets) (d : Decision) where
  abbrev pub on_each : List ℤ
  on_each = map (total_on c es ps table d) (range_with_len 0 (length c.nodes))

  total-at : (n : ℕ) → n < length c.nodes → points_at on_each n ≡ total_on c es ps table d n
  total-at n low = get_or-map-range_with_len (total_on c es ps table d) 0 (length c.nodes) n n (pos 0) low (omega arith)

  load-at : (n : ℕ) → n < length c.nodes → slice_index (map (load_of c table) (range_with_len 0 (length c.nodes))) n ≡ load_of c table n
  load-at n low = get_or-map-range_with_len (load_of c table) 0 (length c.nodes) n n 0 low (omega arith)

  module _ (leaf : leaf_of d < length c.leaves) where
    -- the totals that are read are those of the decision
    pub totals-are : map (total_in c (scores_of c es ps) table d) (range_with_len 0 (length c.nodes)) ≡ on_each
    totals-are =
        map-same (total_in c (scores_of c es ps) table d) (total_on c es ps table d) (length c.nodes)
        (λ n low. ap (λ b. total_of (b ∷ preference c table d n ∷ [])) (total-is c es ps d n leaf low))

    pub candidate-is : (n : ℕ) → n < length c.nodes → is_candidate_in c (states_of c es ps) (rights_of c es) table d on_each n ≡ is_candidate c es ps table d n
    candidate-is n low =
        let allowed = has_primaries c table d n && is_apart c table d n in
        ap (λ b. (b && allowed) && lanes.has_enough on_each n) (open-is c es ps d n leaf low table)
        ∙ (ap (λ b. ((is_usable c n es && is_permitted c es d n && is_placed_for table d n) && allowed) && b)
        (ap (λ z. not (is_negative z)) (total-at n low) ∙ from-zero (total_on c es ps table d n))
        ∙ ordered (is_usable c n es) (is_permitted c es d n) (is_placed_for table d n) (has_primaries c table d n) (is_apart c table d n)
        (int_le (pos 0) (total_on c es ps table d n)))

  module _ (among picked : NodeSet) (there : (n : ℕ) → has among n ≡ true → n < length c.nodes)
      (are : (n : ℕ) → n < length c.nodes → has among n ≡ is_candidate c es ps table d n)
      (picks : ArePicked on_each (map (load_of c table) (range_with_len 0 (length c.nodes))) among (cap_of c es d) picked) where
    abbrev ahead : (ℕ → Bool) → ℕ → ℕ
    ahead may n = count_by (λ m. may m && is_better c es ps table d m n) (range_with_len 0 (length c.nodes))

    goes-before : (n m : ℕ) → n < length c.nodes → m < length c.nodes → GoesBefore on_each (map (load_of c table) (range_with_len 0 (length c.nodes))) n m
        → is_better c es ps table d n m ≡ true
    goes-before n m low also h =
        goes _ _ (total_on c es ps table d n) (total_on c es ps table d m) _ _ (load_of c table n) (load_of c table m) n m
        (total-at n low) (total-at m also) (load-at n low) (load-at m also) h

    long : length on_each ≡ length c.nodes
    long = length-map-range_with_len (total_on c es ps table d) 0 (length c.nodes)

    size-is : count_by (has picked) (range_with_len 0 (length on_each)) ≡ count_by (has picked) (range_with_len 0 (length c.nodes))
    size-is = ap (λ (k : ℕ). count_by (has picked) (range_with_len 0 k)) long

    -- among the candidates that were found
    first-are : (n : ℕ) → n < length c.nodes → has picked n ≡ (has among n && nat_lt (ahead (has among) n) (cap_of c es d))
    first-are n low =
        picked_are_first (length c.nodes) (has among) (is_better c es ps table d) (chosen_one_way c es ps table d) (has picked) picks.fits
        (λ x y h a k. goes-before x y (there x (picks.fits x h)) (there y a) (picks.first x y h a k))
        (cap_of c es d) (let most = picks.most in omega (arith, most, size-is))
        (λ x in-range a k. let enough = picks.enough x a k in omega (arith, enough, size-is)) n low

    pub chosen-is : (n : ℕ) → n < length c.nodes → has picked n ≡ is_chosen c es ps table d n
    chosen-is n low =
        first-are n low
        ∙ (ap (λ b. b && nat_lt (ahead (has among) n) (cap_of c es d)) (are n low)
        ∙ ap (λ (k : ℕ). is_candidate c es ps table d n && nat_lt k (cap_of c es d))
        (count-same (λ m. has among m && is_better c es ps table d m n) (λ m. is_candidate c es ps table d m && is_better c es ps table d m n)
        (length c.nodes) (λ m in-range. ap (λ b. b && is_better c es ps table d m n) (are m in-range))))

  -- what is picked by these totals, loads and this cap is what the decision chooses
  pub chooses : (totals : List ℤ) (loads : List ℕ) (among picked : NodeSet) (cap : ℕ) → totals ≡ on_each
      → loads ≡ map (load_of c table) (range_with_len 0 (length c.nodes)) → cap ≡ cap_of c es d
      → ((n : ℕ) → has among n ≡ true → n < length c.nodes) → ((n : ℕ) → n < length c.nodes → has among n ≡ is_candidate c es ps table d n)
      → ArePicked totals loads among cap picked → Chooses c es ps table d totals picked
  chooses totals loads among picked cap e f g there are picks = record {
    each = e;
    chosen =
        chosen-is among picked there are
        (subst (λ (k : ℕ). ArePicked on_each (map (load_of c table) (range_with_len 0 (length c.nodes))) among k picked) g
        (subst (λ (ls : List ℕ). ArePicked on_each ls among cap picked) f
        (subst (λ (ts : List ℤ). ArePicked ts loads among cap picked) e picks)));
  }
