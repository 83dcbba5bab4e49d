-- What is said of cells, with one more promotion score.
use Rattle.std.proofs.Common.{◌≡◌, ◌≢◌, ℕ, ◌+◌, ◌*◌, ◌<◌, ◌≤◌, ◌==◌, Bool, true, false, ◌&&◌, if◌then◌else◌, ℤ, neg_ℤ, pos, Option, Some, None, List, [], ◌∷◌, ◌++◌, length, find, is_none, set, slice_get, refl, sym, ap, ◌∙◌, eqb-true, arith}
use Rattle.std.specs.Option.{option_map, option_map_or, option_or}
use Rattle.std.specs.Prelude.{unwrap_or}
use Rattle.std.proofs.lemmas.Bool.{and_parts, false≢true}
use Rattle.std.proofs.lemmas.List.{length-set, get_or-set_same, get_or-set_other}
use Rattle.std.proofs.lemmas.List.Folds.{find-append}
use Rattle.std.proofs.lemmas.Option.{slice_get-get_or, slice_get_within}
use Rattle.lemmas.proofs.Booleans.{equal_turned}
use Rattle.cluster_types.specs.declared.cluster.Cluster.{Cluster}
use Rattle.cluster_types.specs.declared.journal.Promotion.{Promotion}
use Rattle.cluster_types.proofs.TableCells.{same_place}
use Rattle.cluster_types.specs.Terms.{promotion_score}
use Rattle.placement.specs.Promotions.{AreSaid, score_said_of}
use Rattle.placement.specs.Inner.Promotions.{is_vacant}

-- the first stands; without one the new one counts if it is of the cell
abbrev first_or : Option ℤ → Bool → ℤ → Option ℤ
first_or (Some score) here new = Some score
first_or None true new = Some new
first_or None false new = None

said-last : (first : Option Promotion) (p : Promotion) (here : Bool)
    → option_map (λ (p : Promotion). p.score) (option_or first (if here then Some p else None)) ≡ first_or (option_map (λ (p : Promotion). p.score) first) here p.score
said-last (Some q) p here = refl
said-last None p true = refl
said-last None p false = refl

said-more : (before : List Promotion) (p : Promotion) (r n : ℕ) → score_said_of (before ++ p ∷ []) r n ≡ first_or (score_said_of before r n) (p.leaf == r && p.node == n) p.score
said-more before p r n =
    ap (option_map (λ (p : Promotion). p.score)) (find-append (λ (q : Promotion). q.leaf == r && q.node == n) before (p ∷ []))
    ∙ said-last (find (λ (q : Promotion). q.leaf == r && q.node == n) before) p (p.leaf == r && p.node == n)

module _ (c : Cluster) (before : List Promotion) (p : Promotion) (said : List (Option ℤ)) (are : AreSaid c before said) where
  abbrev place_of : ℕ → ℕ → ℕ
  place_of r n = r * length c.nodes + n

  -- the promotion score is of the cell
  abbrev is_of : ℕ → ℕ → Bool
  is_of r n = p.leaf == r && p.node == n

  first-kept : (first : Option ℤ) (here : Bool) → (first ≡ None → here ≡ true → ⊥) → first_or first here p.score ≡ first
  first-kept (Some x) here h = refl
  first-kept None true h = absurd (h refl refl)
  first-kept None false h = refl

  -- what is kept of a cell stands where it is not free, or another cell is meant
  stands : (r n : ℕ) → r < length c.leaves → n < length c.nodes → (score_said_of before r n ≡ None → is_of r n ≡ true → ⊥)
      → slice_get said (place_of r n) ≡ Some (score_said_of (before ++ p ∷ []) r n)
  stands r n leaf node h = are.each r n leaf node ∙ ap Some (sym (said-more before p r n ∙ first-kept (score_said_of before r n) (is_of r n) h))

  one-place : (r n : ℕ) → n < length c.nodes → p.node < length c.nodes → (place_of r n == place_of p.leaf p.node) ≡ is_of r n
  one-place r n node low =
      same_place (length c.nodes) r n p.leaf p.node node low (r == p.leaf) refl ∙ (let leaves = equal_turned r p.leaf in let nodes = equal_turned n p.node in rw (leaves, nodes) refl)

  -- the cell isn't there
  pub say-nowhere : length c.nodes ≤ p.node → AreSaid c (before ++ p ∷ []) said
  say-nowhere high = record {
    size = are.size;
    each = λ r n leaf node. stands r n leaf node
        (λ none here. let e : p.node ≡ n = eqb-true p.node n (and_parts (p.leaf == r) (p.node == n) here).1 in absurd (let f : ⊥ = omega (arith, e, node, high) in f));
  }

  module _ (place : ℕ) (at : place ≡ place_of p.leaf p.node) (low : p.node < length c.nodes) where
    here-is : (r n : ℕ) → is_of r n ≡ true → place_of r n ≡ place
    here-is r n here =
        let parts = and_parts (p.leaf == r) (p.node == n) here in
        let leaf : p.leaf ≡ r = eqb-true p.leaf r parts.0 in
        let node : p.node ≡ n = eqb-true p.node n parts.1 in
        rw (← leaf, ← node) (sym at)

    -- the cell isn't free
    pub say-again : (slice_get said place ≡ Some None → ⊥) → AreSaid c (before ++ p ∷ []) said
    say-again taken = record {
      size = are.size;
      each = λ r n leaf node. stands r n leaf node
          (λ none here. taken (ap (slice_get said) (sym (here-is r n here)) ∙ (are.each r n leaf node ∙ ap Some none)));
    }

    -- the cell is free, and gets the score
    pub say-here : slice_get said place ≡ Some None → AreSaid c (before ++ p ∷ []) (set said place (Some p.score))
    say-here free = record {
      size = length-set said place (Some p.score) ∙ are.size;
      each = λ r n leaf node. each r n leaf node (is_of r n) refl;
    }
      where
        within : place < length said
        within = slice_get_within said place None free

        each : (r n : ℕ) → r < length c.leaves → n < length c.nodes → (here : Bool) → is_of r n ≡ here
            → slice_get (set said place (Some p.score)) (place_of r n) ≡ Some (score_said_of (before ++ p ∷ []) r n)
        each r n leaf node true e =
            let there = here-is r n e in
            let none : score_said_of before r n ≡ None = ap (λ (kept : Option (Option ℤ)). unwrap_or kept None) (sym (are.each r n leaf node) ∙ (ap (slice_get said) there ∙ free)) in
            let new : score_said_of (before ++ p ∷ []) r n ≡ Some p.score = said-more before p r n ∙ rw (none, e) refl in
            ap (slice_get (set said place (Some p.score))) there
            ∙ (slice_get-get_or (set said place (Some p.score)) place None (omega (arith, within, length-set said place (Some p.score)))
            ∙ ap Some (get_or-set_same said place (Some p.score) None within ∙ sym new))
        each r n leaf node false e =
            let low_place = slice_get_within said (place_of r n) (score_said_of before r n) (are.each r n leaf node) in
            let apart : (place_of r n == place) ≡ false = ap (λ k. place_of r n == k) at ∙ (one-place r n node low ∙ e) in
            slice_get-get_or (set said place (Some p.score)) (place_of r n) None (omega (arith, low_place, length-set said place (Some p.score)))
            ∙ (ap Some (get_or-set_other said place (place_of r n) (Some p.score) None (let f : place_of r n ≢ place = grind (arith, apart) in f))
            ∙ (sym (slice_get-get_or said (place_of r n) None low_place)
            ∙ stands r n leaf node (λ none here. false≢true (sym e ∙ here))))

-- what is free keeps nothing, and what isn't keeps something or isn't there
pub freed : (said : List (Option ℤ)) (place : ℕ) → is_vacant said place ≡ true → slice_get said place ≡ Some None
freed said place h = go (slice_get said place) h
  where
    go : (at : Option (Option ℤ)) → option_map_or is_none at false ≡ true → at ≡ Some None
    go (Some None) e = refl
    go (Some (Some x)) e = absurd (false≢true e)
    go None e = absurd (false≢true e)

pub taken : (said : List (Option ℤ)) (place : ℕ) → is_vacant said place ≡ false → slice_get said place ≡ Some None → ⊥
taken said place h at = false≢true (sym h ∙ ap (λ kept. option_map_or is_none kept false) at)

-- how much the leaf wants to be promoted is the first that is said, else -1
pub wish-is : (promotions : List Promotion) (r n : ℕ) → promotion_score promotions r n ≡ unwrap_or (score_said_of promotions r n) (neg_ℤ (pos 1))
wish-is promotions r n = go (find (λ (p : Promotion). p.leaf == r && p.node == n) promotions)
  where
    go : (first : Option Promotion) → option_map_or (λ (p : Promotion). p.score) first (neg_ℤ (pos 1)) ≡ unwrap_or (option_map (λ (p : Promotion). p.score) first) (neg_ℤ (pos 1))
    go (Some p) = refl
    go None = refl

pub wish-kept : (c : Cluster) (promotions : List Promotion) (said : List (Option ℤ)) (r n nodes place : ℕ) → AreSaid c promotions said → r < length c.leaves → n < length c.nodes
    → nodes ≡ length c.nodes → place ≡ r * nodes + n → unwrap_or (unwrap_or (slice_get said place) None) (neg_ℤ (pos 1)) ≡ promotion_score promotions r n
wish-kept c promotions said r n nodes place are leaf node size at =
    let here : place ≡ r * length c.nodes + n = at ∙ ap (λ k. r * k + n) size in
    let kept = ap (slice_get said) here ∙ are.each r n leaf node in
    ap (λ k. unwrap_or (unwrap_or k None) (neg_ℤ (pos 1))) kept ∙ sym (wish-is promotions r n)
