-- Edges without a loop rise in some height: how many positions lead to each.
use Rattle.std.proofs.Common.{arith, ◌≡◌, ◌<◌, ◌≤◌, ◌+◌, ◌==◌, ◌||◌, ℕ, suc, zero, Bool, true, false, List, [], ◌∷◌, length, count_by, slice_index_or, refl, ◌∙◌, Contains}
use Rattle.std.specs.List.{IsDistinct, range_with_len}
use Rattle.std.specs.Prelude.{⊤}
use Rattle.std.proofs.lemmas.Bool.{eqb-true, false_from_ne_true, or_right}
use Rattle.std.proofs.lemmas.List.FromFn.{length-range_with_len, get_or-range_with_len}
use Rattle.std.proofs.lemmas.Map.Keys.{IsDistinct-cons}
use Rattle.std.proofs.lemmas.Map.Steps.{length-le_from_distinct_below}
use Rattle.lemmas.proofs.Counts.{count_one_more}
use Rattle.edges.specs.declared.edge.Edge.{Edge}
use Rattle.edges.specs.Chains.{linked, link_then, one_link}
use Rattle.edges.specs.Inner.ShortWays.{leads_within}
use Rattle.edges.specs.Loops.{EndsWithin, HasNoLoop, IsEdge, Leads, RiseSomehow}
use Rattle.edges.specs.Sources.{is_in_list}
use Rattle.edges.proofs.Endings.{begins_within}
use Rattle.edges.proofs.Leading.{leads_directly, leads-from_computed, of_step}
use Rattle.edges.proofs.Members.{none_all}
use Rattle.edges.proofs.ThroughOthers.{chain_then}
use Rattle.edges.proofs.Walks.{alone}

-- Without a loop a way meets no position twice, so it has fewer edges than there are positions.

-- the way so far has met these, each of which leads to x
record Met (positions : ℕ) (edges : List Edge) (seen : List ℕ) (x : ℕ) : Type 0 where
  pub distinct : IsDistinct ◌==◌ (x ∷ seen)
  pub below : (y : ℕ) → is_in_list (x ∷ seen) y ≡ true → y < positions
  pub led : (y : ℕ) → is_in_list seen y ≡ true → Leads edges y x

module _ (positions : ℕ) (edges : List Edge) (ends : EndsWithin positions edges) (free : HasNoLoop edges) where
  module _ (seen : List ℕ) (e : Edge) (c : Contains edges e) (m : Met positions edges seen e.before) where
    led_on : (y : ℕ) (same : Bool) → (y == e.before) ≡ same → same || is_in_list seen y ≡ true → Leads edges y e.after
    led_on y true at h = let back : y ≡ e.before = eqb-true y e.before at in rw back (one_link _ _ (linked e c))
    led_on y false at h = chain_then (λ via. ⊤) (IsEdge edges) y e.before e.after (m.led y h) tt (one_link _ _ (linked e c))

    new_on : (b : Bool) → is_in_list (e.before ∷ seen) e.after ≡ b → is_in_list (e.before ∷ seen) e.after ≡ false
    new_on true h = absurd (free e.after (led_on e.after (e.after == e.before) refl h))
    new_on false h = h

    below_on : (y : ℕ) (same : Bool) → (y == e.after) ≡ same → same || is_in_list (e.before ∷ seen) y ≡ true → y < positions
    below_on y true at h = let back : y ≡ e.after = eqb-true y e.after at in rw back ((ends e c).1)
    below_on y false at h = m.below y h

    met_more : Met positions edges (e.before ∷ seen) e.after
    met_more = record {
      distinct =
          IsDistinct-cons ◌==◌ e.after (e.before ∷ seen)
          (none_all e.after (e.before ∷ seen) (new_on (is_in_list (e.before ∷ seen) e.after) refl)) m.distinct;
      below = λ y. below_on y (y == e.after) refl;
      led = λ y. led_on y (y == e.before) refl;
    }

  short_met : (seen : List ℕ) (x : ℕ) → Met positions edges seen x → suc (length seen) ≤ positions
  short_met seen x m = length-le_from_distinct_below (x ∷ seen) positions m.distinct m.below

  short_way : (n : ℕ) (seen : List ℕ) (x y : ℕ) → Leads edges x y → Met positions edges seen x → positions ≤ n + length seen
      → leads_within n edges x y ≡ true
  short_way zero seen x y l m enough = let s = short_met seen x m in absurd (let f : ⊥ = omega arith in f)
  short_way (suc n) seen _ _ (one_link _ _ (linked e c)) m enough = leads_directly n edges e c
  short_way (suc n) seen _ _ (link_then _ _ y (linked e c) _ rest) m enough =
      let led : leads_within n edges e.after y ≡ true
      = short_way n (e.before ∷ seen) e.after y rest (met_more seen e c m) (omega arith) in
      of_step n edges e.before y (record { edge = e; among = c; from = refl; on = or_right (e.after == y) _ led })

  begun_below : (x y : ℕ) → x < positions → (same : Bool) → (y == x) ≡ same → same || false ≡ true → y < positions
  begun_below x y lt true at h = let back : y ≡ x = eqb-true y x at in rw back lt
  begun_below x y lt false at h = cc

  pub leads_computed : (x y : ℕ) → Leads edges x y → leads_within positions edges x y ≡ true
  leads_computed x y l = short_way positions [] x y l (record {
    distinct = alone x;
    below = λ y. begun_below x y (begins_within positions edges ends x _ l) (y == x) refl;
    led = λ y h. cc;
  }) (omega arith)

  -- how many positions lead to this one
  abbrev pub height : ℕ → ℕ
  height x = count_by (λ y. leads_within positions edges y x) (range_with_len 0 positions)

  reaches_further : (e : Edge) → Contains edges e → (y : ℕ) → leads_within positions edges y e.before ≡ true
      → leads_within positions edges y e.after ≡ true
  reaches_further e c y h =
      leads_computed y e.after (chain_then (λ via. ⊤) (IsEdge edges) y e.before e.after (leads-from_computed positions edges y e.before h) tt
      (one_link _ _ (linked e c)))

  pub rises : (e : Edge) → Contains edges e → height e.before < height e.after
  rises e c =
      let w = ends e c in
      let l = length-range_with_len 0 positions in
      let at : slice_index_or (range_with_len 0 positions) e.before e.before ≡ e.before
      = get_or-range_with_len 0 positions e.before e.before w.0 ∙ omega arith in
      count_one_more (λ y. leads_within positions edges y e.before) (λ y. leads_within positions edges y e.after) (reaches_further e c)
      (range_with_len 0 positions) e.before e.before (omega arith) at (false_from_ne_true _ (λ h. free e.before (leads-from_computed positions edges e.before e.before h))) (leads_computed e.before e.after (one_link _ _ (linked e c)))

  pub rise_somehow : RiseSomehow edges
  rise_somehow = record { height = height; rises = rises }
