-- One position more in the index of positions.
use Rattle.std.proofs.Common.{arith, ◌≡◌, ◌<◌, ◌+◌, ◌==◌, ◌++◌, ℕ, zero, suc, Bool, true, false, cond, List, [], ◌∷◌, Option, Some, None, length, filter, replicate, unwrap_or, IfSome, set, get_or, refl, sym, ap, subst, ◌∙◌}
use Rattle.std.specs.List.{range_with_len, slice_get}
use Rattle.std.specs.Option.{option_map_or}
use Rattle.std.proofs.lemmas.Bool.{eqb-true, eqb-false}
use Rattle.std.proofs.lemmas.List.{append-nil, get_or-set_other, get_or-set_same}
use Rattle.std.proofs.lemmas.Option.{unwrap_or-slice_get}
use Rattle.lemmas.proofs.Ranges.{range-more}
use Rattle.cluster_types.specs.declared.journal.Action.{Action}
use Rattle.cluster_types.specs.declared.journal.Action.TheVariants.{Fence, Probe, Operation, MigrateTo, MigrateFrom}
use Rattle.planner.specs.Inner.Index.{IsIndexBefore, leaf_if, leaf_places_before, with_place}
use Rattle.planner.specs.Inner.Places.{is_of_leaf}

pub filter_last : {X : Type 0} (p : X → Bool) (xs : List X) (x : X) → filter p (xs ++ x ∷ []) ≡ filter p xs ++ cond (p x) (x ∷ []) []
filter_last p [] x = on (p x)
  where
    on : (b : Bool) → cond b (x ∷ []) [] ≡ cond b (x ∷ []) []
    on b = refl
filter_last p (y ∷ ys) x = on (p y) (filter_last p ys x)
  where
    on : (b : Bool) → filter p (ys ++ x ∷ []) ≡ filter p ys ++ cond (p x) (x ∷ []) []
        → cond b (y ∷ filter p (ys ++ x ∷ [])) (filter p (ys ++ x ∷ [])) ≡ cond b (y ∷ filter p ys) (filter p ys) ++ cond (p x) (x ∷ []) []
    on true e = ap (λ v. y ∷ v) e
    on false e = e

module _ (actions : List Action) (r place : ℕ) (a : Action) (at : slice_get actions place ≡ Some a) where
  places_more : leaf_places_before actions r (place + 1) ≡ leaf_places_before actions r place ++ cond (is_of_leaf r a) (place ∷ []) []
  places_more =
      ap (filter (λ i. option_map_or (is_of_leaf r) (slice_get actions i) false)) (range-more place)
      ∙ (filter_last (λ i. option_map_or (is_of_leaf r) (slice_get actions i) false) (range_with_len 0 place) place
      ∙ ap (λ v. leaf_places_before actions r place ++ cond (option_map_or (is_of_leaf r) v false) (place ∷ []) []) at)

leaf_is : (r : ℕ) (a : Action) (q : ℕ) → leaf_if a ≡ Some q → is_of_leaf r a ≡ (q == r)
leaf_is r (Fence n) q h = cc
leaf_is r (Probe s n) q h = let e : s ≡ q = cc in ap (λ v. v == r) e
leaf_is r (Operation o s n i role) q h = let e : s ≡ q = cc in ap (λ v. v == r) e
leaf_is r (MigrateTo s f t) q h = let e : s ≡ q = cc in ap (λ v. v == r) e
leaf_is r (MigrateFrom s f t) q h = let e : s ≡ q = cc in ap (λ v. v == r) e

no_leaf_is : (r : ℕ) (a : Action) → leaf_if a ≡ None → is_of_leaf r a ≡ false
no_leaf_is r (Fence n) h = refl
no_leaf_is r (Probe s n) h = cc
no_leaf_is r (Operation o s n i role) h = cc
no_leaf_is r (MigrateTo s f t) h = cc
no_leaf_is r (MigrateFrom s f t) h = cc

pub set_on : (index : List (List ℕ)) (r q : ℕ) (v : List ℕ) (b : Bool) → q < length index → (q == r) ≡ b
    → unwrap_or (slice_get (set index q v) r) [] ≡ cond b v (unwrap_or (slice_get index r) [])
set_on index r q v true l e =
    let same : q ≡ r = eqb-true q r e in
    subst (λ n. unwrap_or (slice_get (set index q v) n) [] ≡ v) same (unwrap_or-slice_get (set index q v) q [] ∙ get_or-set_same index q v [] l)
set_on index r q v false l e =
    unwrap_or-slice_get (set index q v) r [] ∙ (get_or-set_other index q r v [] (λ same. eqb-false q r e (sym same)) ∙ sym (unwrap_or-slice_get index r []))

pub index_more : (actions : List Action) (leaves place : ℕ) (index more : List (List ℕ)) (a : Action) (leaf : Option ℕ) → length index ≡ leaves
    → slice_get actions place ≡ Some a → leaf_if a ≡ leaf → IfSome leaf (λ r. r < leaves) → IsIndexBefore actions leaves place index
    → more ≡ with_place index leaf place → IsIndexBefore actions leaves (place + 1) more
index_more actions leaves place index more a (Some q) long at leaf l is e r m =
    ap (λ v. unwrap_or (slice_get v r) []) e
    ∙ (on (q == r) refl ∙ sym (places_more actions r place a at ∙ ap (λ b. leaf_places_before actions r place ++ cond b (place ∷ []) []) (leaf_is r a q leaf)))
  where
    on : (b : Bool) → (q == r) ≡ b → unwrap_or (slice_get (set index q (unwrap_or (slice_get index q) [] ++ place ∷ [])) r) []
        ≡ leaf_places_before actions r place ++ cond (q == r) (place ∷ []) []
    on true f =
        let same : q ≡ r = eqb-true q r f in
        set_on index r q (unwrap_or (slice_get index q) [] ++ place ∷ []) true (omega arith) f
        ∙ (ap (λ n. unwrap_or (slice_get index n) [] ++ place ∷ []) same ∙ (ap (λ v. v ++ place ∷ []) (is r m)
        ∙ ap (λ b. leaf_places_before actions r place ++ cond b (place ∷ []) []) (sym f)))
    on false f =
        set_on index r q (unwrap_or (slice_get index q) [] ++ place ∷ []) false (omega arith) f
        ∙ (is r m ∙ (sym (append-nil (leaf_places_before actions r place)) ∙ ap (λ b. leaf_places_before actions r place ++ cond b (place ∷ []) []) (sym f)))
index_more actions leaves place index more a None long at leaf l is e r m =
    ap (λ v. unwrap_or (slice_get v r) []) e
    ∙ (is r m ∙ (sym (append-nil (leaf_places_before actions r place))
    ∙ sym (places_more actions r place a at ∙ ap (λ b. leaf_places_before actions r place ++ cond b (place ∷ []) []) (no_leaf_is r a leaf))))
