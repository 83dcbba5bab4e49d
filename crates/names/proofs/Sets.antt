-- Sets of names to which one more is added.
use Rattle.std.proofs.Common.{arith, ◌≡◌, ◌≢◌, ◌<◌, ◌+◌, ◌||◌, ℕ, nat_eq, suc, Bool, true, false, if◌then◌else◌, List, [], ◌∷◌, ◌++◌, length, map, take, get_or, AllPairs, refl, sym, ap, ◌∙◌}
use Rattle.std.specs.Borrow.{Bor}
use Rattle.std.specs.Cmp.Lexicographic.{bytes_decides, pointwise}
use Rattle.std.specs.List.{list_any}
use Rattle.std.proofs.lemmas.Bool.{false_from_ne_true}
use Rattle.std.proofs.lemmas.List.{get_or-map, get_or-take, length-map, length-take-le, map-append, take_more}
use Rattle.crm_lex.specs.Names.{is}
use Rattle.indexmap.specs.IndexSet.{insert_key}
use Rattle.names.specs.Inner.Sets.{with_name}

absent : (names : List (List ℕ)) (name : List ℕ) → ((k : ℕ) → k < length names → get_or names k name ≢ name) → list_any (is name) names ≡ false
absent [] name h = refl
absent (other ∷ names) name h =
    let here : is name other ≡ false = false_from_ne_true (is name other) (λ e. h 0 (omega arith) (sym ((bytes_decides name other).0 e))) in
    rw here (absent names name (λ k within. h (suc k) (omega (arith, within))))

any-map : {X Y : Type 0} (f : X → Y) (test : Y → Bool) (xs : List X) → list_any test (map f xs) ≡ list_any (λ x. test (f x)) xs
any-map f test [] = refl
any-map f test (x ∷ xs) = ap (λ b. test (f x) || b) (any-map f test xs)

-- a set to which a name was added has it last, if it was new
pub added : (keys more : List (Bor (List ℕ))) (name : Bor (List ℕ)) → more ≡ insert_key (λ one other. pointwise nat_eq one.now other.now) keys name
    → map (λ key. key.now) more ≡ with_name (map (λ key. key.now) keys) name.now
added keys more name e =
    ap (map (λ key. key.now)) e ∙ on (list_any (λ key. is name.now key.now) keys)
    ∙ ap (λ b. if b then names else names ++ name.now ∷ []) (sym (any-map (λ (key : Bor (List ℕ)). key.now) (is name.now) keys))
  where
    names : List (List ℕ)
    names = map (λ key. key.now) keys

    on : (b : Bool) → map (λ key. key.now) (if b then keys else keys ++ name ∷ []) ≡ (if b then names else names ++ name.now ∷ [])
    on true = refl
    on false = map-append (λ (key : Bor (List ℕ)). key.now) keys (name ∷ [])

module _ {X : Type 0} (name_of : X → List ℕ) (xs : List X) (apart : AllPairs (λ (one other : X). name_of one ≢ name_of other) xs)
    (i : ℕ) (x : X) (within : i < length xs) (is_x : x ≡ get_or xs i x) where
  many : length (map name_of (take i xs)) ≡ i
  many = length-map (take i xs) name_of ∙ length-take-le i xs (omega (arith, within))

  other : (k : ℕ) → k < length (map name_of (take i xs)) → get_or (map name_of (take i xs)) k (name_of x) ≢ name_of x
  other k less same =
      let below : k < i = omega (arith, less, many) in
      let there : k < length (take i xs) = omega (arith, below, length-take-le i xs (omega (arith, within))) in
      let at : get_or (map name_of (take i xs)) k (name_of x) ≡ name_of (get_or xs k x) =
      get_or-map name_of (take i xs) k x (name_of x) there ∙ ap name_of (get_or-take i xs k x below) in
      apart k i x below within (sym at ∙ same ∙ ap name_of is_x)

  -- the name of one more
  pub one_more : (names more : List (List ℕ)) → names ≡ map name_of (take i xs) → more ≡ with_name names (name_of x) → more ≡ map name_of (take (i + 1) xs)
  one_more names more e step =
      let new : list_any (is (name_of x)) names ≡ false = rw e (absent (map name_of (take i xs)) (name_of x) other) in
      let next : take (i + 1) xs ≡ take i xs ++ x ∷ [] = take_more xs i x within ∙ ap (λ y. take i xs ++ y ∷ []) (sym is_x) in
      rw (step, new, next, map-append name_of (take i xs) (x ∷ []), e) refl
