-- What a verdict says of a node is true.
use Rattle.std.proofs.Common.{arith, ◌≡◌, ◌≢◌, ◌<◌, ◌==◌, ◌&&◌, ◌||◌, nat_lt, int_lt, ℕ, ℤ, pos, zero, suc, Bool, true, false, not, cond, if◌then◌else◌, Option, Some, None, List, [], ◌∷◌, length, count_by, slice_index_or, refl, sym, subst, Contains}
use Rattle.std.specs.Prelude.{find, int_le, option_map, unwrap_or}
use Rattle.std.specs.List.{list_all, range_with_len}
use Rattle.std.specs.Option.{option_map_or, option_or}
use Rattle.std.specs.Ordering.{int_eq}
use Rattle.std.proofs.lemmas.Bool.{and_from, lt-ltb, ltb-true, eqb-true}
use Rattle.std.proofs.lemmas.Int.{ints}
use Rattle.lemmas.proofs.Booleans.{implied, later, sooner}
use Rattle.std.proofs.lemmas.List.FromFn.{length-range_with_len, get_or-range_with_len}
use Rattle.lemmas.proofs.Counts.{count_more, count_none}
use Rattle.lemmas.proofs.Members.{at_head, in_range, in_rest, of_range}
use Rattle.lemmas.proofs.Ranges.{all_in_range, each_in_range}
use Rattle.lemmas.proofs.Searches.{each_passes}
use Rattle.cluster_types.specs.declared.cluster.Cluster.{Cluster}
use Rattle.cluster_types.specs.declared.journal.Event.{Event}
use Rattle.cluster_types.specs.declared.journal.Promotion.{Promotion}
use Rattle.cluster_types.specs.declared.placement.Decision.{Decision}
use Rattle.cluster_types.specs.declared.rules.Colocation.{Colocation}
use Rattle.cluster_types.specs.Choice.{cap_of, has_primaries, is_apart, is_candidate, is_chosen, is_better, is_dependent, is_mandatory, is_permitted, is_placed_for, is_separation, total_on, would_join_dependent, would_join_primary}
use Rattle.cluster_types.specs.Each.{implies}
use Rattle.cluster_types.specs.NodeStates.{is_usable}
use Rattle.cluster_types.specs.Tables.{Targets, holds_role, load_of}
use Rattle.plan_laws.proofs.FewChosen.{FirstCandidate, chosen_one_way, chosen_onward, chosen_some_way, first_candidate}
use Rattle.plan_laws.proofs.FirstOnes.{first_among}
use Rattle.plan_laws.proofs.MadeOnes.{never_both}
use Rattle.decision_account.specs.Grounds.{IsPassedBy, IsTrueVerdict}
use Rattle.decision_account.specs.Verdicts as verdict
use Rattle.decision_account.specs.Verdicts.{Verdict, is_last_chosen, joined_separation, joins_apart, last_chosen, misses_primary, missed_colocation, outdone, passed_by, refusal, verdict_on}

-- what a search finds is there and passes, and where it finds none all fail
pub record Found {X : Type 0} (p : X → Bool) (xs : List X) (x : X) : Type 0 where
  pub there : Contains xs x
  pub passes : p x ≡ true

pub found : {X : Type 0} (p : X → Bool) (xs : List X) (x : X) → find p xs ≡ Some x → Found p xs x
found p [] x h = cc
found p (y ∷ ys) x h = go (p y) refl h (found p ys x)
  where
    go : (b : Bool) → p y ≡ b → cond b (Some y) (find p ys) ≡ Some x → (find p ys ≡ Some x → Found p ys x) → Found p (y ∷ ys) x
    go true e h rest =
        let same : y ≡ x = cc in
        record { there = at_head y ys x same; passes = subst (λ z. p z ≡ true) same e }
    go false e h rest = let f = rest h in record { there = in_rest y ys x f.there; passes = f.passes }

pub none_found : {X : Type 0} (p q : X → Bool) → ((x : X) → p x ≡ false → q x ≡ true) → (xs : List X) → find p xs ≡ None → list_all q xs ≡ true
none_found p q turned [] h = refl
none_found p q turned (y ∷ ys) h = go (p y) refl h (none_found p q turned ys)
  where
    go : (b : Bool) → p y ≡ b → cond b (Some y) (find p ys) ≡ None → (find p ys ≡ None → list_all q ys ≡ true) → q y && list_all q ys ≡ true
    go true e h rest = cc
    go false e h rest = and_from (q y) (list_all q ys) (turned y e) (rest h)

has_primary_there : (a b h : Bool) → (a && b) && not h ≡ false → not (a && b) || h ≡ true
has_primary_there true true true e = refl
has_primary_there true true false e = cc
has_primary_there true false h e = refl
has_primary_there false b h e = refl

joins_neither : (a x y : Bool) → a && (x || y) ≡ false → not a || (not x && not y) ≡ true
joins_neither true true y e = cc
joins_neither true false true e = cc
joins_neither true false false e = refl
joins_neither false x y e = refl

not_least : (z : ℤ) → int_le (pos 0) z ≡ false → int_lt z (pos 0) ≡ true
not_least z h = grind (arith, ints)

second_fails : (a b : Bool) → a ≡ true → a && b ≡ false → b ≡ false
second_fails true b e h = h
second_fails false b e h = cc

differ : (k m : ℕ) → m ≡ k → (k == m) ≡ false → ⊥
differ k m h f = let e : (k == m) ≡ true = grind arith in never_both (k == m) e f

or_else : (a b : Bool) → (a ≡ true → ⊥) → a || b ≡ true → b ≡ true
or_else true b never h = absurd (never refl)
or_else false b never h = h

pub fails : (b : Bool) → not b ≡ true → b ≡ false
fails true h = cc
fails false h = refl

-- two nodes, of which the one goes before the other: by total, then by load, then by number
by_equals : (lt eq rest : Bool) → lt ≡ false → lt || eq && rest ≡ true → eq && rest ≡ true
by_equals true eq rest none h = cc
by_equals false eq rest none h = h

by_number : (l k n m : ℕ) → nat_lt l k ≡ false → nat_lt l k || l == k && nat_lt n m ≡ true → (l ≡ k) × (n < m)
by_number l k n m none h =
    let both : l == k && nat_lt n m ≡ true = by_equals (nat_lt l k) (l == k) (nat_lt n m) none h in
    (eqb-true l k (sooner (l == k) (nat_lt n m) both), ltb-true n m (later (l == k) (nat_lt n m) both))

module _ (c : Cluster) (es : List Event) (ps : List Promotion) (table : Targets) (d : Decision) where
  abbrev fits : ℕ → Bool
  fits n = is_candidate c es ps table d n

  abbrev picked : ℕ → Bool
  picked n = is_chosen c es ps table d n

  abbrev goes : ℕ → ℕ → Bool
  goes n m = is_better c es ps table d n m

  abbrev ahead : ℕ → ℕ
  ahead n = count_by (λ m. fits m && goes m n) (range_with_len 0 (length c.nodes))

  -- a candidate before one that is chosen is chosen
  chosen_too : (n m : ℕ) → fits n ≡ true → goes n m ≡ true → picked m ≡ true → picked n ≡ true
  chosen_too n m fit before is =
      let few : ahead m < cap_of c es d = ltb-true (ahead m) (cap_of c es d) (later (fits m) (nat_lt (ahead m) (cap_of c es d)) is) in
      let fewer = count_more (λ k. fits k && goes k n) (λ k. fits k && goes k m)
      (λ k h. and_from (fits k) (goes k m) (sooner (fits k) (goes k n) h) (chosen_onward c es ps table d k n m (later (fits k) (goes k n) h) before))
      (range_with_len 0 (length c.nodes)) in
      and_from (fits n) (nat_lt (ahead n) (cap_of c es d)) fit (lt-ltb (ahead n) (cap_of c es d) (omega arith))

  -- so each chosen one goes before a candidate that isn't
  pub goes_before : (n m : ℕ) → fits n ≡ true → picked n ≡ false → picked m ≡ true → goes m n ≡ true
  goes_before n m fit unpicked is = go (goes m n) refl
    where
      other : m ≢ n
      other e = never_both (picked n) (subst (λ (k : ℕ). picked k ≡ true) e is) unpicked

      go : (b : Bool) → goes m n ≡ b → goes m n ≡ true
      go true e = e
      go false e = absurd (never_both (picked n) (chosen_too n m fit (chosen_some_way c es ps table d m n other e) is) unpicked)

  -- where one is chosen, one is chosen last
  some_last : (n : ℕ) → n < length c.nodes → picked n ≡ true → last_chosen c es ps table d ≡ None → ⊥
  some_last n within is none =
      let f = first_among (length c.nodes) picked (λ x y. goes y x) (λ x y h k. chosen_one_way c es ps table d y x h k)
      (λ x y z h k. chosen_onward c es ps table d z y x k h)
      (λ x y other h. chosen_some_way c es ps table d y x (λ e. other (sym e)) h) n within is in
      absurd (never_fails f.one f.within f.there f.none_before)
    where
      all_fail : list_all (λ m. not (is_last_chosen c es ps table d m)) (range_with_len 0 (length c.nodes)) ≡ true
      all_fail = none_found (is_last_chosen c es ps table d) (λ m. not (is_last_chosen c es ps table d m)) (λ m h. rw h refl) (range_with_len 0 (length c.nodes)) none

      never_fails : (m : ℕ) → m < length c.nodes → picked m ≡ true → count_by (λ k. picked k && goes m k) (range_with_len 0 (length c.nodes)) ≡ 0 → ⊥
      never_fails m low there none_behind =
          let fails_here = each_passes (λ m. not (is_last_chosen c es ps table d m)) (range_with_len 0 (length c.nodes)) m all_fail (in_range 0 (length c.nodes) m (omega arith) (omega arith)) in
          never_both (is_last_chosen c es ps table d m) last (fails (is_last_chosen c es ps table d m) fails_here)
        where
          goes_to : (k : ℕ) → k < length c.nodes → (b : Bool) → picked k ≡ b → (same : Bool) → (k == m) ≡ same → not b || (same || goes k m) ≡ true
          goes_to k lt false e same f = refl
          goes_to k lt true e true f = refl
          goes_to k lt true e false f =
              let long = length-range_with_len 0 (length c.nodes) in
              let at : slice_index_or (range_with_len 0 (length c.nodes)) k k ≡ k = let g = get_or-range_with_len 0 (length c.nodes) k k lt in omega (arith, g) in
              let none_there : picked k && goes m k ≡ false = count_none (λ k. picked k && goes m k) (range_with_len 0 (length c.nodes)) none_behind k k (omega arith) at in
              let not_behind : goes m k ≡ false = second_fails (picked k) (goes m k) e none_there in
              chosen_some_way c es ps table d m k (λ h. differ k m h f) not_behind

          last : is_last_chosen c es ps table d m ≡ true
          last =
              and_from (picked m) _ there
              (all_in_range (λ k. implies (picked k) (k == m || goes k m)) 0 (length c.nodes) (λ k low lt. goes_to k (omega arith) (picked k) refl (k == m) refl))

  -- where none is, no node may be chosen
  none_may : (n : ℕ) → n < length c.nodes → fits n ≡ true → last_chosen c es ps table d ≡ None → cap_of c es d ≡ 0
  none_may n within fit none = go (cap_of c es d) refl
    where
      go : (cap : ℕ) → cap_of c es d ≡ cap → cap_of c es d ≡ 0
      go zero e = e
      go (suc k) e =
          let f : FirstCandidate c es ps table d = first_candidate c es ps table d n within fit in
          let free = f.none_before in
          absurd (some_last f.node f.within (and_from (fits f.node) _ f.candidate (lt-ltb (ahead f.node) (cap_of c es d) (omega (arith, free, e)))) none)

  module _ (n : ℕ) (within : n < length c.nodes) (unpicked : picked n ≡ false) where
    by_what : (m : ℕ) → IsPassedBy c es ps table d n m → (a : Bool) → int_lt (total_on c es ps table d n) (total_on c es ps table d m) ≡ a
        → (b : Bool) → nat_lt (load_of c table m) (load_of c table n) ≡ b
        → IsTrueVerdict c es ps table d n (if a then verdict.less m else (if b then verdict.fuller m else verdict.later m))
    by_what m passed true e b f = (passed, e)
    by_what m passed false e b f = go b f
      where
        equals : int_eq (total_on c es ps table d m) (total_on c es ps table d n)
            && (nat_lt (load_of c table m) (load_of c table n) || load_of c table m == load_of c table n && nat_lt m n) ≡ true
        equals =
            by_equals (int_lt (total_on c es ps table d n) (total_on c es ps table d m)) (int_eq (total_on c es ps table d m) (total_on c es ps table d n))
            (nat_lt (load_of c table m) (load_of c table n) || load_of c table m == load_of c table n && nat_lt m n) e passed.before

        go : (b : Bool) → nat_lt (load_of c table m) (load_of c table n) ≡ b → IsTrueVerdict c es ps table d n (if b then verdict.fuller m else verdict.later m)
        go true f = (passed, sooner (int_eq (total_on c es ps table d m) (total_on c es ps table d n)) _ equals, f)
        go false f =
            let (same, less) = by_number (load_of c table m) (load_of c table n) m n f (later (int_eq (total_on c es ps table d m) (total_on c es ps table d n)) _ equals) in
            (passed, sooner (int_eq (total_on c es ps table d m) (total_on c es ps table d n)) _ equals, same, less)

    others : (m : ℕ) → list_all (λ k. implies (picked k) (k == m || goes k m)) (range_with_len 0 (length c.nodes)) ≡ true
        → (k : ℕ) → k < length c.nodes → picked k ≡ true → k ≢ m → goes k m ≡ true
    others m all k lt is other =
        let this = each_in_range (λ k. implies (picked k) (k == m || goes k m)) 0 (length c.nodes) k (omega arith) (omega arith) all in
        or_else (k == m) (goes k m) (λ e. other (eqb-true k m e)) (implied (picked k) (k == m || goes k m) this is)

    outdone_true : fits n ≡ true → (o : Option ℕ) → last_chosen c es ps table d ≡ o → IsTrueVerdict c es ps table d n (option_map_or (passed_by c es ps table d n) o verdict.capped)
    outdone_true fit None e = (fit, none_may n within fit e)
    outdone_true fit (Some m) e =
        let f = found (is_last_chosen c es ps table d) (range_with_len 0 (length c.nodes)) m e in
        let low = of_range 0 (length c.nodes) m f.there in
        let is = sooner (picked m) _ f.passes in
        by_what m (record {
          candidate = fit;
          not_chosen = unpicked;
          within = omega arith;
          chosen_there = is;
          before = goes_before n m fit unpicked is;
          last = others m (later (picked m) (list_all (λ k. implies (picked k) (k == m || goes k m)) (range_with_len 0 (length c.nodes))) f.passes);
        })
        (int_lt (total_on c es ps table d n) (total_on c es ps table d m)) refl (nat_lt (load_of c table m) (load_of c table n)) refl

    abbrev told_of_tests : Bool → Bool → Bool → Option Colocation → Option Colocation → Bool → Verdict
    told_of_tests usable permitted enough missing apart placed =
        unwrap_or (if not usable then Some verdict.unusable else (if not permitted then Some verdict.forbidden else (if not enough then Some verdict.below
        else option_or (option_map verdict.without missing) (option_or (option_map verdict.beside apart) (if placed then None else Some verdict.unplaced)))))
        (outdone c es ps table d n)

    by_tests : (u : Bool) → is_usable c n es ≡ u → (p : Bool) → is_permitted c es d n ≡ p → (b : Bool) → int_le (pos 0) (total_on c es ps table d n) ≡ b
        → (o : Option Colocation) → missed_colocation c table d n ≡ o → (q : Option Colocation) → joined_separation c table d n ≡ q → (s : Bool) → is_placed_for table d n ≡ s
        → IsTrueVerdict c es ps table d n (told_of_tests u p b o q s)
    by_tests false e p f b g o h q i s j = e
    by_tests true e false f b g o h q i s j = f
    by_tests true e true f false g o h q i s j = not_least (total_on c es ps table d n) g
    by_tests true e true f true g (Some col) h q i s j =
        let it = found (misses_primary table d n) c.colocations col h in
        let two = sooner (is_mandatory col && is_dependent d col) (not (holds_role table col.primary col.primary_role n)) it.passes in (
          it.there,
          sooner (is_mandatory col) (is_dependent d col) two,
          later (is_mandatory col) (is_dependent d col) two,
          fails (holds_role table col.primary col.primary_role n) (later (is_mandatory col && is_dependent d col) (not (holds_role table col.primary col.primary_role n)) it.passes),
        )
    by_tests true e true f true g None h (Some col) i s j =
        let it = found (joins_apart table d n) c.colocations col i in
        (it.there, sooner (is_separation col) _ it.passes, later (is_separation col) _ it.passes)
    by_tests true e true f true g None h None i false j = j
    by_tests true e true f true g None h None i true j = outdone_true fit (last_chosen c es ps table d) refl
      where
        primaries : has_primaries c table d n ≡ true
        primaries =
            none_found (misses_primary table d n)
            (λ col. implies (is_mandatory col && is_dependent d col) (holds_role table col.primary col.primary_role n))
            (λ col k. has_primary_there (is_mandatory col) (is_dependent d col) (holds_role table col.primary col.primary_role n) k) c.colocations h

        apart : is_apart c table d n ≡ true
        apart =
            none_found (joins_apart table d n)
            (λ col. implies (is_separation col) (not (would_join_primary table d n col) && not (would_join_dependent table d n col)))
            (λ col k. joins_neither (is_separation col) (would_join_primary table d n col) (would_join_dependent table d n col) k) c.colocations i

        fit : fits n ≡ true
        fit = and_from _ (is_placed_for table d n) (and_from _ (is_apart c table d n) (and_from _ (has_primaries c table d n)
            (and_from _ (int_le (pos 0) (total_on c es ps table d n)) (and_from (is_usable c n es) (is_permitted c es d n) e f) g) primaries) apart) j

  pub verdict_true : (n : ℕ) → n < length c.nodes → IsTrueVerdict c es ps table d n (verdict_on c es ps table d n)
  verdict_true n within = go (picked n) refl
    where
      go : (b : Bool) → picked n ≡ b
          → IsTrueVerdict c es ps table d n (if b then verdict.chosen else unwrap_or (refusal c es ps table d n) (outdone c es ps table d n))
      go true e = e
      go false e =
          by_tests n within e (is_usable c n es) refl (is_permitted c es d n) refl (int_le (pos 0) (total_on c es ps table d n)) refl
          (missed_colocation c table d n) refl (joined_separation c table d n) refl (is_placed_for table d n) refl

  pub told_chosen : (n : ℕ) → n < length c.nodes → verdict_on c es ps table d n ≡ verdict.chosen → is_chosen c es ps table d n ≡ true
  told_chosen n within e = subst (IsTrueVerdict c es ps table d n) e (verdict_true n within)

  pub chosen_told : (n : ℕ) → is_chosen c es ps table d n ≡ true → verdict_on c es ps table d n ≡ verdict.chosen
  chosen_told n e = rw e refl
