-- What is read of a cluster gives the verdict of the definition.
use Rattle.std.proofs.Common.{arith, ◌≡◌, ℕ, zero, suc, ◌+◌, ◌<◌, ◌==◌, ℤ, pos, Bool, true, false, not, cond, ◌&&◌, ◌||◌, if◌then◌else◌, Option, Some, None, List, length, map, refl, ap, ◌∙◌}
use Rattle.std.specs.Prelude.{find, int_le, unwrap_or, option_map}
use Rattle.std.specs.Borrow.{Bor}
use Rattle.std.specs.Int.{is_negative}
use Rattle.std.specs.List.{list_all, range_with_len}
use Rattle.std.specs.Option.{option_map_or, option_or}
use Rattle.std.proofs.lemmas.List.FromFn.{get_or-map-range_with_len, length-map-range_with_len}
use Rattle.lemmas.proofs.Members.{of_range}
use Rattle.score.specs.NodeSet.{has}
use Rattle.score.specs.declared.node_set.NodeSet.{NodeSet}
use Rattle.cluster_types.specs.declared.cluster.Cluster.{Cluster}
use Rattle.cluster_types.specs.declared.journal.Event.{Event}
use Rattle.cluster_types.specs.declared.journal.Promotion.{Promotion}
use Rattle.cluster_types.specs.declared.placement.Decision.{Decision}
use Rattle.cluster_types.specs.declared.placement.Decision.TheVariants.{Place, Promote}
use Rattle.cluster_types.specs.declared.placement.Target.TheVariants as target
use Rattle.cluster_types.specs.declared.rules.Colocation.{Colocation}
use Rattle.cluster_types.specs.declared.states.States.{States}
use Rattle.cluster_types.specs.Choice.{is_chosen, is_better, is_permitted, is_placed_for, total_on}
use Rattle.cluster_types.specs.Decisions.{leaf_of}
use Rattle.cluster_types.specs.NodeStates.{is_usable}
use Rattle.cluster_types.specs.Rights.{rights_of}
use Rattle.cluster_types.specs.Tables.{Targets, load_of}
use Rattle.cluster_types.specs.UnpackedStates.{states_of}
use Rattle.decision_account.specs.Verdicts as verdict
use Rattle.decision_account.specs.Verdicts.{Verdict, is_last_chosen, joined_separation, last_chosen, missed_colocation, outdone, passed_by, refusal, verdict_on}
use Rattle.decision_account.proofs.TrueVerdicts.{found}
use Rattle.placement.specs.Reads.{may_stay_in}
use Rattle.placement.specs.Inner.Reads.{is_permitted_in}
use Rattle.placement.specs.UsableNodes.{is_usable_by}
use Rattle.placement.proofs.OwnOfStates.{from-zero, usable-is}
use Rattle.placement.proofs.ReadOfStates.{open-is}
use Rattle.account_text.specs.Inner.VerdictsByStates.{goes_ahead, is_last_of, last_of, load_listed, passed_in, refusal_by_table, refusal_in, total_listed, verdict_in}
use Rattle.account_text.specs.Inner.Sides.{AreColocationsOf}
use Rattle.account_text.proofs.SideTexts.{joined_is, missing_is}

-- searches and tests of numbers that agree
find_same : (p q : ℕ → Bool) (from n : ℕ) → ((i : ℕ) → i < from + n → p i ≡ q i) → find p (range_with_len from n) ≡ find q (range_with_len from n)
find_same p q from zero h = refl
find_same p q from (suc n) h =
    ap (λ b. cond b (Some from) (find p (range_with_len (from + 1) n))) (h from (omega arith))
    ∙ ap (λ o. cond (q from) (Some from) o) (find_same p q (from + 1) n (λ i low. h i (omega (arith, low))))

all_same : (p q : ℕ → Bool) (from n : ℕ) → ((i : ℕ) → i < from + n → p i ≡ q i) → list_all p (range_with_len from n) ≡ list_all q (range_with_len from n)
all_same p q from zero h = refl
all_same p q from (suc n) h =
    ap (λ b. b && list_all p (range_with_len (from + 1) n)) (h from (omega arith))
    ∙ ap (λ b. q from && b) (all_same p q (from + 1) n (λ i low. h i (omega (arith, low))))

-- the last of the nodes that are chosen is one of them
pub last_within : (totals : List ℤ) (loads : List ℕ) (picked : NodeSet) (m : ℕ) → last_of totals loads picked ≡ Some m → m < length totals
last_within totals loads picked m h =
    let there = found (is_last_of totals loads picked) (range_with_len 0 (length totals)) m h in
    let within = of_range 0 (length totals) m there.there in
    omega (arith, within)

-- a table in which all have a target, to speak of what a decision is permitted alone
abbrev everywhere : Targets
everywhere r n = target.Started

placed_everywhere : (d : Decision) (n : ℕ) → is_placed_for everywhere d n ≡ true
placed_everywhere (Place r) n = refl
placed_everywhere (Promote r) n = refl

second : (a b p q s : Bool) → a ≡ true → b ≡ true → s ≡ true → (a && p && s) ≡ (b && q && s) → p ≡ q
second true true true true true e f g h = refl
second true true false false true e f g h = refl
second true true true false true e f g h = cc
second true true false true true e f g h = cc
second false b p q s e f g h = cc
second true false p q s e f g h = cc
second true true false false false e f g h = refl
second true true true true false e f g h = refl
second true true false true false e f g h = cc
second true true true false false e f g h = cc

opposite : (z : _) → is_negative z ≡ not (int_le (pos 0) z)
opposite z = twice (is_negative z) ∙ ap not (from-zero z)
  where
    twice : (b : Bool) → b ≡ not (not b)
    twice true = refl
    twice false = refl

module _ (c : Cluster) (es : List Event) (ps : List Promotion) (table : Targets) (d : Decision) (leaf : leaf_of d < length c.leaves) where
  abbrev all_totals : List ℤ
  all_totals = map (total_on c es ps table d) (range_with_len 0 (length c.nodes))

  abbrev all_loads : List ℕ
  all_loads = map (load_of c table) (range_with_len 0 (length c.nodes))

  total_there : (n : ℕ) → n < length c.nodes → total_listed all_totals n ≡ total_on c es ps table d n
  total_there n low = get_or-map-range_with_len (total_on c es ps table d) 0 (length c.nodes) n n (pos 0) low (omega arith)

  load_there : (n : ℕ) → n < length c.nodes → load_listed all_loads n ≡ load_of c table n
  load_there n low = get_or-map-range_with_len (load_of c table) 0 (length c.nodes) n n 0 low (omega arith)

  before_is : (n m : ℕ) → n < length c.nodes → m < length c.nodes → goes_ahead all_totals all_loads n m ≡ is_better c es ps table d n m
  before_is n m low also = rw (total_there n low, total_there m also, load_there n low, load_there m also) refl

  passed_is : (n m : ℕ) → n < length c.nodes → m < length c.nodes → passed_in all_totals all_loads n m ≡ passed_by c es ps table d n m
  passed_is n m low also = rw (total_there n low, total_there m also, load_there n low, load_there m also) refl

  module _ (picked : NodeSet) (are : (n : ℕ) → n < length c.nodes → has picked n ≡ is_chosen c es ps table d n) where
    last_test : (n : ℕ) → n < length c.nodes → is_last_of all_totals all_loads picked n ≡ is_last_chosen c es ps table d n
    last_test n low =
        ap (λ (k : ℕ). has picked n && list_all (λ m. not (has picked m) || (m == n || goes_ahead all_totals all_loads m n)) (range_with_len 0 k))
        (length-map-range_with_len (total_on c es ps table d) 0 (length c.nodes))
        ∙ ap (λ b. b && list_all (λ m. not (has picked m) || (m == n || goes_ahead all_totals all_loads m n)) (range_with_len 0 (length c.nodes))) (are n low)
        ∙ ap (λ b. is_chosen c es ps table d n && b)
        (all_same (λ m. not (has picked m) || (m == n || goes_ahead all_totals all_loads m n))
        (λ m. not (is_chosen c es ps table d m) || (m == n || is_better c es ps table d m n)) 0 (length c.nodes)
        (λ m there. ap (λ b. not b || (m == n || goes_ahead all_totals all_loads m n)) (are m (omega (arith, there)))
        ∙ ap (λ b. not (is_chosen c es ps table d m) || (m == n || b)) (before_is m n (omega (arith, there)) low)))

    pub last_is : last_of all_totals all_loads picked ≡ last_chosen c es ps table d
    last_is =
        ap (λ (k : ℕ). find (is_last_of all_totals all_loads picked) (range_with_len 0 k)) (length-map-range_with_len (total_on c es ps table d) 0 (length c.nodes))
        ∙ find_same (is_last_of all_totals all_loads picked) (is_last_chosen c es ps table d) 0 (length c.nodes) (λ n low. last_test n (omega (arith, low)))

    module _ (sides : List (Bor Colocation)) (of_it : AreColocationsOf d c.colocations sides) (n : ℕ) (low : n < length c.nodes) where
      abbrev states : States
      states = states_of c es ps

      abbrev stays : Bool
      stays = may_stay_in c states (rights_of c es) (leaf_of d)

      by_table_is : refusal_by_table table d sides n
          ≡ option_or (option_map verdict.without (missed_colocation c table d n))
          (option_or (option_map verdict.beside (joined_separation c table d n)) (if is_placed_for table d n then None else Some verdict.unplaced))
      by_table_is = rw (missing_is c table d n sides of_it, joined_is c table d n sides of_it) refl

      permitted_is : is_usable c n es ≡ true → is_permitted_in c states (rights_of c es) d n ≡ is_permitted c es d n
      permitted_is usable =
          second (is_usable_by c states n) (is_usable c n es) (is_permitted_in c states (rights_of c es) d n) (is_permitted c es d n) (is_placed_for everywhere d n)
          (usable-is c es ps n low ∙ usable) usable (placed_everywhere d n) (open-is c es ps d n leaf low everywhere)

      below_is : is_negative (total_listed all_totals n) ≡ not (int_le (pos 0) (total_on c es ps table d n))
      below_is = ap is_negative (total_there n low) ∙ opposite (total_on c es ps table d n)

      refusal_is : refusal_in c states (rights_of c es) stays table d sides all_totals n ≡ refusal c es ps table d n
      refusal_is = go (is_usable c n es) refl
        where
          go : (b : Bool) → is_usable c n es ≡ b → refusal_in c states (rights_of c es) stays table d sides all_totals n ≡ refusal c es ps table d n
          go false e = let by : is_usable_by c states n ≡ false = usable-is c es ps n low ∙ e in rw (by, e) refl
          go true e =
              let by : is_usable_by c states n ≡ true = usable-is c es ps n low ∙ e in
              let rest : Option Verdict = option_or (option_map verdict.without (missed_colocation c table d n))
              (option_or (option_map verdict.beside (joined_separation c table d n)) (if is_placed_for table d n then None else Some verdict.unplaced)) in
              rw (by, e)
              (ap (λ b. if not b then Some verdict.forbidden
              else (if is_negative (total_listed all_totals n) then Some verdict.below else refusal_by_table table d sides n)) (permitted_is e)
              ∙ ap (λ b. if not (is_permitted c es d n) then Some verdict.forbidden else (if b then Some verdict.below else refusal_by_table table d sides n)) below_is
              ∙ ap (λ o. if not (is_permitted c es d n) then Some verdict.forbidden
              else (if not (int_le (pos 0) (total_on c es ps table d n)) then Some verdict.below else o)) by_table_is)

      outdone_is : option_map_or (passed_in all_totals all_loads n) (last_chosen c es ps table d) verdict.capped ≡ outdone c es ps table d n
      outdone_is = go (last_chosen c es ps table d) refl
        where
          go : (o : Option ℕ) → last_chosen c es ps table d ≡ o
              → option_map_or (passed_in all_totals all_loads n) o verdict.capped ≡ option_map_or (passed_by c es ps table d n) o verdict.capped
          go None e = refl
          go (Some m) e =
              let there = found (is_last_chosen c es ps table d) (range_with_len 0 (length c.nodes)) m e in
              let within = of_range 0 (length c.nodes) m there.there in
              passed_is n m low (omega (arith, within))

      -- the verdict
      pub verdict_is : verdict_in c states (rights_of c es) stays table d sides all_totals all_loads picked (last_chosen c es ps table d) n
          ≡ verdict_on c es ps table d n
      verdict_is =
          ap (λ b. if b then verdict.chosen else unwrap_or (refusal_in c states (rights_of c es) stays table d sides all_totals n)
          (option_map_or (passed_in all_totals all_loads n) (last_chosen c es ps table d) verdict.capped)) (are n low)
          ∙ ap (λ o. if is_chosen c es ps table d n then verdict.chosen else unwrap_or o
          (option_map_or (passed_in all_totals all_loads n) (last_chosen c es ps table d) verdict.capped)) refusal_is
          ∙ ap (λ v. if is_chosen c es ps table d n then verdict.chosen else unwrap_or (refusal c es ps table d n) v) outdone_is
