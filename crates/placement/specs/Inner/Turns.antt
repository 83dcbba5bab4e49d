-- Which decision is made next (follows from the definition of the order of decisions).
use Rattle.std.specs.Prelude.{◌≡◌, ◌≢◌, ℕ, ◌<◌, length, slice_index_or, nat_lt, ◌==◌, ◌&&◌, ◌||◌, Bool, true, false, not, List, [], ◌∷◌, ◌++◌, map, Contains}
use Rattle.std.specs.List.{list_all}
use Rattle.cluster_types.specs.declared.cluster.Cluster.{Cluster}
use Rattle.cluster_types.specs.declared.placement.Decision.{Decision}
use Rattle.cluster_types.specs.Decisions.{Key, is_among, is_less, is_place, leaf_of, needs}
use Rattle.placement.specs.declared.order.ranked_decisions.Ranked.{Ranked}
use Rattle.placement.specs.Inner.EffectiveKeys.{goes_before}
use Rattle.placement.specs.Inner.Flags.{slot_of}

-- the decision can be made: it hasn't been, and what it needs of these has been
abbrev pub is_ready_in : Cluster → List Decision → List Decision → Decision → Bool
is_ready_in c ds made d = is_among ds d && not (is_among made d) && list_all (λ e. not (needs c d e) || is_among made e) ds

-- which of two is made first
abbrev pub ranks_before : Ranked → Ranked → Bool
ranks_before x y =
    is_less y.key x.key
    || not (is_less x.key y.key)
    && (nat_lt (leaf_of x.decision) (leaf_of y.decision) || leaf_of x.decision == leaf_of y.decision && is_place x.decision && not (is_place y.decision))

-- these decisions with their keys
abbrev pub ranked_by : (Decision → Key) → List Decision → List Ranked
ranked_by key ds = map (λ d. record { decision = d; key = key d }) ds

-- all of these with their keys, none behind one that it goes before
pub record AreSorted (key : Decision → Key) (ds : List Decision) (ranked : List Ranked) : Type 0 where
  pub size : length ranked ≡ length ds
  pub known : (x : Ranked) → Contains ranked x → Contains ds x.decision × (x.key ≡ key x.decision)
  pub all : (d : Decision) → Contains ds d → Contains ranked (record { decision = d; key = key d })
  pub sorted : (i j : ℕ) (z : Ranked) → i < j → j < length ranked → ranks_before (slice_index_or ranked j z) (slice_index_or ranked i z) ≡ false

-- the slots of these decisions
abbrev pub slots_of : List Ranked → List ℕ
slots_of ranked = map (λ (x : Ranked). slot_of x.decision) ranked

-- it is ready, and goes before each other of these that is
pub record IsFirstReady (ready : Decision → Bool) (key : Decision → Key) (ds : List Decision) (d : Decision) : Type 0 where
  pub among : Contains ds d
  pub ready_now : ready d ≡ true
  pub first : (e : Decision) → Contains ds e → ready e ≡ true → e ≢ d → goes_before key d e ≡ true

module _ (c : Cluster) (ds : List Decision) (key : Decision → Key) where
  -- decisions that were made, each as the first of those that were ready then
  pub data WereMade : List Decision → Type 0 where
    none_made : WereMade []
    one_more : (made : List Decision) (d : Decision) → WereMade made → IsFirstReady (is_ready_in c ds made) key ds d → WereMade (made ++ d ∷ [])

  -- and none is ready any more
  pub record AreInOrder (order : List Decision) : Type 0 where
    pub made : WereMade order
    pub none_left : (d : Decision) → Contains ds d → is_ready_in c ds order d ≡ false
