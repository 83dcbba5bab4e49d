-- The kind of an action on its cell, a number below 16.
use Rattle.std.proofs.Common.{arith, ◌≡◌, ◌≢◌, ◌<◌, ◌+◌, ◌==◌, if◌then◌else◌, ℕ, suc, Bool, true, false, List, [], ◌∷◌, Option, Some, None, length, AllPairs, Contains, inl, inr, ◌⊎◌, refl, sym, ap, subst}
use Rattle.std.specs.List.{slice_get}
use Rattle.std.specs.Option.{option_map_or}
use Rattle.std.proofs.lemmas.Bool.{eq-eqb, eqb-true}
use Rattle.std.proofs.lemmas.Option.{get_or_from_slice_get, slice_get_within}
use Rattle.lemmas.proofs.Members.{head_or_rest, in_none}
use Rattle.cluster_types.specs.declared.cluster.Cluster.{Cluster}
use Rattle.cluster_types.specs.declared.journal.Action.{Action}
use Rattle.cluster_types.specs.declared.journal.Action.TheVariants.{Fence, Probe, Operation, MigrateTo, MigrateFrom}
use Rattle.cluster_types.specs.declared.leaf.Leaf.{Leaf}
use Rattle.cluster_types.specs.declared.leaf.Monitor.{Monitor as MonitorOf}
use Rattle.cluster_types.specs.declared.leaf.Op.TheVariants as op
use Rattle.cluster_types.specs.Fields.{monitors}
use Rattle.cluster_types.specs.Valid.{IsValid}

-- where the monitor of an interval stands among some monitors
abbrev pub index_by : List MonitorOf → ℕ → ℕ
index_by [] i = 0
index_by (m ∷ ms) i = if m.interval_ms == i then 0 else index_by ms i + 1

-- each two of them have different intervals
abbrev pub AreApart : List MonitorOf → Type 0
AreApart ms = AllPairs (λ (one other : MonitorOf). one.interval_ms ≢ other.interval_ms) ms

-- it stands there
pub record StandsAt (ms : List MonitorOf) (m : MonitorOf) (k : ℕ) : Type 0 where
  pub at : slice_get ms k ≡ Some m
  pub within : k < length ms

first_apart : (x : MonitorOf) (ms : List MonitorOf) (m : MonitorOf) → AreApart (x ∷ ms) → Contains ms m → x.interval_ms ≢ m.interval_ms
first_apart x ms m h (k, l, e) = rw e at (h 0 (suc k) m (omega arith) (omega arith))

rest_apart : (x : MonitorOf) (ms : List MonitorOf) → AreApart (x ∷ ms) → AreApart ms
rest_apart x ms h i j d l m = h (suc i) (suc j) d (omega arith) (omega arith)

pub stands_at : (ms : List MonitorOf) (m : MonitorOf) → AreApart ms → Contains ms m → StandsAt ms m (index_by ms m.interval_ms)
stands_at [] m h c = absurd (in_none m c)
stands_at (x ∷ ms) m h c = on (x.interval_ms == m.interval_ms) refl (head_or_rest x ms m c) (stands_at ms m (rest_apart x ms h))
  where
    on : (b : Bool) → (x.interval_ms == m.interval_ms) ≡ b → (x ≡ m) ⊎ Contains ms m → (Contains ms m → StandsAt ms m (index_by ms m.interval_ms))
        → StandsAt (x ∷ ms) m (if b then 0 else index_by ms m.interval_ms + 1)
    on true e (inl f) next = record { at = ap Some f; within = omega arith }
    on true e (inr k) next = absurd (first_apart x ms m h k (eqb-true x.interval_ms m.interval_ms e))
    on false e (inl f) next = let g : (x.interval_ms == m.interval_ms) ≡ true = eq-eqb x.interval_ms m.interval_ms (ap (λ (v : MonitorOf). v.interval_ms) f) in cc
    on false e (inr k) next =
        let r = next k in
        let s : index_by ms m.interval_ms + 1 ≡ suc (index_by ms m.interval_ms) = omega arith in
        record { at = subst (λ n. slice_get (x ∷ ms) n ≡ Some m) (sym s) r.at; within = let w = r.within in omega arith }

-- the monitors of a leaf of a valid cluster, of which there are eight at most
pub record FewApart (ms : List MonitorOf) : Type 0 where
  pub apart : AreApart ms
  pub few : length ms < 9

few_apart_of : (c : Cluster) (valid : IsValid c) (r : ℕ) (v : Option Leaf) → slice_get c.leaves r ≡ v
    → FewApart (option_map_or (λ (leaf : Leaf). leaf.monitors) v [])
few_apart_of c valid r (Some leaf) at =
    let is = valid.leaves leaf (r, slice_get_within c.leaves r leaf at, get_or_from_slice_get c.leaves r leaf leaf at) in
    record { apart = is.all_differ; few = let f = is.few_monitors in omega arith }
few_apart_of c valid r None at = record { apart = λ i j d l m. absurd (omega arith); few = omega arith }

pub few_apart : (c : Cluster) → IsValid c → (r : ℕ) → FewApart (monitors c r)
few_apart c valid r = few_apart_of c valid r (slice_get c.leaves r) refl

-- the kinds of actions
abbrev pub kind : Cluster → Action → ℕ
kind c (Fence n) = 15
kind c (Probe r n) = 0
kind c (Operation op.Start r n i role) = 1
kind c (Operation op.Stop r n i role) = 2
kind c (Operation op.Promote r n i role) = 3
kind c (Operation op.Demote r n i role) = 4
kind c (Operation op.Monitor r n i role) = 7 + index_by (monitors c r) i
kind c (MigrateTo r s t) = 5
kind c (MigrateFrom r s t) = 6

-- the node of an action: of a migration the one that it runs on
abbrev pub node_of : Action → ℕ
node_of (Fence n) = n
node_of (Probe r n) = n
node_of (Operation o r n i role) = n
node_of (MigrateTo r s t) = s
node_of (MigrateFrom r s t) = t
