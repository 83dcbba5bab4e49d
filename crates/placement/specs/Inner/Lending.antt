-- What decisions lend to those that they need: their keys, link by link (follows from the definition of effective keys).
use Rattle.std.specs.Prelude.{◌≡◌, ℕ, suc, zero, ◌*◌, ◌<◌, ◌&&◌, ◌||◌, Bool, false, if◌then◌else◌, Option, Some, None, List, length, slice_get, slice_set, unwrap_or}
use Rattle.std.specs.List.{list_any}
use Rattle.cluster_types.specs.declared.cluster.Cluster.{Cluster}
use Rattle.edges.specs.declared.edge.Edge.{Edge}
use Rattle.cluster_types.specs.declared.placement.Decision.{Decision}
use Rattle.cluster_types.specs.Decisions.{Key, greater_key, is_among, is_less, is_same_decision, leaf_of, needs}
use Rattle.placement.specs.Inner.Flags.{slot_of}

-- a key for each decision of so many leaves, in its slot, and none for what isn't decided
pub record AreKeys (leaves : ℕ) (kept : Decision → Option Key) (slots : List (Option Key)) : Type 0 where
  pub size : length slots ≡ leaves * 2
  pub each : (d : Decision) → leaf_of d < leaves → slice_get slots (slot_of d) ≡ Some (kept d)

-- the key in a slot
abbrev pub key_in : List (Option Key) → ℕ → Option Key
key_in slots x = unwrap_or (slice_get slots x) None

abbrev pub slot_key_at : List (Option Key) → Decision → Option Key
slot_key_at slots d = key_in slots (slot_of d)

-- the greater of its own and a lent key, its own of equal ones
abbrev pub greater_by : Key → Option Key → Key
greater_by own None = own
greater_by own (Some lent) = greater_key own lent

-- the same for what is decided; what isn't gets no key
abbrev pub with_lent : Option Key → Option Key → Option Key
with_lent None lent = None
with_lent (Some own) lent = Some (greater_by own lent)

-- the lent key is the greater one
abbrev pub is_raised : Option Key → Option Key → Bool
is_raised None lent = false
is_raised (Some own) None = false
is_raised (Some own) (Some lent) = is_less own lent

-- what needs lends the greater key
abbrev pub raises : List (Option Key) → Edge → Bool
raises slots link = is_raised (key_in slots link.before) (key_in slots link.after)

-- the keys once it lent its own
abbrev pub lent_along : List (Option Key) → Edge → List (Option Key)
lent_along slots link = if raises slots link then slice_set slots link.before (key_in slots link.after) else slots

-- these decisions with their keys
abbrev pub keys_among : List Decision → (Decision → Key) → Decision → Option Key
keys_among ds key d = if is_among ds d then Some (key d) else None

-- the one decision needs the other through at most so many needs: so many passes lend the key of the one to the other
abbrev pub needs_within : Cluster → List Decision → ℕ → Decision → Decision → Bool
needs_within c ds zero d e = false
needs_within c ds (suc most) d e = list_any (λ f. needs c d f && (is_same_decision f e || needs_within c ds most f e)) ds
