-- Names in the lines of a run are short.
use Rattle.std.proofs.Common.{arith, ◌≡◌, ◌==◌, ◌&&◌, ◌≤◌, nat_le, ℕ, not, true, Option, Some, None, List, [], length, refl}
use Rattle.std.specs.Prelude.{slice_get}
use Rattle.std.specs.List.{list_all}
use Rattle.std.specs.Option.{option_map_or}
use Rattle.std.proofs.lemmas.Bool.Decides.{nat_tests}
use Rattle.std.proofs.lemmas.Option.{slice_get_within, get_or_from_slice_get}
use Rattle.cluster_types.specs.declared.cluster.Cluster.{Cluster}
use Rattle.cluster_types.specs.declared.leaf.Leaf.{Leaf}
use Rattle.cluster_types.specs.declared.node.Node.{Node}
use Rattle.cluster_types.specs.declared.placement.NoReason.{NoReason}
use Rattle.cluster_types.specs.declared.placement.NoReason.TheVariants.{NoCopies, Stopped, OnFail, StopAll, NoQuorum, NoNode, Held}
use Rattle.cluster_types.specs.Valid.{IsValid}
use Rattle.crm_lex.specs.Names.{is_name, is_name_byte}
use Rattle.lemmas.proofs.Booleans.{sooner, later}
use Rattle.trace_text.specs.RunLines.{HasShortNames, IsReasonNamed}

pub short_name : (word : List ℕ) → is_name word ≡ true → length word ≤ 256
short_name word h =
    let sized : not (length word == 0) && nat_le (length word) 256 ≡ true
    = sooner (not (length word == 0) && nat_le (length word) 256) (list_all is_name_byte word) h in
    let low : nat_le (length word) 256 ≡ true = later (not (length word == 0)) (nat_le (length word) 256) sized in
    grind (arith, nat_tests)

-- the name of what was found is short, and so is the empty name where nothing was
short_found : {X : Type 0} (name_of : X → List ℕ) (found : Option X) → ((x : X) → found ≡ Some x → is_name (name_of x) ≡ true)
    → length (option_map_or name_of found []) ≤ 256
short_found name_of None h = omega arith
short_found name_of (Some x) h = short_name (name_of x) (h x refl)

pub valid_has_short_names : (c : Cluster) → IsValid c → HasShortNames c
valid_has_short_names c valid = record {
  nodes = λ n. short_found (λ (node : Node). node.name) (slice_get c.nodes n)
      (λ node e. (valid.nodes node (n, slice_get_within c.nodes n node e, get_or_from_slice_get c.nodes n node node e)).name);
  leaves = λ r. short_found (λ (leaf : Leaf). leaf.name) (slice_get c.leaves r)
      (λ leaf e. (valid.leaves leaf (r, slice_get_within c.leaves r leaf e, get_or_from_slice_get c.leaves r leaf leaf e)).name);
}

-- a reason of which each rule that it could name has a name
pub named_reason : (reason : NoReason) → ((id : List ℕ) → reason ≡ Held id → is_name id ≡ true) → IsReasonNamed reason
named_reason (Held id) h = h id refl
named_reason NoCopies h = tt
named_reason Stopped h = tt
named_reason OnFail h = tt
named_reason StopAll h = tt
named_reason NoQuorum h = tt
named_reason NoNode h = tt
