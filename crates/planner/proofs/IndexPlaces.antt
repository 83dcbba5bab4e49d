-- The positions of a rule, by the index.
use Rattle.std.proofs.Common.{◌≡◌, ◌<◌, ◌==◌, ◌++◌, if◌then◌else◌, ℕ, Bool, true, false, List, [], length, unwrap_or, All, sym, ap, subst, ◌∙◌}
use Rattle.std.specs.List.{slice_get}
use Rattle.std.proofs.lemmas.List.Elements.{All-from_get_or, Contains-get_or}
use Rattle.cluster_types.specs.declared.journal.Action.{Action}
use Rattle.cluster_types.specs.declared.cluster.Cluster.{Cluster}
use Rattle.planner.specs.Inner.Index.{IsIndex, places_in}
use Rattle.planner.specs.Inner.Places.{leaf_places, rule_places}
use Rattle.planner.proofs.JoinFits.{rule_within}

pub index_is : (actions : List Action) (leaves : ℕ) (index : List (List ℕ)) (r s : ℕ) → IsIndex actions leaves index → r < leaves → s < leaves
    → places_in index r s ≡ rule_places actions r s
index_is actions leaves index r s is l m = on (r == s)
  where
    on : (b : Bool) → (if b then unwrap_or (slice_get index r) [] else unwrap_or (slice_get index r) [] ++ unwrap_or (slice_get index s) [])
        ≡ (if b then leaf_places actions r else leaf_places actions r ++ leaf_places actions s)
    on true = is r l
    on false = ap (λ v. v ++ unwrap_or (slice_get index s) []) (is r l) ∙ ap (λ v. leaf_places actions r ++ v) (is s m)

all_within : (c : Cluster) (actions : List Action) (r s : ℕ) → All (λ place. place < length actions) (rule_places actions r s)
all_within c actions r s =
    All-from_get_or (λ place. place < length actions) (rule_places actions r s) 0
    (λ i l. rule_within c actions r s _ (Contains-get_or (rule_places actions r s) i 0 l))

pub index_within : (c : Cluster) (actions : List Action) (leaves : ℕ) (index : List (List ℕ)) (r s : ℕ) (places : List ℕ) → IsIndex actions leaves index → r < leaves → s < leaves
    → places ≡ places_in index r s → All (λ place. place < length actions) places
index_within c actions leaves index r s places is l m e =
    subst (λ v. All (λ place. place < length actions) v) (sym (e ∙ index_is actions leaves index r s is l m)) (all_within c actions r s)
