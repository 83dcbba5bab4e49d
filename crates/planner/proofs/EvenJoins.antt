-- Both sides of each join of a cluster have as many leaves and nodes.
use Rattle.std.proofs.Common.{◌&&◌, if◌then◌else◌, Bool, true, false, [], ◌∷◌, ◌++◌, Contains, refl, inl, inr}
use Rattle.std.specs.List.{flat_map}
use Rattle.std.proofs.lemmas.List.Elements.{All-contains, All-from_recursion, Contains-append_cases}
use Rattle.cluster_types.specs.declared.cluster.Cluster.{Cluster}
use Rattle.cluster_types.specs.declared.rules.Colocation.{Colocation}
use Rattle.cluster_types.specs.declared.rules.Order.{Order}
use Rattle.cluster_types.specs.Choice.{is_separation}
use Rattle.cluster_types.specs.Precedence.{is_serialize, is_giving, inverse}
use Rattle.planner.specs.declared.precedence.sides.Join.{Join}
use Rattle.planner.specs.declared.precedence.sides.Side.TheVariants as side
use Rattle.planner.specs.Joins.{colocation_joins, first_joins, inverse_join, join, joins_of, order_joins}
use Rattle.planner.specs.Inner.Rooms.{IsEven}
use Rattle.lemmas.proofs.Members.{of_flat}
use Rattle.lemmas.proofs.Searches.{of_none}

module _ (c : Cluster) where
  first_even : (j : Join) → Contains first_joins j → IsEven c j
  first_even j h =
      All-contains (IsEven c) first_joins j (All-from_recursion (IsEven c) first_joins (
        record { rows = refl; width = refl },
        (
          record { rows = refl; width = refl },
          (
            record { rows = refl; width = refl },
            (
              record { rows = refl; width = refl },
              (
                record { rows = refl; width = refl },
                (
                  record { rows = refl; width = refl },
                  (
                    record { rows = refl; width = refl },
                    (
                      record { rows = refl; width = refl },
                      tt,
                    ),
                  ),
                ),
              ),
            ),
          ),
        ),
      )) h

  colocation_even : (col : Colocation) (j : Join) → Contains (colocation_joins col) j → IsEven c j
  colocation_even col j h = on (is_separation col) h
    where
      on : (b : Bool) → Contains (if b then join (side.Parts col.dependent col.dependent_role) (side.GivesRole col.primary col.primary_role)
          ∷ join (side.Parts col.primary col.primary_role) (side.GivesRole col.dependent col.dependent_role) ∷ [] else []) j → IsEven c j
      on true h =
          All-contains (IsEven c) (join (side.Parts col.dependent col.dependent_role) (side.GivesRole col.primary col.primary_role)
          ∷ join (side.Parts col.primary col.primary_role) (side.GivesRole col.dependent col.dependent_role) ∷ []) j
          (All-from_recursion (IsEven c) (join (side.Parts col.dependent col.dependent_role) (side.GivesRole col.primary col.primary_role)
          ∷ join (side.Parts col.primary col.primary_role) (side.GivesRole col.dependent col.dependent_role) ∷ [])
          (record { rows = refl; width = refl }, (record { rows = refl; width = refl }, tt))) h
      on false h = of_none (IsEven c) j h

  pub inverse_even : (o : Order) → IsEven c (inverse_join o)
  inverse_even o = on (is_giving o.first_op && is_giving o.then_op)
    where
      on : (b : Bool) → IsEven c (if b then join (side.EarlierTakers o.then_leaf o.then_op o.local) (side.LaterTakers o.first o.first_op o.local)
          else join (side.Earlier o.then_leaf (inverse o.then_op) o.local) (side.Later o.first (inverse o.first_op) o.local))
      on true = record { rows = refl; width = refl }
      on false = record { rows = refl; width = refl }

  order_even : (o : Order) (j : Join) → Contains (order_joins o) j → IsEven c j
  order_even o j h = on (is_serialize o.kind) o.symmetrical h
    where
      on : (b d : Bool) → Contains (if b then [] else join (side.Earlier o.first o.first_op o.local) (side.Later o.then_leaf o.then_op o.local)
          ∷ (if d then inverse_join o ∷ [] else [])) j → IsEven c j
      on true d h = of_none (IsEven c) j h
      on false true h =
          All-contains (IsEven c) (join (side.Earlier o.first o.first_op o.local) (side.Later o.then_leaf o.then_op o.local) ∷ inverse_join o ∷ []) j
          (All-from_recursion (IsEven c) (join (side.Earlier o.first o.first_op o.local) (side.Later o.then_leaf o.then_op o.local) ∷ inverse_join o ∷ [])
          (record { rows = refl; width = refl }, (inverse_even o, tt))) h
      on false false h =
          All-contains (IsEven c) (join (side.Earlier o.first o.first_op o.local) (side.Later o.then_leaf o.then_op o.local) ∷ []) j
          (All-from_recursion (IsEven c) (join (side.Earlier o.first o.first_op o.local) (side.Later o.then_leaf o.then_op o.local) ∷ [])
          (record { rows = refl; width = refl }, tt)) h

  pub each_even : (j : Join) → Contains (joins_of c) j → IsEven c j
  each_even j h =
      elim (Contains-append_cases first_joins (flat_map colocation_joins c.colocations ++ flat_map order_joins c.orders) j h) [
        | inl k ↦ first_even j k
        | inr k ↦ elim (Contains-append_cases (flat_map colocation_joins c.colocations) (flat_map order_joins c.orders) j k) [
          | inl m ↦ (let f = of_flat colocation_joins c.colocations j m in colocation_even f.source j f.gives)
          | inr m ↦ (let f = of_flat order_joins c.orders j m in order_even f.source j f.gives)
        ]
      ]
