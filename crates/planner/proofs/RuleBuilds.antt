-- What is built of a colocation more.
use Rattle.std.proofs.Common.{◌≡◌, ◌<◌, ◌+◌, ◌*◌, ◌++◌, if◌then◌else◌, ℕ, true, List, [], ◌∷◌, length, sym, ap, subst}
use Rattle.std.proofs.lemmas.List.{append_assoc}
use Rattle.cluster_types.specs.declared.cluster.Cluster.{Cluster}
use Rattle.edges.specs.declared.edge.Edge.{Edge}
use Rattle.cluster_types.specs.declared.journal.Action.{Action}
use Rattle.cluster_types.specs.declared.rules.Colocation.{Colocation}
use Rattle.cluster_types.specs.Choice.{is_separation}
use Rattle.planner.specs.declared.precedence.sides.Join.{Join}
use Rattle.planner.specs.declared.precedence.sides.Side.TheVariants as side
use Rattle.planner.specs.Inner.Gates.{join_edges, key_at}
use Rattle.planner.specs.Inner.Index.{IsIndex, places_in}
use Rattle.planner.specs.Joins.{colocation_joins, join}
use Rattle.planner.specs.Inner.Places.{places_of}
use Rattle.planner.specs.Inner.Rooms.{Builds, rows_of, width_of}
use Rattle.planner.proofs.BuildsMore.{builds_more}
use Rattle.planner.proofs.IndexPlaces.{index_is}

module _ (c : Cluster) (actions : List Action) (index : List (List ℕ)) (col : Colocation) (is : IsIndex actions (length c.leaves) index)
    (dependent : col.dependent < length c.leaves) (primary : col.primary < length c.leaves) (separate : is_separation col ≡ true) where
  abbrev one : Join
  one = join (side.Parts col.dependent col.dependent_role) (side.GivesRole col.primary col.primary_role)

  abbrev other : Join
  other = join (side.Parts col.primary col.primary_role) (side.GivesRole col.dependent col.dependent_role)

  joins_are : colocation_joins col ≡ one ∷ other ∷ []
  joins_are = ap (λ b. if b then one ∷ other ∷ [] else []) separate

  abbrev Built : List Edge → ℕ → List Join → Type 0
  Built list base js = Builds c actions (places_of actions) list base js

  pub colocation_more : (js : List Join) (list more most : List Edge) (base on upto : ℕ) → Built list base js
      → more ≡ list ++ join_edges base (width_of c one.from) (key_at c actions one.from) (key_at c actions one.to) (places_in index col.dependent col.primary)
      → on ≡ base + width_of c one.from * rows_of c one.from
      → most ≡ more ++ join_edges on (width_of c other.from) (key_at c actions other.from) (key_at c actions other.to) (places_in index col.primary col.dependent)
      → upto ≡ on + width_of c other.from * rows_of c other.from → Built most upto (js ++ colocation_joins col)
  colocation_more js list more most base on upto b e f g h =
      let first = builds_more c actions (places_of actions) list base js one (places_in index col.dependent col.primary) more on b
      (index_is actions (length c.leaves) index col.dependent col.primary is dependent primary) e f in
      let second = builds_more c actions (places_of actions) more on (js ++ one ∷ []) other (places_in index col.primary col.dependent) most upto first
      (index_is actions (length c.leaves) index col.primary col.dependent is primary dependent) g h in
      subst (λ v. Built most upto (js ++ v)) (sym joins_are) (subst (λ v. Built most upto v) (append_assoc js (one ∷ []) (other ∷ [])) second)
