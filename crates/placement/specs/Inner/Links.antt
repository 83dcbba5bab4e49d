-- Which decision waits for which, by their slots: a link leads from a decision that is needed to one that needs it (follows from the definition of needs).
use Rattle.std.specs.Prelude.{if◌then◌else◌, List, [], ◌∷◌, ◌++◌}
use Rattle.std.specs.List.{flat_map}
use Rattle.cluster_types.specs.declared.cluster.Cluster.{Cluster}
use Rattle.edges.specs.declared.edge.Edge.{Edge}
use Rattle.cluster_types.specs.declared.placement.Decision.{Decision}
use Rattle.cluster_types.specs.declared.placement.Decision.TheVariants.{Promote}
use Rattle.cluster_types.specs.declared.rules.Colocation.{Colocation}
use Rattle.cluster_types.specs.Decisions.{decision_of, is_among, is_place, leaf_of}
use Rattle.placement.specs.Inner.Flags.{slot_of}

abbrev pub lending_link : Decision → Decision → Edge
lending_link needed needing = record { before = slot_of needed; after = slot_of needing }

-- a leaf is placed before it is promoted
abbrev pub promote_links : Decision → List Edge
promote_links d = if is_place d then lending_link d (Promote (leaf_of d)) ∷ [] else []

-- and a primary is decided before its dependent, if it is decided
abbrev pub rule_links : List Decision → Colocation → List Edge
rule_links ds col =
    if is_among ds (decision_of col.primary col.primary_role)
    then lending_link (decision_of col.primary col.primary_role) (decision_of col.dependent col.dependent_role) ∷ []
    else []

-- all of them
abbrev pub links_in : Cluster → List Decision → List Edge
links_in c ds = flat_map promote_links ds ++ flat_map (rule_links ds) c.colocations
