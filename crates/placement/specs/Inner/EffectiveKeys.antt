-- The effective key of a decision, by a list of what is decided and the keys of these (follows from the definition of effective keys).
use Rattle.std.specs.Prelude.{nat_lt, ◌==◌, ◌&&◌, ◌||◌, Bool, not, List, map, filter, fold}
use Rattle.cluster_types.specs.declared.cluster.Cluster.{Cluster}
use Rattle.cluster_types.specs.declared.placement.Decision.{Decision}
use Rattle.cluster_types.specs.Decisions.{Key, greater_key, is_less, is_place, leaf_of, needs_through}

-- the greatest key among the decision and all that need it
abbrev pub effective_in : Cluster → List Decision → (Decision → Key) → Decision → Key
effective_in c ds key d = fold greater_key (key d) (map key (filter (λ e. needs_through c ds e d) ds))

-- which of two decisions is made first, by their effective keys
abbrev pub goes_before : (Decision → Key) → Decision → Decision → Bool
goes_before key d e =
    is_less (key e) (key d)
    || not (is_less (key d) (key e)) && (nat_lt (leaf_of d) (leaf_of e) || leaf_of d == leaf_of e && is_place d && not (is_place e))
