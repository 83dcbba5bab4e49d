-- The key that is read at a place that is there.
use Rattle.std.proofs.Common.{◌≡◌, ℕ, ◌<◌, List, length, map, get_or, ap, ◌∙◌}
use Rattle.std.proofs.lemmas.List.{get_or-map}
use Rattle.cluster_types.specs.declared.placement.Decision.{Decision}
use Rattle.cluster_types.specs.Decisions.{Key}

pub key-at : (key : Decision → Key) (ds : List Decision) (keys : List Key) (k : ℕ) (z : Decision) (d : Key) → keys ≡ map key ds → k < length ds
    → get_or keys k d ≡ key (get_or ds k z)
key-at key ds keys k z d is low = ap (λ ks. get_or ks k d) is ∙ get_or-map key ds k z d low
