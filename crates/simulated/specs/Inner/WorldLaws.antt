-- A simulated cluster has come from itself, and from what it came from on the way; and it agrees anew in each transition.
use Rattle.std.proofs.Common.{ℕ, List, refl, ◌∙◌, arith}
use Rattle.cluster_types.specs.declared.cluster.Cluster.{Cluster}
use Rattle.cluster_types.specs.declared.journal.Event.{Event}
use Rattle.simulated.specs.Worlds.{Agrees, IsOfOne, WorldOf}

pub one_itself : (k : WorldOf) → IsOfOne k k
one_itself k = record { same = record { cluster = refl; number = refl }; since_stays = refl }

pub one_then : (first middle last : WorldOf) → IsOfOne first middle → IsOfOne middle last → IsOfOne first last
one_then first middle last p q = record {
  same = record { cluster = q.same.cluster ∙ p.same.cluster; number = q.same.number ∙ p.same.number };
  since_stays = q.since_stays ∙ p.since_stays;
}

pub agrees_anew : (k : WorldOf) (c : Cluster) (es : List Event) (taken : ℕ) → Agrees k c es taken → Agrees k c es 0
agrees_anew k c es taken a =
    record { of_cluster = a.of_cluster; first = a.first; began = a.began; world = a.world; lives = a.lives; shows = a.shows; few = omega arith }
