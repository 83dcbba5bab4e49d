-- What holds where a decision can be made.
use Rattle.std.proofs.Common.{◌≡◌, ◌||◌, not, ℕ, true, false, List, refl}
use Rattle.std.proofs.lemmas.Bool.{not-true}
use Rattle.lemmas.proofs.Booleans.{implied, later, sooner}
use Rattle.lemmas.proofs.Searches.{each_passes}
use Rattle.loops.proofs.Needs.{is_itself}
use Rattle.cluster_types.specs.declared.cluster.Cluster.{Cluster}
use Rattle.cluster_types.specs.declared.journal.Event.{Event}
use Rattle.cluster_types.specs.declared.placement.Decision.{Decision}
use Rattle.cluster_types.specs.declared.placement.Decision.TheVariants.{Place, Promote}
use Rattle.cluster_types.specs.Decisions.{decisions, is_among, is_decision, is_ready, needs}
use Rattle.plan_laws.proofs.MadeOnes.{Known, known, is_placed, there}

module _ (c : Cluster) (es : List Event) (made : List Decision) (d : Decision) (ready : is_ready c es made d ≡ true) where
  pub ready_is_one : is_decision c es d ≡ true
  ready_is_one = sooner _ _ (sooner _ _ ready)

  pub ready_is_new : is_among made d ≡ false
  ready_is_new = not-true (is_among made d) (later _ _ (sooner _ _ ready))

  pub needed_is_made : (e : Decision) → is_decision c es e ≡ true → needs c d e ≡ true → is_among made e ≡ true
  needed_is_made e is wants =
      implied (needs c d e) (is_among made e)
      (each_passes (λ e. not (needs c d e) || is_among made e) (decisions c es) e (later _ _ ready) (there c es e is)) wants

-- a leaf is placed before it is promoted
pub needs_place : (c : Cluster) (r : ℕ) → needs c (Promote r) (Place r) ≡ true
needs_place c r = rw (is_itself (Place r)) refl

pub place_is_made : (c : Cluster) (es : List Event) (made : List Decision) (r : ℕ) → is_ready c es made (Promote r) ≡ true → is_among made (Place r) ≡ true
place_is_made c es made r ready =
    let k : Known c es (Promote r) = known c es (Promote r) (ready_is_one c es made (Promote r) ready) in
    needed_is_made c es made (Promote r) ready (Place r) (is_placed c es r k.within k.free) (needs_place c r)
