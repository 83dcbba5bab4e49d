-- What the words of orders are: of steps, that give a role or take one.
use Rattle.std.proofs.Common.{◌≡◌, ◌≢◌, ℕ, true, false, Contains, refl, subst}
use Rattle.lemmas.proofs.Searches.{of_none}
use Rattle.cluster_types.specs.declared.cluster.Cluster.{Cluster}
use Rattle.cluster_types.specs.declared.leaf.Op.{Op}
use Rattle.cluster_types.specs.declared.leaf.Op.TheVariants as op
use Rattle.cluster_types.specs.Precedence.{inverse, is_giving, takers}
use Rattle.cluster_types.specs.Valid.{MayHaveWord}
use Rattle.cluster_types.proofs.Few.{of_one, of_two}
use Rattle.plan_laws.proofs.NeededActions.{is_monitor}

pub word_is_step : (c : Cluster) (r : ℕ) (o : Op) → MayHaveWord c r o → is_monitor o ≡ false
word_is_step c r op.Start h = refl
word_is_step c r op.Stop h = refl
word_is_step c r op.Promote h = refl
word_is_step c r op.Demote h = refl
word_is_step c r op.Monitor h = absurd h

pub inverse_is_step : (c : Cluster) (r : ℕ) (o : Op) → MayHaveWord c r o → is_monitor (inverse o) ≡ false
inverse_is_step c r op.Start h = refl
inverse_is_step c r op.Stop h = refl
inverse_is_step c r op.Promote h = refl
inverse_is_step c r op.Demote h = refl
inverse_is_step c r op.Monitor h = absurd h

-- what takes a role is no monitor and gives none
pub taker_takes : (o p : Op) → Contains (takers o) p → (is_monitor p ≡ false) × (is_giving p ≡ false)
taker_takes op.Start p h = of_one (λ v. (is_monitor v ≡ false) × (is_giving v ≡ false)) op.Stop p (refl, refl) h
taker_takes op.Stop p h = of_none (λ v. (is_monitor v ≡ false) × (is_giving v ≡ false)) p h
taker_takes op.Promote p h = of_two (λ v. (is_monitor v ≡ false) × (is_giving v ≡ false)) op.Demote op.Stop p (refl, refl) (refl, refl) h
taker_takes op.Demote p h = of_none (λ v. (is_monitor v ≡ false) × (is_giving v ≡ false)) p h
taker_takes op.Monitor p h = of_none (λ v. (is_monitor v ≡ false) × (is_giving v ≡ false)) p h

-- the inverse of a word that takes gives, of one that gives takes
pub turned_up : (o : Op) → is_monitor o ≡ false → is_giving o ≡ false → is_giving (inverse o) ≡ true
turned_up op.Start e h = cc
turned_up op.Stop e h = refl
turned_up op.Promote e h = cc
turned_up op.Demote e h = refl
turned_up op.Monitor e h = cc

pub not_start : (o : Op) → is_giving o ≡ false → o ≢ op.Start
not_start o h e = let f : is_giving op.Start ≡ false = subst (λ v. is_giving v ≡ false) e h in cc
