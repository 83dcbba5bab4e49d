-- What taking one role away changes.
use Rattle.std.proofs.Common.{◌≡◌, ◌==◌, ◌&&◌, ◌⊎◌, inl, inr, ℕ, Bool, true, false, if◌then◌else◌, refl, sym, ◌∙◌, ap}
use Rattle.std.proofs.lemmas.Bool.{eqb-true}
use Rattle.lemmas.proofs.Booleans.{sooner, later}
use Rattle.cluster_types.specs.declared.leaf.Role.{Role}
use Rattle.cluster_types.specs.declared.leaf.Role.TheVariants as role
use Rattle.cluster_types.specs.declared.placement.Target.{Target}
use Rattle.cluster_types.specs.Tables.{Targets, holds_role}
use Rattle.cluster_types.proofs.TableCells.{promoted_somewhere}
use Rattle.plan_laws.proofs.MadeOnes.{never_both}
use Rattle.plan_laws.proofs.StayHeld.{has, holds_is}
use Rattle.placement.specs.Inner.Taking.{below, without}

-- of one target

less_below : (t : Target) (given other : Role) → has given t ≡ true → has other (below given) ≡ true → has other t ≡ true
less_below t role.Started role.Started h k = cc
less_below t role.Started role.Promoted h k = cc
less_below t role.Promoted role.Started h k = promoted_somewhere t h
less_below t role.Promoted role.Promoted h k = cc

gone_below : (given other : Role) → has other (below given) ≡ false → (other ≡ given) ⊎ ((given ≡ role.Started) × (other ≡ role.Promoted))
gone_below role.Started role.Started h = inl refl
gone_below role.Started role.Promoted h = inr (refl, refl)
gone_below role.Promoted role.Started h = cc
gone_below role.Promoted role.Promoted h = inl refl

-- the role is this one, or the promote of what isn't started any more
pub record Gone (r : ℕ) (given : Role) (n s : ℕ) (other : Role) (m : ℕ) : Type 0 where
  pub leaf : s ≡ r
  pub node : m ≡ n
  pub which : (other ≡ given) ⊎ ((given ≡ role.Started) × (other ≡ role.Promoted))

-- of a table
module _ (table left : Targets) (r : ℕ) (given : Role) (n : ℕ) (holds : holds_role table r given n ≡ true)
    (is : (s m : ℕ) → left s m ≡ without table r given n s m) where
  left_has : (s : ℕ) (other : Role) (m : ℕ) (b : Bool) → (s == r && m == n) ≡ b
      → holds_role left s other m ≡ has other (if b then below given else table s m)
  left_has s other m b e =
      holds_is left s other m ∙ ap (has other) (is s m ∙ ap (λ (k : Bool). if k then below given else table s m) e)

  here : (s m : ℕ) → (s == r && m == n) ≡ true → (s ≡ r) × (m ≡ n)
  here s m e = (eqb-true s r (sooner (s == r) (m == n) e), eqb-true m n (later (s == r) (m == n) e))

  has_here : (s m : ℕ) → (s == r && m == n) ≡ true → has given (table s m) ≡ true
  has_here s m e = let (leaf, node) = here s m e in rw (leaf, node) (sym (holds_is table r given n) ∙ holds)

  -- what is still held was held
  pub lowered : (s : ℕ) (other : Role) (m : ℕ) → holds_role left s other m ≡ true → holds_role table s other m ≡ true
  lowered s other m h = go (s == r && m == n) refl
    where
      go : (b : Bool) → (s == r && m == n) ≡ b → holds_role table s other m ≡ true
      go true e = holds_is table s other m ∙ less_below (table s m) given other (has_here s m e) (sym (left_has s other m true e) ∙ h)
      go false e = holds_is table s other m ∙ (sym (left_has s other m false e) ∙ h)

  -- and what isn't held any more has gone
  pub gone : (s : ℕ) (other : Role) (m : ℕ) → holds_role table s other m ≡ true → holds_role left s other m ≡ false → Gone r given n s other m
  gone s other m was now = go (s == r && m == n) refl
    where
      go : (b : Bool) → (s == r && m == n) ≡ b → Gone r given n s other m
      go true e =
          let (leaf, node) = here s m e in
          record { leaf = leaf; node = node; which = gone_below given other (sym (left_has s other m true e) ∙ now) }
      go false e = absurd (never_both (holds_role table s other m) was (holds_is table s other m ∙ (sym (left_has s other m false e) ∙ now)))
