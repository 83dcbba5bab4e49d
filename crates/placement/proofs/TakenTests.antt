-- What is looked for once serves all nodes of a turn, since roles are only taken away.
use Rattle.std.proofs.Common.{◌≡◌, ◌&&◌, not, ℕ, Bool, true, false, if◌then◌else◌, refl, sym, ◌∙◌, ap}
use Rattle.std.proofs.lemmas.Bool.{false_from_ne_true, not-true}
use Rattle.lemmas.proofs.Booleans.{later, sooner}
use Rattle.cluster_types.specs.declared.leaf.Role.{Role}
use Rattle.cluster_types.specs.Tables.{Targets, holds_role}
use Rattle.plan_laws.proofs.MadeOnes.{never_both}
use Rattle.placement.specs.declared.held_targets.dependencies.Dependency.{Dependency}
use Rattle.placement.specs.Inner.Taking.{has_its_primary, has_primary_where, is_anywhere, takes}
use Rattle.placement.proofs.Lacking.{anywhere_not, held_not, none_in_range}

module _ (nodes : ℕ) (first : Targets) (rule : Dependency) (anywhere : Bool)
    (known : anywhere ≡ (not rule.local && is_anywhere nodes first rule.primary rule.primary_role)) (n : ℕ) where
  known_anywhere : rule.local ≡ false → anywhere ≡ is_anywhere nodes first rule.primary rule.primary_role
  known_anywhere e = known ∙ ap (λ (b : Bool). not b && is_anywhere nodes first rule.primary rule.primary_role) e

  -- at first
  pub takes_first : takes nodes first rule n ≡ (holds_role first rule.dependent rule.dependent_role n && not (has_primary_where first rule anywhere n))
  takes_first = ap (λ (b : Bool). holds_role first rule.dependent rule.dependent_role n && not b) (go rule.local refl)
    where
      go : (b : Bool) → rule.local ≡ b → (if b then holds_role first rule.primary rule.primary_role n else is_anywhere nodes first rule.primary rule.primary_role)
          ≡ (if b then holds_role first rule.primary rule.primary_role n else anywhere)
      go true e = refl
      go false e = sym (known_anywhere e)

  -- and later
  pub takes_now : (now : Targets) → ((r : ℕ) (given : Role) (m : ℕ) → holds_role now r given m ≡ true → holds_role first r given m ≡ true)
      → (holds_role now rule.dependent rule.dependent_role n && not (has_primary_where now rule anywhere n)) ≡ true → takes nodes now rule n ≡ true
  takes_now now less h =
      held_not (holds_role now rule.dependent rule.dependent_role n) (has_its_primary nodes now rule n)
      (sooner (holds_role now rule.dependent rule.dependent_role n) (not (has_primary_where now rule anywhere n)) h)
      (go rule.local refl (not-true (has_primary_where now rule anywhere n)
      (later (holds_role now rule.dependent rule.dependent_role n) (not (has_primary_where now rule anywhere n)) h)))
    where
      never : anywhere ≡ false → rule.local ≡ false → is_anywhere nodes now rule.primary rule.primary_role ≡ false
      never none e =
          none_in_range (holds_role now rule.primary rule.primary_role) nodes (λ m lt.
          false_from_ne_true (holds_role now rule.primary rule.primary_role m) (λ there.
          never_both (holds_role first rule.primary rule.primary_role m) (less rule.primary rule.primary_role m there)
          (anywhere_not nodes first rule (sym (known_anywhere e) ∙ none) m lt)))

      go : (b : Bool) → rule.local ≡ b → (if b then holds_role now rule.primary rule.primary_role n else anywhere) ≡ false
          → (if b then holds_role now rule.primary rule.primary_role n else is_anywhere nodes now rule.primary rule.primary_role) ≡ false
      go true e none = none
      go false e none = never none e
