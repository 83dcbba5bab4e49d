-- Roles that are taken away one after another.
use Rattle.std.proofs.Common.{◌≡◌, ℕ, true, List, Contains, sym, ◌∙◌, ap}
use Rattle.lemmas.proofs.Booleans.{sooner}
use Rattle.std.specs.Prelude.{not}
use Rattle.cluster_types.specs.declared.leaf.Role.{Role}
use Rattle.cluster_types.specs.Tables.{Targets, holds_role}
use Rattle.plan_laws.proofs.StayHeld.{has, holds_is}
use Rattle.placement.specs.declared.held_targets.dependencies.Dependency.{Dependency}
use Rattle.placement.specs.Inner.Taking.{TakenAway, has_its_primary, none_yet, one_more, takes}
use Rattle.placement.proofs.RolesTaken.{lowered}

pub role_alike : (one other : Targets) (r : ℕ) (given : Role) (n : ℕ) → one r n ≡ other r n → holds_role one r given n ≡ holds_role other r given n
role_alike one other r given n e = holds_is one r given n ∙ ap (has given) e ∙ sym (holds_is other r given n)

pub takes_held : (nodes : ℕ) (table : Targets) (rule : Dependency) (n : ℕ) → takes nodes table rule n ≡ true
    → holds_role table rule.dependent rule.dependent_role n ≡ true
takes_held nodes table rule n h = sooner (holds_role table rule.dependent rule.dependent_role n) (not (has_its_primary nodes table rule n)) h

module _ (rules : List Dependency) (nodes : ℕ) (chosen : Targets) where
  -- what is left was chosen
  pub still_chosen : (left : Targets) → TakenAway rules nodes chosen left → (r : ℕ) (given : Role) (n : ℕ) → holds_role left r given n ≡ true
      → holds_role chosen r given n ≡ true
  still_chosen _ (none_yet left same) r given n h = sym (role_alike left chosen r given n (same r n)) ∙ h
  still_chosen _ (one_more before left rule m taken among lt takes is) r given n h =
      still_chosen before taken r given n
      (lowered before left rule.dependent rule.dependent_role m (takes_held nodes before rule m takes) is r given n h)

  -- the same targets are what is left after the same steps
  pub taken_alike : (left other : Targets) → TakenAway rules nodes chosen left → ((r n : ℕ) → other r n ≡ left r n) → TakenAway rules nodes chosen other
  taken_alike _ other (none_yet left same) alike = none_yet other (λ r n. alike r n ∙ same r n)
  taken_alike _ other (one_more before left rule n taken among lt takes is) alike =
      one_more before other rule n taken among lt takes (λ r m. alike r m ∙ is r m)

  -- some steps, and then more
  pub taken_on : (middle left : Targets) → TakenAway rules nodes chosen middle → TakenAway rules nodes middle left → TakenAway rules nodes chosen left
  taken_on middle _ first (none_yet left same) = taken_alike middle left first same
  taken_on middle _ first (one_more before left rule n taken among lt takes is) =
      one_more before left rule n (taken_on middle before first taken) among lt takes is

-- what some dependencies take is taken by a list that has them all
pub taken_among : (rules all : List Dependency) → ((rule : Dependency) → Contains rules rule → Contains all rule) → (nodes : ℕ) (chosen left : Targets)
    → TakenAway rules nodes chosen left → TakenAway all nodes chosen left
taken_among rules all in_all nodes chosen _ (none_yet left same) = none_yet left same
taken_among rules all in_all nodes chosen _ (one_more before left rule n taken among lt takes is) =
    one_more before left rule n (taken_among rules all in_all nodes chosen before taken) (in_all rule among) lt takes is
