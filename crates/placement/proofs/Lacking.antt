-- Where a dependency lacks its primary.
use Rattle.std.proofs.Common.{arith, ◌≡◌, ◌<◌, ◌&&◌, not, ℕ, Bool, true, false, if◌then◌else◌, refl, subst, Any}
use Rattle.std.specs.List.{list_any, range_with_len}
use Rattle.std.proofs.lemmas.Bool.{false_from_ne_true}
use Rattle.std.proofs.lemmas.List.Folds.{Any-from_list_any}
use Rattle.lemmas.proofs.Members.{of_range}
use Rattle.lemmas.proofs.Ranges.{some_in_range}
use Rattle.cluster_types.specs.Tables.{Targets, holds_role}
use Rattle.plan_laws.proofs.MadeOnes.{never_both}
use Rattle.placement.specs.declared.held_targets.dependencies.Dependency.{Dependency}
use Rattle.placement.specs.Inner.Taking.{has_its_primary, is_anywhere}

pub not_both : (a b : Bool) → a && not b ≡ false → b ≡ false → a ≡ false
not_both true true h e = cc
not_both true false h e = cc
not_both false b h e = refl

pub held_not : (a b : Bool) → a ≡ true → b ≡ false → a && not b ≡ true
held_not a b h e = rw (h, e) refl

-- none in a range passes
pub none_in_range : (p : ℕ → Bool) (n : ℕ) → ((k : ℕ) → k < n → p k ≡ false) → list_any p (range_with_len 0 n) ≡ false
none_in_range p n none =
    false_from_ne_true (list_any p (range_with_len 0 n)) (λ h. some_passes (Any-from_list_any p (range_with_len 0 n) h))
  where
    some_passes : Any (λ x. p x ≡ true) (range_with_len 0 n) → ⊥
    some_passes (k, x, lt, there, h) = let low = of_range 0 n x (k, lt, there) in never_both (p x) h (none x (omega arith))

module _ (nodes : ℕ) (table : Targets) (rule : Dependency) where
  pub anywhere_not : is_anywhere nodes table rule.primary rule.primary_role ≡ false → (m : ℕ) → m < nodes → holds_role table rule.primary rule.primary_role m ≡ false
  anywhere_not h m lt =
      false_from_ne_true (holds_role table rule.primary rule.primary_role m) (λ there.
      never_both (is_anywhere nodes table rule.primary rule.primary_role)
      (some_in_range (holds_role table rule.primary rule.primary_role) 0 nodes m (omega arith) (omega arith) there) h)

  -- then on no node in scope the primary holds its role
  pub lacking : (n : ℕ) → has_its_primary nodes table rule n ≡ false → (m : ℕ) → m < nodes → (rule.local ≡ true → n ≡ m)
      → holds_role table rule.primary rule.primary_role m ≡ false
  lacking n h m lt scope = go rule.local refl h
    where
      go : (b : Bool) → rule.local ≡ b
          → (if b then holds_role table rule.primary rule.primary_role n else is_anywhere nodes table rule.primary rule.primary_role) ≡ false
          → holds_role table rule.primary rule.primary_role m ≡ false
      go true e h = subst (λ (k : ℕ). holds_role table rule.primary rule.primary_role k ≡ false) (scope e) h
      go false e h = anywhere_not h m lt

  -- and where it doesn't, the dependency lacks it
  pub lacked : (n : ℕ) → n < nodes → ((m : ℕ) → m < nodes → (rule.local ≡ true → n ≡ m) → holds_role table rule.primary rule.primary_role m ≡ false)
      → has_its_primary nodes table rule n ≡ false
  lacked n within none = go rule.local refl
    where
      go : (b : Bool) → rule.local ≡ b
          → (if b then holds_role table rule.primary rule.primary_role n else is_anywhere nodes table rule.primary rule.primary_role) ≡ false
      go true e = none n within (λ e. refl)
      go false e =
          none_in_range (holds_role table rule.primary rule.primary_role) nodes (λ m lt. none m lt (λ f. absurd (never_both rule.local f e)))
