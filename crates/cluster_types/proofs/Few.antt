-- What holds of each number below one, two or three, and of each element of a short list.
use Rattle.std.proofs.Common.{ℕ, zero, suc, [], ◌∷◌, ◌<◌, subst, arith}
use Rattle.std.specs.Prelude.{Contains, AllPairs}

pub below_one : (P : ℕ → Type 0) → P 0 → (n : ℕ) → n < 1 → P n
below_one P p zero h = p
below_one P p (suc n) h = absurd (omega arith)

pub below_two : (P : ℕ → Type 0) → P 0 → P 1 → (n : ℕ) → n < 2 → P n
below_two P p q zero h = p
below_two P p q (suc zero) h = q
below_two P p q (suc (suc n)) h = absurd (omega arith)

-- each cell of one leaf on two nodes
pub cells_of_one : (P : ℕ → ℕ → Type 0) → P 0 0 → P 0 1 → (r n : ℕ) → r < 1 → n < 2 → P r n
cells_of_one P p q r n h l = below_one (λ k. P k n) (below_two (P 0) p q n l) r h

pub of_one : {X : Type 0} (P : X → Type 0) (a x : X) → P a → Contains (a ∷ []) x → P x
of_one P a x p (zero, h, e) = subst P e p
of_one P a x p (suc k, h, e) = absurd (omega arith)

pub of_two : {X : Type 0} (P : X → Type 0) (a b x : X) → P a → P b → Contains (a ∷ b ∷ []) x → P x
of_two P a b x p q (zero, h, e) = subst P e p
of_two P a b x p q (suc zero, h, e) = subst P e q
of_two P a b x p q (suc (suc k), h, e) = absurd (omega arith)

pub of_three : {X : Type 0} (P : X → Type 0) (a b c x : X) → P a → P b → P c → Contains (a ∷ b ∷ c ∷ []) x → P x
of_three P a b c x p q r (zero, h, e) = subst P e p
of_three P a b c x p q r (suc zero, h, e) = subst P e q
of_three P a b c x p q r (suc (suc zero), h, e) = subst P e r
of_three P a b c x p q r (suc (suc (suc k)), h, e) = absurd (omega arith)

pub pair_of_two : {X : Type 0} (R : X → X → Type 0) (a b : X) → R a b → AllPairs R (a ∷ b ∷ [])
pair_of_two R a b p zero zero d h l = absurd (omega arith)
pair_of_two R a b p zero (suc zero) d h l = p
pair_of_two R a b p zero (suc (suc j)) d h l = absurd (omega arith)
pair_of_two R a b p (suc i) zero d h l = absurd (omega arith)
pair_of_two R a b p (suc i) (suc zero) d h l = absurd (omega arith)
pair_of_two R a b p (suc i) (suc (suc j)) d h l = absurd (omega arith)

pub pairs_of_three : {X : Type 0} (R : X → X → Type 0) (a b c : X) → R a b → R a c → R b c → AllPairs R (a ∷ b ∷ c ∷ [])
pairs_of_three R a b c p q r zero zero d h l = absurd (omega arith)
pairs_of_three R a b c p q r zero (suc zero) d h l = p
pairs_of_three R a b c p q r zero (suc (suc zero)) d h l = q
pairs_of_three R a b c p q r zero (suc (suc (suc j))) d h l = absurd (omega arith)
pairs_of_three R a b c p q r (suc zero) zero d h l = absurd (omega arith)
pairs_of_three R a b c p q r (suc zero) (suc zero) d h l = absurd (omega arith)
pairs_of_three R a b c p q r (suc zero) (suc (suc zero)) d h l = r
pairs_of_three R a b c p q r (suc zero) (suc (suc (suc j))) d h l = absurd (omega arith)
pairs_of_three R a b c p q r (suc (suc i)) zero d h l = absurd (omega arith)
pairs_of_three R a b c p q r (suc (suc i)) (suc zero) d h l = absurd (omega arith)
pairs_of_three R a b c p q r (suc (suc i)) (suc (suc zero)) d h l = absurd (omega arith)
pairs_of_three R a b c p q r (suc (suc i)) (suc (suc (suc j))) d h l = absurd (omega arith)
