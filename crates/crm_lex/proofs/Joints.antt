-- A content with a joint in place of its last backslash.
use Rattle.std.proofs.Common.{◌≡◌, ℕ, suc, ◌-◌, ◌<◌, Bool, true, false, ◌==◌, if◌then◌else◌, List, [], ◌∷◌, ◌++◌, length, take, refl, ap, arith}
use Rattle.crm_lex.specs.RawLines.{physical_lines, onto_first, ends_in_backslash}
use Rattle.crm_lex.specs.LogicalLines.{joint, with_joint}

pub with_joint-none : (bytes text : List ℕ) → ends_in_backslash text ≡ false → with_joint bytes text ≡ text
with_joint-none bytes [] e = refl
with_joint-none bytes (b ∷ []) e = rw e refl
with_joint-none bytes (b ∷ c ∷ cs) e = ap (λ xs. b ∷ xs) (with_joint-none bytes (c ∷ cs) e)

pub with_joint-some : (bytes text : List ℕ) → ends_in_backslash text ≡ true → with_joint bytes text ≡ take (length text - 1) text ++ bytes
with_joint-some bytes [] e = cc
with_joint-some bytes (b ∷ []) e = rw e refl
with_joint-some bytes (b ∷ c ∷ cs) e =
    let place : length (b ∷ c ∷ cs) - 1 ≡ suc (length (c ∷ cs) - 1) = omega arith in
    rw place (ap (λ xs. b ∷ xs) (with_joint-some bytes (c ∷ cs) e))

-- before some text a backslash becomes a space
pub joint-some : (text : List ℕ) → 0 < length text → 32 ∷ [] ≡ joint (physical_lines text)
joint-some [] some = absurd (omega arith)
joint-some (b ∷ bs) some = split (b == 10) (physical_lines bs)
  where
    onto : (lines : List (List ℕ)) → 32 ∷ [] ≡ joint (onto_first b lines)
    onto [] = refl
    onto (line ∷ lines) = refl

    split : (t : Bool) (lines : List (List ℕ)) → 32 ∷ [] ≡ joint (if t then (b ∷ []) ∷ lines else onto_first b lines)
    split true lines = refl
    split false lines = onto lines
