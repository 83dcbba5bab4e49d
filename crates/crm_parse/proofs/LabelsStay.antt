-- Words that may be left out: what is read of the next word by its label or its colon, where more words stand behind.
use Rattle.std.proofs.Common.{◌≡◌, ℕ, List, ◌∷◌, ◌++◌, Option, Some, None, Result, Ok, refl, sym, subst}
use Rattle.std.specs.Prelude.{codes}
use Rattle.faults.specs.Reading.{◌>>=◌}
use Rattle.crm_parse.specs.declared.fault.ParseCause.{ParseCause}
use Rattle.crm_parse.specs.Reading.{Words, colon_at, prefixed_at}
use Rattle.crm_parse.specs.Texts.{after, before}
use Rattle.crm_parse.proofs.FaultsStay.{Goes, GoesOn, Stays, left, ok-goes, ok-stays, test-goes, test-stays}

prefixed-case : (text word : List ℕ) (words more : Words) (found : Option (List ℕ)) → after text word ≡ found
    → prefixed_at text (word ∷ (words ++ more)) ≡ left more (prefixed_at text (word ∷ words))
prefixed-case text word words more None f = rw (prefixed_at, f) refl
prefixed-case text word words more (Some rest) f = rw (prefixed_at, f) refl

pub prefixed-more : (text word : List ℕ) (words more : Words) → prefixed_at text (word ∷ (words ++ more)) ≡ left more (prefixed_at text (word ∷ words))
prefixed-more text word words more = prefixed-case text word words more (after text word) refl

colon-case : (word : List ℕ) (words more : Words) (found : Option (List ℕ)) → before (codes ":") word ≡ found
    → colon_at (word ∷ (words ++ more)) ≡ left more (colon_at (word ∷ words))
colon-case word words more None f = rw (colon_at, f) refl
colon-case word words more (Some rest) f = rw (colon_at, f) refl

pub colon-more : (word : List ℕ) (words more : Words) → colon_at (word ∷ (words ++ more)) ≡ left more (colon_at (word ∷ words))
colon-more word words more = colon-case word words more (before (codes ":") word) refl

-- what such a word says
abbrev taken : {A : Type 0} → (Option (List ℕ) → Result A ParseCause) → Option (List ℕ) × Words → Result (A × Words) ParseCause
taken t found = t found.0 >>= (λ x. Ok (x, found.1))

pub option-stays : {A : Type 0} (cause : ParseCause) (more : Words) (t : Option (List ℕ) → Result A ParseCause) (found again : Option (List ℕ) × Words) → again ≡ left more found
    → Stays cause (taken t found) (taken t again)
option-stays cause more t found again e =
    subst (λ p. Stays cause (taken t found) (taken t p)) (sym e) (test-stays cause (t found.0) _ _ (λ x h. ok-stays cause _ _))

pub option-goes : {A : Type 0} (more : Words) (t : Option (List ℕ) → Result A ParseCause) (found again : Option (List ℕ) × Words) → again ≡ left more found
    → Goes (left more) (taken t found) (taken t again)
option-goes more t found again e =
    subst (λ p. Goes (left more) (taken t found) (taken t p)) (sym e) (test-goes (left more) (t found.0) _ _ (λ x h. ok-goes (left more) _))

pub option-goes-on : {A : Type 0} (more : Words) (t : Option (List ℕ) → Result A ParseCause) (found again : Option (List ℕ) × Words) → again ≡ left more found
    → GoesOn more (taken t found) (taken t again)
option-goes-on more t found again e x word rest r = option-goes more t found again e (x, word ∷ rest) r
