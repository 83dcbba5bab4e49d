-- A bound on how many parts follow is never reached, since each part has a word.
use Rattle.std.proofs.Common.{◌≡◌, ℕ, ◌≤◌, ◌<◌, zero, suc, Bool, List, ◌∷◌, length, Some, Err, refl, arith, [], Ok, None}
use Rattle.crm_parse.specs.declared.expression.Expression.{Expression}
use Rattle.crm_parse.specs.declared.fault.ParseCause.{ParseCause}
use Rattle.faults.specs.declared.stop.Stop.{Stop}
use Rattle.crm_parse.specs.declared.rule_form.RuleForm.{RuleForm}
use Rattle.crm_parse.specs.Location.{with_rule, with_rules}
use Rattle.crm_parse.specs.Reading.{Words}
use Rattle.faults.specs.Inner.Reading.{IsCause}
use Rattle.faults.proofs.Steps.{cause_of_whole}
use Rattle.crm_parse.specs.Rules.{joiner_at, with_joined, with_tests}

-- a rule that is at fault
rules-cause : (most : ℕ) (before : List RuleForm) (words : Words) (cause : ParseCause) → 0 < length words → length words ≤ most
    → with_rule before words ≡ Err cause → with_rules most before words ≡ Err cause
rules-cause zero before words cause l h r = absurd (omega (arith, l, h))
rules-cause (suc most) before [] cause l h r = absurd (omega (arith, l))
rules-cause (suc most) before (word ∷ words) cause l h r = rw r refl

pub rules-fault : (stop : Stop ParseCause) (most : ℕ) (before : List RuleForm) (words : Words) → 0 < length words → length words ≤ most
    → IsCause stop (with_rule before words) → IsCause stop (with_rules most before words)
rules-fault stop most before words l h f = cause_of_whole stop _ _ (λ cause r. rules-cause most before words cause l h r) f

-- a word that joins is a word
joins-some : (words : Words) (all : Bool) → joiner_at words ≡ Some all → 0 < length words
unfolding joiner_at
joins-some [] all e = absurd (cc)
joins-some (word ∷ words) all e = omega arith

-- a test that is at fault
tests-cause : (most : ℕ) (before : Expression) (all : Bool) (words : Words) (cause : ParseCause) → joiner_at words ≡ Some all → length words ≤ most
    → with_joined before all words ≡ Err cause → with_tests most (joiner_at words) before words ≡ Err cause
tests-cause zero before all words cause e h r = absurd (omega (arith, h, joins-some words all e))
tests-cause (suc most) before all words cause e h r = rw (e, r) refl

pub tests-fault : (stop : Stop ParseCause) (most : ℕ) (before : Expression) (all : Bool) (words : Words) → joiner_at words ≡ Some all → length words ≤ most
    → IsCause stop (with_joined before all words) → IsCause stop (with_tests most (joiner_at words) before words)
tests-fault stop most before all words e h f = cause_of_whole stop _ _ (λ cause r. tests-cause most before all words cause e h r) f

-- where no word joins, no test follows
pub stops : (most : ℕ) (before : Expression) (more : Words) → joiner_at more ≡ None → with_tests most (joiner_at more) before more ≡ Ok (before, more)
stops zero before more j = refl
stops (suc most) before more j = rw j refl
