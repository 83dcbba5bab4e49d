use Rattle.std.proofs.Common.{◌≡◌, ℕ, ◌≤◌, [], length}
use Rattle.crm_parse.specs.Location.{with_rules}
use Rattle.crm_parse.proofs.rule.rules_at.Given as goal

abbrev pub invariant-loop-rest : goal.invariant-loop-rest
invariant-loop-rest l =
    (most : ℕ) × (length l.rest ≤ most) × (with_rules (length l.words) [] l.words ≡ with_rules most l.rules l.rest)

abbrev pub decreases-loop-rest : goal.decreases-loop-rest
decreases-loop-rest l = length l.rest
