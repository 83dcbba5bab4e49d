-- What calls one after another leave of a count of faults.
use Rattle.std.proofs.Common.{ℕ, ◌≤◌, Bool, arith, refl, ap, ◌∙◌}
use Rattle.cluster_io.specs.Streams.{Bears, Rose, next_fault}

-- no call was made
pub Bears-none : (alone : Bool) (failed : Type 0) (faults : ℕ) → (failed → ⊥) → Bears alone failed faults faults
Bears-none alone failed faults none = record {
  count = omega arith;
  cause = λ f. absurd (none f);
  no_failure = λ _ _. refl;
  once = λ _ f. absurd (none f);
}

-- a failure of the same calls, told in other words
pub Bears-as : (alone : Bool) (failed told : Type 0) (before now : ℕ) → (failed → told) → (told → failed)
    → Bears alone failed before now → Bears alone told before now
Bears-as alone failed told before now to from b = record {
  count = b.count;
  cause = λ t. b.cause (from t);
  no_failure = λ e none. b.no_failure e (λ f. none (to f));
  once = λ e t. b.once e (from t);
}

-- a count that has risen behind an earlier value has risen behind it
pub Rose-behind : (before between now : ℕ) → before ≤ between → Rose between now → Rose before now
Rose-behind before between now up rose = omega (arith, up, rose)

-- calls of which none failed, and the calls behind them
pub Bears-then : (alone : Bool) (first last : Type 0) (before between now : ℕ) → (first → ⊥)
    → Bears alone first before between → Bears alone last between now → Bears alone last before now
Bears-then alone first last before between now none a b = record {
  count = omega (arith, a.count, b.count);
  cause = λ f. Rose-behind before between now a.count (b.cause f);
  no_failure = λ e n. b.no_failure e n ∙ a.no_failure e none;
  once = λ e f. b.once e f ∙ ap next_fault (a.no_failure e none);
}

pub ruleset bearing = (Bears-none, Bears-as, Bears-then)
