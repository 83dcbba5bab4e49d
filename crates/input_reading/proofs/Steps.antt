-- What holds of what is read, step by step.
use Rattle.std.proofs.Common.{◌≡◌, Bool, true, false, if◌then◌else◌, Option, Some, None, Result, Ok, Err, IfOk, IfSome, refl}
use Rattle.std.specs.Option.{ok_or}
use Rattle.faults.specs.Reading.{◌>>=◌}

-- what holds of the value of each step that is passed
module _ {A B E : Type 0} (P : B → Type 0) where
  pub step : (Q : A → Type 0) (read : Result A E) (next : A → Result B E) → IfOk read Q → ((x : A) → Q x → IfOk (next x) P)
      → IfOk (read >>= next) P
  step Q (Ok x) next q all = all x q
  step Q (Err why) next q all = tt

  pub any_step : (read : Result A E) (next : A → Result B E) → ((x : A) → IfOk (next x) P) → IfOk (read >>= next) P
  any_step (Ok x) next all = all x
  any_step (Err why) next all = tt

pub given : {A E : Type 0} (P : A → Type 0) (found : Option A) (why : E) → IfSome found P → IfOk (ok_or found why) P
given P (Some x) why h = h
given P None why h = tt

pub where_true : {A : Type 0} (P : A → Type 0) (test : Bool) (x : A) → (test ≡ true → P x) → IfSome (if test then Some x else None) P
where_true P true x h = h refl
where_true P false x h = tt

pub either_way : {A E : Type 0} (P : A → Type 0) (test : Bool) (one other : Result A E) → IfOk one P → IfOk other P
    → IfOk (if test then one else other) P
either_way P true one other h k = h
either_way P false one other h k = k
