-- Truth of tests.
use Rattle.std.proofs.Common.{◌≡◌, Bool, true, false, ◌&&◌, refl}

pub swap : (a b d : Bool) → ((a && b) && d) ≡ ((a && d) && b)
swap true true true = refl
swap true true false = refl
swap true false true = refl
swap true false false = refl
swap false b d = refl
