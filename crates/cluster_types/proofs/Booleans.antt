-- Truth of tests.
use Rattle.std.proofs.Common.{◌≡◌, Bool, true, false, not, ◌&&◌}

pub clash : {X : Type 0} (u v : X) (a b : Bool) → not a && b ≡ true → a ≡ true → u ≡ v
clash u v true b h g = cc
clash u v false b h g = cc
