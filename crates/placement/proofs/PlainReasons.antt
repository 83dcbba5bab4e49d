-- What the reasons are that are no rule's.
use Rattle.std.proofs.Common.{◌≡◌, not, ℕ, Bool, true, false, if◌then◌else◌, Some, None, List, refl}
use Rattle.cluster_types.specs.declared.placement.NoReason.TheVariants as none

-- no plain reason is a rule's
pub no_rule : (a b d e f g : Bool) (id : List ℕ)
    → (if a then Some none.NoCopies
    else (if b then Some none.Stopped
    else (if d then Some none.OnFail
    else (if e then Some none.StopAll
    else (if not f then Some none.NoQuorum
    else (if g then Some none.NoNode else None)))))) ≡ Some (none.Held id) → ⊥
no_rule true b d e f g id h = cc
no_rule false true d e f g id h = cc
no_rule false false true e f g id h = cc
no_rule false false false true f g id h = cc
no_rule false false false false false g id h = cc
no_rule false false false false true true id h = cc
no_rule false false false false true false id h = cc

-- without one some node was chosen
pub some_node : (a b d e f g : Bool)
    → (if a then Some none.NoCopies
    else (if b then Some none.Stopped
    else (if d then Some none.OnFail
    else (if e then Some none.StopAll
    else (if not f then Some none.NoQuorum
    else (if g then Some none.NoNode else None)))))) ≡ None → g ≡ false
some_node true b d e f g h = cc
some_node false true d e f g h = cc
some_node false false true e f g h = cc
some_node false false false true f g h = cc
some_node false false false false false g h = cc
some_node false false false false true true h = cc
some_node false false false false true false h = refl
