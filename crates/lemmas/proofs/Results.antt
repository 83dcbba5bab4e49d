-- Results: proofs by the two kinds, and what follows from two facts of an answer.
use Rattle.std.proofs.Common.{Result, Ok, Err, OnOk}

pub by_result : {X C : Type 0} (P : Result X C → Type 0) → ((x : X) → P (Ok x)) → ((why : C) → P (Err why)) → (read : Result X C) → P read
by_result P ok err (Ok x) = ok x
by_result P ok err (Err why) = err why

-- what follows from two facts that hold where there is an answer holds there
pub on_both : {T E A B C : Type 0} (r : Result T E) → (A → B → C) → OnOk r A → OnOk r B → OnOk r C
on_both (Ok v) f a b = f a b
on_both (Err e) f a b = tt
