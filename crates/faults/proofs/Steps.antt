-- What the steps of a reading gave, where the whole is known.
use Rattle.std.proofs.Common.{◌≡◌, ℕ, Option, Some, None, Result, Ok, Err, refl}
use Rattle.faults.specs.declared.fault.Fault.{Fault}
use Rattle.faults.specs.declared.fault.Fault.TheVariants.{At, NoMemory}
use Rattle.faults.specs.declared.stop.Stop.{Stop}
use Rattle.faults.specs.declared.stop.Stop.TheVariants as stop
use Rattle.faults.specs.Reading.{◌>>=◌, unless, on_line, faulting, UnlessMemory}
use Rattle.faults.specs.Inner.Reading.{IsCause}

-- both steps read
pub bind-ok : {A B E : Type 0} (r : Result A E) (f : A → Result B E) (y : B) → (r >>= f) ≡ Ok y → (x : A) × (r ≡ Ok x) × (f x ≡ Ok y)
bind-ok (Ok x) f y e = (x, refl, e)
bind-ok (Err error) f y e = cc

-- the first step fails
pub bind-err : {A B E : Type 0} (r : Result A E) (f : A → Result B E) (error : E) → r ≡ Err error → (r >>= f) ≡ Err error
bind-err r f error e = rw e refl

-- no error, and the answer is the one
pub unless-ok : {A E : Type 0} (found : Option E) (answer given : A) → unless found answer ≡ Ok given → (found ≡ None) × (answer ≡ given)
unless-ok None answer given e = (refl, cc)
unless-ok (Some error) answer given e = cc

-- the error is the one that was found
pub unless-err : {A E : Type 0} (found : Option E) (answer : A) (error : E) → unless found answer ≡ Err error → found ≡ Some error
unless-err None answer error e = cc
unless-err (Some found) answer error e = cc

pub on_line-ok : {A C : Type 0} (line : ℕ) (r : Result A C) (x : A) → on_line line r ≡ Ok x → r ≡ Ok x
on_line-ok line (Ok y) x e = cc
on_line-ok line (Err cause) x e = cc

pub faulting-ok : {A C D : Type 0} (cause_of : C → D) (r : Result A (Fault C)) (x : A) → faulting cause_of r ≡ Ok x → r ≡ Ok x
faulting-ok cause_of (Ok y) x e = cc
faulting-ok cause_of (Err fault) x e = cc

-- what holds unless memory ran out, in another form
pub unless_memory : {C : Type 0} (fault : Fault C) (P Q : Type 0) → (P → Q) → UnlessMemory fault P → UnlessMemory fault Q
unless_memory (At line cause) P Q step h = step h
unless_memory NoMemory P Q step h = tt

-- the cause of a part is that of the whole
pub cause_of_whole : {A B C : Type 0} (stop : Stop C) (part : Result A C) (whole : Result B C)
    → ((cause : C) → part ≡ Err cause → whole ≡ Err cause) → IsCause stop part → IsCause stop whole
cause_of_whole (stop.Cause cause) part whole step h = step cause h
cause_of_whole stop.NoMemory part whole step h = tt
