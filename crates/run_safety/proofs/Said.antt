-- What a source says where its answers are told.
use Rattle.std.proofs.Common.{◌≡◌, Bool, false, List, [], ◌∷◌, refl, ◌∙◌, sym}
use Rattle.std.specs.Prelude.{Option, Some, None}
use Rattle.cluster_types.specs.declared.journal.Answer.{Answer}
use Rattle.cluster_types.specs.Sources.{Says, told, used_up, untold}
use Rattle.run_safety.specs.TwoRuns.{AreAnswersTold}

-- what is said, read off the answers to come
abbrev pub SaysJust : Option (List Answer) → Option Answer → Option (List Answer) → Type 0
SaysJust (Some []) said left = (said ≡ None) × (left ≡ Some [])
SaysJust (Some (given ∷ rest)) said left = (said ≡ Some given) × (left ≡ Some rest)
SaysJust None said left = left ≡ None

pub says_just : (whole : Bool) (rest left : Option (List Answer)) (said : Option Answer) → Says whole rest said left → SaysJust rest said left
says_just whole _ _ _ (told given rest) = (refl, refl)
says_just whole _ _ _ (used_up h) = (refl, refl)
says_just whole _ _ _ (untold said) = refl

-- where the answers are told, one thing is said
pub says_one : (whole : Bool) (rest left other : Option (List Answer)) (said also : Option Answer) → AreAnswersTold rest → Says whole rest said left → Says whole rest also other
    → (said ≡ also) × (left ≡ other)
says_one whole rest left other said also h one two = by rest h (says_just whole rest left said one) (says_just whole rest other also two)
  where
    by : (rest : Option (List Answer)) → AreAnswersTold rest → SaysJust rest said left → SaysJust rest also other → (said ≡ also) × (left ≡ other)
    by (Some []) h a b = (a.0 ∙ sym b.0, a.1 ∙ sym b.1)
    by (Some (given ∷ rest)) h a b = (a.0 ∙ sym b.0, a.1 ∙ sym b.1)
    by None h a b = elim h [ ]

pub some_or_none : {R : Type 0} (given : Answer) → Some given ≡ None → R
some_or_none given e = absurd (let f : ⊥ = cc in f)

pub stays_told : (whole : Bool) (rest left : Option (List Answer)) (said : Option Answer) → Says whole rest said left → AreAnswersTold rest → AreAnswersTold left
stays_told whole _ _ _ (told given rest) h = tt
stays_told whole _ _ _ (used_up e) h = tt
stays_told whole _ _ _ (untold said) h = h

-- where the answers are told and known to be not all, something is said
pub says_something : {R : Type 0} (rest left : Option (List Answer)) → AreAnswersTold rest → Says false rest None left → R
says_something rest left h says = by rest left None says h refl
  where
    by : {R : Type 0} (rest left : Option (List Answer)) (said : Option Answer) → Says false rest said left → AreAnswersTold rest → said ≡ None → R
    by _ _ _ (told given rest) h e = absurd (let f : ⊥ = cc in f)
    by _ _ _ (used_up e) h g = absurd (let f : ⊥ = cc in f)
    by _ _ _ (untold said) h e = absurd h
