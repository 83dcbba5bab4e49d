-- The first physical line of a text, and the lines of a text in two parts.
use Rattle.std.proofs.Common.{◌≡◌, ℕ, zero, suc, ◌<◌, ◌≤◌, Bool, true, false, ◌==◌, if◌then◌else◌, List, [], ◌∷◌, ◌++◌, length, get_or, take, drop, refl, ap, ◌∙◌, append-nil, arith}
use Rattle.std.specs.List.{concat}
use Rattle.crm_lex.specs.RawLines.{ends_in, onto_first, physical_lines}

-- the first line feed stands at place k
pub first_line-feed : (bs : List ℕ) (k : ℕ) → k < length bs → ((j : ℕ) → j < k → (get_or bs j 0 == 10) ≡ false) → (get_or bs k 0 == 10) ≡ true
    → physical_lines bs ≡ take (suc k) bs ∷ physical_lines (drop (suc k) bs)
first_line-feed [] k within before at = absurd (omega arith)
first_line-feed (b ∷ bs) zero within before at = rw at refl
first_line-feed (b ∷ bs) (suc k) within before at =
    let more = first_line-feed bs k (omega arith) (λ j h. before (suc j) (omega arith)) at in
    let other : (b == 10) ≡ false = before 0 (omega arith) in
    rw (other, more) refl

-- there is no line feed
pub first_line-none : (bs : List ℕ) → 0 < length bs → ((j : ℕ) → j < length bs → (get_or bs j 0 == 10) ≡ false) → physical_lines bs ≡ bs ∷ []
first_line-none [] some before = absurd (omega arith)
first_line-none (b ∷ []) some before = let other : (b == 10) ≡ false = before 0 (omega arith) in rw other refl
first_line-none (b ∷ c ∷ cs) some before =
    let more = first_line-none (c ∷ cs) (omega arith) (λ j h. before (suc j) (omega arith)) in
    let other : (b == 10) ≡ false = before 0 (omega arith) in
    rw other (ap (onto_first b) more)

-- some lines, which are the physical lines of their bytes: each is one line, and each but the last ends in a line feed
abbrev pub Whole : List (List ℕ) → Type 0
Whole [] = Unit {0}
Whole (line ∷ []) = physical_lines line ≡ line ∷ []
Whole (line ∷ more) = (physical_lines line ≡ line ∷ []) × (ends_in 10 line ≡ true) × Whole more

ends_in-cons : (b : ℕ) (line : List ℕ) → ends_in 10 line ≡ true → ends_in 10 (b ∷ line) ≡ true
ends_in-cons b [] e = cc
ends_in-cons b (c ∷ cs) e = e

one-cons : (b : ℕ) (line : List ℕ) → (b == 10) ≡ false → physical_lines line ≡ line ∷ [] → physical_lines (b ∷ line) ≡ (b ∷ line) ∷ []
one-cons b line other one = rw (other, one) refl

one_byte : (b : ℕ) → (t : Bool) → (b == 10) ≡ t → physical_lines (b ∷ []) ≡ (b ∷ []) ∷ []
one_byte b true e = rw e refl
one_byte b false e = rw e refl

Whole-feed : (b : ℕ) (lines : List (List ℕ)) → (b == 10) ≡ true → Whole lines → Whole ((b ∷ []) ∷ lines)
Whole-feed b [] e w = one_byte b true e
Whole-feed b (line ∷ lines) e w = (one_byte b true e, e, w)

Whole-onto : (b : ℕ) (lines : List (List ℕ)) → (b == 10) ≡ false → Whole lines → Whole (onto_first b lines)
Whole-onto b [] e w = one_byte b false e
Whole-onto b (line ∷ []) e w = one-cons b line e w
Whole-onto b (line ∷ next ∷ more) e w = (one-cons b line e w.0, ends_in-cons b line w.1, w.2)

pub Whole-physical : (text : List ℕ) → Whole (physical_lines text)
Whole-physical [] = tt
Whole-physical (b ∷ bs) = split (b == 10) refl (Whole-physical bs)
  where
    split : (t : Bool) → (b == 10) ≡ t → Whole (physical_lines bs) → Whole (if t then (b ∷ []) ∷ physical_lines bs else onto_first b (physical_lines bs))
    split true e w = Whole-feed b (physical_lines bs) e w
    split false e w = Whole-onto b (physical_lines bs) e w

-- a front of whole lines, and what is behind it
pub Whole-front : (front back : List (List ℕ)) → Whole (front ++ back) → Whole front
Whole-front [] back w = tt
Whole-front (line ∷ []) [] w = w
Whole-front (line ∷ []) (next ∷ more) w = w.0
Whole-front (line ∷ next ∷ more) back w = (w.0, w.1, Whole-front (next ∷ more) back w.2)

Whole-tail : (line : List ℕ) (more : List (List ℕ)) → Whole (line ∷ more) → Whole more
Whole-tail line [] w = tt
Whole-tail line (next ∷ more) w = w.2

pub Whole-back : (front back : List (List ℕ)) → Whole (front ++ back) → Whole back
Whole-back [] back w = w
Whole-back (line ∷ front) back w = Whole-back front back (Whole-tail line (front ++ back) w)

-- a line before some text
lines-feed : (line text : List ℕ) → physical_lines line ≡ line ∷ [] → ends_in 10 line ≡ true → physical_lines (line ++ text) ≡ line ∷ physical_lines text
lines-feed [] text one e = cc
lines-feed (b ∷ []) text one e = rw e refl
lines-feed (b ∷ c ∷ cs) text one e = split (b == 10) refl one (λ more. lines-feed (c ∷ cs) text more e)
  where
    unonto : (lines : List (List ℕ)) → onto_first b lines ≡ (b ∷ c ∷ cs) ∷ [] → lines ≡ (c ∷ cs) ∷ []
    unonto [] g = cc
    unonto (line ∷ lines) g = cc

    split : (t : Bool) → (b == 10) ≡ t → (if t then (b ∷ []) ∷ physical_lines (c ∷ cs) else onto_first b (physical_lines (c ∷ cs))) ≡ (b ∷ c ∷ cs) ∷ []
        → (physical_lines (c ∷ cs) ≡ (c ∷ cs) ∷ [] → physical_lines (c ∷ cs ++ text) ≡ (c ∷ cs) ∷ physical_lines text)
        → physical_lines (b ∷ c ∷ cs ++ text) ≡ (b ∷ c ∷ cs) ∷ physical_lines text
    split true other g rest = cc
    split false other g rest = let more = rest (unonto (physical_lines (c ∷ cs)) g) in rw (other, more) refl

-- whole lines are the physical lines of their bytes
pub lines-concat : (lines : List (List ℕ)) → Whole lines → physical_lines (concat lines) ≡ lines
lines-concat [] w = refl
lines-concat (line ∷ []) w = rw append-nil w
lines-concat (line ∷ next ∷ more) w = lines-feed line (concat (next ∷ more)) w.0 w.1 ∙ ap (λ xs. line ∷ xs) (lines-concat (next ∷ more) w.2)

concat-onto : (b : ℕ) (lines : List (List ℕ)) → concat (onto_first b lines) ≡ b ∷ concat lines
concat-onto b [] = refl
concat-onto b (line ∷ lines) = refl

pub concat-lines : (text : List ℕ) → concat (physical_lines text) ≡ text
concat-lines [] = refl
concat-lines (b ∷ bs) = split (b == 10) (concat-lines bs)
  where
    split : (t : Bool) → concat (physical_lines bs) ≡ bs → concat (if t then (b ∷ []) ∷ physical_lines bs else onto_first b (physical_lines bs)) ≡ b ∷ bs
    split true more = ap (λ xs. b ∷ xs) more
    split false more = concat-onto b (physical_lines bs) ∙ ap (λ xs. b ∷ xs) more

-- a text with bytes has lines
pub some_lines : (text : List ℕ) → 0 < length text → 0 < length (physical_lines text)
some_lines [] some = absurd (omega arith)
some_lines (b ∷ bs) some = split (b == 10) (physical_lines bs)
  where
    onto : (lines : List (List ℕ)) → 0 < length (onto_first b lines)
    onto [] = omega arith
    onto (line ∷ lines) = omega arith

    split : (t : Bool) (lines : List (List ℕ)) → 0 < length (if t then (b ∷ []) ∷ lines else onto_first b lines)
    split true lines = omega arith
    split false lines = onto lines

-- and no more lines than bytes
pub few_lines : (text : List ℕ) → length (physical_lines text) ≤ length text
few_lines [] = omega arith
few_lines (b ∷ bs) = split (b == 10) (physical_lines bs) (few_lines bs)
  where
    onto : (lines : List (List ℕ)) → length lines ≤ length bs → length (onto_first b lines) ≤ length (b ∷ bs)
    onto [] h = omega arith
    onto (line ∷ lines) h = omega arith

    split : (t : Bool) (lines : List (List ℕ)) → length lines ≤ length bs → length (if t then (b ∷ []) ∷ lines else onto_first b lines) ≤ length (b ∷ bs)
    split true lines h = omega arith
    split false lines h = onto lines h
