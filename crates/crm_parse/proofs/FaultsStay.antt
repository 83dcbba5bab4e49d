-- A fault that isn't a missing word stays the same, whatever words stand behind: how the steps of a reader go on where more words follow.
use Rattle.std.proofs.Common.{◌≡◌, ◌⊎◌, inl, inr, ℕ, List, [], ◌∷◌, ◌++◌, Result, Ok, Err, refl, ap}
use Rattle.faults.specs.Reading.{◌>>=◌}
use Rattle.crm_parse.specs.declared.fault.ParseCause.{ParseCause}
use Rattle.crm_parse.specs.declared.fault.ParseCause.TheVariants.{MissingWord}
use Rattle.crm_parse.specs.Reading.{Words, end_at, name_at, name_of, next_word_in}
use Rattle.crm_parse.proofs.Binds.{ok-same}

-- what is at fault stays so, but where a word is missing
abbrev pub Stays : {A B : Type 0} → ParseCause → Result A ParseCause → Result B ParseCause → Type 0
Stays cause read again = read ≡ Err cause → (cause ≡ MissingWord) ⊎ (again ≡ Err cause)

-- what is read stays so, with more words left
abbrev pub Goes : {T : Type 0} → (T → T) → Result T ParseCause → Result T ParseCause → Type 0
Goes {T} push read again = (got : T) → read ≡ Ok got → again ≡ Ok (push got)

-- more words behind those that are left
abbrev pub left : {A : Type 0} → Words → A × Words → A × Words
left more got = (got.0, got.1 ++ more)

-- and behind those that are left beside the words that are kept
abbrev pub left_kept : {A : Type 0} → Words → A × Words × Words → A × Words × Words
left_kept more got = (got.0, got.1, got.2 ++ more)

pub ok-stays : {A B : Type 0} (cause : ParseCause) (x : A) (again : Result B ParseCause) → (let read : Result A ParseCause = Ok x in read) ≡ Err cause
    → (cause ≡ MissingWord) ⊎ (again ≡ Err cause)
ok-stays cause x again e = cc

pub missing-stays : {A B : Type 0} (cause : ParseCause) (again : Result B ParseCause) → (let read : Result A ParseCause = Err MissingWord in read) ≡ Err cause
    → (cause ≡ MissingWord) ⊎ (again ≡ Err cause)
missing-stays cause again e = inl (cc)

-- a fault is one whatever would have been read
pub same-fault : {A B : Type 0} (why cause : ParseCause) → (let read : Result A ParseCause = Err why in read) ≡ Err cause
    → (let other : Result B ParseCause = Err why in other) ≡ Err cause
same-fault why cause e = let same : why ≡ cause = cc in ap (λ (c : ParseCause). Err c) same

pub err-stays : {A B : Type 0} (cause why : ParseCause) → (let read : Result A ParseCause = Err why in read) ≡ Err cause
    → (cause ≡ MissingWord) ⊎ ((let again : Result B ParseCause = Err why in again) ≡ Err cause)
err-stays cause why e = inr (same-fault why cause e)

pub carry : {B D : Type 0} (cause : ParseCause) (again : Result B ParseCause) (next : Result D ParseCause) → (cause ≡ MissingWord) ⊎ (again ≡ Err cause)
    → (again ≡ Err cause → next ≡ Err cause) → (cause ≡ MissingWord) ⊎ (next ≡ Err cause)
carry cause again next (inl m) f = inl m
carry cause again next (inr h) f = inr (f h)

-- one step, and what follows it with and without more words
pub step-by : {T B : Type 0} (cause : ParseCause) (push : T → T) (read again : Result T ParseCause) (f h : T → Result B ParseCause) → Stays cause read again → Goes push read again
    → ((got : T) → read ≡ Ok got → Stays cause (f got) (h (push got))) → Stays cause (read >>= f) (again >>= h)
step-by cause push (Ok got) again f h s g k e = carry cause (h (push got)) (again >>= h) (k got refl e) (λ w. rw (g got refl) w)
step-by cause push (Err why) again f h s g k e = carry cause again (again >>= h) (s (same-fault why cause e)) (λ w. rw w refl)

-- where the same follows
pub step : {T B : Type 0} (cause : ParseCause) (push : T → T) (read again : Result T ParseCause) (f : T → Result B ParseCause) → Stays cause read again → Goes push read again
    → ((got : T) → read ≡ Ok got → Stays cause (f got) (f (push got))) → Stays cause (read >>= f) (again >>= f)
step cause push read again f s g k = step-by cause push read again f f s g k

pub goes-step : {T U : Type 0} (push : T → T) (push_on : U → U) (read again : Result T ParseCause) (f : T → Result U ParseCause) → Goes push read again
    → ((got : T) → read ≡ Ok got → Goes push_on (f got) (f (push got))) → Goes push_on (read >>= f) (again >>= f)
goes-step push push_on (Ok got) again f g k last e = rw (g got refl) (k got refl last e)
goes-step push push_on (Err why) again f g k last e = cc

-- a step that reads no word
pub test-stays : {A B : Type 0} (cause : ParseCause) (t : Result A ParseCause) (f h : A → Result B ParseCause) → ((x : A) → t ≡ Ok x → Stays cause (f x) (h x))
    → Stays cause (t >>= f) (t >>= h)
test-stays cause (Ok x) f h k e = k x refl e
test-stays cause (Err why) f h k e = err-stays cause why e

pub test-goes : {A U : Type 0} (push : U → U) (t : Result A ParseCause) (f h : A → Result U ParseCause) → ((x : A) → t ≡ Ok x → Goes push (f x) (h x))
    → Goes push (t >>= f) (t >>= h)
test-goes push (Ok x) f h k got e = k x refl got e
test-goes push (Err why) f h k got e = cc

-- the last step of a reader
pub last-stays : {A B : Type 0} (cause : ParseCause) (read again : Result A ParseCause) (f : A → B) → Stays cause read again
    → Stays cause (read >>= (λ x. Ok (f x))) (again >>= (λ x. Ok (f x)))
last-stays cause (Ok x) again f s e = cc
last-stays cause (Err why) again f s e = carry cause again (again >>= (λ x. Ok (f x))) (s (same-fault why cause e)) (λ h. rw h refl)

pub ok-goes : {T : Type 0} (push : T → T) (made : T) → Goes push (let read : Result T ParseCause = Ok made in read) (Ok (push made))
ok-goes push made got e = let same : made ≡ got = cc in ap (λ g. Ok (push g)) same

-- a step after which words may be left or not: what follows it lacks a word at most where none is left
pub greedy-by : {A B : Type 0} (cause : ParseCause) (more : Words) (read again : Result (A × Words) ParseCause) (f h : A × Words → Result B ParseCause)
    → Stays cause read again → ((x : A) (word : List ℕ) (rest : Words) → read ≡ Ok (x, word ∷ rest) → again ≡ Ok (x, word ∷ (rest ++ more)))
    → ((x : A) → f (x, []) ≡ Err cause → cause ≡ MissingWord)
    → ((x : A) (word : List ℕ) (rest : Words) → read ≡ Ok (x, word ∷ rest) → Stays cause (f (x, word ∷ rest)) (h (x, word ∷ (rest ++ more))))
    → Stays cause (read >>= f) (again >>= h)
greedy-by cause more (Ok (x, [])) again f h s g n k e = inl (n x e)
greedy-by cause more (Ok (x, word ∷ rest)) again f h s g n k e =
    carry cause (h (x, word ∷ (rest ++ more))) (again >>= h) (k x word rest refl e) (λ w. rw (g x word rest refl) w)
greedy-by cause more (Err why) again f h s g n k e = carry cause again (again >>= h) (s (same-fault why cause e)) (λ w. rw w refl)

pub greedy-step : {A B : Type 0} (cause : ParseCause) (more : Words) (read again : Result (A × Words) ParseCause) (f : A × Words → Result B ParseCause)
    → Stays cause read again → ((x : A) (word : List ℕ) (rest : Words) → read ≡ Ok (x, word ∷ rest) → again ≡ Ok (x, word ∷ (rest ++ more)))
    → ((x : A) → f (x, []) ≡ Err cause → cause ≡ MissingWord)
    → ((x : A) (word : List ℕ) (rest : Words) → read ≡ Ok (x, word ∷ rest) → Stays cause (f (x, word ∷ rest)) (f (x, word ∷ (rest ++ more))))
    → Stays cause (read >>= f) (again >>= f)
greedy-step cause more read again f s g n k = greedy-by cause more read again f f s g n k

-- no word is left
pub nothing-left : {A C : Type 0} (y x : A) (word : List ℕ) (rest : Words) → (let read : Result (A × Words) ParseCause = Ok (y, []) in read) ≡ Ok (x, word ∷ rest) → C
nothing-left {A} {C} y x word rest e =
    let same : (y, []) ≡ (x, word ∷ rest) = ok-same _ _ e in
    let none : (let words : Words = [] in words) ≡ word ∷ rest = ap (λ (made : A × Words). made.1) same in
    absurd (cc)

-- what is read stays so where a word is left behind it
abbrev pub GoesOn : {A : Type 0} → Words → Result (A × Words) ParseCause → Result (A × Words) ParseCause → Type 0
GoesOn {A} more read again = (x : A) (word : List ℕ) (rest : Words) → read ≡ Ok (x, word ∷ rest) → again ≡ Ok (x, word ∷ (rest ++ more))

pub goes-on-by : {T B : Type 0} (push : T → T) (more : Words) (read again : Result T ParseCause) (f h : T → Result (B × Words) ParseCause) → Goes push read again
    → ((got : T) → read ≡ Ok got → GoesOn more (f got) (h (push got))) → GoesOn more (read >>= f) (again >>= h)
goes-on-by push more (Ok got) again f h g k x word rest e = rw (g got refl) (k got refl x word rest e)
goes-on-by push more (Err why) again f h g k x word rest e = cc

pub goes-on-step : {T B : Type 0} (push : T → T) (more : Words) (read again : Result T ParseCause) (f : T → Result (B × Words) ParseCause) → Goes push read again
    → ((got : T) → read ≡ Ok got → GoesOn more (f got) (f (push got))) → GoesOn more (read >>= f) (again >>= f)
goes-on-step push more read again f g k = goes-on-by push more read again f f g k

pub test-goes-on : {A B : Type 0} (more : Words) (t : Result A ParseCause) (f h : A → Result (B × Words) ParseCause) → ((x : A) → t ≡ Ok x → GoesOn more (f x) (h x))
    → GoesOn more (t >>= f) (t >>= h)
test-goes-on more (Ok y) f h k x word rest e = k y refl x word rest e
test-goes-on more (Err why) f h k x word rest e = cc

-- a step that leaves a word or not, and then one that has to find one
pub greedy-goes-on : {A B : Type 0} (more : Words) (read again : Result (A × Words) ParseCause) (f : A × Words → Result (B × Words) ParseCause) → GoesOn more read again
    → ((y : A) (x : B) (word : List ℕ) (rest : Words) → f (y, []) ≡ Ok (x, word ∷ rest) → ⊥)
    → ((y : A) (word : List ℕ) (rest : Words) → read ≡ Ok (y, word ∷ rest) → GoesOn more (f (y, word ∷ rest)) (f (y, word ∷ (rest ++ more))))
    → GoesOn more (read >>= f) (again >>= f)
greedy-goes-on more (Ok (y, [])) again f g n k x word rest e = absurd (n y x word rest e)
greedy-goes-on more (Ok (y, v ∷ vs)) again f g n k x word rest e = rw (g y v vs refl) (k y v vs refl x word rest e)
greedy-goes-on more (Err why) again f g n k x word rest e = cc

pub last-goes-on : {A B : Type 0} (more : Words) (read again : Result (A × Words) ParseCause) (f : A → B) → GoesOn more read again
    → GoesOn more (read >>= (λ got. Ok (f got.0, got.1))) (again >>= (λ got. Ok (f got.0, got.1)))
last-goes-on more (Ok (y, [])) again f g x word rest e = nothing-left (f y) x word rest e
last-goes-on more (Ok (y, v ∷ vs)) again f g x word rest e =
    let same : (f y, v ∷ vs) ≡ (x, word ∷ rest) = ok-same _ _ e in
    rw (g y v vs refl) (ap (λ made. Ok (left more made)) same)
last-goes-on more (Err why) again f g x word rest e = cc

-- the next word
module _ (cause : ParseCause) (more : Words) where
  pub next-stays : (words : Words) → Stays cause (next_word_in words) (next_word_in (words ++ more))
  next-stays [] e = missing-stays cause (next_word_in more) e
  next-stays (word ∷ words) e = cc

  pub next-goes : (words : Words) → Goes (left more) (next_word_in words) (next_word_in (words ++ more))
  next-goes [] got e = cc
  next-goes (word ∷ words) got e = ok-goes (left more) (word, words) got e

  -- a name
  pub name-stays : (words : Words) → Stays cause (name_at words) (name_at (words ++ more))
  unfolding name_at
  name-stays words = step cause (left more) (next_word_in words) (next_word_in (words ++ more)) _ (next-stays words) (next-goes words)
      (λ word e. test-stays cause (name_of word.0) _ _ (λ name h. ok-stays cause (name, word.1) _))

  pub name-goes : (words : Words) → Goes (left more) (name_at words) (name_at (words ++ more))
  unfolding name_at
  name-goes words = goes-step (left more) (left more) (next_word_in words) (next_word_in (words ++ more)) _ (next-goes words)
      (λ word e. test-goes (left more) (name_of word.0) _ _ (λ name h. ok-goes (left more) (name, word.1)))

  -- no word is left
  pub end-stays : (words : Words) → Stays cause (end_at words) (end_at (words ++ more))
  end-stays [] e = cc
  end-stays (word ∷ words) e = inr e
