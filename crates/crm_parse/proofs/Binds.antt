-- What a reader's steps say where it reads: each step's answer, and what the words are.
use Rattle.std.proofs.Common.{◌≡◌, ℕ, Bool, true, false, cond, eqb, List, [], ◌∷◌, Option, Some, None, Result, Ok, Err, refl, sym, ap, subst}
use Rattle.std.specs.Option.{ok_or}
use Rattle.std.proofs.lemmas.Bool.{and_parts, and_from, eqb-true, eq-eqb}
use Rattle.crm_lex.specs.Names.{is, is_name}
use Rattle.crm_parse.specs.declared.fault.ParseCause.{ParseCause}
use Rattle.crm_parse.specs.declared.fault.ParseCause.TheVariants.{BadValue}
use Rattle.crm_parse.specs.Keys.{when}
use Rattle.crm_parse.specs.Reading.{Words, next_word_in, name_of, name_at, some_name, colon_at, given_at}
use Rattle.faults.proofs.Steps.{bind-ok}

-- a text is itself
pub is-same : (word : List ℕ) → is word word ≡ true
is-same [] = refl
is-same (b ∷ bs) = and_from (eqb b b) (is bs bs) (eq-eqb b b refl) (is-same bs)

-- texts that are equal byte by byte are one
pub is-true : (word text : List ℕ) → is word text ≡ true → word ≡ text
is-true [] [] e = refl
is-true [] (b ∷ bs) e = cc
is-true (b ∷ bs) [] e = cc
is-true (b ∷ bs) (c ∷ cs) e =
    let p = and_parts (eqb b c) (is bs cs) e in
    let h : b ≡ c = eqb-true b c p.0 in
    let t : bs ≡ cs = is-true bs cs p.1 in
    cc

-- equal answers give equal values
pub ok-same : {A : Type 0} (one other : A) → (let first : Result A ParseCause = Ok one in first) ≡ Ok other → one ≡ other
ok-same one other e = cc

-- a word was there
pub word_at-ok : (words : Words) (read : List ℕ × Words) → next_word_in words ≡ Ok read → words ≡ read.0 ∷ read.1
word_at-ok [] read e = cc
word_at-ok (word ∷ words) read e =
    let h : (word, words) ≡ read = cc in
    ap (λ (r : List ℕ × Words). r.0 ∷ r.1) h

-- a step that passes a test or is at fault
pub test-ok : {A : Type 0} (test : Bool) (x y : A) (cause : ParseCause) → cond test (Ok x) (Err cause) ≡ Ok y → (y ≡ x) × (test ≡ true)
test-ok true x y cause e = (cc, refl)
test-ok false x y cause e = cc

-- and one that is at fault where it passes a test
pub unless-ok : {B : Type 0} (test : Bool) (r : Result B ParseCause) (y : B) (cause : ParseCause) → cond test (Err cause) r ≡ Ok y → (r ≡ Ok y) × (test ≡ false)
unless-ok true r y cause e = cc
unless-ok false r y cause e = (e, refl)

-- a step that goes on where it passes a test
pub if-ok : {B : Type 0} (test : Bool) (r : Result B ParseCause) (y : B) (cause : ParseCause) → cond test r (Err cause) ≡ Ok y → (r ≡ Ok y) × (test ≡ true)
if-ok true r y cause e = (e, refl)
if-ok false r y cause e = cc

pub when-ok : (test : Bool) (cause : ParseCause) (y : Unit {0}) → when test cause ≡ Ok y → test ≡ true
when-ok test cause y e = (test-ok test tt y cause e).1

pub ok_or-ok : {A : Type 0} (o : Option A) (cause : ParseCause) (y : A) → ok_or o cause ≡ Ok y → o ≡ Some y
ok_or-ok None cause y e = cc
ok_or-ok (Some x) cause y e = cc

-- a name
pub name_of-ok : (word name : List ℕ) → name_of word ≡ Ok name → (name ≡ word) × (is_name word ≡ true)
name_of-ok word name e = test-ok (is_name word) word name BadValue e

pub name_of-again : (name : List ℕ) → is_name name ≡ true → name_of name ≡ Ok name
name_of-again name h = rw h refl

-- the next word, a name
pub name_at-ok : (words : Words) (read : List ℕ × Words) → name_at words ≡ Ok read → (words ≡ read.0 ∷ read.1) × (is_name read.0 ≡ true)
unfolding name_at
name_at-ok words read e =
    let (word, at, rest) = bind-ok (next_word_in words) _ read e in
    let (name, is_one, last) = bind-ok (name_of word.0) _ read rest in
    let (same, good) = name_of-ok word.0 name is_one in
    let whole : words ≡ word.0 ∷ word.1 = word_at-ok words word at in
    let pair : (name, word.1) ≡ read = cc in
    let first : name ≡ read.0 = ap (λ (r : List ℕ × Words). r.0) pair in
    let behind : word.1 ≡ read.1 = ap (λ (r : List ℕ × Words). r.1) pair in
    (cc, cc)

pub name_at-again : (name : List ℕ) (words : Words) → is_name name ≡ true → name_at (name ∷ words) ≡ Ok (name, words)
unfolding name_at
name_at-again name words h = rw h refl

-- a name where one was written
pub some_name-ok : (word name : Option (List ℕ)) → some_name word ≡ Ok name → (name ≡ word) × (some_name word ≡ Ok word)
some_name-ok None name e = (cc, refl)
some_name-ok (Some word) name e =
    let (read, is_one, last) = bind-ok (name_of word) _ name e in
    let (same, good) = name_of-ok word read is_one in
    let whole : name ≡ Some word = cc in
    (whole, rw good refl)

pub some_name-name : (word : List ℕ) → some_name (Some word) ≡ Ok (Some word) → is_name word ≡ true
some_name-name word e =
    let (read, is_one, last) = bind-ok (name_of word) _ (Some word) e in
    (name_of-ok word read is_one).1

-- an id before its colon, where one was written
pub given_at-ok : (words : Words) (read : Option (List ℕ) × Words) → given_at words ≡ Ok read → (read ≡ colon_at words) × (some_name read.0 ≡ Ok read.0)
unfolding given_at
given_at-ok words read e =
    let (id, is_one, last) = bind-ok (some_name (colon_at words).0) _ read e in
    let (same, good) = some_name-ok (colon_at words).0 id is_one in
    let pair : (id, (colon_at words).1) ≡ read = cc in
    let first : id ≡ read.0 = ap (λ (r : Option (List ℕ) × Words). r.0) pair in
    let whole : read ≡ ((colon_at words).0, (colon_at words).1) = cc in
    let id_is : read.0 ≡ (colon_at words).0 = cc in
    (whole, subst (λ o. some_name o ≡ Ok o) (sym id_is) good)

pub given_at-again : (id : Option (List ℕ)) (rest words : Words) → colon_at words ≡ (id, rest) → some_name id ≡ Ok id → given_at words ≡ Ok (id, rest)
unfolding given_at
given_at-again id rest words c h = rw (c, h) refl
