-- Words that end too early can be continued: how the steps of a reader go on with more words, where it finds that one is missing.
use Rattle.std.proofs.Common.{◌≡◌, ◌≢◌, ℕ, Bool, true, false, cond, List, [], ◌∷◌, ◌++◌, Option, Some, None, Result, Ok, Err, refl, sym, ◌∙◌, subst, take}
use Rattle.std.specs.Prelude.{codes, not}
use Rattle.std.specs.List.{AllByRecursion, list_all}
use Rattle.std.specs.Option.{ok_or}
use Rattle.std.proofs.lemmas.Bool.{and_parts}
use Rattle.crm_lex.specs.Names.{is}
use Rattle.faults.specs.Reading.{◌>>=◌}
use Rattle.crm_parse.specs.declared.fault.ParseCause.{ParseCause}
use Rattle.crm_parse.specs.declared.fault.ParseCause.TheVariants.{BadValue, MissingWord}
use Rattle.crm_parse.specs.FirstFaults.{LacksEnabled}
use Rattle.crm_parse.specs.Keys.{when}
use Rattle.crm_parse.specs.Reading.{Words, name_at, name_of, next_word_in}
use Rattle.crm_parse.proofs.FaultsStay.{Goes, left, same-fault}

-- the word isn't one that says whether an operation is enabled
abbrev is_other : List ℕ → Bool
is_other word = not (is (take 8 word) (codes "enabled="))

other-lacks : (word : List ℕ) → is_other word ≡ true → LacksEnabled word
other-lacks word o value e =
    let same : is_other (codes "enabled=" ++ value) ≡ true = subst (λ w. is_other w ≡ true) e o in
    absurd (cc)

pub lacks-enabled : (words : Words) → list_all is_other words ≡ true → AllByRecursion LacksEnabled words
lacks-enabled [] h = tt
lacks-enabled (word ∷ words) h =
    let p = and_parts (is_other word) (list_all is_other words) h in
    (other-lacks word p.0, lacks-enabled words p.1)

-- with some words more, which don't say whether an operation is enabled, a reader answers, and of its answer this holds
pub record GoesFurther {T : Type 0} (Ends : T → Type 0) (again : Words → Result T ParseCause) : Type 0 where
  pub more : Words
  pub plain : AllByRecursion LacksEnabled more
  pub made : T
  pub gives : again more ≡ Ok made
  pub ends : Ends made

pub further : {T : Type 0} (Ends : T → Type 0) (again : Words → Result T ParseCause) (more : Words) (made : T) → again more ≡ Ok made
    → list_all is_other more ≡ true → Ends made → GoesFurther Ends again
further Ends again more made e o h = record { more = more; plain = lacks-enabled more o; made = made; gives = e; ends = h }

-- nothing is asked of the answer; no word is left; or none is left behind the words that are kept
abbrev pub Whatever : {T : Type 0} → T → Type 0
Whatever made = Unit {0}

abbrev pub Through : {A : Type 0} → A × Words → Type 0
Through made = made.1 ≡ []

abbrev pub ThroughKept : {A : Type 0} → A × Words × Words → Type 0
ThroughKept made = made.2 ≡ []

-- where a word is missing, the reader goes further with more
abbrev pub Continues : {A B : Type 0} → (B → Type 0) → Result A ParseCause → (Words → Result B ParseCause) → Type 0
Continues Ends read again = read ≡ Err MissingWord → GoesFurther Ends again

-- no word is missing
abbrev pub LacksNone : {A : Type 0} → Result A ParseCause → Type 0
LacksNone read = read ≡ Err MissingWord → ⊥

pub none-cause : {A : Type 0} (cause : ParseCause) → cause ≢ MissingWord → LacksNone (let read : Result A ParseCause = Err cause in read)
none-cause cause n e = n (cc)

pub none-when : (test : Bool) (cause : ParseCause) → cause ≢ MissingWord → LacksNone (when test cause)
none-when true cause n e = cc
none-when false cause n e = n (cc)

pub none-if : {A : Type 0} (test : Bool) (one other : Result A ParseCause) → LacksNone one → LacksNone other → LacksNone (cond test one other)
none-if true one other n m = n
none-if false one other n m = m

pub none-ok_or : {A : Type 0} (found : Option A) (cause : ParseCause) → cause ≢ MissingWord → LacksNone (ok_or found cause)
none-ok_or (Some x) cause n e = cc
none-ok_or None cause n e = n (cc)

pub none-step : {A B : Type 0} (t : Result A ParseCause) (f : A → Result B ParseCause) → LacksNone t → ((x : A) → LacksNone (f x)) → LacksNone (t >>= f)
none-step (Ok x) f n m = m x
none-step (Err why) f n m = λ e. n (same-fault why MissingWord e)

pub none-name : (word : List ℕ) → LacksNone (name_of word)
none-name word = none-if _ (Ok word) (Err BadValue) (λ e. cc) (λ e. cc)

-- one step, and what follows it
pub continue-step : {T B : Type 0} (Ends : B → Type 0) (push : Words → T → T) (read : Result T ParseCause) (again : Words → Result T ParseCause) (f : T → Result B ParseCause)
    → ((more : Words) → Goes (push more) read (again more)) → (read ≡ Err MissingWord → GoesFurther Ends (λ more. again more >>= f))
    → ((got : T) → read ≡ Ok got → Continues Ends (f got) (λ more. f (push more got)))
    → Continues Ends (read >>= f) (λ more. again more >>= f)
continue-step Ends push (Ok got) again f g m k e =
    let on = k got refl e in
    record { more = on.more; plain = on.plain; made = on.made; gives = rw (g on.more got refl) on.gives; ends = on.ends }
continue-step Ends push (Err why) again f g m k e = m (same-fault why MissingWord e)

-- a step that reads no word
pub continue-test : {A B : Type 0} (Ends : B → Type 0) (t : Result A ParseCause) (f : A → Result B ParseCause) (h : A → Words → Result B ParseCause) → LacksNone t
    → ((x : A) → t ≡ Ok x → Continues Ends (f x) (h x)) → Continues Ends (t >>= f) (λ more. t >>= (λ x. h x more))
continue-test Ends (Ok x) f h n k e = k x refl e
continue-test Ends (Err why) f h n k e = absurd (n (same-fault why MissingWord e))

-- where a word is missing in the step itself, and what follows it then lacks none
pub further-then : {T B : Type 0} (Stops : T → Type 0) (Ends : B → Type 0) (again : Words → Result T ParseCause) (f : T → Result B ParseCause) → GoesFurther Stops again
    → ((got : T) → Stops got → GoesFurther Ends (λ more. f got)) → GoesFurther Ends (λ more. again more >>= f)
further-then Stops Ends again f g k =
    let last = k g.made g.ends in
    record { more = g.more; plain = g.plain; made = last.made; gives = rw g.gives last.gives; ends = last.ends }

-- the last step of a reader
pub continue-last : {A B : Type 0} (Stops : A → Type 0) (Ends : B → Type 0) (read : Result A ParseCause) (again : Words → Result A ParseCause) (f : A → B)
    → ((x : A) → Stops x → Ends (f x)) → Continues Stops read again → Continues Ends (read >>= (λ x. Ok (f x))) (λ more. again more >>= (λ x. Ok (f x)))
continue-last Stops Ends (Ok x) again f h c e = cc
continue-last Stops Ends (Err why) again f h c e =
    let on = c (same-fault why MissingWord e) in
    record { more = on.more; plain = on.plain; made = f on.made; gives = rw on.gives refl; ends = h on.made on.ends }

-- a step that reads one word
pub continue-word : {A B : Type 0} (Ends : B → Type 0) (read : Words → Result (A × Words) ParseCause) (words : Words) (f : A × Words → Result B ParseCause)
    → ((more : Words) → Goes (left more) (read words) (read (words ++ more))) → (read words ≡ Err MissingWord → words ≡ [])
    → GoesFurther Ends (λ more. read more >>= f)
    → ((got : A × Words) → read words ≡ Ok got → Continues Ends (f got) (λ more. f (left more got)))
    → Continues Ends (read words >>= f) (λ more. read (words ++ more) >>= f)
continue-word Ends read words f g n o k =
    continue-step Ends left (read words) (λ more. read (words ++ more)) f g (λ e. subst (λ ws. GoesFurther Ends (λ more. read (ws ++ more) >>= f)) (sym (n e)) o) k

-- a step that may read a word, and finds none missing
pub continue-option : {A B : Type 0} (Ends : B → Type 0) (read : Words → Result (A × Words) ParseCause) (words : Words) (f : A × Words → Result B ParseCause)
    → ((more rest : Words) (word : List ℕ) → Goes (left more) (read (word ∷ rest)) (read (word ∷ (rest ++ more)))) → ((word : List ℕ) (rest : Words) → LacksNone (read (word ∷ rest)))
    → GoesFurther Ends (λ more. read more >>= f)
    → ((got : A × Words) → read words ≡ Ok got → Continues Ends (f got) (λ more. f (left more got)))
    → Continues Ends (read words >>= f) (λ more. read (words ++ more) >>= f)
continue-option Ends read [] f g n o k = λ e. o
continue-option Ends read (word ∷ rest) f g n o k =
    continue-step Ends left (read (word ∷ rest)) (λ more. read (word ∷ (rest ++ more))) f (λ more. g more rest word) (λ e. absurd (n word rest e)) k

-- the next word is missing where none is left
pub next-missing : (words : Words) → next_word_in words ≡ Err MissingWord → words ≡ []
next-missing [] e = refl
next-missing (word ∷ words) e = cc

pub name-missing : (words : Words) → name_at words ≡ Err MissingWord → words ≡ []
unfolding name_at
name-missing [] e = refl
name-missing (word ∷ words) e = absurd (none-step (name_of word) _ (none-name word) (λ name e. cc) e)

-- what a word that stands behind a word is read by
pub word-missing : {A : Type 0} (words : Words) (f : List ℕ × Words → Result A ParseCause) → ((word : List ℕ) (rest : Words) → LacksNone (f (word, rest)))
    → (next_word_in words >>= f) ≡ Err MissingWord → words ≡ []
word-missing [] f n e = refl
word-missing (word ∷ words) f n e = absurd (n word words e)

-- a step that goes further by itself, and what follows it lacks no word
pub continue-first : {T B : Type 0} (Stops : T → Type 0) (Ends : B → Type 0) (read : Result T ParseCause) (again : Words → Result T ParseCause) (f : T → Result B ParseCause)
    → Continues Stops read again → ((got : T) → Stops got → GoesFurther Ends (λ more. f got)) → ((got : T) → LacksNone (f got))
    → Continues Ends (read >>= f) (λ more. again more >>= f)
continue-first Stops Ends (Ok got) again f c k n e = absurd (n got e)
continue-first Stops Ends (Err why) again f c k n e = further-then Stops Ends again f (c (same-fault why MissingWord e)) k

-- readers that answer alike go alike
pub further-as : {T : Type 0} (Ends : T → Type 0) (again other : Words → Result T ParseCause) → ((more : Words) → other more ≡ again more) → GoesFurther Ends again
    → GoesFurther Ends other
further-as Ends again other s g = record { more = g.more; plain = g.plain; made = g.made; gives = s g.more ∙ g.gives; ends = g.ends }
