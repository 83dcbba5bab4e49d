-- What stands behind a text with which a word begins, and before a text in which it ends.
use Rattle.std.proofs.Common.{◌≡◌, ℕ, ◌-◌, true, false, List, ◌∷◌, ◌++◌, length, take, drop, Option, Some, None, refl, sym, ap, ◌∙◌, subst, arith, []}
use Rattle.std.specs.Prelude.{codes}
use Rattle.std.proofs.Math.Seq.{drop-append_seam, take-append_seam}
use Rattle.std.proofs.lemmas.List.{length-append, take-append-drop}
use Rattle.std.specs.List.{list_all}
use Rattle.std.proofs.lemmas.Bool.{and_parts, false≢true}
use Rattle.std.proofs.lemmas.List.Folds.{list_all-append}
use Rattle.crm_lex.specs.Names.{is, is_name, is_name_byte}
use Rattle.crm_parse.specs.Reading.{Words, colon_at, prefixed_at}
use Rattle.crm_parse.specs.Texts.{after, before}
use Rattle.crm_parse.proofs.Binds.{is-same, is-true}
use Rattle.crm_parse.proofs.PairWords.{some-ok}

pub after-again : (text rest : List ℕ) → after text (text ++ rest) ≡ Some rest
after-again text rest = rw (take-append_seam text rest, drop-append_seam text rest, is-same text) refl

pub after-some : (text word rest : List ℕ) → after text word ≡ Some rest → word ≡ text ++ rest
after-some text word rest e =
    let (behind, same) = some-ok (is (take (length text) word) text) (drop (length text) word) rest e in
    let front : take (length text) word ≡ text = is-true (take (length text) word) text same in
    sym (take-append-drop (length text) word) ∙ rw (front, behind) refl

pub before-again : (text front : List ℕ) → before text (front ++ text) ≡ Some front
before-again text front =
    let n : length (front ++ text) - length text ≡ length front = omega (arith, length-append front text) in
    rw (n, take-append_seam front text, drop-append_seam front text, is-same text) refl

pub before-some : (text word front : List ℕ) → before text word ≡ Some front → word ≡ front ++ text
before-some text word front e =
    let n = length word - length text in
    let (first, same) = some-ok (is (drop n word) text) (take n word) front e in
    let behind : drop n word ≡ text = is-true (drop n word) text same in
    sym (take-append-drop n word) ∙ rw (behind, first) refl

-- the word of a text behind its label, where there is one
abbrev pub noted_words : List ℕ → Option (List ℕ) → Words
noted_words label None = []
noted_words label (Some text) = (label ++ text) ∷ []

-- the word of an id before its colon, where there is one
abbrev pub given_words : Option (List ℕ) → Words
given_words None = []
given_words (Some id) = (id ++ codes ":") ∷ []

noted-case : (text word : List ℕ) (words : Words) (found : Option (List ℕ)) (read : Option (List ℕ) × Words) → after text word ≡ found
    → prefixed_at text (word ∷ words) ≡ read → word ∷ words ≡ noted_words text read.0 ++ read.1
noted-case text word words None read f e =
    let pair : (None, word ∷ words) ≡ read = rw (f, prefixed_at) at e in
    ap (λ (r : Option (List ℕ) × Words). noted_words text r.0 ++ r.1) pair
noted-case text word words (Some rest) read f e =
    let pair : (Some rest, words) ≡ read = rw (f, prefixed_at) at e in
    let whole : word ≡ text ++ rest = after-some text word rest f in
    ap (λ w. w ∷ words) whole ∙ ap (λ (r : Option (List ℕ) × Words). noted_words text r.0 ++ r.1) pair

-- what was read behind a label stands there
pub prefixed_at-words : (text : List ℕ) (words : Words) (read : Option (List ℕ) × Words) → prefixed_at text words ≡ read
    → words ≡ noted_words text read.0 ++ read.1
prefixed_at-words text [] read e = ap (λ (r : Option (List ℕ) × Words). noted_words text r.0 ++ r.1) e
prefixed_at-words text (word ∷ words) read e = noted-case text word words (after text word) read refl e

-- and is read again
pub prefixed_at-again : (text : List ℕ) (noted : Option (List ℕ)) (words : Words) → prefixed_at text words ≡ (None, words)
    → prefixed_at text (noted_words text noted ++ words) ≡ (noted, words)
prefixed_at-again text None words h = h
prefixed_at-again text (Some rest) words h = rw (prefixed_at, after-again text rest) refl

given-case : (word : List ℕ) (words : Words) (found : Option (List ℕ)) (read : Option (List ℕ) × Words) → before (codes ":") word ≡ found
    → colon_at (word ∷ words) ≡ read → word ∷ words ≡ given_words read.0 ++ read.1
given-case word words None read f e =
    let pair : (None, word ∷ words) ≡ read = rw (f, colon_at) at e in
    ap (λ (r : Option (List ℕ) × Words). given_words r.0 ++ r.1) pair
given-case word words (Some id) read f e =
    let pair : (Some id, words) ≡ read = rw (f, colon_at) at e in
    let whole : word ≡ id ++ codes ":" = before-some (codes ":") word id f in
    ap (λ w. w ∷ words) whole ∙ ap (λ (r : Option (List ℕ) × Words). given_words r.0 ++ r.1) pair

-- what was read before a colon stands there
pub colon_at-words : (words : Words) (read : Option (List ℕ) × Words) → colon_at words ≡ read → words ≡ given_words read.0 ++ read.1
colon_at-words [] read e = ap (λ (r : Option (List ℕ) × Words). given_words r.0 ++ r.1) e
colon_at-words (word ∷ words) read e = given-case word words (before (codes ":") word) read refl e

-- and is read again
pub colon_at-again : (id : Option (List ℕ)) (words : Words) → colon_at words ≡ (None, words) → colon_at (given_words id ++ words) ≡ (id, words)
colon_at-again None words h = h
colon_at-again (Some id) words h = rw (before-again (codes ":") id, colon_at) refl

-- a name has no byte that isn't one of a name
pub name-without : (front back : List ℕ) (b : ℕ) → is_name_byte b ≡ false → is_name (front ++ b ∷ back) ≡ true → ⊥
name-without front back b h e =
    let word = front ++ b ∷ back in
    let all : list_all is_name_byte word ≡ true = (and_parts _ _ e).1 in
    let some : list_all is_name_byte (b ∷ back) ≡ true = (and_parts _ _ (sym (list_all-append is_name_byte front (b ∷ back)) ∙ all)).1 in
    let one : is_name_byte b ≡ true = (and_parts _ _ some).0 in
    false≢true (sym h ∙ one)

-- what gives nothing else gives nothing
pub none_by : {A : Type 0} (o : Option A) → ((x : A) → o ≡ Some x → ⊥) → o ≡ None
none_by None f = refl
none_by (Some x) f = absurd (f x refl)

-- no name ends in a colon
pub name-no_colon : (name : List ℕ) → is_name name ≡ true → before (codes ":") name ≡ None
name-no_colon name h = none_by (before (codes ":") name) (λ front e. name-without front [] 58 refl (subst (λ w. is_name w ≡ true) (before-some (codes ":") name front e) h))

pub name-no_colon_at : (name : List ℕ) (words : Words) → is_name name ≡ true → colon_at (name ∷ words) ≡ (None, name ∷ words)
name-no_colon_at name words h = rw (name-no_colon name h, colon_at) refl

-- no name begins with `description=`
pub name-no_description : (name : List ℕ) → is_name name ≡ true → after (codes "description=") name ≡ None
name-no_description name h =
    none_by (after (codes "description=") name) (λ rest e. name-without (codes "description") rest 61 refl (subst (λ w. is_name w ≡ true) (after-some (codes "description=") name rest e) h))
