-- Pairs that are read are those that the words say, and the other way round.
use Rattle.std.proofs.Common.{◌≡◌, ◌≢◌, inl, inr, ℕ, Bool, true, false, not, ◌==◌, ◌&&◌, List, [], ◌∷◌, ◌++◌, length, Ok, refl, sym, ap, ◌∙◌, subst, append_assoc, append-nil, arith}
use Rattle.std.specs.Prelude.{codes}
use Rattle.std.specs.List.{AllByRecursion, list_any}
use Rattle.std.proofs.lemmas.Bool.{ne_eqb, or_from, or_parts, false≢true}
use Rattle.crm_lex.specs.Names.{is}
use Rattle.crm_parse.specs.declared.fault.ParseCause.TheVariants.{RepeatedKey, Unsupported}
use Rattle.crm_parse.specs.declared.pair.Kv.{Kv}
use Rattle.crm_parse.specs.declared.place.Place.{Place}
use Rattle.crm_parse.specs.Keys.{accepts}
use Rattle.crm_parse.specs.Pairs.{is_same_key, kv_of, pair_of, repeats, with_pair, with_pairs, with_section}
use Rattle.crm_parse.specs.Reading.{Words}
use Rattle.faults.proofs.Steps.{bind-ok}
use Rattle.crm_parse.proofs.Binds.{is-same, is-true, unless-ok}
use Rattle.crm_parse.proofs.PairLists.{pair_words}
use Rattle.crm_parse.proofs.PairWords.{pair_word, pair_of-parts}
use Rattle.crm_parse.proofs.PairsAgain.{cut_at-again, pair_word-differs}
use Rattle.crm_parse.specs.Grammar.Phrases.{EachSays, no_word, one_word}
use Rattle.crm_parse.specs.Grammar.Parts.{EachTwo, MayStandBoth, PairSays, a_pair}

-- one pair
pub filled-key : (key : List ℕ) → (length key == 0) ≡ false → key ≢ []
filled-key [] h e = false≢true (sym h)
filled-key (b ∷ bs) h e = cc

pub key-filled : (key : List ℕ) → key ≢ [] → (length key == 0) ≡ false
key-filled [] h = absurd (h refl)
key-filled (b ∷ bs) h = ne_eqb _ _ (λ e. let f : ⊥ = omega (arith, e) in f)

pub pair-said : (place : Place) (word : List ℕ) (kv : Kv) → kv_of place word ≡ Ok kv → PairSays place word kv
unfolding kv_of
pair-said place word kv e =
    let (parts, cut, taken) = bind-ok (pair_of place word) _ kv e in
    let (done, is_taken, last) = bind-ok (accepts place parts.0 parts.1) _ kv taken in
    let found = pair_of-parts place word parts cut in
    let same : record { key = parts.0; value = parts.1 } ≡ kv = cc in
    subst (PairSays place word) same
    (subst (λ w. PairSays place w (record { key = parts.0; value = parts.1 })) (sym found.joined.whole)
    (a_pair parts.0 parts.1 (filled-key parts.0 found.some) found.joined.lacks is_taken))

pub pair-read : (place : Place) (word : List ℕ) (kv : Kv) → PairSays place word kv → kv_of place word ≡ Ok kv
unfolding kv_of
pair-read place w k (a_pair key value some lacks taken) = rw (kv_of, pair_of, cut_at-again 61 key value lacks, key-filled key some, taken) refl

pair-spelled : (place : Place) (word : List ℕ) (kv : Kv) → PairSays place word kv → word ≡ pair_word kv
pair-spelled place w k (a_pair key value some lacks taken) = refl

pub pairs-spelled : (place : Place) (words : Words) (kvs : List Kv) → EachSays (PairSays place) words kvs → words ≡ pair_words kvs
pairs-spelled place ws ks no_word = refl
pairs-spelled place ws ks (one_word word kv words kvs s more) =
    ap (λ w. w ∷ words) (pair-spelled place word kv s) ∙ ap (λ ws. pair_word kv ∷ ws) (pairs-spelled place words kvs more)

-- each two of a list that grows at its end
module _ {A : Type 0} (Holds : A → A → Type 0) where
  pub all-push : (x : A) (xs : List A) (y : A) → AllByRecursion (λ z. Holds x z) xs → Holds x y → AllByRecursion (λ z. Holds x z) (xs ++ y ∷ [])
  all-push x [] y h k = (k, tt)
  all-push x (z ∷ xs) y h k = (h.0, all-push x xs y h.1 k)

  pub two-push : (xs : List A) (y : A) → EachTwo Holds xs → AllByRecursion (λ x. Holds x y) xs → EachTwo Holds (xs ++ y ∷ [])
  two-push [] y h k = (tt, tt)
  two-push (x ∷ xs) y h k = (all-push x xs y h.0 k.0, two-push xs y h.1 k.1)

  front-all : (x : A) (xs ys : List A) → AllByRecursion (λ z. Holds x z) (xs ++ ys) → AllByRecursion (λ z. Holds x z) xs
  front-all x [] ys h = tt
  front-all x (z ∷ xs) ys h = (h.0, front-all x xs ys h.1)

  pub two-front : (xs ys : List A) → EachTwo Holds (xs ++ ys) → EachTwo Holds xs
  two-front [] ys h = tt
  two-front (x ∷ xs) ys h = (front-all x xs ys h.0, two-front xs ys h.1)

  middle-all : (x : A) (xs : List A) (y : A) (ys : List A) → AllByRecursion (λ z. Holds x z) (xs ++ y ∷ ys) → Holds x y
  middle-all x [] y ys h = h.0
  middle-all x (z ∷ xs) y ys h = middle-all x xs y ys h.1

  pub two-middle : (xs : List A) (y : A) (ys : List A) → EachTwo Holds (xs ++ y ∷ ys) → AllByRecursion (λ x. Holds x y) xs
  two-middle [] y ys h = tt
  two-middle (x ∷ xs) y ys h = (middle-all x xs y ys h.0, two-middle xs y ys h.1)

-- no key before is the same
id-case : (place : Place) (pairs : List Kv) (kv : Kv) (id : Bool) → is kv.key (codes "$id") ≡ id → (not id && list_any (λ pair. is_same_key place pair.key kv.key) pairs) ≡ false
    → AllByRecursion (λ one. MayStandBoth place one kv) pairs
id-case place [] kv id i h = tt
id-case place (pair ∷ pairs) kv true i h = (inl (is-true kv.key (codes "$id") i), id-case place pairs kv true i refl)
id-case place (pair ∷ pairs) kv false i h =
    let (one, rest) = or_parts _ _ h in
    (inr one, id-case place pairs kv false i rest)

pub new-said : (place : Place) (pairs : List Kv) (kv : Kv) → repeats place pairs kv.key ≡ false → AllByRecursion (λ one. MayStandBoth place one kv) pairs
new-said place pairs kv h = id-case place pairs kv (is kv.key (codes "$id")) refl h

both-case : (place : Place) (one kv : Kv) → is kv.key (codes "$id") ≡ false → MayStandBoth place one kv → is_same_key place one.key kv.key ≡ false
both-case place one kv i (inl e) = absurd (false≢true (sym i ∙ (ap (λ k. is k (codes "$id")) e ∙ is-same (codes "$id"))))
both-case place one kv i (inr h) = h

none-same : (place : Place) (pairs : List Kv) (kv : Kv) → is kv.key (codes "$id") ≡ false → AllByRecursion (λ one. MayStandBoth place one kv) pairs
    → list_any (λ pair. is_same_key place pair.key kv.key) pairs ≡ false
none-same place [] kv i h = refl
none-same place (pair ∷ pairs) kv i h = or_from _ _ (both-case place pair kv i h.0) (none-same place pairs kv i h.1)

new-case : (place : Place) (pairs : List Kv) (kv : Kv) (id : Bool) → is kv.key (codes "$id") ≡ id → AllByRecursion (λ one. MayStandBoth place one kv) pairs
    → (not id && list_any (λ pair. is_same_key place pair.key kv.key) pairs) ≡ false
new-case place pairs kv true i h = refl
new-case place pairs kv false i h = none-same place pairs kv i h

pub new-read : (place : Place) (pairs : List Kv) (kv : Kv) → AllByRecursion (λ one. MayStandBoth place one kv) pairs → repeats place pairs kv.key ≡ false
new-read place pairs kv h = new-case place pairs kv (is kv.key (codes "$id")) refl h

-- some pairs behind those that were read before
pub record PairsAreSaid (place : Place) (before : List Kv) (words : Words) (after : List Kv) : Type 0 where
  pub pairs : List Kv
  pub added : after ≡ before ++ pairs
  pub said : EachSays (PairSays place) words pairs
  pub two : EachTwo (MayStandBoth place) after

pub pairs-said : (place : Place) (before : List Kv) (words : Words) (after : List Kv) → EachTwo (MayStandBoth place) before → with_pairs place before words ≡ Ok after
    → PairsAreSaid place before words after
unfolding with_pair
pairs-said place before [] after two e =
    let same : before ≡ after = cc in
    subst (PairsAreSaid place before []) same (record { pairs = []; added = sym (append-nil before); said = no_word; two = two })
pairs-said place before (word ∷ words) after two e =
    let (between, one, rest) = bind-ok (with_pair place before word) _ after e in
    let (pair, is_pair, last) = bind-ok (kv_of place word) _ between one in
    let (made, new) = unless-ok (repeats place before pair.key) (Ok (before ++ pair ∷ [])) between RepeatedKey last in
    let same : before ++ pair ∷ [] ≡ between = cc in
    let more = pairs-said place between words after (subst (EachTwo (MayStandBoth place)) same (two-push (MayStandBoth place) before pair two (new-said place before pair new))) rest in
    record {
      pairs = pair ∷ more.pairs;
      added = more.added ∙ (ap (λ ps. ps ++ more.pairs) (sym same) ∙ append_assoc before (pair ∷ []) more.pairs);
      said = one_word word pair words more.pairs (pair-said place word pair is_pair) more.said;
      two = more.two;
    }

pub pairs-read : (place : Place) (before : List Kv) (words : Words) (pairs : List Kv) → EachSays (PairSays place) words pairs → EachTwo (MayStandBoth place) (before ++ pairs)
    → with_pairs place before words ≡ Ok (before ++ pairs)
unfolding with_pair
pairs-read place before ws ks no_word two = ap Ok (sym (append-nil before))
pairs-read place before ws ks (one_word word kv words kvs s more) two =
    let new = new-read place before kv (two-middle (MayStandBoth place) before kv kvs two) in
    let next = subst (EachTwo (MayStandBoth place)) (sym (append_assoc before (kv ∷ []) kvs)) two in
    rw (with_pairs, with_pair, pair-read place word kv s, new)
    (pairs-read place (before ++ kv ∷ []) words kvs more next ∙ ap Ok (append_assoc before (kv ∷ []) kvs))

-- a section has one pair or more
pub record SectionIsSaid (place : Place) (before : List Kv) (words : Words) (after : List Kv) : Type 0 where
  pub are : PairsAreSaid place before words after
  pub some : are.pairs ≢ []

pub filled-said : (place : Place) (word : List ℕ) (words : Words) (pairs : List Kv) → EachSays (PairSays place) (word ∷ words) pairs → pairs ≢ []
filled-said place word words [] s e = elim s [ ]
filled-said place word words (kv ∷ kvs) s e = cc

pub section-said : (place : Place) (before : List Kv) (words : Words) (after : List Kv) → EachTwo (MayStandBoth place) before → with_section place before words ≡ Ok after
    → SectionIsSaid place before words after
section-said place before [] after two e = cc
section-said place before (word ∷ words) after two e =
    let (read, no_rule) = unless-ok (is word (codes "rule")) (with_pairs place before (word ∷ words)) after Unsupported e in
    let are = pairs-said place before (word ∷ words) after two read in
    record { are = are; some = filled-said place word words are.pairs are.said }

pub section-read : (place : Place) (before : List Kv) (words : Words) (pairs : List Kv) → EachSays (PairSays place) words pairs → pairs ≢ []
    → EachTwo (MayStandBoth place) (before ++ pairs) → with_section place before words ≡ Ok (before ++ pairs)
section-read place before ws ks no_word some two = absurd (some refl)
section-read place before ws ks (one_word word kv words kvs s more) some two =
    let no_rule : is word (codes "rule") ≡ false = ap (λ w. is w (codes "rule")) (pair-spelled place word kv s) ∙ pair_word-differs kv (codes "rule") refl in
    rw no_rule (pairs-read place before (word ∷ words) (kv ∷ kvs) (one_word word kv words kvs s more) two)
