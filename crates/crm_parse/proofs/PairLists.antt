-- The words of some pairs are read as those pairs again.
use Rattle.std.proofs.Common.{◌≡◌, ℕ, List, [], ◌∷◌, ◌++◌, Ok, refl, sym, ap, ◌∙◌, subst, append_assoc, append-nil}
use Rattle.std.specs.Prelude.{codes, map}
use Rattle.std.proofs.lemmas.List.{map-append}
use Rattle.crm_lex.specs.Names.{is}
use Rattle.crm_parse.specs.declared.fault.ParseCause.TheVariants.{RepeatedKey, Unsupported}
use Rattle.crm_parse.specs.declared.pair.Kv.{Kv}
use Rattle.crm_parse.specs.declared.place.Place.{Place}
use Rattle.crm_parse.specs.Pairs.{kv_of, repeats, with_pair, with_pairs, with_section}
use Rattle.crm_parse.specs.Reading.{Words}
use Rattle.crm_parse.proofs.Binds.{unless-ok}
use Rattle.faults.proofs.Steps.{bind-ok}
use Rattle.crm_parse.proofs.PairWords.{pair_word, kv_of-word}

-- the words of some pairs
abbrev pub pair_words : List Kv → Words
pair_words pairs = map pair_word pairs

-- one more pair was read from its word
pub record Adds (before : List Kv) (word : List ℕ) (after : List Kv) : Type 0 where
  pub pair : Kv
  pub added : after ≡ before ++ pair ∷ []
  pub spelled : word ≡ pair_word pair

pub with_pair-adds : (place : Place) (before : List Kv) (word : List ℕ) (after : List Kv) → with_pair place before word ≡ Ok after → Adds before word after
unfolding with_pair
with_pair-adds place before word after e =
    let (pair, is_pair, rest) = bind-ok (kv_of place word) _ after e in
    let (last, new) = unless-ok (repeats place before pair.key) (Ok (before ++ pair ∷ [])) after RepeatedKey rest in
    record { pair = pair; added = cc; spelled = kv_of-word place word pair is_pair }

-- some more pairs were read from their words
pub record AddsAll (before : List Kv) (words : Words) (after : List Kv) : Type 0 where
  pub pairs : List Kv
  pub added : after ≡ before ++ pairs
  pub spelled : words ≡ pair_words pairs

pub adds_none : (before : List Kv) → AddsAll before [] before
adds_none before = record { pairs = []; added = sym (append-nil before); spelled = refl }

pub adds_more : (before between after : List Kv) (word : List ℕ) (words : Words) → Adds before word between → AddsAll between words after → AddsAll before (word ∷ words) after
adds_more before between after word words one all = record {
  pairs = one.pair ∷ all.pairs;
  added = all.added ∙ (ap (λ ps. ps ++ all.pairs) one.added ∙ append_assoc before (one.pair ∷ []) all.pairs);
  spelled = ap (λ w. w ∷ words) one.spelled ∙ ap (λ ws. pair_word one.pair ∷ ws) all.spelled;
}

pub with_pairs-adds : (place : Place) (before : List Kv) (words : Words) (after : List Kv) → with_pairs place before words ≡ Ok after → AddsAll before words after
with_pairs-adds place before [] after e =
    let same : before ≡ after = cc in
    subst (λ ps. AddsAll before [] ps) same (adds_none before)
with_pairs-adds place before (word ∷ words) after e =
    let (between, one, rest) = bind-ok (with_pair place before word) _ after e in
    adds_more before between after word words (with_pair-adds place before word between one) (with_pairs-adds place between words after rest)

-- words are read one after another
pub with_pairs-append : (place : Place) (before : List Kv) (words more : Words) (between : List Kv) → with_pairs place before words ≡ Ok between
    → with_pairs place before (words ++ more) ≡ with_pairs place between more
with_pairs-append place before [] more between e =
    let same : before ≡ between = cc in
    ap (λ ps. with_pairs place ps more) same
with_pairs-append place before (word ∷ words) more between e =
    let (next, one, rest) = bind-ok (with_pair place before word) _ between e in
    rw one (with_pairs-append place next words more between rest)

-- some pairs are read from nothing as they are
abbrev pub Kept : Place → List Kv → Type 0
Kept place pairs = with_pairs place [] (pair_words pairs) ≡ Ok pairs

-- and so are those that follow them
pub kept_more : (place : Place) (before : List Kv) (words : Words) (after : List Kv) → Kept place before → with_pairs place before words ≡ Ok after → Kept place after
kept_more place before words after k e =
    let a = with_pairs-adds place before words after e in
    let spelled : pair_words after ≡ pair_words before ++ words = ap pair_words a.added ∙ (map-append pair_word before a.pairs ∙ ap (λ ws. pair_words before ++ ws) (sym a.spelled)) in
    rw spelled (with_pairs-append place [] (pair_words before) words before k ∙ e)

pub kept_section : (place : Place) (before : List Kv) (words : Words) (after : List Kv) → Kept place before → with_section place before words ≡ Ok after → Kept place after
kept_section place before [] after k e = cc
kept_section place before (word ∷ words) after k e =
    let (read, no_rule) = unless-ok (is word (codes "rule")) (with_pairs place before (word ∷ words)) after Unsupported e in
    kept_more place before (word ∷ words) after k read
