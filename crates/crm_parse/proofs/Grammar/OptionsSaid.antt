-- Words that may be left out: a description, an id before its colon.
use Rattle.std.proofs.Common.{◌≡◌, ℕ, true, List, [], ◌∷◌, ◌++◌, Option, Some, None, Ok, refl, sym, ap, subst}
use Rattle.std.specs.Prelude.{codes}
use Rattle.crm_lex.specs.Names.{is_name}
use Rattle.crm_parse.specs.declared.owner.Owner.{Owner}
use Rattle.crm_parse.specs.declared.owner.Owner.TheVariants as owner
use Rattle.crm_parse.specs.declared.owner.SectionWord.{SectionWord}
use Rattle.crm_parse.specs.declared.owner.SectionWord.TheVariants.{Attributes, Params, Meta, Utilization, Operations, Op}
use Rattle.crm_parse.specs.declared.pair.Operation.{Operation}
use Rattle.crm_parse.specs.Reading.{Words, colon_at, given_at, prefixed_at, some_name}
use Rattle.crm_parse.proofs.Binds.{given_at-again, given_at-ok, name_of-again, some_name-name}
use Rattle.crm_parse.proofs.Affixes.{colon_at-again, colon_at-words, given_words, noted_words, prefixed_at-again}
use Rattle.crm_parse.specs.Grammar.Phrases.{AnyText, ColonSays, LabelSays, MaySay, NameSays, PartsSay, a_name, any_text, is_given, label_then, no_part, not_given, one_part, then_colon}
use Rattle.crm_parse.specs.Grammar.Parts.{Section, SectionSays, a_section, an_operation, operation, section_text}

-- what stands behind a label
pub noted-said : (label : List ℕ) (noted : Option (List ℕ)) → MaySay (LabelSays label AnyText) (noted_words label noted) noted
noted-said label None = not_given
noted-said label (Some text) = is_given (label ++ text) text (label_then text text (any_text text))

text-is : (word text : List ℕ) → AnyText word text → word ≡ text
text-is w t (any_text text) = refl

label-is : (label word text : List ℕ) → LabelSays label AnyText word text → word ≡ label ++ text
label-is label w t (label_then text value s) = ap (λ x. label ++ x) (text-is text value s)

pub noted-is : (label : List ℕ) (words : Words) (noted : Option (List ℕ)) → MaySay (LabelSays label AnyText) words noted → words ≡ noted_words label noted
noted-is label ws n not_given = refl
noted-is label ws n (is_given word text s) = ap (λ w. w ∷ []) (label-is label word text s)

-- an id before its colon
given-case : (id : Option (List ℕ)) → some_name id ≡ Ok id → MaySay (ColonSays NameSays) (given_words id) id
given-case None e = not_given
given-case (Some name) e = is_given (name ++ codes ":") name (then_colon name name (a_name name (some_name-name name e)))

pub record GivenIsSaid (words : Words) (read : Option (List ℕ) × Words) : Type 0 where
  pub front : Words
  pub whole : words ≡ front ++ read.1
  pub said : MaySay (ColonSays NameSays) front read.0

pub given-said : (words : Words) (read : Option (List ℕ) × Words) → given_at words ≡ Ok read → GivenIsSaid words read
given-said words read e =
    let (same, named) = given_at-ok words read e in
    record { front = given_words read.0; whole = colon_at-words words read (sym same); said = given-case read.0 named }

name-is : (word name : List ℕ) → NameSays word name → (word ≡ name) × (is_name name ≡ true)
name-is w n (a_name name h) = (refl, h)

pub colon-is : (word name : List ℕ) → ColonSays NameSays word name → (word ≡ name ++ codes ":") × (is_name name ≡ true)
colon-is w n (then_colon text name s) = let (same, h) = name-is text name s in (ap (λ t. t ++ codes ":") same, h)

pub record GivenIs (words : Words) (id : Option (List ℕ)) : Type 0 where
  pub same : words ≡ given_words id
  pub named : some_name id ≡ Ok id

pub given-is : (words : Words) (id : Option (List ℕ)) → MaySay (ColonSays NameSays) words id → GivenIs words id
given-is ws i not_given = record { same = refl; named = refl }
given-is ws i (is_given word name s) =
    let (same, h) = colon-is word name s in
    record { same = ap (λ w. w ∷ []) same; named = rw (name_of-again name h) refl }

pub given-read : (front : Words) (id : Option (List ℕ)) (rest : Words) → MaySay (ColonSays NameSays) front id → colon_at rest ≡ (None, rest)
    → given_at (front ++ rest) ≡ Ok (id, rest)
given-read front id rest s n =
    let is = given-is front id s in
    subst (λ ws. given_at (ws ++ rest) ≡ Ok (id, rest)) (sym is.same)
    (given_at-again id rest (given_words id ++ rest) (colon_at-again id rest n) is.named)

-- no section begins with a description
section-no_description : (w : SectionWord) (words : Words) → prefixed_at (codes "description=") (section_text w ∷ words) ≡ (None, section_text w ∷ words)
section-no_description Attributes words = refl
section-no_description Params words = refl
section-no_description Meta words = refl
section-no_description Utilization words = refl
section-no_description Operations words = refl
section-no_description Op words = refl

part-no_description : (statement : Owner) (part : Words) (s : Section) (words : Words) → SectionSays statement part s
    → prefixed_at (codes "description=") (part ++ words) ≡ (None, part ++ words)
part-no_description statement p s words (a_section w place ws kvs at each some) = section-no_description w (ws ++ words)
part-no_description statement p s words (an_operation name ws kvs prim named no_rule each some two) = refl

parts-no_description : (statement : Owner) (words : Words) (sections : List Section) → PartsSay (SectionSays statement) words sections
    → prefixed_at (codes "description=") words ≡ (None, words)
parts-no_description statement ws ss no_part = refl
parts-no_description statement ws ss (one_part part s words sections said more) = part-no_description statement part s words said

-- a description before sections is read
pub description-read : (statement : Owner) (front : Words) (description : Option (List ℕ)) (words : Words) (sections : List Section)
    → MaySay (LabelSays (codes "description=") AnyText) front description → PartsSay (SectionSays statement) words sections
    → prefixed_at (codes "description=") (front ++ words) ≡ (description, words)
description-read statement front description words sections s h =
    subst (λ ws. prefixed_at (codes "description=") (ws ++ words) ≡ (description, words)) (sym (noted-is (codes "description=") front description s))
    (prefixed_at-again (codes "description=") description words (parts-no_description statement words sections h))

-- no operation stands in another statement
pub no_operation_says : (statement : Owner) (words : Words) (s : Section) (op : Operation) → (statement ≡ owner.Primitive → ⊥) → SectionSays statement words s → s ≡ operation op → ⊥
no_operation_says statement ws s op other (a_section w place words kvs at each some) e = cc
no_operation_says statement ws s op other (an_operation name words kvs prim named no_rule each some two) e = other prim
