-- What stands behind the members of a group, the child of a clone or the agent of a primitive: a description, parameters and meta attributes.
use Rattle.std.proofs.Common.{◌≡◌, ℕ, List, [], ◌∷◌, ◌++◌, Option, None, refl, ap, ◌∙◌, append_assoc, append-nil}
use Rattle.std.specs.Prelude.{codes}
use Rattle.std.specs.List.{flat_map}
use Rattle.crm_parse.specs.declared.pair.Kv.{Kv}
use Rattle.crm_parse.specs.declared.pair.Operation.{Operation}
use Rattle.crm_parse.specs.Reading.{Words, prefixed_at}
use Rattle.crm_parse.specs.Texts.{after}
use Rattle.crm_parse.proofs.Affixes.{noted_words, prefixed_at-again}
use Rattle.crm_print.proofs.Written.{meta_words, operation_words, section_words}

-- the label of a description
abbrev pub label : List ℕ
label = codes "description="

-- no description stands at the front
abbrev pub NoDescription : Words → Type 0
NoDescription words = prefixed_at label words ≡ (None, words)

pub no_description-section : (name : List ℕ) (kvs : List Kv) (tail : Words) → after label name ≡ None → NoDescription tail → NoDescription (section_words name kvs ++ tail)
no_description-section name [] tail n h = h
no_description-section name (kv ∷ kvs) tail n h = rw (prefixed_at, n) refl

pub no_description-operations : (ops : List Operation) → NoDescription (flat_map operation_words ops)
no_description-operations [] = refl
no_description-operations (op ∷ ops) = refl

-- the sections behind a description
abbrev pub meta_sections : List Kv → List Kv → Words → Words
meta_sections params meta tail = section_words (codes "params") params ++ (section_words (codes "meta") meta ++ tail)

pub meta_words-append : (description : Option (List ℕ)) (params meta : List Kv) (tail : Words)
    → meta_words description params meta ++ tail ≡ noted_words label description ++ meta_sections params meta tail
meta_words-append description params meta tail =
    let p = section_words (codes "params") params in
    let m = section_words (codes "meta") meta in
    append_assoc (noted_words label description) (p ++ m) tail ∙ ap (λ ws. noted_words label description ++ ws) (append_assoc p m tail)

-- the description is read again
pub description-again : (description : Option (List ℕ)) (params meta : List Kv) (tail : Words) → NoDescription tail
    → prefixed_at label (meta_words description params meta ++ tail) ≡ (description, meta_sections params meta tail)
description-again description params meta tail h =
    let m = no_description-section (codes "meta") meta tail refl h in
    let p = no_description-section (codes "params") params (section_words (codes "meta") meta ++ tail) refl m in
    rw (meta_words-append description params meta tail) (prefixed_at-again label description (meta_sections params meta tail) p)

-- where nothing follows
pub description-last : (description : Option (List ℕ)) (params meta : List Kv)
    → prefixed_at label (meta_words description params meta) ≡ (description, section_words (codes "params") params ++ section_words (codes "meta") meta)
description-last description params meta =
    rw (append-nil (meta_words description params meta), append-nil (section_words (codes "meta") meta)) at (description-again description params meta [] refl)
