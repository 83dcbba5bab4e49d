-- The sides of a colocation that was read are of named resources.
use Rattle.std.proofs.Common.{◌≡◌, ℕ, List, Option, Some, None, Ok, refl, ap, subst, false, []}
use Rattle.crm_parse.specs.declared.form.Side.{Side}
use Rattle.crm_parse.specs.declared.values.RoleName.{RoleName}
use Rattle.crm_parse.specs.declared.words.RoleWord.TheVariants as role
use Rattle.crm_parse.specs.Colocation.{no_attribute, side_at, side_in, side_of, side_started}
use Rattle.crm_parse.specs.Reading.{Words, resource_of, supported, next_word_in}
use Rattle.crm_parse.specs.Texts.{cut_at}
use Rattle.crm_parse.specs.Values.{role_of}
use Rattle.faults.proofs.Steps.{bind-ok}
use Rattle.crm_parse.proofs.ResourceNames.{IsResource, resource-ok}
use Rattle.std.specs.Prelude.{codes}
use Rattle.crm_parse.proofs.PairWords.{has}
use Rattle.crm_parse.proofs.LackedBytes.{no_label}

started-ok : (word : List ℕ) (s : Side) → side_started word ≡ Ok s → IsResource s.resource
unfolding side_started
started-ok word s e =
    let (name, found, last) = bind-ok (resource_of word) _ s e in
    let same : name ≡ s.resource = ap (λ (r : Side). r.resource) (let h : record { resource = name; role = role.Started } ≡ s = cc in h) in
    subst IsResource same (resource-ok word name found).0

in-ok : (word : List ℕ) (found : Option RoleName) (s : Side) → side_in word found ≡ Ok s → IsResource s.resource
unfolding side_in
in-ok word None s e = let (name, found, last) = bind-ok (resource_of word) _ s e in cc
in-ok word (Some r) s e =
    let (taken, is_one, rest) = bind-ok (supported r) _ s e in
    let (name, found, last) = bind-ok (resource_of word) _ s rest in
    let whole : record { resource = name; role = taken } ≡ s = cc in
    subst IsResource (ap (λ (r : Side). r.resource) whole) (resource-ok word name found).0

cut-case : (word : List ℕ) (cut : Option (List ℕ × List ℕ)) (s : Side) → cut_at 58 word ≡ cut → side_of word ≡ Ok s → IsResource s.resource
cut-case word None s c e = let h : side_started word ≡ Ok s = rw (c, side_of) at e in started-ok word s h
cut-case word (Some parts) s c e = let h : side_in parts.0 (role_of parts.1) ≡ Ok s = rw (c, side_of) at e in in-ok parts.0 (role_of parts.1) s h

-- the resource of a side that was read
pub side_at-ok : (words : Words) (read : Side × Words) → side_at words ≡ Ok read → IsResource read.0.resource
unfolding side_at
side_at-ok words read e =
    let (word, at, rest) = bind-ok (next_word_in words) _ read e in
    let (fits, plain, after_fits) = bind-ok (no_attribute word.0) _ read rest in
    let (s, is_side, last) = bind-ok (side_of word.0) _ read after_fits in
    let whole : (s, word.1) ≡ read = cc in
    subst (λ (r : Side × Words). IsResource r.0.resource) whole (cut-case word.0 (cut_at 58 word.0) s refl is_side)

-- a word without `=` is no node attribute
pub attribute-none : (word : List ℕ) → has 61 word ≡ false → no_attribute word ≡ Ok tt
attribute-none word h = rw (no_label 61 (codes "node-attribute") [] word h) refl
