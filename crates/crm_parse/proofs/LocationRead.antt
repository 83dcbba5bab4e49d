-- The resource and the place of a location that was read.
use Rattle.std.proofs.Common.{◌≡◌, ℕ, ℤ, true, List, Ok, subst, false, refl, None, Bool, [], ◌∷◌, ◌++◌}
use Rattle.crm_lex.specs.Names.{is_name}
use Rattle.crm_parse.specs.Location.{place_at, resource_at, discovery_at}
use Rattle.crm_parse.specs.Reading.{Words, end_at, name_at, resource_of, score_of, next_word_in, prefixed_at}
use Rattle.crm_parse.proofs.Binds.{name_at-ok}
use Rattle.faults.proofs.Steps.{bind-ok}
use Rattle.crm_parse.proofs.ResourceNames.{IsResource, resource-ok}
use Rattle.crm_parse.proofs.ScoreRead.{IsRead, score_of-ok}
use Rattle.std.specs.Prelude.{codes}

pub resource_at-ok : (words : Words) (read : List ℕ × Words) → resource_at words ≡ Ok read → IsResource read.0
unfolding resource_at
resource_at-ok words read e =
    let (word, at, e1) = bind-ok (next_word_in words) _ read e in
    let (name, is_one, last) = bind-ok (resource_of word.0) _ read e1 in
    let whole : (name, word.1) ≡ read = cc in
    subst (λ (r : List ℕ × Words). IsResource r.0) whole (resource-ok word.0 name is_one).0

-- a score and a name were read
pub record IsPlace (place : ℤ × List ℕ) : Type 0 where
  pub scored : IsRead place.0
  pub named : is_name place.1 ≡ true

pub place_at-ok : (words : Words) (read : ℤ × List ℕ) → place_at words ≡ Ok read → IsPlace read
unfolding place_at
place_at-ok words read e =
    let (word, at, e1) = bind-ok (next_word_in words) _ read e in
    let (points, scored, e2) = bind-ok (score_of word.0) _ read e1 in
    let (node, named, e3) = bind-ok (name_at word.1) _ read e2 in
    let (end, at_end, last) = bind-ok (end_at node.1) _ read e3 in
    let whole : (points, node.0) ≡ read = cc in
    subst IsPlace whole (record { scored = score_of-ok word.0 points scored; named = (name_at-ok word.1 node named).1 })

-- the word that says that a resource is looked for everywhere
abbrev pub discovery_words : Bool → Words
discovery_words true = codes "resource-discovery=always" ∷ []
discovery_words false = []

pub resource_at-again : (resource : List ℕ) (words : Words) → IsResource resource → resource_at (resource ∷ words) ≡ Ok (resource, words)
unfolding resource_at
resource_at-again resource words h = rw h.read refl

-- what may stand where a location has said all but its score or its rules
pub record Rest (words : Words) : Type 0 where
  pub role : prefixed_at (codes "role=") words ≡ (None, words)
  pub discovery : prefixed_at (codes "resource-discovery=") words ≡ (None, words)

pub discovery_at-again : (everywhere : Bool) (words : Words) → Rest words → discovery_at (discovery_words everywhere ++ words) ≡ Ok (everywhere, words)
unfolding discovery_at
discovery_at-again true words h = refl
discovery_at-again false words h = rw h.discovery refl

pub discovery-no_role : (everywhere : Bool) (words : Words) → Rest words
    → prefixed_at (codes "role=") (discovery_words everywhere ++ words) ≡ (None, discovery_words everywhere ++ words)
discovery-no_role true words h = refl
discovery-no_role false words h = h.role
