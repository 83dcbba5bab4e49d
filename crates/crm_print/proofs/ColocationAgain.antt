-- A colocation is read again from its words.
use Rattle.std.proofs.Common.{◌≡◌, ℕ, ℤ, true, false, List, ◌∷◌, Ok, refl, subst, []}
use Rattle.std.specs.Prelude.{codes}
use Rattle.crm_lex.specs.Names.{is_name}
use Rattle.crm_parse.specs.declared.form.Form.{Form}
use Rattle.crm_parse.specs.declared.form.Form.TheVariants as form
use Rattle.crm_parse.specs.declared.form.Side.{Side}
use Rattle.crm_parse.specs.declared.words.RoleWord.{RoleWord}
use Rattle.crm_parse.specs.declared.words.RoleWord.TheVariants as role
use Rattle.crm_parse.specs.Colocation.{colocation_at, no_attribute, no_third, side_at, side_in, side_of, side_started}
use Rattle.crm_parse.specs.Reading.{Words, name_at, score_of, next_word_in}
use Rattle.crm_parse.proofs.Binds.{name_at-again, name_at-ok}
use Rattle.faults.proofs.Steps.{bind-ok}
use Rattle.crm_parse.proofs.PairsAgain.{cut_at-again}
use Rattle.crm_parse.proofs.PairWords.{has}
use Rattle.crm_parse.proofs.ResourceNames.{IsResource}
use Rattle.crm_parse.proofs.LackedBytes.{cut_at-none, has-append, name-lacks}
use Rattle.crm_parse.proofs.ScoreRead.{IsRead, score-none, score_of-ok}
use Rattle.crm_print.proofs.ScoreAgain.{score-no_label, score_of-again}
use Rattle.crm_print.proofs.Written.{Again, score_word, side_word}
use Rattle.crm_parse.proofs.ColocationRead.{side_at-ok, attribute-none}

side-case : (name : List ℕ) (r : RoleWord) → IsResource name → let s : Side = record { resource = name; role = r } in side_of (side_word s) ≡ Ok s
unfolding side_started side_in
side-case name role.Started h = rw (side_of, cut_at-none 58 name (name-lacks 58 name refl h.named), h.read) refl
side-case name role.Promoted h = rw (side_of, cut_at-again 58 name (codes "Promoted") (name-lacks 58 name refl h.named), h.read) refl

-- a side is read again
pub side_of-again : (s : Side) → IsResource s.resource → side_of (side_word s) ≡ Ok s
side_of-again s h = side-case s.resource s.role h

side_lacks : (name : List ℕ) (r : RoleWord) → is_name name ≡ true → has 61 (side_word (record { resource = name; role = r })) ≡ false
side_lacks name role.Started h = name-lacks 61 name refl h
side_lacks name role.Promoted h = has-append 61 name (58 ∷ codes "Promoted") (name-lacks 61 name refl h) refl

pub side_at-again : (s : Side) (words : Words) → IsResource s.resource → side_at (side_word s ∷ words) ≡ Ok (s, words)
unfolding side_at
side_at-again s words h = rw (attribute-none (side_word s) (side_lacks s.resource s.role h.named), side_of-again s h) refl

score_attribute : (points : ℤ) → IsRead points → no_attribute (score_word points) ≡ Ok tt
score_attribute points h = rw (score-no_label 110 (codes "ode-attribute=") points (score-none 110 refl (λ t. refl) (λ t. refl)) h) refl

-- a colocation whose parts are read again is read again
made : (id : List ℕ) (points : ℤ) (dependent primary : Side) → is_name id ≡ true → IsRead points → IsResource dependent.resource → IsResource primary.resource
    → colocation_at (id ∷ score_word points ∷ side_word dependent ∷ side_word primary ∷ []) ≡ Ok (form.Colocation id points dependent primary)
unfolding colocation_at
made id points dependent primary named scored first second =
    rw (
      name_at-again id (score_word points ∷ side_word dependent ∷ side_word primary ∷ []) named,
      score_attribute points scored,
      score_of-again points scored,
      side_at-again dependent (side_word primary ∷ []) first,
      side_at-again primary [] second,
    ) refl

-- a colocation is read again
pub colocation-again : (words : Words) (f : Form) → colocation_at words ≡ Ok f → Again colocation_at (codes "colocation") f
unfolding colocation_at
colocation-again words f e =
    let (id, named, e1) = bind-ok (name_at words) _ f e in
    let (word, at, e2) = bind-ok (next_word_in id.1) _ f e1 in
    let (fits, plain, e3) = bind-ok (no_attribute word.0) _ f e2 in
    let (points, scored, e4) = bind-ok (score_of word.0) _ f e3 in
    let (dependent, first, e5) = bind-ok (side_at word.1) _ f e4 in
    let (primary, second, e6) = bind-ok (side_at dependent.1) _ f e5 in
    let (end, third, last) = bind-ok (no_third primary.1) _ f e6 in
    let whole : form.Colocation id.0 points dependent.0 primary.0 ≡ f = cc in
    subst (Again colocation_at (codes "colocation")) whole (
      id.0 ∷ score_word points ∷ side_word dependent.0 ∷ side_word primary.0 ∷ [],
      refl,
      made id.0 points dependent.0 primary.0 (name_at-ok words id named).1 (score_of-ok word.0 points scored) (side_at-ok word.1 dependent first) (side_at-ok dependent.1 primary second),
    )
