-- What is read as a colocation says it.
use Rattle.std.proofs.Common.{◌≡◌, ℕ, Bool, true, false, cond, List, [], ◌∷◌, ◌++◌, Option, Some, None, Ok, Err, refl, sym, ap, ◌∙◌, subst}
use Rattle.std.specs.Prelude.{◌||◌}
use Rattle.crm_lex.specs.Names.{is_name}
use Rattle.crm_parse.specs.declared.fault.ParseCause.TheVariants.{ExtraWord, Unsupported}
use Rattle.crm_parse.specs.declared.form.Form.{Form}
use Rattle.crm_parse.specs.declared.form.Form.TheVariants as form
use Rattle.crm_parse.specs.declared.form.Side.{Side}
use Rattle.crm_parse.specs.declared.values.RoleName.{RoleName}
use Rattle.crm_parse.specs.declared.words.RoleWord.TheVariants as role
use Rattle.crm_parse.specs.Colocation.{before_colon, colocation_at, is_node_attribute, no_attribute, no_third, side_at, side_in, side_of, side_started}
use Rattle.crm_parse.specs.Reading.{Words, begins_set, name_at, next_word_in, resource_of, score_of, supported}
use Rattle.crm_parse.specs.Texts.{cut_at}
use Rattle.crm_parse.specs.Values.{role_of}
use Rattle.faults.proofs.Steps.{bind-ok}
use Rattle.crm_parse.proofs.Binds.{name_at-ok, word_at-ok}
use Rattle.crm_parse.proofs.PairWords.{cut_at-some}
use Rattle.crm_parse.proofs.ResourceNames.{resource-ok}
use Rattle.crm_parse.specs.Grammar.ColocationForm.{ColocationSays, SideSays, a_colocation, side_alone, side_in_role}
use Rattle.crm_parse.proofs.Grammar.ScoresSaid.{score-said, supported-said}

alone-said : (word : List ℕ) (side : Side) → side_started word ≡ Ok side → SideSays word side
unfolding side_started
alone-said word side e =
    let (name, found, last) = bind-ok (resource_of word) _ side e in
    let (is_resource, same) = resource-ok word name found in
    let whole : record { resource = name; role = role.Started } ≡ side = cc in
    subst (SideSays word) whole (subst (λ w. SideSays w (record { resource = name; role = role.Started })) same (side_alone name is_resource.named))

in_role-said : (word resource text : List ℕ) (found : Option RoleName) (side : Side) → word ≡ resource ++ 58 ∷ text → role_of text ≡ found
    → side_in resource found ≡ Ok side → SideSays word side
unfolding side_in
in_role-said word resource text None side w f e = let (name, found, last) = bind-ok (resource_of resource) _ side e in cc
in_role-said word resource text (Some named) side w f e =
    let (taken, is_one, rest) = bind-ok (supported named) _ side e in
    let (name, found, last) = bind-ok (resource_of resource) _ side rest in
    let (is_resource, same) = resource-ok resource name found in
    let whole : record { resource = name; role = taken } ≡ side = cc in
    subst (SideSays word) whole
    (subst (λ v. SideSays v (record { resource = name; role = taken })) (ap (λ n. n ++ 58 ∷ text) same ∙ sym w)
    (side_in_role name text taken is_resource.named (supported-said text named taken f is_one)))

side-case : (word : List ℕ) (cut : Option (List ℕ × List ℕ)) (side : Side) → cut_at 58 word ≡ cut → side_of word ≡ Ok side → SideSays word side
side-case word None side c e = let h : side_started word ≡ Ok side = rw (c, side_of) at e in alone-said word side h
side-case word (Some parts) side c e =
    let h : side_in parts.0 (role_of parts.1) ≡ Ok side = rw (c, side_of) at e in
    in_role-said word parts.0 parts.1 (role_of parts.1) side (cut_at-some 58 word parts c).whole refl h

record SideIsSaid (words : Words) (read : Side × Words) : Type 0 where
  word : List ℕ
  whole : words ≡ word ∷ read.1
  said : SideSays word read.0

side_at-said : (words : Words) (read : Side × Words) → side_at words ≡ Ok read → SideIsSaid words read
unfolding side_at
side_at-said words read e =
    let (word, at, rest) = bind-ok (next_word_in words) _ read e in
    let (fits, plain, after_fits) = bind-ok (no_attribute word.0) _ read rest in
    let (side, is_side, last) = bind-ok (side_of word.0) _ read after_fits in
    let whole : (side, word.1) ≡ read = cc in
    subst (SideIsSaid words) whole (record { word = word.0; whole = word_at-ok words word at; said = side-case word.0 (cut_at 58 word.0) side refl is_side })

no_value : (test : Bool) (y : Unit {0}) → cond test (Err Unsupported) (Err ExtraWord) ≡ Ok y → ⊥
no_value true y e = cc
no_value false y e = cc

no_third-ok : (words : Words) (y : Unit {0}) → no_third words ≡ Ok y → words ≡ []
no_third-ok [] y e = refl
no_third-ok (word ∷ words) y e = absurd (no_value (is_node_attribute word || begins_set word || is_name (before_colon word)) y e)

-- what is read as a colocation says it
pub colocation-is_said : (words : Words) (f : Form) → colocation_at words ≡ Ok f → ColocationSays words f
unfolding colocation_at
colocation-is_said words f e =
    let (id, named, e1) = bind-ok (name_at words) _ f e in
    let (word, at, e2) = bind-ok (next_word_in id.1) _ f e1 in
    let (fits, plain, e3) = bind-ok (no_attribute word.0) _ f e2 in
    let (points, scored, e4) = bind-ok (score_of word.0) _ f e3 in
    let (dependent, first, e5) = bind-ok (side_at word.1) _ f e4 in
    let (primary, second, e6) = bind-ok (side_at dependent.1) _ f e5 in
    let (end, third, last) = bind-ok (no_third primary.1) _ f e6 in
    let whole : form.Colocation id.0 points dependent.0 primary.0 ≡ f = cc in
    let (id_at, is_named) = name_at-ok words id named in
    let one = side_at-said word.1 dependent first in
    let other = side_at-said dependent.1 primary second in
    let behind : word.1 ≡ one.word ∷ other.word ∷ [] = one.whole ∙ ap (λ ws. one.word ∷ ws) (other.whole ∙ ap (λ ws. other.word ∷ ws) (no_third-ok primary.1 end third)) in
    let all : words ≡ id.0 ∷ word.0 ∷ one.word ∷ other.word ∷ [] = id_at ∙ ap (λ ws. id.0 ∷ ws) (word_at-ok id.1 word at ∙ ap (λ ws. word.0 ∷ ws) behind) in
    subst (ColocationSays words) whole
    (subst (λ ws. ColocationSays ws (form.Colocation id.0 points dependent.0 primary.0)) (sym all)
    (a_colocation id.0 word.0 one.word other.word points dependent.0 primary.0 is_named (score-said word.0 points scored) one.said other.said))
