-- A location is read again from its words.
use Rattle.std.proofs.Common.{◌≡◌, ℕ, ℤ, Bool, true, false, cond, List, ◌∷◌, ◌++◌, length, Option, Some, None, Result, Ok, refl, sym, ◌∙◌, subst, arith, []}
use Rattle.std.specs.Prelude.{codes}
use Rattle.std.specs.List.{flat_map}
use Rattle.std.proofs.lemmas.Bool.{false_from_ne_true}
use Rattle.crm_lex.specs.Names.{is_name}
use Rattle.crm_parse.specs.declared.fault.ParseCause.{ParseCause}
use Rattle.crm_parse.specs.declared.form.Form.{Form}
use Rattle.crm_parse.specs.declared.form.Form.TheVariants as form
use Rattle.crm_parse.specs.declared.rule_form.RuleForm.{RuleForm}
use Rattle.crm_parse.specs.declared.words.RoleWord.{RoleWord}
use Rattle.crm_parse.specs.declared.words.RoleWord.TheVariants as role
use Rattle.crm_parse.specs.Location.{begins_rule, discovery_at, location_at, place_at, plain_at, resource_at, role_at, ruled_at, with_rules}
use Rattle.crm_parse.specs.Reading.{Words, name_at, prefixed_at, rule_role_of}
use Rattle.crm_parse.proofs.Binds.{is-true, name_at-again, name_at-ok}
use Rattle.faults.proofs.Steps.{bind-ok}
use Rattle.crm_parse.proofs.ResourceNames.{IsResource}
use Rattle.crm_print.proofs.RuleAgain.{SomeRules, rules-some, score_label, with_rules-again}
use Rattle.crm_parse.proofs.ScoreRead.{first-none, IsRead, score-none}
use Rattle.crm_print.proofs.ScoreAgain.{score-no_label, score_of-again}
use Rattle.crm_print.proofs.Written.{Again, located_words, role_words, ruled_words, score_word}
use Rattle.crm_parse.proofs.LocationRead.{discovery_words, IsPlace, place_at-ok, resource_at-ok, discovery-no_role, discovery_at-again, resource_at-again, Rest}

role_at-again : (r : Option RoleWord) (words : Words) → prefixed_at (codes "role=") words ≡ (None, words) → role_at (role_words (codes "role=") r ++ words) ≡ Ok (r, words)
unfolding role_at rule_role_of
role_at-again None words h = rw h refl
role_at-again (Some role.Started) words h = refl
role_at-again (Some role.Promoted) words h = refl

-- the score of a location, or its rules
abbrev last_at : List ℕ → List ℕ → Option RoleWord → Bool → Words → Result Form ParseCause
last_at id resource r everywhere words = cond (begins_rule words) (ruled_at id resource r everywhere words) (plain_at id resource r everywhere words)

located : (id resource : List ℕ) (r : Option RoleWord) (everywhere : Bool) (words : Words) → is_name id ≡ true → IsResource resource → Rest words
    → location_at (located_words id resource r everywhere words) ≡ last_at id resource r everywhere words
unfolding location_at
located id resource r everywhere words n h rest =
    let more = discovery_words everywhere ++ words in
    rw (
      name_at-again id (resource ∷ (role_words (codes "role=") r ++ more)) n,
      resource_at-again resource (role_words (codes "role=") r ++ more) h,
      role_at-again r more (discovery-no_role everywhere words rest),
      discovery_at-again everywhere words rest,
    ) refl

-- a score with its node
plain-rest : (points : ℤ) (words : Words) → IsRead points → Rest (score_word points ∷ words)
plain-rest points words h = record {
  role = score_label 114 (codes "ole=") points words (score-no_label 114 (codes "ole=") points (score-none 114 refl (λ t. refl) (λ t. refl)) h);
  discovery =
      score_label 114 (codes "esource-discovery=") points words (score-no_label 114 (codes "esource-discovery=") points (score-none 114 refl (λ t. refl) (λ t. refl)) h);
}

score-no_rule : (points : ℤ) (words : Words) → IsRead points → begins_rule (score_word points ∷ words) ≡ false
score-no_rule points words h = false_from_ne_true _ (λ e.
    first-none 114 (codes "ule") _ (codes ":") [] points (score-none 114 refl (λ t. refl) (λ t. refl)) h (is-true (score_word points) (codes "rule") e))

place_at-again : (points : ℤ) (node : List ℕ) → IsRead points → is_name node ≡ true → place_at (score_word points ∷ node ∷ []) ≡ Ok (points, node)
unfolding place_at
place_at-again points node h n = rw (score_of-again points h, name_at-again node [] n) refl

plain-read : (id resource : List ℕ) (r : Option RoleWord) (everywhere : Bool) (place : ℤ × List ℕ) → IsPlace place
    → last_at id resource r everywhere (score_word place.0 ∷ place.1 ∷ []) ≡ Ok (form.Location id resource r everywhere place.0 place.1)
unfolding plain_at
plain-read id resource r everywhere place h =
    rw (score-no_rule place.0 (place.1 ∷ []) h.scored, place_at-again place.0 place.1 h.scored h.named) refl

plain-again : (id resource : List ℕ) (r : Option RoleWord) (everywhere : Bool) (words : Words) (f : Form) → is_name id ≡ true → IsResource resource
    → plain_at id resource r everywhere words ≡ Ok f → Again location_at (codes "location") f
unfolding plain_at
plain-again id resource r everywhere words f n h e =
    let (place, is_place, last) = bind-ok (place_at words) _ f e in
    let whole : form.Location id resource r everywhere place.0 place.1 ≡ f = cc in
    let good = place_at-ok words place is_place in
    subst (Again location_at (codes "location")) whole (
      located_words id resource r everywhere (score_word place.0 ∷ place.1 ∷ []),
      refl,
      located id resource r everywhere (score_word place.0 ∷ place.1 ∷ []) n h (plain-rest place.0 (place.1 ∷ []) good.scored) ∙ plain-read id resource r everywhere place good,
    )

-- rules
ruled-read : (id resource : List ℕ) (r : Option RoleWord) (everywhere : Bool) (rules : List RuleForm) → SomeRules rules
    → last_at id resource r everywhere (flat_map ruled_words rules) ≡ Ok (form.RuledLocation id resource r everywhere rules)
unfolding ruled_at
ruled-read id resource r everywhere rules h =
    let words = flat_map ruled_words (h.rule ∷ h.rules) in
    rw (h.whole, with_rules-again (length words) [] (h.rule ∷ h.rules) (h.first, h.others) (omega arith)) refl

ruled-rest : (rule : RuleForm) (rules : List RuleForm) → Rest (flat_map ruled_words (rule ∷ rules))
ruled-rest rule rules = record { role = refl; discovery = refl }

ruled-again : (id resource : List ℕ) (r : Option RoleWord) (everywhere : Bool) (words : Words) (f : Form) → is_name id ≡ true → IsResource resource → begins_rule words ≡ true
    → ruled_at id resource r everywhere words ≡ Ok f → Again location_at (codes "location") f
unfolding ruled_at
ruled-again id resource r everywhere [] f n h b e = absurd (cc)
ruled-again id resource r everywhere (word ∷ words) f n h b e =
    let (rules, are_rules, last) = bind-ok (with_rules (length (word ∷ words)) [] (word ∷ words)) _ f e in
    let whole : form.RuledLocation id resource r everywhere rules ≡ f = cc in
    let some = rules-some word words rules are_rules in
    let rest : Rest (flat_map ruled_words rules) = subst (λ rs. Rest (flat_map ruled_words rs)) (sym some.whole) (ruled-rest some.rule some.rules) in
    subst (Again location_at (codes "location")) whole (
      located_words id resource r everywhere (flat_map ruled_words rules),
      refl,
      located id resource r everywhere (flat_map ruled_words rules) n h rest ∙ ruled-read id resource r everywhere rules some,
    )

last-again : (id resource : List ℕ) (r : Option RoleWord) (everywhere : Bool) (words : Words) (begins : Bool) (f : Form) → begins_rule words ≡ begins → is_name id ≡ true
    → IsResource resource → cond begins (ruled_at id resource r everywhere words) (plain_at id resource r everywhere words) ≡ Ok f → Again location_at (codes "location") f
last-again id resource r everywhere words true f b n h e = ruled-again id resource r everywhere words f n h b e
last-again id resource r everywhere words false f b n h e = plain-again id resource r everywhere words f n h e

-- a location is read again
pub location-again : (words : Words) (f : Form) → location_at words ≡ Ok f → Again location_at (codes "location") f
unfolding location_at
location-again words f e =
    let (id, named, e1) = bind-ok (name_at words) _ f e in
    let (resource, is_resource, e2) = bind-ok (resource_at id.1) _ f e1 in
    let (r, is_role, e3) = bind-ok (role_at resource.1) _ f e2 in
    let (everywhere, is_discovery, last) = bind-ok (discovery_at r.1) _ f e3 in
    last-again id.0 resource.0 r.0 everywhere.0 everywhere.1 (begins_rule everywhere.1) f refl (name_at-ok words id named).1 (resource_at-ok id.1 resource is_resource) last
