-- Where the words of a location are clean, so are those that it is written with.
use Rattle.std.proofs.Common.{◌≡◌, ℕ, zero, suc, Bool, true, false, cond, List, [], ◌∷◌, ◌++◌, length, Option, Some, None, Result, Ok, refl, sym, subst}
use Rattle.std.specs.Prelude.{codes}
use Rattle.std.specs.List.{flat_map}
use Rattle.crm_lex.specs.Names.{is, is_name}
use Rattle.crm_parse.specs.declared.fault.ParseCause.{ParseCause}
use Rattle.crm_parse.specs.declared.fault.ParseCause.TheVariants.{ExtraWord}
use Rattle.crm_parse.specs.declared.form.Form.{Form}
use Rattle.crm_parse.specs.declared.form.Form.TheVariants as form
use Rattle.crm_parse.specs.declared.rule_form.RuleForm.{RuleForm}
use Rattle.crm_parse.specs.declared.words.RoleWord.{RoleWord}
use Rattle.crm_parse.specs.declared.words.RoleWord.TheVariants as role
use Rattle.crm_parse.specs.Keys.{when}
use Rattle.crm_parse.specs.Location.{begins_rule, discovery_at, discovery_in, either_at, location_at, place_at, plain_at, resource_at, role_at, rule_at, rule_id_at, rule_role_at, rule_score_of, ruled_at, some_role, with_rule, with_rules}
use Rattle.crm_parse.specs.Reading.{Words, name_at, prefixed_at, resource_of, some_name, next_word_in}
use Rattle.crm_parse.specs.Rules.{expression_at}
use Rattle.crm_parse.proofs.Affixes.{noted_words, prefixed_at-words}
use Rattle.crm_parse.proofs.Binds.{name_at-ok, some_name-ok, word_at-ok, ok-same}
use Rattle.faults.proofs.Steps.{bind-ok}
use Rattle.crm_print.proofs.Clean.{AllClean, Clean, clean-append, clean-ascii, clean-name}
use Rattle.crm_print.proofs.CleanNumbers.{score-clean}
use Rattle.crm_print.proofs.CleanSections.{all-append, all-behind, all-front}
use Rattle.crm_print.proofs.CleanTests.{expression-clean}
use Rattle.crm_parse.proofs.LocationRead.{discovery_words, place_at-ok, resource_at-ok}
use Rattle.crm_parse.proofs.ResourceNames.{IsResource}
use Rattle.crm_print.proofs.RuleAgain.{rule_of, rule_score-case}
use Rattle.crm_print.proofs.Written.{located_words, role_words, rule_words, ruled_words, score_word, written}

role-clean : (label : List ℕ) (r : Option RoleWord) → Clean label → AllClean (role_words label r)
role-clean label None c = tt
role-clean label (Some role.Started) c = (clean-append label (codes "Started") c (clean-ascii (codes "Started") refl), tt)
role-clean label (Some role.Promoted) c = (clean-append label (codes "Promoted") c (clean-ascii (codes "Promoted") refl), tt)

discovery-clean : (everywhere : Bool) → AllClean (discovery_words everywhere)
discovery-clean true = (clean-ascii (codes "resource-discovery=always") refl, tt)
discovery-clean false = tt

-- what stands at a label and behind it
prefixed-clean : (label : List ℕ) (words : Words) → AllClean words → AllClean (noted_words label (prefixed_at label words).0)
prefixed-clean label words w = all-front _ (prefixed_at label words).1 (subst AllClean (prefixed_at-words label words (prefixed_at label words) refl) w)

prefixed-left : (label : List ℕ) (words : Words) → AllClean words → AllClean (prefixed_at label words).1
prefixed-left label words w =
    all-behind (noted_words label (prefixed_at label words).0) _ (subst AllClean (prefixed_at-words label words (prefixed_at label words) refl) w)

either-case : (words : Words) (found : Option (List ℕ)) → (prefixed_at (codes "$role=") words).0 ≡ found → AllClean words → AllClean (either_at words).1
either-case words None f w = rw (either_at, f) (prefixed-left (codes "role=") words w)
either-case words (Some text) f w = rw (either_at, f) (prefixed-left (codes "$role=") words w)

word-left : (words : Words) (read : List ℕ × Words) → AllClean words → next_word_in words ≡ Ok read → AllClean (read.0 ∷ read.1)
word-left words read w e = subst AllClean (word_at-ok words read e) w

-- what an id of a rule leaves
record CleanId (read : Option (List ℕ) × Words) : Type 0 where
  id : AllClean (noted_words (codes "$id=") read.0)
  left : AllClean read.1

rule_id-clean : (words : Words) (read : Option (List ℕ) × Words) → AllClean words → rule_id_at words ≡ Ok read → CleanId read
unfolding rule_id_at
rule_id-clean words read w e =
    let at = prefixed_at (codes "$id=") words in
    let (id, is_one, last) = bind-ok (some_name at.0) _ read e in
    let (same, good) = some_name-ok at.0 id is_one in
    let pair : (id, at.1) ≡ read = cc in
    let c : AllClean (noted_words (codes "$id=") id) = subst (λ o. AllClean (noted_words (codes "$id=") o)) (sym same) (prefixed-clean (codes "$id=") words w) in
    subst CleanId pair (record { id = c; left = prefixed-left (codes "$id=") words w })

rule_role-left : (words : Words) (read : Option RoleWord × Words) → AllClean words → rule_role_at words ≡ Ok read → AllClean read.1
unfolding rule_role_at
rule_role-left words read w e =
    let (r, is_one, last) = bind-ok (some_role (either_at words).0) _ read e in
    let pair : (r, (either_at words).1) ≡ read = cc in
    subst (λ (p : Option RoleWord × Words). AllClean p.1) pair (either-case words (prefixed_at (codes "$role=") words).0 refl w)

-- the words of a rule and the words left
record CleanRule (read : RuleForm × Words) : Type 0 where
  words : AllClean (rule_words read.0)
  left : AllClean read.1

rule-clean : (words : Words) (read : RuleForm × Words) → AllClean words → rule_at words ≡ Ok read → CleanRule read
unfolding rule_at
rule-clean words read w e =
    let (id, is_id, e1) = bind-ok (rule_id_at words) _ read e in
    let (r, is_role, e2) = bind-ok (rule_role_at id.1) _ read e1 in
    let (word, at, e3) = bind-ok (next_word_in r.1) _ read e2 in
    let (points, is_score, e4) = bind-ok (rule_score_of word.0) _ read e3 in
    let (got, is_read, last) = bind-ok (expression_at word.1) _ read e4 in
    let whole : (rule_of id.0 r.0 points got.0, got.1) ≡ read = ok-same _ read last in
    let i = rule_id-clean words id w is_id in
    let b = word-left r.1 word (rule_role-left id.1 r i.left is_role) at in
    let x = expression-clean word.1 got b.1 is_read in
    subst CleanRule whole (record {
      words = all-append (noted_words (codes "$id=") id.0) _ i.id (all-append (role_words (codes "$role=") r.0) (score_word points ∷ got.0.words)
          (role-clean (codes "$role=") r.0 (clean-ascii (codes "$role=") refl)) (score-clean points (rule_score-case word.0 points is_score), x.words));
      left = x.left;
    })

abbrev CleanRules : List RuleForm → Type 0
CleanRules rules = AllClean (flat_map ruled_words rules)

rules-append : (rules : List RuleForm) (rule : RuleForm) → CleanRules rules → AllClean (ruled_words rule) → CleanRules (rules ++ rule ∷ [])
rules-append [] rule c d = all-append (ruled_words rule) [] d tt
rules-append (r ∷ rs) rule c d =
    all-append (ruled_words r) (flat_map ruled_words (rs ++ rule ∷ [])) (all-front (ruled_words r) (flat_map ruled_words rs) c)
    (rules-append rs rule (all-behind (ruled_words r) (flat_map ruled_words rs) c) d)

record CleanMore (read : List RuleForm × Words) : Type 0 where
  rules : CleanRules read.0
  left : AllClean read.1

with_rule-clean : (before : List RuleForm) (words : Words) (read : List RuleForm × Words) → CleanRules before → AllClean words → with_rule before words ≡ Ok read → CleanMore read
unfolding with_rule
with_rule-clean before words read b w e =
    let (word, at, e1) = bind-ok (next_word_in words) _ read e in
    let (taken, is_rule, e2) = bind-ok (when (is word.0 (codes "rule")) ExtraWord) _ read e1 in
    let (rule, is_one, last) = bind-ok (rule_at word.1) _ read e2 in
    let whole : (before ++ rule.0 ∷ [], rule.1) ≡ read = cc in
    let k = rule-clean word.1 rule (word-left words word w at).1 is_one in
    subst CleanMore whole (record { rules = rules-append before rule.0 b (clean-ascii (codes "rule") refl, k.words); left = k.left })

with_rules-clean : (most : ℕ) (before : List RuleForm) (words : Words) (all : List RuleForm) → CleanRules before → AllClean words → with_rules most before words ≡ Ok all → CleanRules all
with_rules-clean zero before words all b w e = let same : before ≡ all = cc in subst CleanRules same b
with_rules-clean (suc most) before [] all b w e = let same : before ≡ all = cc in subst CleanRules same b
with_rules-clean (suc most) before (word ∷ words) all b w e =
    let (more, one, rest) = bind-ok (with_rule before (word ∷ words)) _ all e in
    let k = with_rule-clean before (word ∷ words) more b w one in
    with_rules-clean most more.0 more.1 all k.rules k.left rest

resource-left : (words : Words) (read : List ℕ × Words) → AllClean words → resource_at words ≡ Ok read → AllClean read.1
unfolding resource_at
resource-left words read w e =
    let (word, at, e1) = bind-ok (next_word_in words) _ read e in
    let (name, is_one, last) = bind-ok (resource_of word.0) _ read e1 in
    let whole : (name, word.1) ≡ read = cc in
    subst (λ (r : List ℕ × Words). AllClean r.1) whole (word-left words word w at).1

role-left : (words : Words) (read : Option RoleWord × Words) → AllClean words → role_at words ≡ Ok read → AllClean read.1
unfolding role_at
role-left words read w e =
    let at = prefixed_at (codes "role=") words in
    let (r, is_one, last) = bind-ok (some_role at.0) _ read e in
    let whole : (r, at.1) ≡ read = cc in
    subst (λ (p : Option RoleWord × Words). AllClean p.1) whole (prefixed-left (codes "role=") words w)

discovery-left : (words : Words) (read : Bool × Words) → AllClean words → discovery_at words ≡ Ok read → AllClean read.1
unfolding discovery_at
discovery-left words read w e =
    let at = prefixed_at (codes "resource-discovery=") words in
    let (everywhere, is_one, last) = bind-ok (discovery_in at.0) _ read e in
    let whole : (everywhere, at.1) ≡ read = cc in
    subst (λ (p : Bool × Words). AllClean p.1) whole (prefixed-left (codes "resource-discovery=") words w)

located-clean : (id resource : List ℕ) (r : Option RoleWord) (everywhere : Bool) (words : Words) → is_name id ≡ true → IsResource resource → AllClean words
    → AllClean (codes "location" ∷ located_words id resource r everywhere words)
located-clean id resource r everywhere words n h w = (
  clean-ascii (codes "location") refl,
  (
    clean-name id n,
    (
      clean-name resource h.named,
      all-append (role_words (codes "role=") r) (discovery_words everywhere ++ words)
          (role-clean (codes "role=") r (clean-ascii (codes "role=") refl)) (all-append (discovery_words everywhere) words (discovery-clean everywhere) w),
    ),
  ),
)

last-clean : (id resource : List ℕ) (r : Option RoleWord) (everywhere : Bool) (words : Words) (begins : Bool) (f : Form) → is_name id ≡ true → IsResource resource → AllClean words
    → cond begins (ruled_at id resource r everywhere words) (plain_at id resource r everywhere words) ≡ Ok f → AllClean (written f)
unfolding ruled_at plain_at
last-clean id resource r everywhere words true f n h w e =
    let (rules, are_rules, last) = bind-ok (with_rules (length words) [] words) _ f e in
    let whole : form.RuledLocation id resource r everywhere rules ≡ f = cc in
    subst (λ g. AllClean (written g)) whole (located-clean id resource r everywhere (flat_map ruled_words rules) n h (with_rules-clean (length words) [] words rules tt w are_rules))
last-clean id resource r everywhere words false f n h w e =
    let (place, is_place, last) = bind-ok (place_at words) _ f e in
    let whole : form.Location id resource r everywhere place.0 place.1 ≡ f = cc in
    let good = place_at-ok words place is_place in
    subst (λ g. AllClean (written g)) whole (located-clean id resource r everywhere (score_word place.0 ∷ place.1 ∷ []) n h (score-clean place.0 good.scored, (clean-name place.1 good.named, tt)))

-- the score of a location, or its rules, by what was read of its discovery
abbrev last_read : List ℕ → List ℕ → Option RoleWord → Bool × Words → Result Form ParseCause
last_read id resource r everywhere =
    cond (begins_rule everywhere.1) (ruled_at id resource r everywhere.0 everywhere.1) (plain_at id resource r everywhere.0 everywhere.1)

pub location-clean : (words : Words) (f : Form) → AllClean words → location_at words ≡ Ok f → AllClean (written f)
unfolding location_at
location-clean words f w e =
    let (id, named, e1) = bind-ok (name_at words) _ f e in
    let (resource, is_resource, e2) = bind-ok (resource_at id.1) _ f e1 in
    let (r, is_role, e3) = bind-ok (role_at resource.1) _ f e2 in
    let (everywhere, is_discovery, last) = bind-ok (discovery_at r.1) (last_read id.0 resource.0 r.0) f e3 in
    let name = name_at-ok words id named in
    let a : AllClean (id.0 ∷ id.1) = subst AllClean name.0 w in
    let b = resource-left id.1 resource a.1 is_resource in
    let c = discovery-left r.1 everywhere (role-left resource.1 r b is_role) is_discovery in
    last-clean id.0 resource.0 r.0 everywhere.0 everywhere.1 (begins_rule everywhere.1) f name.1 (resource_at-ok id.1 resource is_resource) c last
