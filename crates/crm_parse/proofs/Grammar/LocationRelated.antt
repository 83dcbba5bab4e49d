-- A location is read just when the words say it.
use Rattle.std.proofs.Common.{arith, ◌≡◌, ◌≢◌, ℕ, ℤ, Bool, true, false, cond, List, [], ◌∷◌, ◌++◌, length, Option, Some, None, Result, Ok, refl, sym, ap, ◌∙◌, subst}
use Rattle.std.specs.Prelude.{codes}
use Rattle.std.proofs.lemmas.Bool.{false_from_ne_true}
use Rattle.crm_lex.specs.Names.{is, is_name}
use Rattle.crm_parse.specs.declared.fault.ParseCause.{ParseCause}
use Rattle.crm_parse.specs.declared.fault.ParseCause.TheVariants.{Unsupported}
use Rattle.crm_parse.specs.declared.form.Form.{Form}
use Rattle.crm_parse.specs.declared.form.Form.TheVariants as form
use Rattle.crm_parse.specs.declared.rule_form.RuleForm.{RuleForm}
use Rattle.crm_parse.specs.declared.words.RoleWord.{RoleWord}
use Rattle.crm_parse.specs.Location.{begins_rule, discovery_at, discovery_in, location_at, place_at, plain_at, resource_at, role_at, ruled_at, some_role, with_rules}
use Rattle.crm_parse.specs.Reading.{Words, end_at, name_at, next_word_in, prefixed_at, resource_of, rule_role_of, score_of}
use Rattle.faults.proofs.Steps.{bind-ok}
use Rattle.crm_parse.proofs.Binds.{if-ok, is-true, name_at-again, name_at-ok, ok-same, word_at-ok}
use Rattle.crm_parse.proofs.ResourceNames.{IsResource, resource-ok}
use Rattle.crm_parse.proofs.Affixes.{noted_words, prefixed_at-words}
use Rattle.crm_parse.proofs.LocationRead.{discovery-no_role, discovery_at-again, discovery_words, resource_at-again, Rest}
use Rattle.crm_parse.proofs.ScoreRead.{first-none, score-none}
use Rattle.score.specs.ScoreText.{read_score}
use Rattle.crm_parse.specs.Grammar.Phrases.{LabelSays, MaySay, PartsSay, is_given, label_then, no_part, not_given, one_part, then_colon}
use Rattle.crm_parse.specs.Grammar.LocationForms.{DiscoverySays, LocationSays, RuleSays, a_rule, always_discovered, at_a_node, no_discovery, where_rules_say}
use Rattle.crm_parse.specs.Grammar.Scores.{ScoreSays, TakenRoleSays}
use Rattle.crm_parse.proofs.Grammar.RuleRelated.{rules-read, rules-said}
use Rattle.crm_parse.proofs.Grammar.ScoresSaid.{role-read, role-said, score-begins, score-read, score-said, table-is}
use Rattle.crm_parse.proofs.Grammar.WordsSaid.{end-ok, resource-again}

-- the resource
record ResourceIsSaid (words : Words) (got : List ℕ × Words) : Type 0 where
  whole : words ≡ got.0 ∷ got.1
  named : is_name got.0 ≡ true

resource-said : (words : Words) (got : List ℕ × Words) → resource_at words ≡ Ok got → ResourceIsSaid words got
unfolding resource_at
resource-said words got e =
    let (word, at, e1) = bind-ok (next_word_in words) _ got e in
    let (name, is_one, last) = bind-ok (resource_of word.0) _ got e1 in
    let (is, same) = resource-ok word.0 name is_one in
    let made : (name, word.1) ≡ got = ok-same _ got last in
    subst (ResourceIsSaid words) made (record { whole = word_at-ok words word at ∙ ap (λ w. w ∷ word.1) (sym same); named = is.named })

-- the role
role-case : (written : Option (List ℕ)) (read : Option RoleWord) → some_role written ≡ Ok read
    → MaySay (LabelSays (codes "role=") TakenRoleSays) (noted_words (codes "role=") written) read
role-case None read e = let same : None ≡ read = ok-same _ read e in subst (MaySay (LabelSays (codes "role=") TakenRoleSays) []) same not_given
role-case (Some text) read e =
    let (role, is_role, last) = bind-ok (rule_role_of text) _ read e in
    let same : Some role ≡ read = ok-same _ read last in
    subst (MaySay (LabelSays (codes "role=") TakenRoleSays) ((codes "role=" ++ text) ∷ [])) same
    (is_given (codes "role=" ++ text) role (label_then text role (role-said text role is_role)))

record RoleIsSaid (words : Words) (got : Option RoleWord × Words) : Type 0 where
  front : Words
  whole : words ≡ front ++ got.1
  said : MaySay (LabelSays (codes "role=") TakenRoleSays) front got.0

role_at-said : (words : Words) (got : Option RoleWord × Words) → role_at words ≡ Ok got → RoleIsSaid words got
unfolding role_at
role_at-said words got e =
    let found = prefixed_at (codes "role=") words in
    let (role, is_one, last) = bind-ok (some_role found.0) _ got e in
    let made : (role, found.1) ≡ got = ok-same _ got last in
    subst (RoleIsSaid words) made (record {
      front = noted_words (codes "role=") found.0;
      whole = prefixed_at-words (codes "role=") words found refl;
      said = role-case found.0 role is_one;
    })

-- the discovery
discovery-case : (written : Option (List ℕ)) (read : Bool) → discovery_in written ≡ Ok read → DiscoverySays (noted_words (codes "resource-discovery=") written) read
discovery-case None read e = let same : false ≡ read = ok-same _ read e in subst (DiscoverySays []) same no_discovery
discovery-case (Some text) read e =
    let (done, always) = if-ok (is text (codes "always")) (Ok true) read Unsupported e in
    let same : true ≡ read = ok-same _ read done in
    let word : codes "always" ≡ text = sym (is-true text (codes "always") always) in
    subst (λ t. DiscoverySays ((codes "resource-discovery=" ++ t) ∷ []) read) word (subst (DiscoverySays (codes "resource-discovery=always" ∷ [])) same always_discovered)

record DiscoveryIsSaid (words : Words) (got : Bool × Words) : Type 0 where
  front : Words
  whole : words ≡ front ++ got.1
  said : DiscoverySays front got.0

discovery-said : (words : Words) (got : Bool × Words) → discovery_at words ≡ Ok got → DiscoveryIsSaid words got
unfolding discovery_at
discovery-said words got e =
    let found = prefixed_at (codes "resource-discovery=") words in
    let (discovery, is_one, last) = bind-ok (discovery_in found.0) _ got e in
    let made : (discovery, found.1) ≡ got = ok-same _ got last in
    subst (DiscoveryIsSaid words) made (record {
      front = noted_words (codes "resource-discovery=") found.0;
      whole = prefixed_at-words (codes "resource-discovery=") words found refl;
      said = discovery-case found.0 discovery is_one;
    })

-- a score and a node
record PlaceIsSaid (words : Words) (got : ℤ × List ℕ) : Type 0 where
  score : List ℕ
  whole : words ≡ score ∷ got.1 ∷ []
  said : ScoreSays score got.0
  named : is_name got.1 ≡ true

place-said : (words : Words) (got : ℤ × List ℕ) → place_at words ≡ Ok got → PlaceIsSaid words got
unfolding place_at
place-said words got e =
    let (word, at, e1) = bind-ok (next_word_in words) _ got e in
    let (points, scored, e2) = bind-ok (score_of word.0) _ got e1 in
    let (node, named, e3) = bind-ok (name_at word.1) _ got e2 in
    let (end, at_end, last) = bind-ok (end_at node.1) _ got e3 in
    let (node_is, good) = name_at-ok word.1 node named in
    let made : (points, node.0) ≡ got = ok-same _ got last in
    subst (PlaceIsSaid words) made (record {
      score = word.0;
      whole = word_at-ok words word at ∙ ap (λ ws. word.0 ∷ ws) (node_is ∙ ap (λ ws. node.0 ∷ ws) (end-ok node.1 end at_end));
      said = score-said word.0 points scored;
      named = good;
    })

no-rules : (words : Words) (rules : List RuleForm) → PartsSay RuleSays words rules → rules ≡ [] → words ≡ []
no-rules ws rs no_part e = refl
no-rules ws rs (one_part part rule words rules s more) e = cc

-- what stands before a score or rules
module _ (id resource : List ℕ) (role_words : Words) (role : Option RoleWord) (front : Words) (discovery : Bool) (named : is_name id ≡ true)
    (is_resource : is_name resource ≡ true) (role_said : MaySay (LabelSays (codes "role=") TakenRoleSays) role_words role) (everywhere : DiscoverySays front discovery) where
  plain-said : (words : Words) (f : Form) → plain_at id resource role discovery words ≡ Ok f → LocationSays (id ∷ resource ∷ (role_words ++ (front ++ words))) f
  unfolding plain_at
  plain-said words f e =
      let (place, is_place, last) = bind-ok (place_at words) _ f e in
      let made : form.Location id resource role discovery place.0 place.1 ≡ f = ok-same _ f last in
      let p = place-said words place is_place in
      subst (λ ws. LocationSays (id ∷ resource ∷ (role_words ++ (front ++ ws))) f) (sym p.whole)
      (subst (LocationSays (id ∷ resource ∷ (role_words ++ (front ++ (p.score ∷ place.1 ∷ []))))) made
      (at_a_node id resource role_words role front discovery p.score place.0 place.1 named is_resource role_said everywhere p.said p.named))

  some-case : (words : Words) (rules : List RuleForm) → begins_rule words ≡ true → PartsSay RuleSays words rules → rules ≢ []
  some-case words rules b s e = let f : begins_rule [] ≡ true = subst (λ ws. begins_rule ws ≡ true) (no-rules words rules s e) b in cc

  ruled-said : (words : Words) (f : Form) → begins_rule words ≡ true → ruled_at id resource role discovery words ≡ Ok f
      → LocationSays (id ∷ resource ∷ (role_words ++ (front ++ words))) f
  unfolding ruled_at
  ruled-said words f b e =
      let (rules, are_rules, last) = bind-ok (with_rules (length words) [] words) _ f e in
      let made : form.RuledLocation id resource role discovery rules ≡ f = ok-same _ f last in
      let r = rules-said (length words) [] words rules (omega arith) are_rules in
      let said : PartsSay RuleSays words rules = subst (PartsSay RuleSays words) (sym r.added) r.said in
      subst (LocationSays (id ∷ resource ∷ (role_words ++ (front ++ words)))) made
      (where_rules_say id resource role_words role front discovery words rules named is_resource role_said everywhere said (some-case words rules b said))

  last-said : (words : Words) (begins : Bool) (f : Form) → begins_rule words ≡ begins
      → cond begins (ruled_at id resource role discovery words) (plain_at id resource role discovery words) ≡ Ok f
      → LocationSays (id ∷ resource ∷ (role_words ++ (front ++ words))) f
  last-said words true f b e = ruled-said words f b e
  last-said words false f b e = plain-said words f e

-- what is read as a location says it
pub location-is_said : (words : Words) (f : Form) → location_at words ≡ Ok f → LocationSays words f
unfolding location_at
location-is_said words f e =
    let (id, named, e1) = bind-ok (name_at words) _ f e in
    let (resource, is_resource, e2) = bind-ok (resource_at id.1) _ f e1 in
    let (role, is_role, e3) = bind-ok (role_at resource.1) _ f e2 in
    let (everywhere, is_discovery, last) = bind-ok (discovery_at role.1) _ f e3 in
    let (id_is, good) = name_at-ok words id named in
    let r = resource-said id.1 resource is_resource in
    let o = role_at-said resource.1 role is_role in
    let d = discovery-said role.1 everywhere is_discovery in
    let whole : id.0 ∷ resource.0 ∷ (o.front ++ (d.front ++ everywhere.1)) ≡ words =
    ap (λ ws. id.0 ∷ resource.0 ∷ (o.front ++ ws)) (sym d.whole)
    ∙ (ap (λ ws. id.0 ∷ resource.0 ∷ ws) (sym o.whole) ∙ (ap (λ ws. id.0 ∷ ws) (sym r.whole) ∙ sym id_is)) in
    subst (λ ws. LocationSays ws f) whole
    (last-said id.0 resource.0 o.front role.0 d.front everywhere.0 good r.named o.said d.said everywhere.1 (begins_rule everywhere.1) f refl last)

-- and the other way round
is_resource-read : (name : List ℕ) → is_name name ≡ true → IsResource name
is_resource-read name h = record { named = h; read = resource-again name h }

discovery-is : (words : Words) (discovery : Bool) → DiscoverySays words discovery → words ≡ discovery_words discovery
discovery-is ws d no_discovery = refl
discovery-is ws d always_discovered = refl

role_label-read : (word : List ℕ) (role : RoleWord) (words : Words) → LabelSays (codes "role=") TakenRoleSays word role → role_at (word ∷ words) ≡ Ok (Some role, words)
unfolding role_at
role_label-read w r words (label_then text role s) = rw (role_at, role-read text role s) refl

role_at-read : (front : Words) (role : Option RoleWord) (rest : Words) → MaySay (LabelSays (codes "role=") TakenRoleSays) front role
    → prefixed_at (codes "role=") rest ≡ (None, rest) → role_at (front ++ rest) ≡ Ok (role, rest)
unfolding role_at
role_at-read f r rest not_given n = rw (role_at, n) refl
role_at-read f r rest (is_given word role s) n = role_label-read word role rest s

score-no_label : (b : ℕ) (label score : List ℕ) (points : ℤ) (words : Words) → ((t : List ℕ) → read_score (b ∷ t) ≡ None) → ScoreSays score points
    → prefixed_at (b ∷ label) (score ∷ words) ≡ (None, score ∷ words)
score-no_label b label score points words none s = rw (score-begins b label score points none s, prefixed_at) refl

score-rest : (score : List ℕ) (points : ℤ) (words : Words) → ScoreSays score points → Rest (score ∷ words)
score-rest score points words s = record {
  role = score-no_label 114 (codes "ole=") score points words (score-none 114 refl (λ t. refl) (λ t. refl)) s;
  discovery = score-no_label 114 (codes "esource-discovery=") score points words (score-none 114 refl (λ t. refl) (λ t. refl)) s;
}

score-no_rule : (score : List ℕ) (points : ℤ) (words : Words) → ScoreSays score points → begins_rule (score ∷ words) ≡ false
score-no_rule w points words (then_colon text value s) = false_from_ne_true _ (λ e.
    first-none 114 (codes "ule") text (codes ":") [] value (score-none 114 refl (λ t. refl) (λ t. refl)) (table-is read_score text value s)
    (is-true (text ++ codes ":") (codes "rule") e))

place-read : (score : List ℕ) (points : ℤ) (node : List ℕ) → ScoreSays score points → is_name node ≡ true → place_at (score ∷ node ∷ []) ≡ Ok (points, node)
unfolding place_at
place-read score points node s n = rw (place_at, score-read score points s, name_at-again node [] n) refl

rule-rest : (part : Words) (rule : RuleForm) (words : Words) → RuleSays part rule → Rest (part ++ words) × (begins_rule (part ++ words) ≡ true)
rule-rest p f words (a_rule id_words id role_words role score points ws kept rule i r s x) = (record { role = refl; discovery = refl }, refl)

rules-rest : (words : Words) (rules : List RuleForm) → PartsSay RuleSays words rules → rules ≢ [] → Rest words × (begins_rule words ≡ true)
rules-rest ws rs no_part some = absurd (some refl)
rules-rest ws rs (one_part part rule words rules s more) some = rule-rest part rule words s

abbrev last_at : List ℕ → List ℕ → Option RoleWord → Bool → Words → Result Form ParseCause
last_at id resource role discovery words = cond (begins_rule words) (ruled_at id resource role discovery words) (plain_at id resource role discovery words)

located : (id resource : List ℕ) (role_words : Words) (role : Option RoleWord) (front : Words) (discovery : Bool) (words : Words) → is_name id ≡ true
    → is_name resource ≡ true → MaySay (LabelSays (codes "role=") TakenRoleSays) role_words role → DiscoverySays front discovery → Rest words
    → location_at (id ∷ resource ∷ (role_words ++ (front ++ words))) ≡ last_at id resource role discovery words
unfolding location_at
located id resource role_words role front discovery words n r o d rest =
    let same = discovery-is front discovery d in
    let no_role : prefixed_at (codes "role=") (front ++ words) ≡ (None, front ++ words) =
    subst (λ ws. prefixed_at (codes "role=") (ws ++ words) ≡ (None, ws ++ words)) (sym same) (discovery-no_role discovery words rest) in
    let found : discovery_at (front ++ words) ≡ Ok (discovery, words) = subst (λ ws. discovery_at (ws ++ words) ≡ Ok (discovery, words)) (sym same) (discovery_at-again discovery words rest) in
    rw (
      location_at,
      name_at-again id (resource ∷ (role_words ++ (front ++ words))) n,
      resource_at-again resource (role_words ++ (front ++ words)) (is_resource-read resource r),
      role_at-read role_words role (front ++ words) o no_role,
      found,
    ) refl

plain-read : (id resource : List ℕ) (role : Option RoleWord) (discovery : Bool) (score : List ℕ) (points : ℤ) (node : List ℕ) → ScoreSays score points
    → is_name node ≡ true → last_at id resource role discovery (score ∷ node ∷ []) ≡ Ok (form.Location id resource role discovery points node)
unfolding plain_at
plain-read id resource role discovery score points node s n = rw (score-no_rule score points (node ∷ []) s, plain_at, place-read score points node s n) refl

ruled-read : (id resource : List ℕ) (role : Option RoleWord) (discovery : Bool) (words : Words) (rules : List RuleForm) → PartsSay RuleSays words rules
    → begins_rule words ≡ true → last_at id resource role discovery words ≡ Ok (form.RuledLocation id resource role discovery rules)
unfolding ruled_at
ruled-read id resource role discovery words rules s b = rw (b, ruled_at, rules-read (length words) [] words rules s (omega arith)) refl

-- what says a location is read as it
pub location-is_read : (words : Words) (f : Form) → LocationSays words f → location_at words ≡ Ok f
location-is_read ws f (at_a_node id resource role_words role front discovery score points node n r o d s k) =
    located id resource role_words role front discovery (score ∷ node ∷ []) n r o d (score-rest score points (node ∷ []) s)
    ∙ plain-read id resource role discovery score points node s k
location-is_read ws f (where_rules_say id resource role_words role front discovery words rules n r o d s some) =
    let (rest, b) = rules-rest words rules s some in
    located id resource role_words role front discovery words n r o d rest ∙ ruled-read id resource role discovery words rules s b
