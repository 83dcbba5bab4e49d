-- The rules of a location are read just when the words say them.
use Rattle.std.proofs.Common.{arith, ◌<◌, ◌≡◌, ◌≤◌, zero, suc, ℕ, ℤ, true, List, [], ◌∷◌, ◌++◌, length, Option, Some, None, Ok, refl, sym, ap, ◌∙◌, subst, append_assoc, append-nil}
use Rattle.std.specs.Prelude.{codes, is_some}
use Rattle.std.proofs.lemmas.List.{length-append}
use Rattle.crm_lex.specs.Names.{is, is_name}
use Rattle.date_rules.specs.declared.rule.Rule.{Rule}
use Rattle.crm_parse.specs.declared.expression.Expression.{Expression}
use Rattle.crm_parse.specs.declared.fault.ParseCause.TheVariants.{ExtraWord, Unsupported}
use Rattle.crm_parse.specs.declared.rule_form.RuleForm.{RuleForm}
use Rattle.crm_parse.specs.declared.words.RoleWord.{RoleWord}
use Rattle.crm_parse.specs.Keys.{when}
use Rattle.crm_parse.specs.Location.{either_at, rule_at, rule_id_at, rule_role_at, rule_score_of, some_role, with_rule, with_rules}
use Rattle.crm_parse.specs.Reading.{Words, next_word_in, prefixed_at, rule_role_of, score_of, some_name}
use Rattle.crm_parse.specs.Rules.{expression_at, joiner_at}
use Rattle.crm_parse.specs.Texts.{after}
use Rattle.faults.proofs.Steps.{bind-ok}
use Rattle.crm_parse.proofs.Binds.{is-true, name_of-again, ok-same, some_name-name, some_name-ok, unless-ok, when-ok, word_at-ok}
use Rattle.crm_parse.proofs.Affixes.{noted_words, prefixed_at-words}
use Rattle.crm_parse.proofs.ScoreRead.{score-none}
use Rattle.crm_parse.specs.Grammar.Phrases.{LabelSays, MaySay, NameSays, PartsSay, a_name, is_given, label_then, no_part, not_given, one_part}
use Rattle.crm_parse.specs.Grammar.LocationForms.{RuleRoleWord, RuleSays, a_rule, with_dollar, without_dollar}
use Rattle.crm_parse.specs.Grammar.Scores.{ScoreSays, TakenRoleSays}
use Rattle.crm_parse.proofs.Grammar.ExpressionRelated.{ExpressionIsRead, expression-read, expression-said, rule_of}
use Rattle.crm_parse.proofs.Grammar.ScoresSaid.{role-read, role-said, score-begins, score-read, score-said}

-- the id
id-case : (id : Option (List ℕ)) → some_name id ≡ Ok id → MaySay (LabelSays (codes "$id=") NameSays) (noted_words (codes "$id=") id) id
id-case None e = not_given
id-case (Some name) e = is_given (codes "$id=" ++ name) name (label_then name name (a_name name (some_name-name name e)))

record IdIsSaid (words : Words) (got : Option (List ℕ) × Words) : Type 0 where
  front : Words
  whole : words ≡ front ++ got.1
  said : MaySay (LabelSays (codes "$id=") NameSays) front got.0

id-said : (words : Words) (got : Option (List ℕ) × Words) → rule_id_at words ≡ Ok got → IdIsSaid words got
unfolding rule_id_at
id-said words got e =
    let found = prefixed_at (codes "$id=") words in
    let (id, is_one, last) = bind-ok (some_name found.0) _ got e in
    let (same, good) = some_name-ok found.0 id is_one in
    let made : (id, found.1) ≡ got = ok-same _ got last in
    subst (IdIsSaid words) made (record {
      front = noted_words (codes "$id=") found.0;
      whole = prefixed_at-words (codes "$id=") words found refl;
      said = subst (MaySay (LabelSays (codes "$id=") NameSays) (noted_words (codes "$id=") found.0)) (sym same) (id-case found.0 good);
    })

-- the role
record RoleIsSaid (words : Words) (got : Option RoleWord × Words) : Type 0 where
  front : Words
  whole : words ≡ front ++ got.1
  said : MaySay RuleRoleWord front got.0

none-said : (words rest : Words) (read : Option RoleWord) → words ≡ rest → None ≡ read → RoleIsSaid words (read, rest)
none-said words rest read w r = record { front = []; whole = w; said = subst (MaySay RuleRoleWord []) r not_given }

some-said : (word text : List ℕ) (words rest : Words) (read : Option RoleWord) → words ≡ word ∷ rest → ((role : RoleWord) → TakenRoleSays text role → RuleRoleWord word role)
    → some_role (Some text) ≡ Ok read → RoleIsSaid words (read, rest)
some-said word text words rest read w h e =
    let (role, is_role, last) = bind-ok (rule_role_of text) _ read e in
    let made : Some role ≡ read = ok-same _ read last in
    record { front = word ∷ []; whole = w; said = subst (MaySay RuleRoleWord (word ∷ [])) made (is_given word role (h role (role-said text role is_role))) }

plain-case : (words : Words) (found : Option (List ℕ) × Words) (read : Option RoleWord) → words ≡ noted_words (codes "role=") found.0 ++ found.1
    → some_role found.0 ≡ Ok read → RoleIsSaid words (read, found.1)
plain-case words (None, rest) read w e = none-said words rest read w (ok-same _ read e)
plain-case words (Some text, rest) read w e = some-said (codes "role=" ++ text) text words rest read w (λ role s. without_dollar text role s) e

either-case : (words : Words) (found : Option (List ℕ) × Words) (read : Option RoleWord) → prefixed_at (codes "$role=") words ≡ found
    → some_role (either_at words).0 ≡ Ok read → RoleIsSaid words (read, (either_at words).1)
either-case words (None, rest) read f e =
    let same : either_at words ≡ prefixed_at (codes "role=") words = rw (either_at, f) refl in
    subst (λ (g : Option (List ℕ) × Words). RoleIsSaid words (read, g.1)) (sym same)
    (plain-case words (prefixed_at (codes "role=") words) read (prefixed_at-words (codes "role=") words (prefixed_at (codes "role=") words) refl)
    (subst (λ (g : Option (List ℕ) × Words). some_role g.0 ≡ Ok read) same e))
either-case words (Some text, rest) read f e =
    let same : either_at words ≡ (Some text, rest) = rw (either_at, f) (rw f refl) in
    subst (λ (g : Option (List ℕ) × Words). RoleIsSaid words (read, g.1)) (sym same)
    (some-said (codes "$role=" ++ text) text words rest read (prefixed_at-words (codes "$role=") words (Some text, rest) f) (λ role s. with_dollar text role s)
    (subst (λ (g : Option (List ℕ) × Words). some_role g.0 ≡ Ok read) same e))

rule_role-said : (words : Words) (got : Option RoleWord × Words) → rule_role_at words ≡ Ok got → RoleIsSaid words got
unfolding rule_role_at
rule_role-said words got e =
    let (role, is_one, last) = bind-ok (some_role (either_at words).0) _ got e in
    let made : (role, (either_at words).1) ≡ got = ok-same _ got last in
    subst (RoleIsSaid words) made (either-case words (prefixed_at (codes "$role=") words) role refl is_one)

-- a rule behind its first word
record RuleIsSaid (words : Words) (got : RuleForm × Words) : Type 0 where
  front : Words
  whole : words ≡ front ++ got.1
  said : RuleSays (codes "rule" ∷ front) got.0

rule-said : (words : Words) (got : RuleForm × Words) → rule_at words ≡ Ok got → RuleIsSaid words got
unfolding rule_at
rule-said words got e =
    let (id, is_id, e1) = bind-ok (rule_id_at words) _ got e in
    let (role, is_role, e2) = bind-ok (rule_role_at id.1) _ got e1 in
    let (word, at, e3) = bind-ok (next_word_in role.1) _ got e2 in
    let (points, is_score, e4) = bind-ok (rule_score_of word.0) _ got e3 in
    let (read, is_read, last) = bind-ok (expression_at word.1) _ got e4 in
    let made : (record { id = id.0; role = role.0; score = points; words = read.0.words; rule = rule_of read.0 }, read.1) ≡ got = ok-same _ got last in
    let i = id-said words id is_id in
    let r = rule_role-said id.1 role is_role in
    let s = score-said word.0 points (unless-ok (is_some (after (codes "$id-ref=") word.0)) (score_of word.0) points Unsupported is_score).0 in
    let x = expression-said word.1 read is_read in
    let behind : role.1 ≡ (word.0 ∷ x.front) ++ read.1 = word_at-ok role.1 word at ∙ ap (λ ws. word.0 ∷ ws) x.whole in
    let after_id : id.1 ≡ (r.front ++ (word.0 ∷ x.front)) ++ read.1 = r.whole ∙ (ap (λ ws. r.front ++ ws) behind ∙ sym (append_assoc r.front (word.0 ∷ x.front) read.1)) in
    subst (RuleIsSaid words) made (record {
      front = i.front ++ (r.front ++ (word.0 ∷ x.front));
      whole = i.whole ∙ (ap (λ ws. i.front ++ ws) after_id ∙ sym (append_assoc i.front (r.front ++ (word.0 ∷ x.front)) read.1));
      said = a_rule i.front id.0 r.front role.0 word.0 points x.front read.0.words (rule_of read.0) i.said r.said s x.said;
    })

-- one more rule
record OneRule (before : List RuleForm) (words : Words) (got : List RuleForm × Words) : Type 0 where
  part : Words
  rule : RuleForm
  whole : words ≡ part ++ got.1
  added : got.0 ≡ before ++ rule ∷ []
  said : RuleSays part rule
  long : 1 ≤ length part

with_rule-said : (before : List RuleForm) (words : Words) (got : List RuleForm × Words) → with_rule before words ≡ Ok got → OneRule before words got
unfolding with_rule
with_rule-said before words got e =
    let (word, at, e1) = bind-ok (next_word_in words) _ got e in
    let (taken, is_rule, e2) = bind-ok (when (is word.0 (codes "rule")) ExtraWord) _ got e1 in
    let (rule, is_one, last) = bind-ok (rule_at word.1) _ got e2 in
    let made : (before ++ rule.0 ∷ [], rule.1) ≡ got = ok-same _ got last in
    let r = rule-said word.1 rule is_one in
    let first : word.0 ≡ codes "rule" = is-true word.0 (codes "rule") (when-ok (is word.0 (codes "rule")) ExtraWord taken is_rule) in
    subst (OneRule before words) made (record {
      part = codes "rule" ∷ r.front;
      rule = rule.0;
      whole = word_at-ok words word at ∙ (ap (λ w. w ∷ word.1) first ∙ ap (λ ws. codes "rule" ∷ ws) r.whole);
      added = refl;
      said = r.said;
      long = omega arith;
    })

-- it takes its words
pub rule-shorter : (before : List RuleForm) (words : Words) (got : List RuleForm × Words) → with_rule before words ≡ Ok got → length got.1 < length words
rule-shorter before words got e =
    let o = with_rule-said before words got e in
    let same : length words ≡ length (o.part ++ got.1) = ap (λ (ws : Words). length ws) o.whole in
    let long = o.long in
    omega (arith, same, long, length-append o.part got.1)

-- all of them
pub record RulesAreSaid (before : List RuleForm) (words : Words) (all : List RuleForm) : Type 0 where
  pub rules : List RuleForm
  pub added : all ≡ before ++ rules
  pub said : PartsSay RuleSays words rules

no_rule-said : (before all : List RuleForm) (words : Words) → words ≡ [] → before ≡ all → RulesAreSaid before words all
no_rule-said before all words w e =
    subst (λ ws. RulesAreSaid before ws all) (sym w) (record { rules = []; added = sym e ∙ sym (append-nil before); said = no_part })

more_rules-said : (before all : List RuleForm) (words : Words) (between : List RuleForm × Words) → OneRule before words between → RulesAreSaid between.0 between.1 all
    → RulesAreSaid before words all
more_rules-said before all words between a b = record {
  rules = a.rule ∷ b.rules;
  added = b.added ∙ (ap (λ rs. rs ++ b.rules) a.added ∙ append_assoc before (a.rule ∷ []) b.rules);
  said = subst (λ ws. PartsSay RuleSays ws (a.rule ∷ b.rules)) (sym a.whole) (one_part a.part a.rule between.1 b.rules a.said b.said);
}

short : (words : Words) → length words ≤ zero → words ≡ []
short [] n = refl
short (word ∷ words) n = absurd (let f : ⊥ = omega (arith, n) in f)

pub rules-said : (most : ℕ) (before : List RuleForm) (words : Words) (all : List RuleForm) → length words ≤ most → with_rules most before words ≡ Ok all
    → RulesAreSaid before words all
rules-said zero before words all n e = no_rule-said before all words (short words n) (ok-same _ all e)
rules-said (suc most) before [] all n e = no_rule-said before all [] refl (ok-same _ all e)
rules-said (suc most) before (word ∷ words) all n e =
    let (between, one, rest) = bind-ok (with_rule before (word ∷ words)) _ all e in
    let a = with_rule-said before (word ∷ words) between one in
    let m : length between.1 ≤ most = omega (arith, n, a.long, ap length a.whole, length-append a.part between.1) in
    more_rules-said before all (word ∷ words) between a (rules-said most between.0 between.1 all m rest)

-- and the other way round
name-is : (word name : List ℕ) → NameSays word name → (word ≡ name) × (is_name name ≡ true)
name-is w n (a_name name h) = (refl, h)

id_label-read : (word name : List ℕ) (words : Words) → LabelSays (codes "$id=") NameSays word name → rule_id_at (word ∷ words) ≡ Ok (Some name, words)
unfolding rule_id_at
id_label-read w n words (label_then text name s) =
    let (same, h) = name-is text name s in
    rw (same, rule_id_at, name_of-again name h) refl

id-read : (front : Words) (id : Option (List ℕ)) (rest : Words) → MaySay (LabelSays (codes "$id=") NameSays) front id
    → prefixed_at (codes "$id=") rest ≡ (None, rest) → rule_id_at (front ++ rest) ≡ Ok (id, rest)
unfolding rule_id_at
id-read f i rest not_given n = rw (rule_id_at, n) refl
id-read f i rest (is_given word name s) n = id_label-read word name rest s

role_word-read : (word : List ℕ) (role : RoleWord) (words : Words) → RuleRoleWord word role → rule_role_at (word ∷ words) ≡ Ok (Some role, words)
unfolding rule_role_at
role_word-read w r words (with_dollar text role s) = rw (rule_role_at, role-read text role s) refl
role_word-read w r words (without_dollar text role s) = rw (rule_role_at, role-read text role s) refl

score-no_label : (b : ℕ) (label score : List ℕ) (words : Words) → after (b ∷ label) score ≡ None → prefixed_at (b ∷ label) (score ∷ words) ≡ (None, score ∷ words)
score-no_label b label score words h = rw (h, prefixed_at) refl

no_role : (score : List ℕ) (points : ℤ) (words : Words) → ScoreSays score points → either_at (score ∷ words) ≡ (None, score ∷ words)
no_role score points words s =
    rw (
      either_at,
      score-no_label 36 (codes "role=") score words (score-begins 36 (codes "role=") score points (score-none 36 refl (λ t. refl) (λ t. refl)) s),
      score-no_label 114 (codes "ole=") score words (score-begins 114 (codes "ole=") score points (score-none 114 refl (λ t. refl) (λ t. refl)) s),
    ) refl

rule_role-read : (front : Words) (role : Option RoleWord) (score : List ℕ) (points : ℤ) (words : Words) → MaySay RuleRoleWord front role → ScoreSays score points
    → rule_role_at (front ++ (score ∷ words)) ≡ Ok (role, score ∷ words)
unfolding rule_role_at
rule_role-read f r score points words not_given s = rw (rule_role_at, no_role score points words s) refl
rule_role-read f r score points words (is_given word role h) s = role_word-read word role (score ∷ words) h

role-no_id : (word : List ℕ) (role : RoleWord) (words : Words) → RuleRoleWord word role → prefixed_at (codes "$id=") (word ∷ words) ≡ (None, word ∷ words)
role-no_id w r words (with_dollar text role s) = refl
role-no_id w r words (without_dollar text role s) = refl

no_id : (front : Words) (role : Option RoleWord) (score : List ℕ) (points : ℤ) (words : Words) → MaySay RuleRoleWord front role → ScoreSays score points
    → prefixed_at (codes "$id=") (front ++ (score ∷ words)) ≡ (None, front ++ (score ∷ words))
no_id f r score points words not_given s =
    score-no_label 36 (codes "id=") score words (score-begins 36 (codes "id=") score points (score-none 36 refl (λ t. refl) (λ t. refl)) s)
no_id f r score points words (is_given word role h) s = role-no_id word role (score ∷ words) h

score-rule : (score : List ℕ) (points : ℤ) → ScoreSays score points → rule_score_of score ≡ Ok points
score-rule score points s =
    rw (score-begins 36 (codes "id-ref=") score points (score-none 36 refl (λ t. refl) (λ t. refl)) s, score-read score points s) refl

abbrev rule_form : Option (List ℕ) → Option RoleWord → ℤ → Words → Rule → RuleForm
rule_form id role points kept rule = record { id = id; role = role; score = points; words = kept; rule = rule }

made-rule : (id : Option (List ℕ)) (role : Option RoleWord) (points : ℤ) (got : Expression) (kept : Words) (rule : Rule) → got.words ≡ kept → rule_of got ≡ rule
    → rule_form id role points got.words (rule_of got) ≡ rule_form id role points kept rule
made-rule id role points got kept rule w r =
    ap (λ ws. rule_form id role points ws (rule_of got)) w ∙ ap (λ x. rule_form id role points kept x) r

behind-read : (id_words : Words) (id : Option (List ℕ)) (role_words : Words) (role : Option RoleWord) (score : List ℕ) (points : ℤ) (words kept : Words) (rule : Rule)
    (rest : Words) → MaySay (LabelSays (codes "$id=") NameSays) id_words id → MaySay RuleRoleWord role_words role → ScoreSays score points
    → ExpressionIsRead words kept rule rest
    → rule_at (id_words ++ (role_words ++ (score ∷ (words ++ rest))))
    ≡ Ok (rule_form id role points kept rule, rest)
unfolding rule_at
behind-read id_words id role_words role score points words kept rule rest i r s x =
    rw (
      rule_at,
      id-read id_words id (role_words ++ (score ∷ (words ++ rest))) i (no_id role_words role score points (words ++ rest) r s),
      rule_role-read role_words role score points (words ++ rest) r s,
      score-rule score points s,
      x.read,
    ) (ap (λ (f : RuleForm). Ok (f, rest)) (made-rule id role points x.got kept rule x.words_are x.rule_is))

with_rule-read : (before : List RuleForm) (words : Words) (rule : RuleForm) (rest : Words) → RuleSays words rule → joiner_at rest ≡ None
    → with_rule before (words ++ rest) ≡ Ok (before ++ rule ∷ [], rest)
unfolding with_rule
with_rule-read before ws f rest (a_rule id_words id role_words role score points words kept rule i r s x) j =
    let split : (id_words ++ (role_words ++ (score ∷ words))) ++ rest ≡ id_words ++ (role_words ++ (score ∷ (words ++ rest))) =
    append_assoc id_words (role_words ++ (score ∷ words)) rest ∙ ap (λ ws. id_words ++ ws) (append_assoc role_words (score ∷ words) rest) in
    rw (with_rule, split, behind-read id_words id role_words role score points words kept rule rest i r s (expression-read words kept rule rest x j)) refl

rules-joiner : (words : Words) (rules : List RuleForm) → PartsSay RuleSays words rules → joiner_at words ≡ None
unfolding joiner_at
rules-joiner ws rs no_part = refl
rules-joiner ws rs (one_part part rule words rules s more) = rule-joiner part rule words s
  where
    rule-joiner : (part : Words) (rule : RuleForm) (words : Words) → RuleSays part rule → joiner_at (part ++ words) ≡ None
    rule-joiner p f words (a_rule id_words id role_words role score points ws kept rule i r s x) = refl

rules-step : (most : ℕ) (before : List RuleForm) (part : Words) (rule : RuleForm) (words : Words) (all : List RuleForm) → RuleSays part rule
    → with_rule before (part ++ words) ≡ Ok (before ++ rule ∷ [], words) → with_rules most (before ++ rule ∷ []) words ≡ Ok all
    → with_rules (suc most) before (part ++ words) ≡ Ok all
rules-step most before p f words all (a_rule id_words id role_words role score points ws kept rule i r s x) h k = rw h k

part-long : (part : Words) (rule : RuleForm) → RuleSays part rule → 1 ≤ length part
part-long p f (a_rule id_words id role_words role score points ws kept rule i r s x) = omega arith

none-left : (most : ℕ) (before : List RuleForm) → with_rules most before [] ≡ Ok before
none-left zero before = refl
none-left (suc most) before = refl

-- what says rules is read as them
pub rules-read : (most : ℕ) (before : List RuleForm) (words : Words) (rules : List RuleForm) → PartsSay RuleSays words rules → length words ≤ most
    → with_rules most before words ≡ Ok (before ++ rules)
rules-read most before ws rs no_part n = none-left most before ∙ ap Ok (sym (append-nil before))
rules-read zero before ws rs (one_part part rule words rules s more) n =
    absurd (let f : ⊥ = omega (arith, n, part-long part rule s, length-append part words) in f)
rules-read (suc most) before ws rs (one_part part rule words rules s more) n =
    let few : length words ≤ most = omega (arith, n, part-long part rule s, length-append part words) in
    rules-step most before part rule words (before ++ rule ∷ rules) s (with_rule-read before part rule words s (rules-joiner words rules more))
    (rules-read most (before ++ rule ∷ []) words rules more few ∙ ap Ok (append_assoc before (rule ∷ []) rules))
