-- The rules of a location are read again from their words.
use Rattle.std.proofs.Common.{◌≡◌, ℕ, ℤ, ◌≤◌, zero, suc, List, [], ◌∷◌, ◌++◌, length, Option, Some, None, Ok, refl, sym, ap, ◌∙◌, subst, append_assoc, append-nil, arith}
use Rattle.std.specs.Prelude.{codes, is_some}
use Rattle.std.specs.List.{AllByRecursion, flat_map}
use Rattle.std.proofs.lemmas.List.{length-append}
use Rattle.crm_lex.specs.Names.{is}
use Rattle.crm_parse.specs.declared.expression.Expression.{Expression}
use Rattle.crm_parse.specs.declared.fault.ParseCause.TheVariants.{ExtraWord, Unsupported}
use Rattle.crm_parse.specs.declared.rule_form.RuleForm.{RuleForm}
use Rattle.crm_parse.specs.declared.words.RoleWord.{RoleWord}
use Rattle.crm_parse.specs.declared.words.RoleWord.TheVariants as role
use Rattle.crm_parse.specs.Keys.{when}
use Rattle.crm_parse.specs.Location.{all_of, either_at, rule_at, rule_id_at, rule_role_at, rule_score_of, with_rule, with_rules}
use Rattle.crm_parse.specs.Reading.{Words, prefixed_at, rule_role_of, score_of, some_name, next_word_in}
use Rattle.crm_parse.specs.Rules.{expression_at, joiner_at}
use Rattle.crm_parse.specs.Texts.{after}
use Rattle.crm_parse.proofs.Affixes.{noted_words, prefixed_at-again}
use Rattle.crm_parse.proofs.Binds.{some_name-ok, unless-ok, ok-same}
use Rattle.faults.proofs.Steps.{bind-ok}
use Rattle.crm_print.proofs.ExpressionAgain.{ExpressionAgain, expression_at-again}
use Rattle.crm_parse.proofs.ScoreRead.{IsRead, score-none, score_of-ok}
use Rattle.crm_print.proofs.ScoreAgain.{score-no_label, score_of-again}
use Rattle.crm_print.proofs.Written.{role_words, rule_words, ruled_words, score_word}

-- no label begins where a score stands
pub score_label : (b : ℕ) (label : List ℕ) (points : ℤ) (words : Words) → after (b ∷ label) (score_word points) ≡ None
    → prefixed_at (b ∷ label) (score_word points ∷ words) ≡ (None, score_word points ∷ words)
score_label b label points words h = rw (h, prefixed_at) refl

-- the words of a rule behind its id
abbrev after_id : Option RoleWord → ℤ → Words → Words
after_id r points words = role_words (codes "$role=") r ++ score_word points ∷ words

no_id : (r : Option RoleWord) (points : ℤ) (words : Words) → IsRead points → prefixed_at (codes "$id=") (after_id r points words) ≡ (None, after_id r points words)
no_id None points words h = score_label 36 (codes "id=") points words (score-no_label 36 (codes "id=") points (score-none 36 refl (λ t. refl) (λ t. refl)) h)
no_id (Some role.Started) points words h = refl
no_id (Some role.Promoted) points words h = refl

rule_id_at-again : (id : Option (List ℕ)) (r : Option RoleWord) (points : ℤ) (words : Words) → some_name id ≡ Ok id → IsRead points
    → rule_id_at (noted_words (codes "$id=") id ++ after_id r points words) ≡ Ok (id, after_id r points words)
unfolding rule_id_at
rule_id_at-again id r points words n h =
    rw (prefixed_at-again (codes "$id=") id (after_id r points words) (no_id r points words h), n) refl

rule_role_at-again : (r : Option RoleWord) (points : ℤ) (words : Words) → IsRead points → rule_role_at (after_id r points words) ≡ Ok (r, score_word points ∷ words)
unfolding rule_role_at rule_role_of
rule_role_at-again None points words h =
    let a = score_label 36 (codes "role=") points words (score-no_label 36 (codes "role=") points (score-none 36 refl (λ t. refl) (λ t. refl)) h) in
    let b = score_label 114 (codes "ole=") points words (score-no_label 114 (codes "ole=") points (score-none 114 refl (λ t. refl) (λ t. refl)) h) in
    let e : either_at (score_word points ∷ words) ≡ (None, score_word points ∷ words) = rw (either_at, a, b) refl in
    rw e refl
rule_role_at-again (Some role.Started) points words h = refl
rule_role_at-again (Some role.Promoted) points words h = refl

rule_score_of-again : (points : ℤ) → IsRead points → rule_score_of (score_word points) ≡ Ok points
rule_score_of-again points h =
    let n : after (codes "$id-ref=") (score_word points) ≡ None = score-no_label 36 (codes "id-ref=") points (score-none 36 refl (λ t. refl) (λ t. refl)) h in
    rw (n, score_of-again points h) refl

-- a rule that is read again from its words, up to a word that joins no test
pub record IsRule (r : RuleForm) : Type 0 where
  pub again : (more : Words) → joiner_at more ≡ None → rule_at (rule_words r ++ more) ≡ Ok (r, more)

abbrev pub rule_of : Option (List ℕ) → Option RoleWord → ℤ → Expression → RuleForm
rule_of id r points read = record { id = id; role = r; score = points; words = read.words; rule = record { all = all_of read.joined; tests = read.tests } }

rule-read : (id : Option (List ℕ)) (r : Option RoleWord) (points : ℤ) (read : Expression) (more : Words) → some_name id ≡ Ok id → IsRead points → ExpressionAgain read
    → joiner_at more ≡ None → rule_at (noted_words (codes "$id=") id ++ after_id r points (read.words ++ more)) ≡ Ok (rule_of id r points read, more)
unfolding rule_at
rule-read id r points read more n h e j =
    rw (
      rule_id_at-again id r points (read.words ++ more) n h,
      rule_role_at-again r points (read.words ++ more) h,
      rule_score_of-again points h,
      e.again more j,
    ) refl

rule-made : (id : Option (List ℕ)) (r : Option RoleWord) (points : ℤ) (read : Expression) → some_name id ≡ Ok id → IsRead points → ExpressionAgain read
    → IsRule (rule_of id r points read)
rule-made id r points read n h e = record {
  again = λ more j.
      ap rule_at (append_assoc (noted_words (codes "$id=") id) (after_id r points read.words) more
      ∙ ap (λ ws. noted_words (codes "$id=") id ++ ws) (append_assoc (role_words (codes "$role=") r) (score_word points ∷ read.words) more))
      ∙ rule-read id r points read more n h e j;
}

pub rule_score-case : (word : List ℕ) (points : ℤ) → rule_score_of word ≡ Ok points → IsRead points
rule_score-case word points e = score_of-ok word points (unless-ok (is_some (after (codes "$id-ref=") word)) (score_of word) points Unsupported e).0

rule_id_at-ok : (words : Words) (read : Option (List ℕ) × Words) → rule_id_at words ≡ Ok read → some_name read.0 ≡ Ok read.0
unfolding rule_id_at
rule_id_at-ok words read e =
    let (id, is_one, last) = bind-ok (some_name (prefixed_at (codes "$id=") words).0) _ read e in
    let (same, good) = some_name-ok (prefixed_at (codes "$id=") words).0 id is_one in
    let pair : (id, (prefixed_at (codes "$id=") words).1) ≡ read = cc in
    let first : read.0 ≡ (prefixed_at (codes "$id=") words).0 = sym (ap (λ (r : Option (List ℕ) × Words). r.0) pair) ∙ same in
    subst (λ o. some_name o ≡ Ok o) (sym first) good

pub rule_at-ok : (words : Words) (read : RuleForm × Words) → rule_at words ≡ Ok read → IsRule read.0
unfolding rule_at
rule_at-ok words read e =
    let (id, is_id, e1) = bind-ok (rule_id_at words) _ read e in
    let (r, is_role, e2) = bind-ok (rule_role_at id.1) _ read e1 in
    let (word, at, e3) = bind-ok (next_word_in r.1) _ read e2 in
    let (points, is_score, e4) = bind-ok (rule_score_of word.0) _ read e3 in
    let (got, is_read, last) = bind-ok (expression_at word.1) _ read e4 in
    let whole : (rule_of id.0 r.0 points got.0, got.1) ≡ read = ok-same _ read last in
    subst (λ (x : RuleForm × Words). IsRule x.0) whole
    (rule-made id.0 r.0 points got.0 (rule_id_at-ok words id is_id) (rule_score-case word.0 points is_score) (expression_at-again word.1 got is_read))

-- one more rule was read
record AddsRule (before after : List RuleForm) : Type 0 where
  rule : RuleForm
  added : after ≡ before ++ rule ∷ []
  good : IsRule rule

with_rule-ok : (before : List RuleForm) (words : Words) (read : List RuleForm × Words) → with_rule before words ≡ Ok read → AddsRule before read.0
unfolding with_rule
with_rule-ok before words read e =
    let (word, at, e1) = bind-ok (next_word_in words) _ read e in
    let (taken, is_rule, e2) = bind-ok (when (is word.0 (codes "rule")) ExtraWord) _ read e1 in
    let (rule, is_one, last) = bind-ok (rule_at word.1) _ read e2 in
    let whole : (before ++ rule.0 ∷ [], rule.1) ≡ read = cc in
    record { rule = rule.0; added = sym (ap (λ (r : List RuleForm × Words). r.0) whole); good = rule_at-ok word.1 rule is_one }

-- some more rules were read
record AddsRules (before after : List RuleForm) : Type 0 where
  rules : List RuleForm
  added : after ≡ before ++ rules
  good : AllByRecursion IsRule rules

rules-none : (before after : List RuleForm) → before ≡ after → AddsRules before after
rules-none before after e = record { rules = []; added = sym e ∙ sym (append-nil before); good = tt }

rules-more : (before between after : List RuleForm) → AddsRule before between → AddsRules between after → AddsRules before after
rules-more before between after one all = record {
  rules = one.rule ∷ all.rules;
  added = all.added ∙ (ap (λ rs. rs ++ all.rules) one.added ∙ append_assoc before (one.rule ∷ []) all.rules);
  good = (one.good, all.good);
}

with_rules-ok : (most : ℕ) (before : List RuleForm) (words : Words) (all : List RuleForm) → with_rules most before words ≡ Ok all → AddsRules before all
with_rules-ok zero before words all e = rules-none before all (cc)
with_rules-ok (suc most) before [] all e = rules-none before all (cc)
with_rules-ok (suc most) before (word ∷ words) all e =
    let (more, one, rest) = bind-ok (with_rule before (word ∷ words)) _ all e in
    rules-more before more.0 all (with_rule-ok before (word ∷ words) more one) (with_rules-ok most more.0 more.1 all rest)

-- one rule or more
pub record SomeRules (all : List RuleForm) : Type 0 where
  pub rule : RuleForm
  pub rules : List RuleForm
  pub whole : all ≡ rule ∷ rules
  pub first : IsRule rule
  pub others : AllByRecursion IsRule rules

some_rules : (between all : List RuleForm) → AddsRule [] between → AddsRules between all → SomeRules all
some_rules between all one more = record {
  rule = one.rule;
  rules = more.rules;
  whole = more.added ∙ ap (λ rs. rs ++ more.rules) one.added;
  first = one.good;
  others = more.good;
}

pub rules-some : (word : List ℕ) (words : Words) (all : List RuleForm) → with_rules (length (word ∷ words)) [] (word ∷ words) ≡ Ok all → SomeRules all
rules-some word words all e =
    let (more, one, rest) = bind-ok (with_rule [] (word ∷ words)) _ all e in
    some_rules more.0 all (with_rule-ok [] (word ∷ words) more one) (with_rules-ok (length words) more.0 more.1 all rest)

rules-joiner : (rules : List RuleForm) → joiner_at (flat_map ruled_words rules) ≡ None
unfolding joiner_at
rules-joiner [] = refl
rules-joiner (rule ∷ rules) = refl

with_rule-again : (before : List RuleForm) (rule : RuleForm) (more : Words) → IsRule rule → joiner_at more ≡ None
    → with_rule before (ruled_words rule ++ more) ≡ Ok (before ++ rule ∷ [], more)
unfolding with_rule
with_rule-again before rule more h j = rw (h.again more j) refl

-- some rules are read again, by any number that is great enough
pub with_rules-again : (most : ℕ) (before rules : List RuleForm) → AllByRecursion IsRule rules → length (flat_map ruled_words rules) ≤ most
    → with_rules most before (flat_map ruled_words rules) ≡ Ok (before ++ rules)
with_rules-again zero before [] h l = ap Ok (sym (append-nil before))
with_rules-again (suc most) before [] h l = ap Ok (sym (append-nil before))
with_rules-again zero before (rule ∷ rules) h l = absurd (omega arith)
with_rules-again (suc most) before (rule ∷ rules) h l =
    let rest = flat_map ruled_words rules in
    let n : length rest ≤ most = omega (arith, length-append (rule_words rule) rest) in
    rw (with_rule-again before rule rest h.0 (rules-joiner rules)) (with_rules-again most (before ++ rule ∷ []) rules h.1 n ∙ ap Ok (append_assoc before (rule ∷ []) rules))
