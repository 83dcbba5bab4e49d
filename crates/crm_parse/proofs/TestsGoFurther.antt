-- Tests and rules that end too early can be continued.
use Rattle.std.proofs.Common.{◌≡◌, ◌≤◌, ℕ, zero, suc, Bool, true, false, cond, List, [], ◌∷◌, ◌++◌, length, Option, Some, None, Result, Ok, Err, refl, sym, ◌∙◌, subst, arith}
use Rattle.std.specs.Prelude.{codes}
use Rattle.std.specs.Option.{ok_or}
use Rattle.std.proofs.lemmas.List.{length-append}
use Rattle.faults.specs.Reading.{◌>>=◌}
use Rattle.crm_lex.specs.Names.{is}
use Rattle.date_rules.specs.declared.rule.Kind.{Kind}
use Rattle.date_rules.specs.declared.rule.Kind.TheVariants as compared
use Rattle.date_rules.specs.declared.rule.Test.{Test}
use Rattle.date_rules.specs.declared.rule.Test.TheVariants.{Attribute}
use Rattle.date_rules.specs.Digits.{has_form}
use Rattle.date_rules.specs.Instant.{instant}
use Rattle.crm_parse.specs.declared.expression.DateTest.{DateTest}
use Rattle.crm_parse.specs.declared.expression.DateTest.TheVariants as date
use Rattle.crm_parse.specs.declared.expression.Expression.{Expression}
use Rattle.crm_parse.specs.declared.fault.ParseCause.{ParseCause}
use Rattle.crm_parse.specs.declared.fault.ParseCause.TheVariants.{BadValue, ExtraWord, MissingWord, Unsupported}
use Rattle.crm_parse.specs.declared.rule_form.RuleForm.{RuleForm}
use Rattle.crm_parse.specs.Keys.{when}
use Rattle.crm_parse.specs.Location.{either_at, rule_at, rule_id_at, rule_role_at, rule_score_of, some_role, with_rule, with_rules}
use Rattle.crm_parse.specs.Reading.{Words, next_word_in, prefixed_at, score_of, some_name}
use Rattle.crm_parse.specs.Rules.{attribute_at, comparable, comparison_of, date_at, date_test_at, date_test_of, date_test_text, dates_at, defined_at, end_date_at, end_text, expression_at, filled, joined_alike, joiner_at, joiner_of, no_tests, noted_at, read_moment, start_at, test_at, untyped, with_joined, with_test, with_tests}
use Rattle.crm_parse.specs.Texts.{after}
use Rattle.crm_parse.proofs.CausesKept.{none-comparison, none-date_test, none-end_text, none-moment, none-ok, none-rule_score, none-some_name, none-some_role}
use Rattle.crm_parse.proofs.FaultsStay.{Goes, left, left_kept, next-goes, same-fault}
use Rattle.crm_parse.proofs.GoesFurther.{Continues, GoesFurther, LacksNone, Through, ThroughKept, Whatever, continue-last, continue-option, continue-step, continue-test, continue-word, further, further-as, next-missing, none-ok_or, none-step, none-when}
use Rattle.crm_parse.proofs.Grammar.ExpressionRelated.{joined-shorter}
use Rattle.crm_parse.proofs.Grammar.RuleRelated.{rule-shorter}
use Rattle.crm_parse.proofs.LabelsStay.{option-goes, prefixed-more}
use Rattle.crm_parse.proofs.LinesGoFurther.{a_name, a_score_word}
use Rattle.crm_parse.proofs.RulesStay.{either-more, one_rule-goes-on}
use Rattle.crm_parse.proofs.TestsStay.{joined-goes, noted-goes, one-goes, start-goes}

abbrev a_date : List ℕ
a_date = codes "2000-01-01"

abbrev a_test : Words
a_test = codes "defined" ∷ a_name ∷ []

noted-missing : (noted words : Words) → noted_at noted words ≡ Err MissingWord → words ≡ []
unfolding noted_at
noted-missing noted [] e = refl
noted-missing noted (word ∷ words) e = cc

-- a step that reads one word, and keeps words
continue-kept : {A B : Type 0} (Ends : B → Type 0) (read : Words → Result (A × Words × Words) ParseCause) (words : Words) (f : A × Words × Words → Result B ParseCause)
    → ((more : Words) → Goes (left_kept more) (read words) (read (words ++ more))) → (read words ≡ Err MissingWord → words ≡ [])
    → GoesFurther Ends (λ more. read more >>= f)
    → ((got : A × Words × Words) → read words ≡ Ok got → Continues Ends (f got) (λ more. f (left_kept more got)))
    → Continues Ends (read words >>= f) (λ more. read (words ++ more) >>= f)
continue-kept Ends read words f g n o k =
    continue-step Ends left_kept (read words) (λ more. read (words ++ more)) f g (λ e. subst (λ ws. GoesFurther Ends (λ more. read (ws ++ more) >>= f)) (sym (n e)) o) k

continue-noted : {B : Type 0} (Ends : B → Type 0) (noted words : Words) (f : List ℕ × Words × Words → Result B ParseCause) → GoesFurther Ends (λ more. noted_at noted more >>= f)
    → ((word : List ℕ × Words × Words) → Continues Ends (f word) (λ more. f (left_kept more word)))
    → Continues Ends (noted_at noted words >>= f) (λ more. noted_at noted (words ++ more) >>= f)
continue-noted Ends noted words f o k =
    continue-kept Ends (noted_at noted) words f (λ more. noted-goes MissingWord more noted words) (noted-missing noted words) o (λ word e. k word)

none-filled : (name : List ℕ) → LacksNone (filled name)
none-filled name = none-when _ BadValue (λ e. cc)

none-comparable : (kind : Kind) (value : List ℕ) → LacksNone (comparable kind value)
none-comparable kind value = none-when _ BadValue (λ e. cc)

one-compares : (kind : Kind) → comparable kind (codes "1") ≡ Ok tt
one-compares compared.Auto = refl
one-compares compared.Number = refl
one-compares compared.Word = refl

attribute-further : (name : List ℕ) (noted words : Words) → Continues ThroughKept (attribute_at name noted words) (λ more. attribute_at name noted (words ++ more))
unfolding attribute_at noted_at untyped
attribute-further name noted words =
    continue-test ThroughKept (filled name) _ _ (none-filled name) (λ t e.
    continue-noted ThroughKept noted words _ (further ThroughKept _ (codes "eq" ∷ codes "1" ∷ []) _ refl refl refl) (λ word.
    continue-test ThroughKept (comparison_of word.0) _ _ (none-comparison word.0) (λ c e.
    continue-noted ThroughKept word.1 word.2 _ (further ThroughKept _ (codes "1" ∷ []) (Attribute name c.1 c.0 (codes "1"), word.1 ++ codes "1" ∷ [], []) (rw (one-compares c.0) refl) refl refl) (λ value.
    λ e. absurd (none-step (comparable c.0 value.0) _ (none-comparable c.0 value.0) (λ t e. cc) e)))))

defined-further : (defined : Bool) (noted words : Words) → Continues ThroughKept (defined_at defined noted words) (λ more. defined_at defined noted (words ++ more))
unfolding defined_at noted_at
defined-further defined noted words =
    continue-noted ThroughKept noted words _ (further ThroughKept _ (a_name ∷ []) _ refl refl refl) (λ name.
    λ e. absurd (none-step (filled name.0) _ (none-filled name.0) (λ t e. cc) e))

date-further : (noted words : Words) → Continues ThroughKept (date_at noted words) (λ more. date_at noted (words ++ more))
unfolding date_at noted_at instant has_form
date-further noted words =
    continue-noted ThroughKept noted words _ (further ThroughKept _ (a_date ∷ []) _ refl refl refl) (λ word.
    λ e. absurd (none-step (read_moment word.0) _ (none-moment word.0) (λ t e. cc) e))

end-further : (noted words : Words) → Continues ThroughKept (end_date_at noted words) (λ more. end_date_at noted (words ++ more))
unfolding end_date_at noted_at instant has_form
end-further noted words =
    continue-noted ThroughKept noted words _ (further ThroughKept _ ((codes "end=" ++ a_date) ∷ []) _ refl refl refl) (λ word.
    λ e. absurd (none-step (end_text word.0) _ (none-end_text word.0) (λ text. none-step (read_moment text) _ (none-moment text) (λ t e. cc)) e))

start-missing : (noted words : Words) → start_at noted words ≡ Err MissingWord → words ≡ []
unfolding start_at noted_at
start-missing noted [] e = refl
start-missing noted (word ∷ words) e =
    absurd (none-step (ok_or (after (codes "start=") word) BadValue) _ (none-ok_or _ BadValue (λ e. cc)) (λ text. none-step (read_moment text) _ (none-moment text) (λ t e. cc)) e)

dates-further : (test : DateTest) (noted words : Words) → Continues ThroughKept (dates_at test noted words) (λ more. dates_at test noted (words ++ more))
unfolding dates_at start_at end_date_at noted_at instant has_form
dates-further date.Lt noted words = continue-last ThroughKept ThroughKept (date_at noted words) (λ more. date_at noted (words ++ more)) _ (λ x h. h) (date-further noted words)
dates-further date.Gt noted words = continue-last ThroughKept ThroughKept (date_at noted words) (λ more. date_at noted (words ++ more)) _ (λ x h. h) (date-further noted words)
dates-further date.In noted words =
    continue-kept ThroughKept (start_at noted) words _ (λ more. start-goes MissingWord more noted words) (start-missing noted words)
    (further ThroughKept _ ((codes "start=" ++ a_date) ∷ (codes "end=" ++ a_date) ∷ []) _ refl refl refl)
    (λ start e. continue-last ThroughKept ThroughKept (end_date_at start.1 start.2) (λ more. end_date_at start.1 (start.2 ++ more)) _ (λ x h. h) (end-further start.1 start.2))

date_test-further : (noted words : Words) → Continues ThroughKept (date_test_at noted words) (λ more. date_test_at noted (words ++ more))
unfolding date_test_at date_at dates_at noted_at instant has_form
date_test-further noted words =
    continue-word ThroughKept next_word_in words _ (λ more. next-goes MissingWord more words) (next-missing words)
    (further ThroughKept _ (codes "lt" ∷ a_date ∷ []) _ refl refl refl) (λ word e.
    continue-test ThroughKept (date_test_of word.0) _ _ (none-date_test word.0) (λ test e. dates-further test (noted ++ date_test_text test ∷ []) word.1))

abbrev chosen_test : Bool → Bool → Bool → List ℕ → Words → Words → Result (Test × Words × Words) ParseCause
chosen_test date defined not_defined word noted words =
    cond date (date_test_at noted words) (cond defined (defined_at true noted words) (cond not_defined (defined_at false noted words) (attribute_at word noted words)))

chosen-further : (d f n : Bool) (word : List ℕ) (noted words : Words) → Continues ThroughKept (chosen_test d f n word noted words) (λ more. chosen_test d f n word noted (words ++ more))
chosen-further true f n word noted words = date_test-further noted words
chosen-further false true n word noted words = defined-further true noted words
chosen-further false false true word noted words = defined-further false noted words
chosen-further false false false word noted words = attribute-further word noted words

test-further : (noted words : Words) → Continues ThroughKept (test_at noted words) (λ more. test_at noted (words ++ more))
unfolding test_at noted_at defined_at
test-further noted words =
    continue-noted ThroughKept noted words _ (further ThroughKept _ a_test _ refl refl refl) (λ word.
    chosen-further (is word.0 (codes "date")) (is word.0 (codes "defined")) (is word.0 (codes "not_defined")) word.0 word.1 word.2)

one-further : (before : Expression) (words : Words) → Continues Through (with_test before words) (λ more. with_test before (words ++ more))
unfolding with_test
one-further before words = continue-last ThroughKept Through (test_at before.words words) (λ more. test_at before.words (words ++ more)) _ (λ x h. h) (test-further before.words words)

none-alike : (joined : Option Bool) (all : Bool) → LacksNone (joined_alike joined all)
none-alike None all = none-ok tt
none-alike (Some true) all = none-when all Unsupported (λ e. cc)
none-alike (Some false) all = none-when _ Unsupported (λ e. cc)

joined-further : (before : Expression) (all : Bool) (words : Words) → Continues Through (with_joined before all words) (λ more. with_joined before all (words ++ more))
unfolding with_joined with_test test_at noted_at defined_at
joined-further before all words =
    continue-test Through (joined_alike before.joined all) _ _ (none-alike before.joined all) (λ t e.
    continue-noted Through before.words words _ (further Through _ (codes "and" ∷ a_test) _ refl refl refl) (λ word.
    one-further (record { joined = Some all; tests = before.tests; words = word.1 }) word.2))

-- one less, of a count above 0
abbrev less : ℕ → ℕ
less zero = zero
less (suc n) = n

less-room : (n m : ℕ) → suc n ≤ m → n ≤ less m
less-room n zero l = absurd (omega (arith, l))
less-room n (suc m) l = omega (arith, l)

-- the tests that follow
tests-step : (room : ℕ) (joiner : Option Bool) (all : Bool) (before : Expression) (words : Words) → joiner ≡ Some all → 1 ≤ room
    → with_tests room joiner before words ≡ with_joined before all words >>= (λ more. with_tests (less room) (joiner_at more.1) more.0 more.1)
tests-step zero joiner all before words j l = absurd (omega (arith, l))
tests-step (suc room) joiner all before words j l = rw j refl

tests-end : (room : ℕ) (before : Expression) (words : Words) → words ≡ [] → with_tests room (joiner_at words) before words ≡ Ok (before, [])
unfolding joiner_at
tests-end zero before [] e = refl
tests-end (suc room) before [] e = refl
tests-end room before (word ∷ words) e = absurd (cc)

tests-case : (most : ℕ) (room : Words → ℕ) (joiner : Option Bool) (before : Expression) (word : List ℕ) (words : Words) → joiner_of word ≡ joiner → ((more : Words) → length (word ∷ (words ++ more)) ≤ room more)
    → ((all : Bool) (got : Expression × Words) → joiner ≡ Some all → with_joined before all (word ∷ words) ≡ Ok got
    → Continues Through (with_tests most (joiner_at got.1) got.0 got.1) (λ more. with_tests (less (room more)) (joiner_at (got.1 ++ more)) got.0 (got.1 ++ more)))
    → Continues Through (with_tests (suc most) joiner before (word ∷ words)) (λ more. with_tests (room more) joiner before (word ∷ (words ++ more)))
tests-case most room None before word words j m k = λ e. cc
tests-case most room (Some all) before word words j m k = λ e.
    further-as Through (λ more. with_joined before all (word ∷ (words ++ more)) >>= (λ got. with_tests (less (room more)) (joiner_at got.1) got.0 got.1)) _
    (λ more. tests-step (room more) (Some all) all before (word ∷ (words ++ more)) refl (let l = m more in omega (arith, l)))
    (joined-case (with_joined before all (word ∷ words)) refl e)
  where
    joined-case : (read : Result (Expression × Words) ParseCause) → with_joined before all (word ∷ words) ≡ read
        → (read >>= (λ got. with_tests most (joiner_at got.1) got.0 got.1)) ≡ Err MissingWord
        → GoesFurther Through (λ more. with_joined before all (word ∷ (words ++ more)) >>= (λ got. with_tests (less (room more)) (joiner_at got.1) got.0 got.1))
    joined-case (Ok got) r e =
        let on = k all got refl r e in
        record { more = on.more; plain = on.plain; made = on.made; gives = rw (joined-goes MissingWord on.more all before (word ∷ words) got r) on.gives; ends = on.ends }
    joined-case (Err why) r e =
        let on = joined-further before all (word ∷ words) (r ∙ same-fault why MissingWord e) in
        record { more = on.more; plain = on.plain; made = (on.made.0, []); gives = rw on.gives (tests-end (less (room on.more)) on.made.0 on.made.1 on.ends); ends = refl }

tests-further : (most : ℕ) (room : Words → ℕ) (before : Expression) (words : Words) → length words ≤ most → ((more : Words) → length (words ++ more) ≤ room more)
    → Continues Through (with_tests most (joiner_at words) before words) (λ more. with_tests (room more) (joiner_at (words ++ more)) before (words ++ more))
unfolding joiner_at
tests-further zero room before [] l m = λ e. cc
tests-further zero room before (word ∷ words) l m = λ e. absurd (omega (arith, l))
tests-further (suc most) room before [] l m = λ e. cc
tests-further (suc most) room before (word ∷ words) l m = tests-case most room (joiner_of word) before word words refl m (λ all got j e.
    tests-further most (λ more. less (room more)) got.0 got.1
    (let shorter = joined-shorter all before (word ∷ words) got j e in omega (arith, l, shorter))
    (λ more. less-room (length (got.1 ++ more)) (room more)
    (let shorter = joined-shorter all before (word ∷ words) got j e in let wide = m more in omega (arith, wide, shorter, length-append got.1 more, length-append words more))))

pub expression-further : (words : Words) → Continues Through (expression_at words) (λ more. expression_at (words ++ more))
unfolding expression_at
expression-further words e = first-case (with_test no_tests words) refl e
  where
    first-case : (read : Result (Expression × Words) ParseCause) → with_test no_tests words ≡ read
        → (read >>= (λ first. with_tests (length first.1) (joiner_at first.1) first.0 first.1)) ≡ Err MissingWord
        → GoesFurther Through (λ more. with_test no_tests (words ++ more) >>= (λ first. with_tests (length first.1) (joiner_at first.1) first.0 first.1))
    first-case (Ok first) r e =
        let on = tests-further (length first.1) (λ more. length (first.1 ++ more)) first.0 first.1 (omega arith) (λ more. omega arith) e in
        record { more = on.more; plain = on.plain; made = on.made; gives = rw (one-goes MissingWord on.more no_tests words first r) on.gives; ends = on.ends }
    first-case (Err why) r e =
        let on = one-further no_tests words (r ∙ same-fault why MissingWord e) in
        record { more = on.more; plain = on.plain; made = (on.made.0, []); gives = rw on.gives (tests-end (length on.made.1) on.made.0 on.made.1 on.ends); ends = refl }

-- rules
id-goes : (more rest : Words) (word : List ℕ) → Goes (left more) (rule_id_at (word ∷ rest)) (rule_id_at (word ∷ (rest ++ more)))
unfolding rule_id_at
id-goes more rest word =
    option-goes more some_name (prefixed_at (codes "$id=") (word ∷ rest)) (prefixed_at (codes "$id=") (word ∷ (rest ++ more))) (prefixed-more (codes "$id=") word rest more)

id-none : (words : Words) → LacksNone (rule_id_at words)
unfolding rule_id_at
id-none words = none-step (some_name (prefixed_at (codes "$id=") words).0) _ (none-some_name (prefixed_at (codes "$id=") words).0) (λ id e. cc)

role-goes : (more rest : Words) (word : List ℕ) → Goes (left more) (rule_role_at (word ∷ rest)) (rule_role_at (word ∷ (rest ++ more)))
unfolding rule_role_at
role-goes more rest word = option-goes more some_role (either_at (word ∷ rest)) (either_at (word ∷ (rest ++ more))) (either-more MissingWord more word rest)

role-none : (words : Words) → LacksNone (rule_role_at words)
unfolding rule_role_at
role-none words = none-step (some_role (either_at words).0) _ (none-some_role (either_at words).0) (λ role e. cc)

abbrev a_scored_test : Words
a_scored_test = a_score_word ∷ a_test

rule-further : (words : Words) → Continues Through (rule_at words) (λ more. rule_at (words ++ more))
unfolding rule_at rule_id_at rule_role_at score_of expression_at with_test test_at noted_at defined_at joiner_at
rule-further words =
    continue-option Through rule_id_at words _ id-goes (λ word rest. id-none (word ∷ rest)) (further Through _ a_scored_test _ refl refl refl) (λ id e.
    continue-option Through rule_role_at id.1 _ role-goes (λ word rest. role-none (word ∷ rest)) (further Through _ a_scored_test _ refl refl refl) (λ role e.
    continue-word Through next_word_in role.1 _ (λ more. next-goes MissingWord more role.1) (next-missing role.1) (further Through _ a_scored_test _ refl refl refl) (λ word e.
    continue-test Through (rule_score_of word.0) _ _ (none-rule_score word.0) (λ points e.
    continue-last Through Through (expression_at word.1) (λ more. expression_at (word.1 ++ more)) _ (λ x h. h) (expression-further word.1)))))

one_rule-further : (before : List RuleForm) (words : Words) → Continues Through (with_rule before words) (λ more. with_rule before (words ++ more))
unfolding with_rule rule_at rule_id_at rule_role_at score_of expression_at with_test test_at noted_at defined_at joiner_at
one_rule-further before words =
    continue-word Through next_word_in words _ (λ more. next-goes MissingWord more words) (next-missing words) (further Through _ (codes "rule" ∷ a_scored_test) _ refl refl refl) (λ word e.
    continue-test Through (when (is word.0 (codes "rule")) ExtraWord) _ _ (none-when (is word.0 (codes "rule")) ExtraWord (λ e. cc)) (λ taken e.
    continue-last Through Through (rule_at word.1) (λ more. rule_at (word.1 ++ more)) _ (λ x h. h) (rule-further word.1)))

rules-end : (room : ℕ) (before : List RuleForm) (words : Words) → words ≡ [] → with_rules room before words ≡ Ok before
rules-end zero before words e = refl
rules-end (suc room) before [] e = refl
rules-end (suc room) before (word ∷ words) e = absurd (cc)

rules-step : (room : ℕ) (before : List RuleForm) (word : List ℕ) (words : Words) → 1 ≤ room
    → with_rules room before (word ∷ words) ≡ with_rule before (word ∷ words) >>= (λ more. with_rules (less room) more.0 more.1)
rules-step zero before word words l = absurd (omega (arith, l))
rules-step (suc room) before word words l = refl

rules-case : (most : ℕ) (room : Words → ℕ) (before : List RuleForm) (word : List ℕ) (words : Words) (read : Result (List RuleForm × Words) ParseCause)
    → with_rule before (word ∷ words) ≡ read → (read >>= (λ got. with_rules most got.0 got.1)) ≡ Err MissingWord
    → ((rules : List RuleForm) (v : List ℕ) (vs : Words) → with_rule before (word ∷ words) ≡ Ok (rules, v ∷ vs) → with_rules most rules (v ∷ vs) ≡ Err MissingWord
    → GoesFurther Whatever (λ more. with_rules (less (room more)) rules (v ∷ (vs ++ more))))
    → GoesFurther Whatever (λ more. with_rule before (word ∷ (words ++ more)) >>= (λ got. with_rules (less (room more)) got.0 got.1))
rules-case most room before word words (Ok (rules, [])) r e k =
    let none = rules-end most rules [] refl in
    let no : Ok rules ≡ Err MissingWord = sym none ∙ e in
    absurd (cc)
rules-case most room before word words (Ok (rules, v ∷ vs)) r e k =
    let on = k rules v vs r e in
    record { more = on.more; plain = on.plain; made = on.made; gives = rw (one_rule-goes-on MissingWord on.more before (word ∷ words) rules v vs r) on.gives; ends = tt }
rules-case most room before word words (Err why) r e k =
    let on = one_rule-further before (word ∷ words) (r ∙ same-fault why MissingWord e) in
    record { more = on.more; plain = on.plain; made = on.made.0; gives = rw on.gives (rules-end (less (room on.more)) on.made.0 on.made.1 on.ends); ends = tt }

pub rules-further : (most : ℕ) (room : Words → ℕ) (before : List RuleForm) (words : Words) → length words ≤ most → ((more : Words) → length (words ++ more) ≤ room more)
    → Continues Whatever (with_rules most before words) (λ more. with_rules (room more) before (words ++ more))
rules-further zero room before words l m = λ e. cc
rules-further (suc most) room before [] l m = λ e. cc
rules-further (suc most) room before (word ∷ words) l m = λ e.
    further-as Whatever (λ more. with_rule before (word ∷ (words ++ more)) >>= (λ got. with_rules (less (room more)) got.0 got.1)) _
    (λ more. rules-step (room more) before word (words ++ more) (let wide = m more in omega (arith, wide)))
    (rules-case most room before word words (with_rule before (word ∷ words)) refl e (λ rules v vs r e.
    let shorter = rule-shorter before (word ∷ words) (rules, v ∷ vs) r in
    rules-further most (λ more. less (room more)) rules (v ∷ vs) (omega (arith, l, shorter))
    (λ more. less-room (length (v ∷ (vs ++ more))) (room more) (let wide = m more in omega (arith, wide, shorter, length-append (v ∷ vs) more, length-append words more))) e))
