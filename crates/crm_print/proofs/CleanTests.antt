-- Where the words of a rule's expression are clean, so are those that are noted.
use Rattle.std.proofs.Common.{◌≡◌, ℕ, zero, suc, Bool, true, false, List, [], ◌∷◌, ◌++◌, length, Option, Some, None, Result, Ok, refl, subst}
use Rattle.std.specs.Prelude.{codes, if◌then◌else◌}
use Rattle.std.specs.Option.{ok_or}
use Rattle.crm_lex.specs.Names.{is}
use Rattle.date_rules.specs.declared.rule.Test.TheVariants.{Attribute, Defined, NotDefined, Before, After, Within}
use Rattle.crm_parse.specs.declared.expression.DateTest.{DateTest}
use Rattle.crm_parse.specs.declared.expression.DateTest.TheVariants as date
use Rattle.crm_parse.specs.declared.expression.Expression.{Expression}
use Rattle.crm_parse.specs.declared.fault.ParseCause.{ParseCause}
use Rattle.crm_parse.specs.declared.fault.ParseCause.TheVariants.{BadValue}
use Rattle.crm_parse.specs.Reading.{Words, next_word_in}
use Rattle.faults.specs.Reading.{◌>>=◌}
use Rattle.crm_parse.specs.Rules.{attribute_at, comparable, comparison_of, date_at, date_test_at, date_test_of, date_test_text, dates_at, defined_at, end_date_at, end_text, expression_at, filled, joined_alike, joiner_at, read_moment, no_tests, noted_at, start_at, test_after, test_at, with_joined, with_test, with_tests}
use Rattle.crm_parse.specs.Texts.{after}
use Rattle.crm_parse.proofs.Binds.{word_at-ok}
use Rattle.faults.proofs.Steps.{bind-ok}
use Rattle.crm_print.proofs.Clean.{AllClean, Clean, clean-ascii}
use Rattle.crm_print.proofs.CleanSections.{all-append}
use Rattle.crm_print.proofs.TestAgain.{Reader}

-- the words noted and the words left are clean
record Kept {A : Type 0} (got : A × Words × Words) : Type 0 where
  noted : AllClean got.1
  left : AllClean got.2

abbrev Keeps : {A : Type 0} → Reader A → Type 0
Keeps {A} read = (noted words : Words) (got : A × Words × Words) → AllClean noted → AllClean words → read noted words ≡ Ok got → Kept got

done : {A : Type 0} (value : A) → Keeps (λ noted words. Ok (value, noted, words))
done value noted words got n w e =
    let same : (value, noted, words) ≡ got = cc in
    subst Kept same (record { noted = n; left = w })

seq : {A B : Type 0} (first : Reader A) (next : A → Reader B) → Keeps first → ((x : A) → Keeps (next x)) → Keeps (λ noted words. first noted words >>= (λ x. next x.0 x.1 x.2))
seq first next f g noted words got n w e =
    let (x, is_first, rest) = bind-ok (first noted words) (λ x. next x.0 x.1 x.2) got e in
    let k = f noted words x n w is_first in
    g x.0 x.1 x.2 got k.noted k.left rest

checked : {C B : Type 0} (test : Result C ParseCause) (next : C → Reader B) → ((c : C) → Keeps (next c)) → Keeps (λ noted words. test >>= (λ c. next c noted words))
checked test next g noted words got n w e =
    let (c, is_one, rest) = bind-ok test (λ c. next c noted words) got e in
    g c noted words got n w rest

either : {A : Type 0} (test : Bool) (one other : Reader A) → Keeps one → Keeps other → Keeps (λ noted words. if test then one noted words else other noted words)
either true one other f g = f
either false one other f g = g

noted_at-keeps : Keeps noted_at
unfolding noted_at
noted_at-keeps noted words got n w e =
    let (word, at, last) = bind-ok (next_word_in words) _ got e in
    let same : (word.0, noted ++ word.0 ∷ [], word.1) ≡ got = cc in
    let c : AllClean (word.0 ∷ word.1) = subst AllClean (word_at-ok words word at) w in
    subst Kept same (record { noted = all-append noted (word.0 ∷ []) n (c.0, tt); left = c.1 })

attribute_at-keeps : (name : List ℕ) → Keeps (attribute_at name)
unfolding attribute_at
attribute_at-keeps name =
    checked (filled name) _ (λ taken. seq noted_at _ noted_at-keeps (λ word. checked (comparison_of word) _ (λ comparison.
    seq noted_at _ noted_at-keeps (λ value. checked (comparable comparison.0 value) _ (λ fits.
    done (Attribute name comparison.1 comparison.0 value))))))

defined_at-keeps : (defined : Bool) → Keeps (defined_at defined)
unfolding defined_at
defined_at-keeps defined =
    seq noted_at _ noted_at-keeps (λ name. checked (filled name) _ (λ taken. done (if defined then Defined name else NotDefined name)))

date_at-keeps : Keeps date_at
unfolding date_at
date_at-keeps = seq noted_at _ noted_at-keeps (λ word. checked (read_moment word) _ (λ moment. done moment))

start_at-keeps : Keeps start_at
unfolding start_at
start_at-keeps =
    seq noted_at _ noted_at-keeps (λ word. checked (ok_or (after (codes "start=") word) BadValue) _ (λ text. checked (read_moment text) _ (λ moment. done moment)))

end_at-keeps : Keeps end_date_at
unfolding end_date_at
end_at-keeps = seq noted_at _ noted_at-keeps (λ word. checked (end_text word) _ (λ text. checked (read_moment text) _ (λ moment. done moment)))

dates_at-keeps : (test : DateTest) → Keeps (dates_at test)
unfolding dates_at
dates_at-keeps date.Lt = seq date_at _ date_at-keeps (λ moment. done (Before moment))
dates_at-keeps date.Gt = seq date_at _ date_at-keeps (λ moment. done (After moment))
dates_at-keeps date.In = seq start_at _ start_at-keeps (λ start. seq end_date_at _ end_at-keeps (λ end. done (Within start end)))

date_test-clean : (test : DateTest) → Clean (date_test_text test)
date_test-clean date.Lt = clean-ascii (codes "lt") refl
date_test-clean date.Gt = clean-ascii (codes "gt") refl
date_test-clean date.In = clean-ascii (codes "in") refl

date_test_at-keeps : Keeps date_test_at
unfolding date_test_at
date_test_at-keeps noted words got n w e =
    let (word, at, e1) = bind-ok (next_word_in words) _ got e in
    let (test, is_test, rest) = bind-ok (date_test_of word.0) _ got e1 in
    let c : AllClean (word.0 ∷ word.1) = subst AllClean (word_at-ok words word at) w in
    dates_at-keeps test (noted ++ date_test_text test ∷ []) word.1 got (all-append noted (date_test_text test ∷ []) n (date_test-clean test, tt)) c.1 rest

test_after-keeps : (word : List ℕ) → Keeps (test_after word)
test_after-keeps word =
    either (is word (codes "date")) _ _ date_test_at-keeps (either (is word (codes "defined")) _ _ (defined_at-keeps true)
    (either (is word (codes "not_defined")) _ _ (defined_at-keeps false) (attribute_at-keeps word)))

test_at-keeps : Keeps test_at
unfolding test_at
test_at-keeps = seq noted_at _ noted_at-keeps test_after-keeps

-- the words of an expression and the words left are clean
pub record CleanExpression (got : Expression × Words) : Type 0 where
  pub words : AllClean got.0.words
  pub left : AllClean got.1

with_test-clean : (before : Expression) (words : Words) (got : Expression × Words) → AllClean before.words → AllClean words → with_test before words ≡ Ok got → CleanExpression got
unfolding with_test
with_test-clean before words got n w e =
    let (test, is_test, last) = bind-ok (test_at before.words words) _ got e in
    let whole : (record { joined = before.joined; tests = before.tests ++ test.0 ∷ []; words = test.1 }, test.2) ≡ got = cc in
    let k = test_at-keeps before.words words test n w is_test in
    subst CleanExpression whole (record { words = k.noted; left = k.left })

with_joined-clean : (before : Expression) (all : Bool) (words : Words) (got : Expression × Words) → AllClean before.words → AllClean words → with_joined before all words ≡ Ok got
    → CleanExpression got
unfolding with_joined
with_joined-clean before all words got n w e =
    let (taken, t, e1) = bind-ok (joined_alike before.joined all) _ got e in
    let (word, at, e2) = bind-ok (noted_at before.words words) _ got e1 in
    let k = noted_at-keeps before.words words word n w at in
    with_test-clean (record { joined = Some all; tests = before.tests; words = word.1 }) word.2 got k.noted k.left e2

with_tests-clean : (most : ℕ) (joiner : Option Bool) (before : Expression) (words : Words) (got : Expression × Words) → AllClean before.words → AllClean words
    → with_tests most joiner before words ≡ Ok got → CleanExpression got
with_tests-clean zero joiner before words got n w e =
    let same : (before, words) ≡ got = cc in
    subst CleanExpression same (record { words = n; left = w })
with_tests-clean (suc most) None before words got n w e =
    let same : (before, words) ≡ got = cc in
    subst CleanExpression same (record { words = n; left = w })
with_tests-clean (suc most) (Some all) before words got n w e =
    let (more, one, rest) = bind-ok (with_joined before all words) _ got e in
    let k = with_joined-clean before all words more n w one in
    with_tests-clean most (joiner_at more.1) more.0 more.1 got k.words k.left rest

pub expression-clean : (words : Words) (got : Expression × Words) → AllClean words → expression_at words ≡ Ok got → CleanExpression got
unfolding expression_at
expression-clean words got w e =
    let (first, one, rest) = bind-ok (with_test no_tests words) _ got e in
    let k = with_test-clean no_tests words first tt w one in
    with_tests-clean (length first.1) (joiner_at first.1) first.0 first.1 got k.words k.left rest
