-- The expression of a rule is read just when the words say it.
use Rattle.std.proofs.Common.{arith, ◌<◌, ◌≡◌, ◌≢◌, ◌≤◌, zero, suc, ℕ, Bool, true, false, cond, List, [], ◌∷◌, ◌++◌, length, map, Option, Some, None, Ok, refl, sym, ap, ◌∙◌, subst, append_assoc, append-nil}
use Rattle.std.specs.Prelude.{codes}
use Rattle.std.specs.List.{flat_map}
use Rattle.std.proofs.lemmas.List.{length-append}
use Rattle.crm_lex.specs.Names.{is}
use Rattle.date_rules.specs.declared.rule.Rule.{Rule}
use Rattle.date_rules.specs.declared.rule.Test.{Test}
use Rattle.crm_parse.specs.declared.expression.Expression.{Expression}
use Rattle.crm_parse.specs.Location.{all_of}
use Rattle.crm_parse.specs.Reading.{Words}
use Rattle.crm_parse.specs.Rules.{expression_at, joined_alike, joiner_at, joiner_of, no_tests, noted_at, test_at, with_joined, with_test, with_tests}
use Rattle.faults.proofs.Steps.{bind-ok}
use Rattle.crm_parse.proofs.Binds.{is-true, ok-same}
use Rattle.crm_parse.proofs.Bounds.{stops}
use Rattle.crm_parse.specs.Grammar.Phrases.{PartsSay, no_part, one_part}
use Rattle.crm_parse.specs.Grammar.RuleTests.{ExpressionSays, JoinedTestSays, KeptTest, TestSays, joined_test, joined_tests, joiner_text, one_test}
use Rattle.crm_parse.proofs.Grammar.TestIsRead.{test-read}
use Rattle.crm_parse.proofs.Grammar.TestIsSaid.{test-said}

abbrev kept_words : List KeptTest → Words
kept_words more = flat_map (λ one. one.kept) more

abbrev tests_of : List KeptTest → List Test
tests_of more = map (λ one. one.test) more

-- how tests are joined
joiner-case : (word : List ℕ) (all a b : Bool) → is word (codes "and") ≡ a → is word (codes "or") ≡ b
    → cond a (Some true) (cond b (Some false) None) ≡ Some all → word ≡ joiner_text all
joiner-case word all true b c d e = let s : true ≡ all = cc in is-true word (codes "and") c ∙ ap joiner_text s
joiner-case word all false true c d e = let s : false ≡ all = cc in is-true word (codes "or") d ∙ ap joiner_text s
joiner-case word all false false c d e = cc

joiner-is : (word : List ℕ) (all : Bool) → joiner_of word ≡ Some all → word ≡ joiner_text all
joiner-is word all e = joiner-case word all (is word (codes "and")) (is word (codes "or")) refl refl e

joiner-read : (all : Bool) → joiner_of (joiner_text all) ≡ Some all
joiner-read true = refl
joiner-read false = refl

alike-is : (all other : Bool) (y : Unit {0}) → joined_alike (Some all) other ≡ Ok y → other ≡ all
alike-is true true y e = refl
alike-is true false y e = cc
alike-is false true y e = cc
alike-is false false y e = refl

alike-read : (all : Bool) → joined_alike (Some all) all ≡ Ok tt
alike-read true = refl
alike-read false = refl

-- an expression with one more test
abbrev and_test : Expression → Option Bool → Words → Test → Expression
and_test before joined kept test = record { joined = joined; tests = before.tests ++ test ∷ []; words = before.words ++ kept }

record OneTest (before : Expression) (words : Words) (got : Expression × Words) : Type 0 where
  front : Words
  kept : Words
  test : Test
  whole : words ≡ front ++ got.1
  made : got.0 ≡ and_test before before.joined kept test
  said : TestSays front kept test

one-said : (before : Expression) (words : Words) (got : Expression × Words) → with_test before words ≡ Ok got → OneTest before words got
unfolding with_test
one-said before words got e =
    let (test, is_test, last) = bind-ok (test_at before.words words) _ got e in
    let t = test-said before.words words test is_test in
    let same : (record { joined = before.joined; tests = before.tests ++ test.0 ∷ []; words = test.1 }, test.2) ≡ got = ok-same _ got last in
    subst (OneTest before words) same (record {
      front = t.front;
      kept = t.kept;
      test = test.0;
      whole = t.whole;
      made = ap (λ (ws : Words). record { joined = before.joined; tests = before.tests ++ test.0 ∷ []; words = ws }) t.notes;
      said = t.said;
    })

-- a test behind a word that joins it
record OneJoined (all : Bool) (before : Expression) (words : Words) (got : Expression × Words) : Type 0 where
  part : Words
  one : KeptTest
  whole : words ≡ part ++ got.1
  made : got.0 ≡ and_test before (Some all) one.kept one.test
  said : JoinedTestSays (joiner_text all) part one
  alike : joined_alike before.joined all ≡ Ok tt

joined-case : (all : Bool) (before : Expression) (word : List ℕ) (words : Words) (got : Expression × Words) → word ≡ joiner_text all
    → joined_alike before.joined all ≡ Ok tt
    → OneTest (record { joined = Some all; tests = before.tests; words = before.words ++ word ∷ [] }) words got → OneJoined all before (word ∷ words) got
joined-case all before word words got w a t = record {
  part = joiner_text all ∷ t.front;
  one = record { kept = joiner_text all ∷ t.kept; test = t.test };
  whole = ap (λ v. v ∷ words) w ∙ ap (λ ws. joiner_text all ∷ ws) t.whole;
  made = t.made ∙ ap (λ (ws : Words). record { joined = Some all; tests = before.tests ++ t.test ∷ []; words = ws })
      (append_assoc before.words (word ∷ []) t.kept ∙ ap (λ v. before.words ++ v ∷ t.kept) w);
  said = joined_test t.front t.kept t.test t.said;
  alike = a;
}

joined-said : (all : Bool) (before : Expression) (words : Words) (got : Expression × Words) → joiner_at words ≡ Some all → with_joined before all words ≡ Ok got
    → OneJoined all before words got
unfolding with_joined noted_at joiner_at
joined-said all before [] got j e = absurd (cc)
joined-said all before (word ∷ words) got j e =
    let (taken, alike, rest) = bind-ok (joined_alike before.joined all) _ got e in
    let start : Expression = record { joined = Some all; tests = before.tests; words = before.words ++ word ∷ [] } in
    joined-case all before word words got (joiner-is word all j) alike (one-said start words got rest)

joined-long : (joiner : List ℕ) (part : Words) (one : KeptTest) → JoinedTestSays joiner part one → 1 ≤ length part
joined-long joiner ws o (joined_test words kept test s) = omega arith

-- it takes its words
pub joined-shorter : (all : Bool) (before : Expression) (words : Words) (got : Expression × Words) → joiner_at words ≡ Some all → with_joined before all words ≡ Ok got
    → length got.1 < length words
joined-shorter all before words got j e =
    let o = joined-said all before words got j e in
    let long = joined-long (joiner_text all) o.part o.one o.said in
    let same : length words ≡ length (o.part ++ got.1) = ap (λ (ws : Words). length ws) o.whole in
    omega (arith, same, long, length-append o.part got.1)

-- all that follow
record MoreSaid (all : Bool) (before : Expression) (words : Words) (got : Expression × Words) : Type 0 where
  more_words : Words
  more : List KeptTest
  whole : words ≡ more_words ++ got.1
  made : got.0 ≡ record { joined = Some all; tests = before.tests ++ tests_of more; words = before.words ++ kept_words more }
  said : PartsSay (JoinedTestSays (joiner_text all)) more_words more

none-said : (all : Bool) (before : Expression) (words : Words) → before.joined ≡ Some all → MoreSaid all before words (before, words)
none-said all before words j =
    record { more_words = []; more = []; whole = refl; made = rw (append-nil before.tests, append-nil before.words, ← j) refl; said = no_part }

one_more-said : (all : Bool) (before : Expression) (words : Words) (between got : Expression × Words) → OneJoined all before words between
    → MoreSaid all between.0 between.1 got → MoreSaid all before words got
one_more-said all before words between got a b =
    let tests : between.0.tests ++ tests_of b.more ≡ before.tests ++ tests_of (a.one ∷ b.more) =
    ap (λ (x : Expression). x.tests ++ tests_of b.more) a.made ∙ append_assoc before.tests (a.one.test ∷ []) (tests_of b.more) in
    let kept : between.0.words ++ kept_words b.more ≡ before.words ++ kept_words (a.one ∷ b.more) =
    ap (λ (x : Expression). x.words ++ kept_words b.more) a.made ∙ append_assoc before.words a.one.kept (kept_words b.more) in
    record {
      more_words = a.part ++ b.more_words;
      more = a.one ∷ b.more;
      whole = a.whole ∙ (ap (λ ws. a.part ++ ws) b.whole ∙ sym (append_assoc a.part b.more_words got.1));
      made = b.made ∙ (ap (λ (ts : List Test). record { joined = Some all; tests = ts; words = between.0.words ++ kept_words b.more }) tests
          ∙ ap (λ (ws : Words). record { joined = Some all; tests = before.tests ++ tests_of (a.one ∷ b.more); words = ws }) kept);
      said = one_part a.part a.one b.more_words b.more a.said b.said;
    }

more-case : (most : ℕ) (all : Bool) (joiner : Option Bool) (before : Expression) (words : Words) (got : Expression × Words) → before.joined ≡ Some all
    → joiner_at words ≡ joiner
    → ((between : Expression × Words) → between.0.joined ≡ Some all → with_tests most (joiner_at between.1) between.0 between.1 ≡ Ok got → MoreSaid all between.0 between.1 got)
    → with_tests (suc most) joiner before words ≡ Ok got → MoreSaid all before words got
more-case most all None before words got b j h e =
    let same : (before, words) ≡ got = cc in
    subst (MoreSaid all before words) same (none-said all before words b)
more-case most all (Some other) before words got b j h e =
    let (between, one, rest) = bind-ok (with_joined before other words) _ got e in
    let o = joined-said other before words between j one in
    let same : other ≡ all = alike-is all other tt (subst (λ k. joined_alike k other ≡ Ok tt) b o.alike) in
    let p : OneJoined all before words between = subst (λ k. OneJoined k before words between) same o in
    one_more-said all before words between got p (h between (ap (λ (x : Expression). x.joined) p.made) rest)

more-said : (most : ℕ) (all : Bool) (joiner : Option Bool) (before : Expression) (words : Words) (got : Expression × Words) → before.joined ≡ Some all
    → joiner_at words ≡ joiner → with_tests most joiner before words ≡ Ok got → MoreSaid all before words got
more-said zero all joiner before words got b j e =
    let same : (before, words) ≡ got = cc in
    subst (MoreSaid all before words) same (none-said all before words b)
more-said (suc most) all joiner before words got b j e =
    more-case most all joiner before words got b j (λ between k r. more-said most all (joiner_at between.1) between.0 between.1 got k refl r) e

abbrev pub rule_of : Expression → Rule
rule_of e = record { all = all_of e.joined; tests = e.tests }

all-is : (all : Bool) → all_of (Some all) ≡ all
all-is true = refl
all-is false = refl

-- an expression
pub record ExpressionIsSaid (words : Words) (got : Expression × Words) : Type 0 where
  pub front : Words
  pub whole : words ≡ front ++ got.1
  pub said : ExpressionSays front got.0.words (rule_of got.0)

alone-said : (words : Words) (got : Expression × Words) → OneTest no_tests words got → ExpressionIsSaid words got
alone-said words got t = record {
  front = t.front;
  whole = t.whole;
  said = subst (λ (x : Expression). ExpressionSays t.front x.words (rule_of x)) (sym t.made) (one_test t.front t.kept t.test t.said);
}

several-said : (all : Bool) (words : Words) (first between got : Expression × Words) → OneTest no_tests words first → OneJoined all first.0 first.1 between
    → MoreSaid all between.0 between.1 got → ExpressionIsSaid words got
unfolding one_more-said
several-said all words first between got t a b =
    let m = one_more-said all first.0 first.1 between got a b in
    let more = a.one ∷ b.more in
    let part_words = a.part ++ b.more_words in
    let said : ExpressionSays (t.front ++ part_words) (t.kept ++ kept_words more) (record { all = all; tests = t.test ∷ tests_of more }) =
    joined_tests all t.front t.kept t.test part_words more t.said (one_part a.part a.one b.more_words b.more a.said b.said) (λ e. cc) in
    let made : got.0 ≡ record { joined = Some all; tests = t.test ∷ tests_of more; words = t.kept ++ kept_words more } =
    one_more-made all first.0 got.0 t.kept t.test more t.made m.made in
    record {
      front = t.front ++ part_words;
      whole = t.whole ∙ (ap (λ ws. t.front ++ ws) m.whole ∙ sym (append_assoc t.front part_words got.1));
      said = subst (λ (x : Expression). ExpressionSays (t.front ++ part_words) x.words (rule_of x)) (sym made)
          (subst (λ b. ExpressionSays (t.front ++ part_words) (t.kept ++ kept_words more) (record { all = b; tests = t.test ∷ tests_of more })) (sym (all-is all)) said);
    }
  where
    one_more-made : (all : Bool) (first got : Expression) (kept : Words) (test : Test) (more : List KeptTest) → first ≡ and_test no_tests None kept test
        → got ≡ record { joined = Some all; tests = first.tests ++ tests_of more; words = first.words ++ kept_words more }
        → got ≡ record { joined = Some all; tests = test ∷ tests_of more; words = kept ++ kept_words more }
    one_more-made all first got kept test more f g =
        g ∙ ap (λ (x : Expression). record { joined = Some all; tests = x.tests ++ tests_of more; words = x.words ++ kept_words more }) f

last-case : (most : ℕ) (joiner : Option Bool) (words : Words) (first got : Expression × Words) → OneTest no_tests words first → joiner_at first.1 ≡ joiner
    → with_tests most joiner first.0 first.1 ≡ Ok got → ExpressionIsSaid words got
last-case zero joiner words first got t j e =
    let same : (first.0, first.1) ≡ got = cc in
    alone-said words got (subst (OneTest no_tests words) same t)
last-case (suc most) None words first got t j e =
    let same : (first.0, first.1) ≡ got = cc in
    alone-said words got (subst (OneTest no_tests words) same t)
last-case (suc most) (Some all) words first got t j e =
    let (between, one, rest) = bind-ok (with_joined first.0 all first.1) _ got e in
    let a = joined-said all first.0 first.1 between j one in
    several-said all words first between got t a
    (more-said most all (joiner_at between.1) between.0 between.1 got (ap (λ (x : Expression). x.joined) a.made) refl rest)

-- what is read as an expression says it
pub expression-said : (words : Words) (got : Expression × Words) → expression_at words ≡ Ok got → ExpressionIsSaid words got
unfolding expression_at
expression-said words got e =
    let (first, one, rest) = bind-ok (with_test no_tests words) _ got e in
    last-case (length first.1) (joiner_at first.1) words first got (one-said no_tests words first one) refl rest

-- and the other way round
with_test-read : (before : Expression) (words kept rest : Words) (test : Test) → TestSays words kept test
    → with_test before (words ++ rest) ≡ Ok (and_test before before.joined kept test, rest)
unfolding with_test
with_test-read before words kept rest test s = rw (with_test, test-read words kept test before.words rest s) refl

joined-words : (all : Bool) (before : Expression) (words kept rest : Words) (test : Test) → TestSays words kept test → joined_alike before.joined all ≡ Ok tt
    → with_joined before all (joiner_text all ∷ (words ++ rest)) ≡ Ok (and_test before (Some all) (joiner_text all ∷ kept) test, rest)
unfolding with_joined noted_at
joined-words all before words kept rest test s a =
    let start : Expression = record { joined = Some all; tests = before.tests; words = before.words ++ joiner_text all ∷ [] } in
    rw (with_joined, a) (with_test-read start words kept rest test s
    ∙ ap (λ (ws : Words). Ok (record { joined = Some all; tests = before.tests ++ test ∷ []; words = ws }, rest)) (append_assoc before.words (joiner_text all ∷ []) kept))

with_joined-read : (all : Bool) (before : Expression) (part : Words) (one : KeptTest) (rest : Words) → JoinedTestSays (joiner_text all) part one
    → joined_alike before.joined all ≡ Ok tt → with_joined before all (part ++ rest) ≡ Ok (and_test before (Some all) one.kept one.test, rest)
with_joined-read all before p o rest (joined_test words kept test s) a = joined-words all before words kept rest test s a

joiner_at-read : (all : Bool) (part : Words) (one : KeptTest) (rest : Words) → JoinedTestSays (joiner_text all) part one → joiner_at (part ++ rest) ≡ Some all
unfolding joiner_at
joiner_at-read all p o rest (joined_test words kept test s) = joiner-read all

part-longer : (all : Bool) (part : Words) (one : KeptTest) → JoinedTestSays (joiner_text all) part one → 1 ≤ length part
part-longer all p o (joined_test words kept test s) = omega arith

abbrev and_all : Bool → Expression → List KeptTest → Expression
and_all all before more = record { joined = Some all; tests = before.tests ++ tests_of more; words = before.words ++ kept_words more }

and_more : (all : Bool) (before : Expression) (one : KeptTest) (more : List KeptTest)
    → and_all all (and_test before (Some all) one.kept one.test) more ≡ and_all all before (one ∷ more)
and_more all before one more =
    ap (λ (ts : List Test). record { joined = Some all; tests = ts; words = (before.words ++ one.kept) ++ kept_words more }) (append_assoc before.tests (one.test ∷ []) (tests_of more))
    ∙ ap (λ (ws : Words). record { joined = Some all; tests = before.tests ++ tests_of (one ∷ more); words = ws }) (append_assoc before.words one.kept (kept_words more))

more-step : (most : ℕ) (all : Bool) (before : Expression) (part : Words) (one : KeptTest) (words rest : Words) (more : List KeptTest)
    → JoinedTestSays (joiner_text all) part one → joined_alike before.joined all ≡ Ok tt → length (words ++ rest) ≤ most
    → ((n : length (words ++ rest) ≤ most) → let next = and_test before (Some all) one.kept one.test in
    with_tests most (joiner_at (words ++ rest)) next (words ++ rest) ≡ Ok (and_all all next more, rest))
    → with_tests (suc most) (Some all) before (part ++ (words ++ rest)) ≡ Ok (and_all all before (one ∷ more), rest)
more-step most all before part one words rest more s a n h =
    rw (with_joined-read all before part one (words ++ rest) s a) (h n ∙ ap (λ (x : Expression). Ok (x, rest)) (and_more all before one more))

more-read : (all : Bool) (most : ℕ) (before : Expression) (words : Words) (more : List KeptTest) (rest : Words)
    → PartsSay (JoinedTestSays (joiner_text all)) words more → before.joined ≡ Some all → joiner_at rest ≡ None → length (words ++ rest) ≤ most
    → with_tests most (joiner_at (words ++ rest)) before (words ++ rest) ≡ Ok (and_all all before more, rest)
unfolding none-said
more-read all most before ws ms rest no_part b j n =
    stops most before rest j ∙ ap (λ (x : Expression). Ok (x, rest)) (none-said all before rest b).made
more-read all zero before ws ms rest (one_part part one words more s said) b j n =
    absurd (let f : ⊥ = omega (arith, n, part-longer all part one s, length-append (part ++ words) rest, length-append part words) in f)
more-read all (suc most) before ws ms rest (one_part part one words more s said) b j n =
    let few : length (words ++ rest) ≤ most = omega (arith, n, part-longer all part one s, length-append (part ++ words) rest, length-append part words, length-append words rest) in
    rw (append_assoc part words rest, joiner_at-read all part one (words ++ rest) s)
    (more-step most all before part one words rest more s (subst (λ k. joined_alike k all ≡ Ok tt) (sym b) (alike-read all)) few
    (λ m. more-read all most (and_test before (Some all) one.kept one.test) words more rest said refl j m))

pub record ExpressionIsRead (words kept : Words) (rule : Rule) (rest : Words) : Type 0 where
  pub got : Expression
  pub read : expression_at (words ++ rest) ≡ Ok (got, rest)
  pub words_are : got.words ≡ kept
  pub rule_is : rule_of got ≡ rule

alone-read : (words kept : Words) (test : Test) (rest : Words) → TestSays words kept test → joiner_at rest ≡ None
    → expression_at (words ++ rest) ≡ Ok (and_test no_tests None kept test, rest)
unfolding expression_at
alone-read words kept test rest s j =
    rw (expression_at, with_test-read no_tests words kept rest test s) (stops (length rest) (and_test no_tests None kept test) rest j)

several-case : (most : ℕ) (all : Bool) (before : Expression) (words : Words) (more : List KeptTest) (rest : Words)
    → PartsSay (JoinedTestSays (joiner_text all)) words more → more ≢ [] → before.joined ≡ None → joiner_at rest ≡ None → length (words ++ rest) ≤ most
    → with_tests most (joiner_at (words ++ rest)) before (words ++ rest) ≡ Ok (and_all all before more, rest)
several-case most all before ws ms rest no_part some b j n = absurd (some refl)
several-case zero all before ws ms rest (one_part part one words more s said) some b j n =
    absurd (let f : ⊥ = omega (arith, n, part-longer all part one s, length-append (part ++ words) rest, length-append part words) in f)
several-case (suc most) all before ws ms rest (one_part part one words more s said) some b j n =
    let few : length (words ++ rest) ≤ most = omega (arith, n, part-longer all part one s, length-append (part ++ words) rest, length-append part words, length-append words rest) in
    rw (append_assoc part words rest, joiner_at-read all part one (words ++ rest) s)
    (more-step most all before part one words rest more s (subst (λ k. joined_alike k all ≡ Ok tt) (sym b) refl) few
    (λ m. more-read all most (and_test before (Some all) one.kept one.test) words more rest said refl j m))

several-read : (all : Bool) (words kept : Words) (test : Test) (more_words : Words) (more : List KeptTest) (rest : Words) → TestSays words kept test
    → PartsSay (JoinedTestSays (joiner_text all)) more_words more → more ≢ [] → joiner_at rest ≡ None
    → expression_at (words ++ (more_words ++ rest)) ≡ Ok (and_all all (and_test no_tests None kept test) more, rest)
unfolding expression_at
several-read all words kept test more_words more rest s said some j =
    rw (expression_at, with_test-read no_tests words kept (more_words ++ rest) test s)
    (several-case (length (more_words ++ rest)) all (and_test no_tests None kept test) more_words more rest said some refl j (omega arith))

-- what says an expression is read as it
pub expression-read : (words kept : Words) (rule : Rule) (rest : Words) → ExpressionSays words kept rule → joiner_at rest ≡ None → ExpressionIsRead words kept rule rest
expression-read ws ks r rest (one_test words kept test s) j =
    record { got = and_test no_tests None kept test; read = alone-read words kept test rest s j; words_are = refl; rule_is = refl }
expression-read ws ks r rest (joined_tests all words kept test more_words more s said some) j = record {
  got = and_all all (and_test no_tests None kept test) more;
  read = ap expression_at (append_assoc words more_words rest) ∙ several-read all words kept test more_words more rest s said some j;
  words_are = refl;
  rule_is = ap (λ (b : Bool). record { all = b; tests = test ∷ tests_of more }) (all-is all);
}
