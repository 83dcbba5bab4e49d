-- The expression of a rule is read again from the words that were noted.
use Rattle.std.proofs.Common.{◌≡◌, ℕ, ◌≤◌, zero, suc, Bool, List, ◌∷◌, ◌++◌, length, Option, Some, None, Result, Ok, refl, sym, ap, ◌∙◌, subst, append_assoc, append-nil, arith, []}
use Rattle.std.proofs.lemmas.List.{length-append}
use Rattle.date_rules.specs.declared.rule.Test.{Test}
use Rattle.crm_parse.specs.declared.expression.Expression.{Expression}
use Rattle.crm_parse.specs.declared.fault.ParseCause.{ParseCause}
use Rattle.crm_parse.specs.Reading.{Words}
use Rattle.crm_parse.specs.Rules.{expression_at, joined_alike, joiner_at, no_tests, noted_at, test_at, with_joined, with_test, with_tests}
use Rattle.faults.proofs.Steps.{bind-ok}
use Rattle.crm_print.proofs.TestAgain.{Rereads, test_at-faithful}
use Rattle.crm_parse.proofs.Bounds.{stops}

-- a reader of more of an expression
abbrev More : Type 0
More = Words → Result (Expression × Words) ParseCause

-- what was read is read again from the words that were noted, whatever follows
record GoesOn (read : More) (noted : Words) (got : Expression) : Type 0 where
  words : Words
  notes : got.words ≡ noted ++ words
  again : (more : Words) → read (words ++ more) ≡ Ok (got, more)

test-goes_on : (before : Expression) (test : Test × Words × Words) → Rereads test_at before.words test
    → GoesOn (with_test before) before.words (record { joined = before.joined; tests = before.tests ++ test.0 ∷ []; words = test.1 })
unfolding with_test
test-goes_on before test h = record {
  words = h.words;
  notes = h.notes;
  again = λ more. rw (h.again before.words more, h.notes) refl;
}

with_test-goes_on : (before : Expression) (words : Words) (got : Expression × Words) → with_test before words ≡ Ok got → GoesOn (with_test before) before.words got.0
unfolding with_test
with_test-goes_on before words got e =
    let (test, is_test, last) = bind-ok (test_at before.words words) _ got e in
    let whole : (record { joined = before.joined; tests = before.tests ++ test.0 ∷ []; words = test.1 }, test.2) ≡ got = cc in
    subst (λ (g : Expression × Words). GoesOn (with_test before) before.words g.0) whole (test-goes_on before test (test_at-faithful before.words words test is_test))

-- a test after a word that joins it: the words begin with that word
record Joins (before : Expression) (all : Bool) (got : Expression) : Type 0 where
  word : List ℕ
  words : Words
  joins : joiner_at (word ∷ []) ≡ Some all
  notes : got.words ≡ before.words ++ word ∷ words
  again : (more : Words) → with_joined before all (word ∷ words ++ more) ≡ Ok (got, more)

joined-joins : (before : Expression) (all : Bool) (taken : Unit {0}) (word : List ℕ) (got : Expression) → joined_alike before.joined all ≡ Ok taken → joiner_at (word ∷ []) ≡ Some all
    → GoesOn (with_test (record { joined = Some all; tests = before.tests; words = before.words ++ word ∷ [] })) (before.words ++ word ∷ []) got → Joins before all got
unfolding with_joined noted_at
joined-joins before all taken word got t j h = record {
  word = word;
  words = h.words;
  joins = j;
  notes = h.notes ∙ append_assoc before.words (word ∷ []) h.words;
  again = λ more. rw t (h.again more);
}

joiner-word : (word : List ℕ) (words : Words) → joiner_at (word ∷ words) ≡ joiner_at (word ∷ [])
unfolding joiner_at
joiner-word word words = refl

with_joined-joins : (before : Expression) (all : Bool) (words : Words) (got : Expression × Words) → joiner_at words ≡ Some all → with_joined before all words ≡ Ok got → Joins before all got.0
unfolding with_joined noted_at joiner_at
with_joined-joins before all [] got j e = absurd (cc)
with_joined-joins before all (word ∷ words) got j e =
    let (taken, t, e1) = bind-ok (joined_alike before.joined all) _ got e in
    let start : Expression = record { joined = Some all; tests = before.tests; words = before.words ++ word ∷ [] } in
    joined-joins before all taken word got.0 t j (with_test-goes_on start words got e1)

-- all tests that follow are read again, by any number that is great enough
record Follow (before got : Expression) : Type 0 where
  words : Words
  notes : got.words ≡ before.words ++ words
  again : (most : ℕ) (more : Words) → length (words ++ more) ≤ most → joiner_at more ≡ None
      → with_tests most (joiner_at (words ++ more)) before (words ++ more) ≡ Ok (got, more)

follow-none : (before : Expression) → Follow before before
follow-none before = record { words = []; notes = sym (append-nil before.words); again = λ most more l j. stops most before more j }

goes_on : (before between got : Expression) (all : Bool) (joined : Joins before all between) (follow : Follow between got) (most : ℕ) (more : Words)
    → length ((joined.word ∷ joined.words ++ follow.words) ++ more) ≤ most → joiner_at more ≡ None
    → with_tests most (joiner_at ((joined.word ∷ joined.words ++ follow.words) ++ more)) before ((joined.word ∷ joined.words ++ follow.words) ++ more) ≡ Ok (got, more)
goes_on before between got all joined follow zero more l j = absurd (omega arith)
goes_on before between got all joined follow (suc most) more l j =
    let rest = follow.words ++ more in
    let n : length rest ≤ most = omega (arith, length-append joined.words follow.words, length-append (joined.words ++ follow.words) more, length-append follow.words more) in
    let joins : joiner_at (joined.word ∷ joined.words ++ rest) ≡ Some all = joiner-word joined.word (joined.words ++ rest) ∙ joined.joins in
    rw (append_assoc joined.words follow.words more, joins, joined.again rest) (follow.again most more n j)

follow-more : (before between got : Expression) (all : Bool) → Joins before all between → Follow between got → Follow before got
follow-more before between got all joined follow = record {
  words = joined.word ∷ joined.words ++ follow.words;
  notes = follow.notes ∙ (ap (λ ws. ws ++ follow.words) joined.notes ∙ append_assoc before.words (joined.word ∷ joined.words) follow.words);
  again = goes_on before between got all joined follow;
}

follow-case : (most : ℕ) (joiner : Option Bool) (before : Expression) (words : Words) (got : Expression × Words) → joiner_at words ≡ joiner
    → ((all : Bool) (between : Expression × Words) → with_tests most (joiner_at between.1) between.0 between.1 ≡ Ok got → Follow between.0 got.0)
    → with_tests (suc most) joiner before words ≡ Ok got → Follow before got.0
follow-case most None before words got j h e =
    let same : (before, words) ≡ got = cc in
    subst (λ (g : Expression × Words). Follow before g.0) same (follow-none before)
follow-case most (Some all) before words got j h e =
    let (between, one, rest) = bind-ok (with_joined before all words) _ got e in
    follow-more before between.0 got.0 all (with_joined-joins before all words between j one) (h all between rest)

with_tests-follow : (most : ℕ) (joiner : Option Bool) (before : Expression) (words : Words) (got : Expression × Words) → joiner_at words ≡ joiner
    → with_tests most joiner before words ≡ Ok got → Follow before got.0
with_tests-follow zero joiner before words got j e =
    let same : (before, words) ≡ got = cc in
    subst (λ (g : Expression × Words). Follow before g.0) same (follow-none before)
with_tests-follow (suc most) joiner before words got j e =
    follow-case most joiner before words got j (λ all between k. with_tests-follow most (joiner_at between.1) between.0 between.1 got refl k) e

-- an expression is read again from its words, up to a word that joins no test
pub record ExpressionAgain (got : Expression) : Type 0 where
  pub again : (more : Words) → joiner_at more ≡ None → expression_at (got.words ++ more) ≡ Ok (got, more)

both-read : (first got : Expression) (one : GoesOn (with_test no_tests) [] first) (follow : Follow first got) (more : Words) → joiner_at more ≡ None
    → expression_at (one.words ++ (follow.words ++ more)) ≡ Ok (got, more)
unfolding expression_at
both-read first got one follow more j = rw (one.again (follow.words ++ more)) (follow.again (length (follow.words ++ more)) more (omega arith) j)

both-again : (first got : Expression) → GoesOn (with_test no_tests) [] first → Follow first got → ExpressionAgain got
both-again first got one follow = record {
  again = λ more j.
      let words : got.words ≡ one.words ++ follow.words = follow.notes ∙ ap (λ ws. ws ++ follow.words) one.notes in
      ap (λ ws. expression_at (ws ++ more)) words ∙ (ap expression_at (append_assoc one.words follow.words more) ∙ both-read first got one follow more j);
}

pub expression_at-again : (words : Words) (got : Expression × Words) → expression_at words ≡ Ok got → ExpressionAgain got.0
unfolding expression_at
expression_at-again words got e =
    let (first, one, rest) = bind-ok (with_test no_tests words) _ got e in
    both-again first.0 got.0 (with_test-goes_on no_tests words first one) (with_tests-follow (length first.1) (joiner_at first.1) first.0 first.1 got refl rest)
