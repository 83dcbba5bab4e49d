-- A fault in a test of a rule that isn't a missing word stays the same, whatever words stand behind.
use Rattle.std.proofs.Common.{◌≡◌, ◌≤◌, ℕ, zero, suc, Bool, true, false, cond, List, [], ◌∷◌, ◌++◌, length, Option, Some, None, Result, Ok, refl, ap, arith}
use Rattle.std.specs.Prelude.{codes}
use Rattle.std.specs.Option.{ok_or}
use Rattle.std.proofs.lemmas.List.{length-append}
use Rattle.crm_lex.specs.Names.{is}
use Rattle.date_rules.specs.declared.rule.Test.{Test}
use Rattle.faults.specs.Reading.{◌>>=◌}
use Rattle.crm_parse.specs.declared.expression.DateTest.{DateTest}
use Rattle.crm_parse.specs.declared.expression.DateTest.TheVariants as date
use Rattle.crm_parse.specs.declared.expression.Expression.{Expression}
use Rattle.crm_parse.specs.declared.fault.ParseCause.{ParseCause}
use Rattle.crm_parse.specs.declared.fault.ParseCause.TheVariants.{BadValue}
use Rattle.crm_parse.specs.Reading.{Words, next_word_in}
use Rattle.crm_parse.specs.Rules.{attribute_at, comparable, comparison_of, date_at, date_test_at, date_test_of, date_test_text, dates_at, defined_at, end_date_at, end_text, expression_at, filled, joined_alike, joiner_at, joiner_of, no_tests, noted_at, read_moment, start_at, test_at, with_joined, with_test, with_tests}
use Rattle.crm_parse.specs.Texts.{after}
use Rattle.crm_parse.proofs.Binds.{ok-same}
use Rattle.crm_parse.proofs.FaultsStay.{Goes, Stays, GoesOn, goes-on-by, goes-on-step, goes-step, left, left_kept, next-goes, next-stays, nothing-left, ok-goes, ok-stays, step, step-by, test-goes, test-stays}
use Rattle.crm_parse.proofs.Grammar.ExpressionRelated.{joined-shorter}

module _ (cause : ParseCause) (more : Words) where
  noted-stays : (noted words : Words) → Stays cause (noted_at noted words) (noted_at noted (words ++ more))
  unfolding noted_at
  noted-stays noted words = step cause (left more) (next_word_in words) (next_word_in (words ++ more)) _ (next-stays cause more words) (next-goes cause more words) (λ word e. ok-stays cause _ _)

  pub noted-goes : (noted words : Words) → Goes (left_kept more) (noted_at noted words) (noted_at noted (words ++ more))
  unfolding noted_at
  noted-goes noted words = goes-step (left more) (left_kept more) (next_word_in words) (next_word_in (words ++ more)) _ (next-goes cause more words) (λ word e. ok-goes (left_kept more) _)

  -- behind a word that is noted
  noted-then-stays : {B : Type 0} (noted words : Words) (f : List ℕ × Words × Words → Result B ParseCause)
      → ((word : List ℕ × Words × Words) → Stays cause (f word) (f (left_kept more word))) → Stays cause (noted_at noted words >>= f) (noted_at noted (words ++ more) >>= f)
  noted-then-stays noted words f h = step cause (left_kept more) (noted_at noted words) (noted_at noted (words ++ more)) f (noted-stays noted words) (noted-goes noted words) (λ word e. h word)

  noted-then-goes : {U : Type 0} (push : U → U) (noted words : Words) (f : List ℕ × Words × Words → Result U ParseCause)
      → ((word : List ℕ × Words × Words) → Goes push (f word) (f (left_kept more word))) → Goes push (noted_at noted words >>= f) (noted_at noted (words ++ more) >>= f)
  noted-then-goes push noted words f h = goes-step (left_kept more) push (noted_at noted words) (noted_at noted (words ++ more)) f (noted-goes noted words) (λ word e. h word)

  -- the tests
  attribute-stays : (name : List ℕ) (noted words : Words) → Stays cause (attribute_at name noted words) (attribute_at name noted (words ++ more))
  unfolding attribute_at
  attribute-stays name noted words = test-stays cause (filled name) _ _ (λ t h.
      noted-then-stays noted words _ (λ word. test-stays cause (comparison_of word.0) _ _ (λ c h.
      noted-then-stays word.1 word.2 _ (λ value. test-stays cause (comparable c.0 value.0) _ _ (λ t h. ok-stays cause _ _)))))

  attribute-goes : (name : List ℕ) (noted words : Words) → Goes (left_kept more) (attribute_at name noted words) (attribute_at name noted (words ++ more))
  unfolding attribute_at
  attribute-goes name noted words = test-goes (left_kept more) (filled name) _ _ (λ t h.
      noted-then-goes (left_kept more) noted words _ (λ word. test-goes (left_kept more) (comparison_of word.0) _ _ (λ c h.
      noted-then-goes (left_kept more) word.1 word.2 _ (λ value. test-goes (left_kept more) (comparable c.0 value.0) _ _ (λ t h. ok-goes (left_kept more) _)))))

  defined-stays : (defined : Bool) (noted words : Words) → Stays cause (defined_at defined noted words) (defined_at defined noted (words ++ more))
  unfolding defined_at
  defined-stays defined noted words = noted-then-stays noted words _ (λ name. test-stays cause (filled name.0) _ _ (λ t h. ok-stays cause _ _))

  defined-goes : (defined : Bool) (noted words : Words) → Goes (left_kept more) (defined_at defined noted words) (defined_at defined noted (words ++ more))
  unfolding defined_at
  defined-goes defined noted words = noted-then-goes (left_kept more) noted words _ (λ name. test-goes (left_kept more) (filled name.0) _ _ (λ t h. ok-goes (left_kept more) _))

  date-stays : (noted words : Words) → Stays cause (date_at noted words) (date_at noted (words ++ more))
  unfolding date_at
  date-stays noted words = noted-then-stays noted words _ (λ word. test-stays cause (read_moment word.0) _ _ (λ t h. ok-stays cause _ _))

  date-goes : (noted words : Words) → Goes (left_kept more) (date_at noted words) (date_at noted (words ++ more))
  unfolding date_at
  date-goes noted words = noted-then-goes (left_kept more) noted words _ (λ word. test-goes (left_kept more) (read_moment word.0) _ _ (λ t h. ok-goes (left_kept more) _))

  start-stays : (noted words : Words) → Stays cause (start_at noted words) (start_at noted (words ++ more))
  unfolding start_at
  start-stays noted words = noted-then-stays noted words _ (λ word. test-stays cause (ok_or (after (codes "start=") word.0) BadValue) _ _ (λ text h.
      test-stays cause (read_moment text) _ _ (λ t h. ok-stays cause _ _)))

  pub start-goes : (noted words : Words) → Goes (left_kept more) (start_at noted words) (start_at noted (words ++ more))
  unfolding start_at
  start-goes noted words = noted-then-goes (left_kept more) noted words _ (λ word. test-goes (left_kept more) (ok_or (after (codes "start=") word.0) BadValue) _ _ (λ text h.
      test-goes (left_kept more) (read_moment text) _ _ (λ t h. ok-goes (left_kept more) _)))

  end-stays : (noted words : Words) → Stays cause (end_date_at noted words) (end_date_at noted (words ++ more))
  unfolding end_date_at
  end-stays noted words = noted-then-stays noted words _ (λ word. test-stays cause (end_text word.0) _ _ (λ text h.
      test-stays cause (read_moment text) _ _ (λ t h. ok-stays cause _ _)))

  end-goes : (noted words : Words) → Goes (left_kept more) (end_date_at noted words) (end_date_at noted (words ++ more))
  unfolding end_date_at
  end-goes noted words = noted-then-goes (left_kept more) noted words _ (λ word. test-goes (left_kept more) (end_text word.0) _ _ (λ text h.
      test-goes (left_kept more) (read_moment text) _ _ (λ t h. ok-goes (left_kept more) _)))

  dates-stay : (test : DateTest) (noted words : Words) → Stays cause (dates_at test noted words) (dates_at test noted (words ++ more))
  unfolding dates_at
  dates-stay date.Lt noted words = step cause (left_kept more) (date_at noted words) (date_at noted (words ++ more)) _ (date-stays noted words) (date-goes noted words) (λ m e. ok-stays cause _ _)
  dates-stay date.Gt noted words = step cause (left_kept more) (date_at noted words) (date_at noted (words ++ more)) _ (date-stays noted words) (date-goes noted words) (λ m e. ok-stays cause _ _)
  dates-stay date.In noted words = step cause (left_kept more) (start_at noted words) (start_at noted (words ++ more)) _ (start-stays noted words) (start-goes noted words) (λ start e.
      step cause (left_kept more) (end_date_at start.1 start.2) (end_date_at start.1 (start.2 ++ more)) _ (end-stays start.1 start.2) (end-goes start.1 start.2) (λ m e. ok-stays cause _ _))

  dates-go : (test : DateTest) (noted words : Words) → Goes (left_kept more) (dates_at test noted words) (dates_at test noted (words ++ more))
  unfolding dates_at
  dates-go date.Lt noted words = goes-step (left_kept more) (left_kept more) (date_at noted words) (date_at noted (words ++ more)) _ (date-goes noted words) (λ m e. ok-goes (left_kept more) _)
  dates-go date.Gt noted words = goes-step (left_kept more) (left_kept more) (date_at noted words) (date_at noted (words ++ more)) _ (date-goes noted words) (λ m e. ok-goes (left_kept more) _)
  dates-go date.In noted words = goes-step (left_kept more) (left_kept more) (start_at noted words) (start_at noted (words ++ more)) _ (start-goes noted words) (λ start e.
      goes-step (left_kept more) (left_kept more) (end_date_at start.1 start.2) (end_date_at start.1 (start.2 ++ more)) _ (end-goes start.1 start.2) (λ m e. ok-goes (left_kept more) _))

  date_test-stays : (noted words : Words) → Stays cause (date_test_at noted words) (date_test_at noted (words ++ more))
  unfolding date_test_at
  date_test-stays noted words = step cause (left more) (next_word_in words) (next_word_in (words ++ more)) _ (next-stays cause more words) (next-goes cause more words) (λ word e.
      test-stays cause (date_test_of word.0) _ _ (λ test h. dates-stay test (noted ++ date_test_text test ∷ []) word.1))

  date_test-goes : (noted words : Words) → Goes (left_kept more) (date_test_at noted words) (date_test_at noted (words ++ more))
  unfolding date_test_at
  date_test-goes noted words = goes-step (left more) (left_kept more) (next_word_in words) (next_word_in (words ++ more)) _ (next-goes cause more words) (λ word e.
      test-goes (left_kept more) (date_test_of word.0) _ _ (λ test h. dates-go test (noted ++ date_test_text test ∷ []) word.1))

  abbrev chosen : Bool → Bool → Bool → List ℕ → Words → Words → Result (Test × Words × Words) ParseCause
  chosen date defined not_defined word noted words =
      cond date (date_test_at noted words) (cond defined (defined_at true noted words) (cond not_defined (defined_at false noted words) (attribute_at word noted words)))

  chosen-stays : (d f n : Bool) (word : List ℕ) (noted words : Words) → Stays cause (chosen d f n word noted words) (chosen d f n word noted (words ++ more))
  chosen-stays true f n word noted words = date_test-stays noted words
  chosen-stays false true n word noted words = defined-stays true noted words
  chosen-stays false false true word noted words = defined-stays false noted words
  chosen-stays false false false word noted words = attribute-stays word noted words

  chosen-goes : (d f n : Bool) (word : List ℕ) (noted words : Words) → Goes (left_kept more) (chosen d f n word noted words) (chosen d f n word noted (words ++ more))
  chosen-goes true f n word noted words = date_test-goes noted words
  chosen-goes false true n word noted words = defined-goes true noted words
  chosen-goes false false true word noted words = defined-goes false noted words
  chosen-goes false false false word noted words = attribute-goes word noted words

  test-at-stays : (noted words : Words) → Stays cause (test_at noted words) (test_at noted (words ++ more))
  unfolding test_at
  test-at-stays noted words = noted-then-stays noted words _ (λ word.
      chosen-stays (is word.0 (codes "date")) (is word.0 (codes "defined")) (is word.0 (codes "not_defined")) word.0 word.1 word.2)

  test-at-goes : (noted words : Words) → Goes (left_kept more) (test_at noted words) (test_at noted (words ++ more))
  unfolding test_at
  test-at-goes noted words = noted-then-goes (left_kept more) noted words _ (λ word.
      chosen-goes (is word.0 (codes "date")) (is word.0 (codes "defined")) (is word.0 (codes "not_defined")) word.0 word.1 word.2)

  -- one more test
  one-stays : (before : Expression) (words : Words) → Stays cause (with_test before words) (with_test before (words ++ more))
  unfolding with_test
  one-stays before words = step cause (left_kept more) (test_at before.words words) (test_at before.words (words ++ more)) _ (test-at-stays before.words words) (test-at-goes before.words words) (λ test e. ok-stays cause _ _)

  pub one-goes : (before : Expression) (words : Words) → Goes (left more) (with_test before words) (with_test before (words ++ more))
  unfolding with_test
  one-goes before words = goes-step (left_kept more) (left more) (test_at before.words words) (test_at before.words (words ++ more)) _ (test-at-goes before.words words) (λ test e. ok-goes (left more) _)

  joined-stays : (all : Bool) (before : Expression) (words : Words) → Stays cause (with_joined before all words) (with_joined before all (words ++ more))
  unfolding with_joined
  joined-stays all before words = test-stays cause (joined_alike before.joined all) _ _ (λ t h. noted-then-stays before.words words _ (λ word.
      one-stays (record { joined = Some all; tests = before.tests; words = word.1 }) word.2))

  pub joined-goes : (all : Bool) (before : Expression) (words : Words) → Goes (left more) (with_joined before all words) (with_joined before all (words ++ more))
  unfolding with_joined
  joined-goes all before words = test-goes (left more) (joined_alike before.joined all) _ _ (λ t h. noted-then-goes (left more) before.words words _ (λ word.
      one-goes (record { joined = Some all; tests = before.tests; words = word.1 }) word.2))

  -- the tests that follow
  tests-case : (most again : ℕ) (joiner : Option Bool) (before : Expression) (word : List ℕ) (words : Words)
      → ((all : Bool) (got : Expression × Words) → joiner ≡ Some all → with_joined before all (word ∷ words) ≡ Ok got
      → Stays cause (with_tests most (joiner_at got.1) got.0 got.1) (with_tests again (joiner_at (got.1 ++ more)) got.0 (got.1 ++ more)))
      → Stays cause (with_tests (suc most) joiner before (word ∷ words)) (with_tests (suc again) joiner before (word ∷ (words ++ more)))
  tests-case most again None before word words k = λ e. cc
  tests-case most again (Some all) before word words k =
      step-by cause (left more) (with_joined before all (word ∷ words)) (with_joined before all (word ∷ (words ++ more))) _ _ (joined-stays all before (word ∷ words))
      (joined-goes all before (word ∷ words)) (λ got e. k all got refl e)

  tests-stay : (most again : ℕ) (before : Expression) (words : Words) → length words ≤ most → length (words ++ more) ≤ again
      → Stays cause (with_tests most (joiner_at words) before words) (with_tests again (joiner_at (words ++ more)) before (words ++ more))
  unfolding joiner_at
  tests-stay zero again before [] l m = λ e. cc
  tests-stay zero again before (word ∷ words) l m = λ e. absurd (omega (arith, l))
  tests-stay (suc most) again before [] l m = λ e. cc
  tests-stay (suc most) zero before (word ∷ words) l m = λ e. absurd (omega (arith, m))
  tests-stay (suc most) (suc again) before (word ∷ words) l m = tests-case most again (joiner_of word) before word words (λ all got j e.
      let shorter = joined-shorter all before (word ∷ words) got j e in
      tests-stay most again got.0 got.1 (omega (arith, l, shorter)) (omega (arith, m, shorter, length-append got.1 more, length-append words more)))

  tests-go-case : (most again : ℕ) (joiner : Option Bool) (before : Expression) (word : List ℕ) (words : Words)
      → ((all : Bool) (got : Expression × Words) → joiner ≡ Some all → with_joined before all (word ∷ words) ≡ Ok got
      → GoesOn more (with_tests most (joiner_at got.1) got.0 got.1) (with_tests again (joiner_at (got.1 ++ more)) got.0 (got.1 ++ more)))
      → GoesOn more (with_tests (suc most) joiner before (word ∷ words)) (with_tests (suc again) joiner before (word ∷ (words ++ more)))
  tests-go-case most again None before word words k = λ x v rest e.
      let same : (before, word ∷ words) ≡ (x, v ∷ rest) = ok-same _ _ e in
      ap (λ made. Ok (left more made)) same
  tests-go-case most again (Some all) before word words k =
      goes-on-by (left more) more (with_joined before all (word ∷ words)) (with_joined before all (word ∷ (words ++ more))) _ _ (joined-goes all before (word ∷ words))
      (λ got e. k all got refl e)

  tests-go : (most again : ℕ) (before : Expression) (words : Words) → length words ≤ most → length (words ++ more) ≤ again
      → GoesOn more (with_tests most (joiner_at words) before words) (with_tests again (joiner_at (words ++ more)) before (words ++ more))
  unfolding joiner_at
  tests-go zero again before [] l m = λ x v rest e. nothing-left _ x v rest e
  tests-go zero again before (word ∷ words) l m = λ x v rest e. absurd (omega (arith, l))
  tests-go (suc most) again before [] l m = λ x v rest e. nothing-left _ x v rest e
  tests-go (suc most) zero before (word ∷ words) l m = λ x v rest e. absurd (omega (arith, m))
  tests-go (suc most) (suc again) before (word ∷ words) l m = tests-go-case most again (joiner_of word) before word words (λ all got j e.
      let shorter = joined-shorter all before (word ∷ words) got j e in
      tests-go most again got.0 got.1 (omega (arith, l, shorter)) (omega (arith, m, shorter, length-append got.1 more, length-append words more)))

  pub expression-stays : (words : Words) → Stays cause (expression_at words) (expression_at (words ++ more))
  unfolding expression_at
  expression-stays words = step cause (left more) (with_test no_tests words) (with_test no_tests (words ++ more)) _ (one-stays no_tests words) (one-goes no_tests words)
      (λ first e. tests-stay (length first.1) (length (first.1 ++ more)) first.0 first.1 (omega arith) (omega arith))

  pub expression-goes-on : (words : Words) → GoesOn more (expression_at words) (expression_at (words ++ more))
  unfolding expression_at
  expression-goes-on words = goes-on-step (left more) more (with_test no_tests words) (with_test no_tests (words ++ more)) _ (one-goes no_tests words)
      (λ first e. tests-go (length first.1) (length (first.1 ++ more)) first.0 first.1 (omega arith) (omega arith))
