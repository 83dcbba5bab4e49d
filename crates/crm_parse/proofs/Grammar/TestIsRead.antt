-- What says a test is read as it.
use Rattle.std.proofs.Common.{◌≡◌, ◌≢◌, ℕ, ℤ, true, false, List, [], ◌∷◌, ◌++◌, Some, Ok, refl, ap, ◌∙◌, append_assoc}
use Rattle.std.specs.Prelude.{codes, is_some}
use Rattle.std.proofs.lemmas.Bool.{false_from_ne_true}
use Rattle.crm_lex.specs.Names.{is}
use Rattle.date_rules.specs.declared.rule.Compare.{Compare}
use Rattle.date_rules.specs.declared.rule.Kind.{Kind}
use Rattle.date_rules.specs.declared.rule.Kind.TheVariants.{Auto, Number, Word}
use Rattle.date_rules.specs.declared.rule.Test.{Test}
use Rattle.date_rules.specs.declared.rule.Test.TheVariants.{Attribute, Defined, NotDefined, Before, After, Within}
use Rattle.date_rules.specs.Instant.{instant}
use Rattle.date_rules.specs.WholeNumber.{whole_number}
use Rattle.crm_parse.specs.Reading.{Words}
use Rattle.crm_parse.specs.Rules.{attribute_at, comparable, compare_of, comparison_of, date_at, date_test_at, dates_at, defined_at, end_date_at, filled, noted_at, start_at, test_after, test_at, typed, untyped}
use Rattle.crm_parse.proofs.Binds.{is-true}
use Rattle.crm_parse.proofs.PairsAgain.{cut_at-again}
use Rattle.crm_parse.specs.Grammar.RuleTests.{CompareSays, ComparisonSays, NamesAttribute, RangeWord, TestSays, TypeSays, after_date, before_date, compares, in_range_word, in_word, is_defined, is_not_defined, says_eq, says_gt, says_gte, says_integer, says_lt, says_lte, says_ne, says_number, says_string, with_type, within_dates, without_type}
use Rattle.crm_parse.proofs.Grammar.PairsRelated.{key-filled}

compare-read : (word : List ℕ) (compare : Compare) → CompareSays word compare → compare_of word ≡ Ok compare
compare-read w c says_lt = refl
compare-read w c says_gt = refl
compare-read w c says_lte = refl
compare-read w c says_gte = refl
compare-read w c says_eq = refl
compare-read w c says_ne = refl

untyped-read : (word : List ℕ) (compare : Compare) → CompareSays word compare → comparison_of word ≡ Ok (Auto, compare)
unfolding untyped
untyped-read w c says_lt = refl
untyped-read w c says_gt = refl
untyped-read w c says_lte = refl
untyped-read w c says_gte = refl
untyped-read w c says_eq = refl
untyped-read w c says_ne = refl

typed-read : (type word : List ℕ) (kind : Kind) (compare : Compare) → TypeSays type kind → compare_of word ≡ Ok compare
    → comparison_of (type ++ 58 ∷ word) ≡ Ok (kind, compare)
unfolding typed
typed-read t word k compare says_string h = rw (comparison_of, cut_at-again 58 (codes "string") word refl, h) refl
typed-read t word k compare says_number h = rw (comparison_of, cut_at-again 58 (codes "number") word refl, h) refl
typed-read t word k compare says_integer h = rw (comparison_of, cut_at-again 58 (codes "integer") word refl, h) refl

comparison-read : (word : List ℕ) (kind : Kind) (compare : Compare) → ComparisonSays word kind compare → comparison_of word ≡ Ok (kind, compare)
comparison-read w k c (without_type word compare s) = untyped-read word compare s
comparison-read w k c (with_type type word kind compare t s) = typed-read type word kind compare t (compare-read word compare s)

filled-read : (name : List ℕ) → name ≢ [] → filled name ≡ Ok tt
filled-read name h = rw (key-filled name h) refl

comparable-read : (kind : Kind) (value : List ℕ) → (kind ≡ Number → is_some (whole_number value) ≡ true) → comparable kind value ≡ Ok tt
comparable-read Number value h = rw (h refl) refl
comparable-read Auto value h = refl
comparable-read Word value h = refl

-- the words that are noted
two : (noted : Words) (a b : List ℕ) → (noted ++ a ∷ []) ++ b ∷ [] ≡ noted ++ a ∷ b ∷ []
two noted a b = append_assoc noted (a ∷ []) (b ∷ [])

three : (noted : Words) (a b c : List ℕ) → ((noted ++ a ∷ []) ++ b ∷ []) ++ c ∷ [] ≡ noted ++ a ∷ b ∷ c ∷ []
three noted a b c = ap (λ ws. ws ++ c ∷ []) (two noted a b) ∙ append_assoc noted (a ∷ b ∷ []) (c ∷ [])

four : (noted : Words) (a b c d : List ℕ) → (((noted ++ a ∷ []) ++ b ∷ []) ++ c ∷ []) ++ d ∷ [] ≡ noted ++ a ∷ b ∷ c ∷ d ∷ []
four noted a b c d = ap (λ ws. ws ++ d ∷ []) (three noted a b c) ∙ append_assoc noted (a ∷ b ∷ c ∷ []) (d ∷ [])

is_no : (word text : List ℕ) → word ≢ text → is word text ≡ false
is_no word text h = false_from_ne_true _ (λ e. h (is-true word text e))

after-attribute : (name : List ℕ) (noted words : Words) → NamesAttribute name → test_after name noted words ≡ attribute_at name noted words
after-attribute name noted words h =
    rw (is_no name (codes "date") h.no_date, is_no name (codes "defined") h.no_defined, is_no name (codes "not_defined") h.no_not_defined) refl

attribute-read : (name comparison value : List ℕ) (kind : Kind) (compare : Compare) (noted rest : Words) → name ≢ [] → comparison_of comparison ≡ Ok (kind, compare)
    → comparable kind value ≡ Ok tt
    → attribute_at name noted (comparison ∷ value ∷ rest) ≡ Ok (Attribute name compare kind value, (noted ++ comparison ∷ []) ++ value ∷ [], rest)
unfolding attribute_at noted_at
attribute-read name comparison value kind compare noted rest f c v = rw (attribute_at, filled-read name f, c, v) refl

compared : (name comparison value : List ℕ) (kind : Kind) (compare : Compare) (noted rest : Words) → NamesAttribute name → comparison_of comparison ≡ Ok (kind, compare)
    → comparable kind value ≡ Ok tt
    → test_at noted (name ∷ comparison ∷ value ∷ rest) ≡ Ok (Attribute name compare kind value, noted ++ name ∷ comparison ∷ value ∷ [], rest)
unfolding test_at noted_at
compared name comparison value kind compare noted rest h c v =
    after-attribute name (noted ++ name ∷ []) (comparison ∷ value ∷ rest) h
    ∙ (attribute-read name comparison value kind compare (noted ++ name ∷ []) rest h.filled c v
    ∙ ap (λ (ws : Words). Ok (Attribute name compare kind value, ws, rest)) (three noted name comparison value))

defined-read : (name : List ℕ) (noted rest : Words) → name ≢ []
    → test_at noted (codes "defined" ∷ name ∷ rest) ≡ Ok (Defined name, noted ++ codes "defined" ∷ name ∷ [], rest)
unfolding test_at noted_at defined_at
defined-read name noted rest h =
    rw (test_at, defined_at, filled-read name h) (ap (λ (ws : Words). Ok (Defined name, ws, rest)) (two noted (codes "defined") name))

not_defined-read : (name : List ℕ) (noted rest : Words) → name ≢ []
    → test_at noted (codes "not_defined" ∷ name ∷ rest) ≡ Ok (NotDefined name, noted ++ codes "not_defined" ∷ name ∷ [], rest)
unfolding test_at noted_at defined_at
not_defined-read name noted rest h =
    rw (test_at, defined_at, filled-read name h) (ap (λ (ws : Words). Ok (NotDefined name, ws, rest)) (two noted (codes "not_defined") name))

before-read : (text : List ℕ) (moment : ℤ) (noted rest : Words) → instant text ≡ Some moment
    → test_at noted (codes "date" ∷ codes "lt" ∷ text ∷ rest) ≡ Ok (Before moment, noted ++ codes "date" ∷ codes "lt" ∷ text ∷ [], rest)
unfolding test_at noted_at date_test_at dates_at date_at
before-read text moment noted rest h =
    rw (test_at, date_test_at, dates_at, date_at, h) (ap (λ (ws : Words). Ok (Before moment, ws, rest)) (three noted (codes "date") (codes "lt") text))

after-read : (text : List ℕ) (moment : ℤ) (noted rest : Words) → instant text ≡ Some moment
    → test_at noted (codes "date" ∷ codes "gt" ∷ text ∷ rest) ≡ Ok (After moment, noted ++ codes "date" ∷ codes "gt" ∷ text ∷ [], rest)
unfolding test_at noted_at date_test_at dates_at date_at
after-read text moment noted rest h =
    rw (test_at, date_test_at, dates_at, date_at, h) (ap (λ (ws : Words). Ok (After moment, ws, rest)) (three noted (codes "date") (codes "gt") text))

within-read : (word start end : List ℕ) (first last : ℤ) (noted rest : Words) → RangeWord word → instant start ≡ Some first → instant end ≡ Some last
    → test_at noted (codes "date" ∷ word ∷ (codes "start=" ++ start) ∷ (codes "end=" ++ end) ∷ rest)
    ≡ Ok (Within first last, noted ++ codes "date" ∷ codes "in" ∷ (codes "start=" ++ start) ∷ (codes "end=" ++ end) ∷ [], rest)
unfolding test_at noted_at date_test_at dates_at start_at end_date_at
within-read w start end first last noted rest in_word s e =
    rw (test_at, date_test_at, dates_at, start_at, end_date_at, s, e)
    (ap (λ (ws : Words). Ok (Within first last, ws, rest)) (four noted (codes "date") (codes "in") (codes "start=" ++ start) (codes "end=" ++ end)))
within-read w start end first last noted rest in_range_word s e =
    rw (test_at, date_test_at, dates_at, start_at, end_date_at, s, e)
    (ap (λ (ws : Words). Ok (Within first last, ws, rest)) (four noted (codes "date") (codes "in") (codes "start=" ++ start) (codes "end=" ++ end)))

-- what says a test is read as it
pub test-read : (words kept : Words) (test : Test) (noted rest : Words) → TestSays words kept test → test_at noted (words ++ rest) ≡ Ok (test, noted ++ kept, rest)
test-read ws ks t noted rest (is_defined name h) = defined-read name noted rest h
test-read ws ks t noted rest (is_not_defined name h) = not_defined-read name noted rest h
test-read ws ks t noted rest (compares name comparison value kind compare h c v) =
    compared name comparison value kind compare noted rest h (comparison-read comparison kind compare c) (comparable-read kind value v)
test-read ws ks t noted rest (before_date text moment h) = before-read text moment noted rest h
test-read ws ks t noted rest (after_date text moment h) = after-read text moment noted rest h
test-read ws ks t noted rest (within_dates word start end first last r s e) = within-read word start end first last noted rest r s e
