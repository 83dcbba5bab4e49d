-- The tests of a rule (crmsh manual, rule expressions; Pacemaker Explained, "Rules").
use Rattle.std.specs.Prelude.{◌≡◌, ◌≢◌, ℕ, ℤ, Bool, true, false, List, [], ◌∷◌, ◌++◌, codes, is_some, map, Some}
use Rattle.std.specs.List.{flat_map}
use Rattle.date_rules.specs.declared.rule.Compare.{Compare}
use Rattle.date_rules.specs.declared.rule.Compare.TheVariants.{Lt, Gt, Lte, Gte, Eq, Ne}
use Rattle.date_rules.specs.declared.rule.Kind.{Kind}
use Rattle.date_rules.specs.declared.rule.Kind.TheVariants.{Auto, Number, Word}
use Rattle.date_rules.specs.declared.rule.Rule.{Rule}
use Rattle.date_rules.specs.declared.rule.Test.{Test}
use Rattle.date_rules.specs.declared.rule.Test.TheVariants.{Attribute, Defined, NotDefined, Before, After, Within}
use Rattle.date_rules.specs.Instant.{instant}
use Rattle.date_rules.specs.WholeNumber.{whole_number}
use Rattle.crm_parse.specs.Reading.{Words}
use Rattle.crm_parse.specs.Grammar.Phrases.{PartsSay}

-- CMP
pub data CompareSays : List ℕ → Compare → Type 0 where
  says_lt : CompareSays (codes "lt") Lt
  says_gt : CompareSays (codes "gt") Gt
  says_lte : CompareSays (codes "lte") Lte
  says_gte : CompareSays (codes "gte") Gte
  says_eq : CompareSays (codes "eq") Eq
  says_ne : CompareSays (codes "ne") Ne

-- TYPE: `string` is the kind Word, and `integer` the same as `number`
pub data TypeSays : List ℕ → Kind → Type 0 where
  says_string : TypeSays (codes "string") Word
  says_number : TypeSays (codes "number") Number
  says_integer : TypeSays (codes "integer") Number

-- `[TYPE:]CMP`
pub data ComparisonSays : List ℕ → Kind → Compare → Type 0 where
  without_type : (word : List ℕ) (compare : Compare) → CompareSays word compare → ComparisonSays word Auto compare
  with_type : (type word : List ℕ) (kind : Kind) (compare : Compare) → TypeSays type kind → CompareSays word compare
      → ComparisonSays (type ++ (codes ":" ++ word)) kind compare

-- `in`, or `in_range`
pub data RangeWord : List ℕ → Type 0 where
  in_word : RangeWord (codes "in")
  in_range_word : RangeWord (codes "in_range")

-- the name of an attribute: it isn't empty, and none of the words that begin a test of another kind
pub record NamesAttribute (name : List ℕ) : Type 0 where
  pub filled : name ≢ []
  pub no_date : name ≢ codes "date"
  pub no_defined : name ≢ codes "defined"
  pub no_not_defined : name ≢ codes "not_defined"

-- the words of a test, the words that are kept of it, and the test. They are kept as they stand, but `in_range` is kept as `in`
pub data TestSays : Words → Words → Test → Type 0 where
  is_defined : (name : List ℕ) → name ≢ [] → TestSays (codes "defined" ∷ name ∷ []) (codes "defined" ∷ name ∷ []) (Defined name)
  is_not_defined : (name : List ℕ) → name ≢ [] → TestSays (codes "not_defined" ∷ name ∷ []) (codes "not_defined" ∷ name ∷ []) (NotDefined name)
  compares : (name comparison value : List ℕ) (kind : Kind) (compare : Compare) → NamesAttribute name → ComparisonSays comparison kind compare
      → (kind ≡ Number → is_some (whole_number value) ≡ true)
      → TestSays (name ∷ comparison ∷ value ∷ []) (name ∷ comparison ∷ value ∷ []) (Attribute name compare kind value)
  before_date : (date : List ℕ) (moment : ℤ) → instant date ≡ Some moment
      → TestSays (codes "date" ∷ codes "lt" ∷ date ∷ []) (codes "date" ∷ codes "lt" ∷ date ∷ []) (Before moment)
  after_date : (date : List ℕ) (moment : ℤ) → instant date ≡ Some moment
      → TestSays (codes "date" ∷ codes "gt" ∷ date ∷ []) (codes "date" ∷ codes "gt" ∷ date ∷ []) (After moment)
  within_dates : (word start end : List ℕ) (first last : ℤ) → RangeWord word → instant start ≡ Some first → instant end ≡ Some last
      → TestSays (codes "date" ∷ word ∷ (codes "start=" ++ start) ∷ (codes "end=" ++ end) ∷ [])
      (codes "date" ∷ codes "in" ∷ (codes "start=" ++ start) ∷ (codes "end=" ++ end) ∷ []) (Within first last)

-- the words that are kept of a test, with the word before them that joins it to others; and the test
pub record KeptTest : Type 0 where
  pub kept : Words
  pub test : Test

-- a word that joins tests, and a test
pub data JoinedTestSays (joiner : List ℕ) : Words → KeptTest → Type 0 where
  joined_test : (words kept : Words) (test : Test) → TestSays words kept test → JoinedTestSays joiner (joiner ∷ words) (record { kept = joiner ∷ kept; test = test })

-- where tests are joined by `and` all must pass, and where they are joined by `or` one
abbrev pub joiner_text : Bool → List ℕ
joiner_text true = codes "and"
joiner_text false = codes "or"

-- one test, or several that are all joined by the same word; the words that are kept of them, and the rule
pub data ExpressionSays : Words → Words → Rule → Type 0 where
  one_test : (words kept : Words) (test : Test) → TestSays words kept test → ExpressionSays words kept (record { all = true; tests = test ∷ [] })
  joined_tests : (all : Bool) (words kept : Words) (test : Test) (more_words : Words) (more : List KeptTest) → TestSays words kept test
      → PartsSay (JoinedTestSays (joiner_text all)) more_words more → more ≢ []
      → ExpressionSays (words ++ more_words) (kept ++ flat_map (λ one. one.kept) more) (record { all = all; tests = test ∷ map (λ one. one.test) more })
