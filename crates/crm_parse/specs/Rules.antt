-- The expression of a rule: tests that are all joined by `and` or all by `or` (crmsh manual, rule expressions; Pacemaker Explained, "Rules").
-- A reader of a test also notes its words, after those that were noted before: it gives what it read, the words noted, and the words left.
use Rattle.std.specs.Prelude.{ℕ, ◌==◌, zero, suc, ℤ, Bool, true, false, not, ◌||◌, if◌then◌else◌, List, [], ◌∷◌, ◌++◌, length, codes, is_some, Option, Some, None, Result, Ok, Err}
use Rattle.std.specs.Option.{ok_or}
use Rattle.crm_lex.specs.Names.{is}
use Rattle.date_rules.specs.declared.rule.Compare.{Compare}
use Rattle.date_rules.specs.declared.rule.Compare.TheVariants.{Lt, Gt, Lte, Gte, Eq, Ne}
use Rattle.date_rules.specs.declared.rule.Kind.{Kind}
use Rattle.date_rules.specs.declared.rule.Kind.TheVariants.{Auto, Number, Word}
use Rattle.date_rules.specs.declared.rule.Test.{Test}
use Rattle.date_rules.specs.declared.rule.Test.TheVariants.{Attribute, Defined, NotDefined, Before, After, Within}
use Rattle.date_rules.specs.Instant.{instant}
use Rattle.date_rules.specs.WholeNumber.{whole_number}
use Rattle.crm_parse.specs.declared.expression.DateTest.{DateTest}
use Rattle.crm_parse.specs.declared.expression.DateTest.TheVariants as date
use Rattle.crm_parse.specs.declared.expression.Expression.{Expression}
use Rattle.crm_parse.specs.declared.fault.ParseCause.{ParseCause}
use Rattle.crm_parse.specs.declared.fault.ParseCause.TheVariants.{BadValue, Unsupported}
use Rattle.crm_parse.specs.Keys.{ValueTaken, when}
use Rattle.crm_parse.specs.Reading.{Words, next_word_in}
use Rattle.faults.specs.Reading.{◌>>=◌}
use Rattle.crm_parse.specs.Texts.{after, cut_at, byte_place}

-- the next word, which is noted
unfoldable pub noted_at : Words → Words → Result (List ℕ × Words × Words) ParseCause
noted_at noted words = do
  word ← next_word_in words
  Ok (word.0, noted ++ word.0 ∷ [], word.1)

-- a name that isn't empty
abbrev pub filled : List ℕ → ValueTaken
filled name = when (not (length name == 0)) BadValue

abbrev pub compare_of : List ℕ → Result Compare ParseCause
compare_of word =
    if is word (codes "lt") then Ok Lt
    else if is word (codes "gt") then Ok Gt
    else if is word (codes "lte") then Ok Lte
    else if is word (codes "gte") then Ok Gte
    else if is word (codes "eq") then Ok Eq
    else if is word (codes "ne") then Ok Ne
    else Err BadValue

-- as what two values are compared; versions aren't supported
abbrev pub type_of : List ℕ → Result Kind ParseCause
type_of word =
    if is word (codes "string") then Ok Word
    else if is word (codes "number") || is word (codes "integer") then Ok Number
    else if is word (codes "version") then Err Unsupported
    else Err BadValue

-- a comparison without a type
unfoldable pub untyped : List ℕ → Result (Kind × Compare) ParseCause
untyped word = do
  compare ← compare_of word
  Ok (Auto, compare)

-- and one with a type before it
unfoldable pub typed : List ℕ → List ℕ → Result (Kind × Compare) ParseCause
typed type word = do
  kind ← type_of type
  compare ← compare_of word
  Ok (kind, compare)

-- `[TYPE:]CMP`
abbrev pub comparison_of : List ℕ → Result (Kind × Compare) ParseCause
comparison_of word = elim (cut_at 58 word) [ None ↦ untyped word | Some parts ↦ typed parts.0 parts.1 ]

abbrev pub is_number_kind : Kind → Bool
is_number_kind Number = true
is_number_kind _ = false

-- a value that is compared as a number has to be one
abbrev pub comparable : Kind → List ℕ → ValueTaken
comparable kind value = when (not (is_number_kind kind) || is_some (whole_number value)) BadValue

-- `NAME [TYPE:]CMP VALUE`, after the name
unfoldable pub attribute_at : List ℕ → Words → Words → Result (Test × Words × Words) ParseCause
attribute_at name noted words = do
  taken ← filled name
  word ← noted_at noted words
  comparison ← comparison_of word.0
  value ← noted_at word.1 word.2
  fits ← comparable comparison.0 value.0
  Ok (Attribute name comparison.1 comparison.0 value.0, value.1, value.2)

-- `defined NAME` and `not_defined NAME`, after the first word
unfoldable pub defined_at : Bool → Words → Words → Result (Test × Words × Words) ParseCause
defined_at defined noted words = do
  name ← noted_at noted words
  taken ← filled name.0
  Ok (if defined then Defined name.0 else NotDefined name.0, name.1, name.2)

-- how a date is tested; `date spec` isn't supported, and `in_range` is read as `in`
abbrev pub date_test_of : List ℕ → Result DateTest ParseCause
date_test_of word =
    if is word (codes "lt") then Ok date.Lt
    else if is word (codes "gt") then Ok date.Gt
    else if is word (codes "in") || is word (codes "in_range") then Ok date.In
    else if is word (codes "spec") then Err Unsupported
    else Err BadValue

abbrev pub date_test_text : DateTest → List ℕ
date_test_text date.Lt = codes "lt"
date_test_text date.Gt = codes "gt"
date_test_text date.In = codes "in"

-- the moment that a text says
abbrev pub read_moment : List ℕ → Result ℤ ParseCause
read_moment text = ok_or (instant text) BadValue

-- a date
unfoldable pub date_at : Words → Words → Result (ℤ × Words × Words) ParseCause
date_at noted words = do
  word ← noted_at noted words
  moment ← read_moment word.0
  Ok (moment, word.1, word.2)

-- `start=DATE`
unfoldable pub start_at : Words → Words → Result (ℤ × Words × Words) ParseCause
start_at noted words = do
  word ← noted_at noted words
  text ← ok_or (after (codes "start=") word.0) BadValue
  moment ← read_moment text
  Ok (moment, word.1, word.2)

-- the date of `end=DATE`; a duration in its place isn't supported
abbrev pub end_text : List ℕ → Result (List ℕ) ParseCause
end_text word = elim (after (codes "end=") word) [
  | None ↦ Err (if is_some (byte_place 61 word) then Unsupported else BadValue)
  | Some text ↦ Ok text
]

-- `end=DATE`
unfoldable pub end_date_at : Words → Words → Result (ℤ × Words × Words) ParseCause
end_date_at noted words = do
  word ← noted_at noted words
  text ← end_text word.0
  moment ← read_moment text
  Ok (moment, word.1, word.2)

-- the dates of a test
unfoldable pub dates_at : DateTest → Words → Words → Result (Test × Words × Words) ParseCause
dates_at date.Lt noted words = do
  moment ← date_at noted words
  Ok (Before moment.0, moment.1, moment.2)
dates_at date.Gt noted words = do
  moment ← date_at noted words
  Ok (After moment.0, moment.1, moment.2)
dates_at date.In noted words = do
  start ← start_at noted words
  end ← end_date_at start.1 start.2
  Ok (Within start.0 end.0, end.1, end.2)

-- `date lt DATE`, `date gt DATE` and `date in start=DATE end=DATE`, after the first word
unfoldable pub date_test_at : Words → Words → Result (Test × Words × Words) ParseCause
date_test_at noted words = do
  word ← next_word_in words
  test ← date_test_of word.0
  dates_at test (noted ++ date_test_text test ∷ []) word.1

-- a test, by its first word
abbrev pub test_after : List ℕ → Words → Words → Result (Test × Words × Words) ParseCause
test_after word noted words =
    if is word (codes "date") then date_test_at noted words
    else if is word (codes "defined") then defined_at true noted words
    else if is word (codes "not_defined") then defined_at false noted words
    else attribute_at word noted words

unfoldable pub test_at : Words → Words → Result (Test × Words × Words) ParseCause
test_at noted words = do
  word ← noted_at noted words
  test_after word.0 word.1 word.2

-- an expression, and one more test
unfoldable pub with_test : Expression → Words → Result (Expression × Words) ParseCause
with_test before words = do
  test ← test_at before.words words
  Ok (record { joined = before.joined; tests = before.tests ++ test.0 ∷ []; words = test.1 }, test.2)

-- whether a word joins tests by `and`, or by `or`
abbrev pub joiner_of : List ℕ → Option Bool
joiner_of word = if is word (codes "and") then Some true else if is word (codes "or") then Some false else None

-- all tests are joined alike
abbrev pub joined_alike : Option Bool → Bool → ValueTaken
joined_alike None all = Ok tt
joined_alike (Some true) all = when all Unsupported
joined_alike (Some false) all = when (not all) Unsupported

-- how the next word joins tests
unfoldable pub joiner_at : Words → Option Bool
joiner_at [] = None
joiner_at (word ∷ words) = joiner_of word

-- an expression, and one more test after the word that joins it
unfoldable pub with_joined : Expression → Bool → Words → Result (Expression × Words) ParseCause
with_joined before all words = do
  taken ← joined_alike before.joined all
  word ← noted_at before.words words
  with_test (record { joined = Some all; tests = before.tests; words = word.1 }) word.2

-- an expression, and the tests that are joined to it as the next word says. The number counts down from that of the words: each test takes at least one of
-- them, so none is left unread
abbrev pub with_tests : ℕ → Option Bool → Expression → Words → Result (Expression × Words) ParseCause
with_tests zero joiner before words = Ok (before, words)
with_tests (suc most) None before words = Ok (before, words)
with_tests (suc most) (Some all) before words = do
  more ← with_joined before all words
  with_tests most (joiner_at more.1) more.0 more.1

-- all tests that are joined to an expression
abbrev pub with_all_tests : Expression → Words → Result (Expression × Words) ParseCause
with_all_tests before words = with_tests (length words) (joiner_at words) before words

-- no test
abbrev pub no_tests : Expression
no_tests = record { joined = None; tests = []; words = [] }

-- an expression
unfoldable pub expression_at : Words → Result (Expression × Words) ParseCause
expression_at words = do
  first ← with_test no_tests words
  with_all_tests first.0 first.1
