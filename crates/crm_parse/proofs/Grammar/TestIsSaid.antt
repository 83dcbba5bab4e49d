-- A test that is read is one that the words say.
use Rattle.std.proofs.Common.{◌≡◌, ◌≢◌, ◌||◌, ◌==◌, not, ℕ, ℤ, Bool, true, false, cond, List, [], ◌∷◌, ◌++◌, length, Option, Some, None, Ok, Err, refl, sym, ap, ◌∙◌, subst, append_assoc}
use Rattle.std.specs.Prelude.{codes, is_some}
use Rattle.std.specs.Option.{ok_or}
use Rattle.std.proofs.lemmas.Bool.{false≢true, not-true}
use Rattle.crm_lex.specs.Names.{is}
use Rattle.date_rules.specs.declared.rule.Compare.{Compare}
use Rattle.date_rules.specs.declared.rule.Compare.TheVariants.{Lt, Gt, Lte, Gte, Eq, Ne}
use Rattle.date_rules.specs.declared.rule.Kind.{Kind}
use Rattle.date_rules.specs.declared.rule.Kind.TheVariants.{Auto, Number, Word}
use Rattle.date_rules.specs.declared.rule.Test.{Test}
use Rattle.date_rules.specs.declared.rule.Test.TheVariants.{Attribute, Defined, NotDefined, Before, After, Within}
use Rattle.date_rules.specs.Instant.{instant}
use Rattle.date_rules.specs.WholeNumber.{whole_number}
use Rattle.crm_parse.specs.declared.expression.DateTest.{DateTest}
use Rattle.crm_parse.specs.declared.expression.DateTest.TheVariants as date
use Rattle.crm_parse.specs.declared.fault.ParseCause.TheVariants.{BadValue, Unsupported}
use Rattle.crm_parse.specs.Reading.{Words, next_word_in}
use Rattle.crm_parse.specs.Rules.{attribute_at, comparable, compare_of, comparison_of, date_at, date_test_at, date_test_of, date_test_text, dates_at, defined_at, end_date_at, end_text, filled, noted_at, read_moment, start_at, test_after, test_at, type_of, typed, untyped}
use Rattle.crm_parse.specs.Texts.{after, cut_at, byte_place}
use Rattle.faults.proofs.Steps.{bind-ok}
use Rattle.crm_parse.proofs.Binds.{is-same, is-true, ok-same, ok_or-ok, when-ok, word_at-ok}
use Rattle.crm_parse.proofs.PairWords.{cut_at-some}
use Rattle.crm_parse.proofs.Affixes.{after-some}
use Rattle.crm_parse.specs.Grammar.RuleTests.{CompareSays, ComparisonSays, RangeWord, TestSays, TypeSays, after_date, before_date, compares, in_range_word, in_word, is_defined, is_not_defined, says_eq, says_gt, says_gte, says_integer, says_lt, says_lte, says_ne, says_number, says_string, with_type, within_dates, without_type}
use Rattle.crm_parse.proofs.Grammar.PairsRelated.{filled-key}

-- CMP
compare-case : (word : List ℕ) (compare : Compare) (a b c d e f : Bool) → is word (codes "lt") ≡ a → is word (codes "gt") ≡ b → is word (codes "lte") ≡ c
    → is word (codes "gte") ≡ d → is word (codes "eq") ≡ e → is word (codes "ne") ≡ f
    → cond a (Ok Lt) (cond b (Ok Gt) (cond c (Ok Lte) (cond d (Ok Gte) (cond e (Ok Eq) (cond f (Ok Ne) (Err BadValue)))))) ≡ Ok compare → CompareSays word compare
compare-case word compare true b c d e f g h i j k l m =
    let s : Lt ≡ compare = cc in subst (CompareSays word) s (subst (λ w. CompareSays w Lt) (sym (is-true word (codes "lt") g)) says_lt)
compare-case word compare false true c d e f g h i j k l m =
    let s : Gt ≡ compare = cc in subst (CompareSays word) s (subst (λ w. CompareSays w Gt) (sym (is-true word (codes "gt") h)) says_gt)
compare-case word compare false false true d e f g h i j k l m =
    let s : Lte ≡ compare = cc in subst (CompareSays word) s (subst (λ w. CompareSays w Lte) (sym (is-true word (codes "lte") i)) says_lte)
compare-case word compare false false false true e f g h i j k l m =
    let s : Gte ≡ compare = cc in subst (CompareSays word) s (subst (λ w. CompareSays w Gte) (sym (is-true word (codes "gte") j)) says_gte)
compare-case word compare false false false false true f g h i j k l m =
    let s : Eq ≡ compare = cc in subst (CompareSays word) s (subst (λ w. CompareSays w Eq) (sym (is-true word (codes "eq") k)) says_eq)
compare-case word compare false false false false false true g h i j k l m =
    let s : Ne ≡ compare = cc in subst (CompareSays word) s (subst (λ w. CompareSays w Ne) (sym (is-true word (codes "ne") l)) says_ne)
compare-case word compare false false false false false false g h i j k l m = cc

compare-said : (word : List ℕ) (compare : Compare) → compare_of word ≡ Ok compare → CompareSays word compare
compare-said word compare e =
    compare-case word compare (is word (codes "lt")) (is word (codes "gt")) (is word (codes "lte")) (is word (codes "gte")) (is word (codes "eq")) (is word (codes "ne"))
    refl refl refl refl refl refl e

-- TYPE
type-case : (word : List ℕ) (kind : Kind) (a b c d : Bool) → is word (codes "string") ≡ a → is word (codes "number") ≡ b → is word (codes "integer") ≡ c
    → cond a (Ok Word) (cond (b || c) (Ok Number) (cond d (Err Unsupported) (Err BadValue))) ≡ Ok kind → TypeSays word kind
type-case word kind true b c d e f g h =
    let s : Word ≡ kind = cc in subst (TypeSays word) s (subst (λ w. TypeSays w Word) (sym (is-true word (codes "string") e)) says_string)
type-case word kind false true c d e f g h =
    let s : Number ≡ kind = cc in subst (TypeSays word) s (subst (λ w. TypeSays w Number) (sym (is-true word (codes "number") f)) says_number)
type-case word kind false false true d e f g h =
    let s : Number ≡ kind = cc in subst (TypeSays word) s (subst (λ w. TypeSays w Number) (sym (is-true word (codes "integer") g)) says_integer)
type-case word kind false false false true e f g h = cc
type-case word kind false false false false e f g h = cc

type-said : (word : List ℕ) (kind : Kind) → type_of word ≡ Ok kind → TypeSays word kind
type-said word kind e =
    type-case word kind (is word (codes "string")) (is word (codes "number")) (is word (codes "integer")) (is word (codes "version")) refl refl refl e

-- `[TYPE:]CMP`
untyped-said : (word : List ℕ) (read : Kind × Compare) → untyped word ≡ Ok read → ComparisonSays word read.0 read.1
unfolding untyped
untyped-said word read e =
    let (compare, is_one, last) = bind-ok (compare_of word) _ read e in
    let same : (Auto, compare) ≡ read = cc in
    subst (λ (r : Kind × Compare). ComparisonSays word r.0 r.1) same (without_type word compare (compare-said word compare is_one))

typed-said : (word type rest : List ℕ) (read : Kind × Compare) → word ≡ type ++ 58 ∷ rest → typed type rest ≡ Ok read → ComparisonSays word read.0 read.1
unfolding typed
typed-said word type rest read w e =
    let (kind, is_kind, e1) = bind-ok (type_of type) _ read e in
    let (compare, is_one, last) = bind-ok (compare_of rest) _ read e1 in
    let same : (kind, compare) ≡ read = cc in
    subst (λ (r : Kind × Compare). ComparisonSays word r.0 r.1) same
    (subst (λ v. ComparisonSays v kind compare) (sym w) (with_type type rest kind compare (type-said type kind is_kind) (compare-said rest compare is_one)))

comparison-case : (word : List ℕ) (cut : Option (List ℕ × List ℕ)) (read : Kind × Compare) → cut_at 58 word ≡ cut → comparison_of word ≡ Ok read
    → ComparisonSays word read.0 read.1
comparison-case word None read c e = let h : untyped word ≡ Ok read = rw (c, comparison_of) at e in untyped-said word read h
comparison-case word (Some parts) read c e =
    let h : typed parts.0 parts.1 ≡ Ok read = rw (c, comparison_of) at e in
    typed-said word parts.0 parts.1 read (cut_at-some 58 word parts c).whole h

filled-said : (name : List ℕ) (y : Unit {0}) → filled name ≡ Ok y → name ≢ []
filled-said name y e = filled-key name (not-true _ (when-ok (not (length name == 0)) BadValue y e))

number-said : (kind : Kind) (value : List ℕ) (y : Unit {0}) → comparable kind value ≡ Ok y → kind ≡ Number → is_some (whole_number value) ≡ true
number-said Number value y e same = when-ok (is_some (whole_number value)) BadValue y e
number-said Auto value y e same = cc
number-said Word value y e same = cc

-- a word that is noted
record OneWord (noted words : Words) (got : List ℕ × Words × Words) : Type 0 where
  whole : words ≡ got.0 ∷ got.2
  notes : got.1 ≡ noted ++ got.0 ∷ []

noted-said : (noted words : Words) (got : List ℕ × Words × Words) → noted_at noted words ≡ Ok got → OneWord noted words got
unfolding noted_at
noted-said noted words got e =
    let (word, at, last) = bind-ok (next_word_in words) _ got e in
    let same : (word.0, noted ++ word.0 ∷ [], word.1) ≡ got = cc in
    subst (OneWord noted words) same (record { whole = word_at-ok words word at; notes = refl })

-- what stands behind the first word of a test
record BehindFirst (word : List ℕ) (noted words : Words) (got : Test × Words × Words) : Type 0 where
  front : Words
  kept : Words
  whole : words ≡ front ++ got.2
  notes : got.1 ≡ noted ++ kept
  said : TestSays (word ∷ front) (word ∷ kept) got.0

defined-said : (noted words : Words) (got : Test × Words × Words) → defined_at true noted words ≡ Ok got → BehindFirst (codes "defined") noted words got
unfolding defined_at
defined-said noted words got e =
    let (name, at, e1) = bind-ok (noted_at noted words) _ got e in
    let (taken, fills, last) = bind-ok (filled name.0) _ got e1 in
    let one = noted-said noted words name at in
    let same : (Defined name.0, name.1, name.2) ≡ got = cc in
    subst (BehindFirst (codes "defined") noted words) same (record {
      front = name.0 ∷ [];
      kept = name.0 ∷ [];
      whole = one.whole;
      notes = one.notes;
      said = is_defined name.0 (filled-said name.0 taken fills);
    })

not_defined-said : (noted words : Words) (got : Test × Words × Words) → defined_at false noted words ≡ Ok got → BehindFirst (codes "not_defined") noted words got
unfolding defined_at
not_defined-said noted words got e =
    let (name, at, e1) = bind-ok (noted_at noted words) _ got e in
    let (taken, fills, last) = bind-ok (filled name.0) _ got e1 in
    let one = noted-said noted words name at in
    let same : (NotDefined name.0, name.1, name.2) ≡ got = cc in
    subst (BehindFirst (codes "not_defined") noted words) same (record {
      front = name.0 ∷ [];
      kept = name.0 ∷ [];
      whole = one.whole;
      notes = one.notes;
      said = is_not_defined name.0 (filled-said name.0 taken fills);
    })

attribute-said : (name : List ℕ) (noted words : Words) (got : Test × Words × Words) → name ≢ codes "date" → name ≢ codes "defined" → name ≢ codes "not_defined"
    → attribute_at name noted words ≡ Ok got → BehindFirst name noted words got
unfolding attribute_at
attribute-said name noted words got d f n e =
    let (taken, fills, e1) = bind-ok (filled name) _ got e in
    let (word, at, e2) = bind-ok (noted_at noted words) _ got e1 in
    let (comparison, is_one, e3) = bind-ok (comparison_of word.0) _ got e2 in
    let (value, behind, e4) = bind-ok (noted_at word.1 word.2) _ got e3 in
    let (fits, compares_so, last) = bind-ok (comparable comparison.0 value.0) _ got e4 in
    let a = noted-said noted words word at in
    let b = noted-said word.1 word.2 value behind in
    let same : (Attribute name comparison.1 comparison.0 value.0, value.1, value.2) ≡ got = ok-same _ got last in
    subst (BehindFirst name noted words) same (record {
      front = word.0 ∷ value.0 ∷ [];
      kept = word.0 ∷ value.0 ∷ [];
      whole = a.whole ∙ ap (λ ws. word.0 ∷ ws) b.whole;
      notes = b.notes ∙ (ap (λ ws. ws ++ value.0 ∷ []) a.notes ∙ append_assoc noted (word.0 ∷ []) (value.0 ∷ []));
      said = compares name word.0 value.0 comparison.0 comparison.1
          (record { filled = filled-said name taken fills; no_date = d; no_defined = f; no_not_defined = n })
          (comparison-case word.0 (cut_at 58 word.0) comparison refl is_one) (number-said comparison.0 value.0 fits compares_so);
    })

-- dates
record OneDate (noted words : Words) (got : ℤ × Words × Words) : Type 0 where
  text : List ℕ
  whole : words ≡ text ∷ got.2
  notes : got.1 ≡ noted ++ text ∷ []
  moment : instant text ≡ Some got.0

date-said : (noted words : Words) (got : ℤ × Words × Words) → date_at noted words ≡ Ok got → OneDate noted words got
unfolding date_at
date-said noted words got e =
    let (word, at, e1) = bind-ok (noted_at noted words) _ got e in
    let (moment, is_one, last) = bind-ok (read_moment word.0) _ got e1 in
    let one = noted-said noted words word at in
    let same : (moment, word.1, word.2) ≡ got = cc in
    subst (OneDate noted words) same (record { text = word.0; whole = one.whole; notes = one.notes; moment = ok_or-ok (instant word.0) BadValue moment is_one })

record LabelledDate (label : List ℕ) (noted words : Words) (got : ℤ × Words × Words) : Type 0 where
  text : List ℕ
  whole : words ≡ (label ++ text) ∷ got.2
  notes : got.1 ≡ noted ++ (label ++ text) ∷ []
  moment : instant text ≡ Some got.0

labelled : (label : List ℕ) (noted words : Words) (word : List ℕ × Words × Words) (text : List ℕ) (moment : ℤ) → OneWord noted words word → after label word.0 ≡ Some text
    → instant text ≡ Some moment → LabelledDate label noted words (moment, word.1, word.2)
labelled label noted words word text moment one a m =
    let same : word.0 ≡ label ++ text = after-some label word.0 text a in
    record { text = text; whole = one.whole ∙ ap (λ w. w ∷ word.2) same; notes = one.notes ∙ ap (λ w. noted ++ w ∷ []) same; moment = m }

start-said : (noted words : Words) (got : ℤ × Words × Words) → start_at noted words ≡ Ok got → LabelledDate (codes "start=") noted words got
unfolding start_at
start-said noted words got e =
    let (word, at, e1) = bind-ok (noted_at noted words) _ got e in
    let (text, found, e2) = bind-ok (ok_or (after (codes "start=") word.0) BadValue) _ got e1 in
    let (moment, is_one, last) = bind-ok (read_moment text) _ got e2 in
    let same : (moment, word.1, word.2) ≡ got = cc in
    subst (LabelledDate (codes "start=") noted words) same
    (labelled (codes "start=") noted words word text moment (noted-said noted words word at) (ok_or-ok (after (codes "start=") word.0) BadValue text found)
    (ok_or-ok (instant text) BadValue moment is_one))

end-case : (word : List ℕ) (found : Option (List ℕ)) (text : List ℕ) → after (codes "end=") word ≡ found → end_text word ≡ Ok text → after (codes "end=") word ≡ Some text
end-case word None text f e =
    let h : Err (cond (is_some (byte_place 61 word)) Unsupported BadValue) ≡ Ok text = rw (f, end_text) at e in
    cc
end-case word (Some other) text f e = let h : Ok other ≡ Ok text = rw (f, end_text) at e in f ∙ (cc)

end-said : (noted words : Words) (got : ℤ × Words × Words) → end_date_at noted words ≡ Ok got → LabelledDate (codes "end=") noted words got
unfolding end_date_at
end-said noted words got e =
    let (word, at, e1) = bind-ok (noted_at noted words) _ got e in
    let (text, found, e2) = bind-ok (end_text word.0) _ got e1 in
    let (moment, is_one, last) = bind-ok (read_moment text) _ got e2 in
    let same : (moment, word.1, word.2) ≡ got = cc in
    subst (LabelledDate (codes "end=") noted words) same
    (labelled (codes "end=") noted words word text moment (noted-said noted words word at) (end-case word.0 (after (codes "end=") word.0) text refl found)
    (ok_or-ok (instant text) BadValue moment is_one))

-- the word after `date`
pub data DateWord : List ℕ → DateTest → Type 0 where
  lt_word : DateWord (codes "lt") date.Lt
  gt_word : DateWord (codes "gt") date.Gt
  range_word : (word : List ℕ) → RangeWord word → DateWord word date.In

date_word-case : (word : List ℕ) (test : DateTest) (a b c d e : Bool) → is word (codes "lt") ≡ a → is word (codes "gt") ≡ b → is word (codes "in") ≡ c
    → is word (codes "in_range") ≡ d → cond a (Ok date.Lt) (cond b (Ok date.Gt) (cond (c || d) (Ok date.In) (cond e (Err Unsupported) (Err BadValue)))) ≡ Ok test
    → DateWord word test
date_word-case word test true b c d e f g h i j =
    let s : date.Lt ≡ test = cc in subst (DateWord word) s (subst (λ w. DateWord w date.Lt) (sym (is-true word (codes "lt") f)) lt_word)
date_word-case word test false true c d e f g h i j =
    let s : date.Gt ≡ test = cc in subst (DateWord word) s (subst (λ w. DateWord w date.Gt) (sym (is-true word (codes "gt") g)) gt_word)
date_word-case word test false false true d e f g h i j =
    let s : date.In ≡ test = cc in subst (DateWord word) s (range_word word (subst RangeWord (sym (is-true word (codes "in") h)) in_word))
date_word-case word test false false false true e f g h i j =
    let s : date.In ≡ test = cc in subst (DateWord word) s (range_word word (subst RangeWord (sym (is-true word (codes "in_range") i)) in_range_word))
date_word-case word test false false false false true f g h i j = cc
date_word-case word test false false false false false f g h i j = cc

dates-said : (word : List ℕ) (test : DateTest) (noted words : Words) (got : Test × Words × Words) → DateWord word test
    → dates_at test (noted ++ date_test_text test ∷ []) words ≡ Ok got → BehindFirst (codes "date") noted (word ∷ words) got
unfolding dates_at
dates-said w t noted words got lt_word e =
    let (moment, at, last) = bind-ok (date_at (noted ++ codes "lt" ∷ []) words) _ got e in
    let one = date-said (noted ++ codes "lt" ∷ []) words moment at in
    let same : (Before moment.0, moment.1, moment.2) ≡ got = cc in
    subst (BehindFirst (codes "date") noted (codes "lt" ∷ words)) same (record {
      front = codes "lt" ∷ one.text ∷ [];
      kept = codes "lt" ∷ one.text ∷ [];
      whole = ap (λ ws. codes "lt" ∷ ws) one.whole;
      notes = one.notes ∙ append_assoc noted (codes "lt" ∷ []) (one.text ∷ []);
      said = before_date one.text moment.0 one.moment;
    })
dates-said w t noted words got gt_word e =
    let (moment, at, last) = bind-ok (date_at (noted ++ codes "gt" ∷ []) words) _ got e in
    let one = date-said (noted ++ codes "gt" ∷ []) words moment at in
    let same : (After moment.0, moment.1, moment.2) ≡ got = cc in
    subst (BehindFirst (codes "date") noted (codes "gt" ∷ words)) same (record {
      front = codes "gt" ∷ one.text ∷ [];
      kept = codes "gt" ∷ one.text ∷ [];
      whole = ap (λ ws. codes "gt" ∷ ws) one.whole;
      notes = one.notes ∙ append_assoc noted (codes "gt" ∷ []) (one.text ∷ []);
      said = after_date one.text moment.0 one.moment;
    })
dates-said w t noted words got (range_word word r) e =
    let (start, at, e1) = bind-ok (start_at (noted ++ codes "in" ∷ []) words) _ got e in
    let (end, behind, last) = bind-ok (end_date_at start.1 start.2) _ got e1 in
    let a = start-said (noted ++ codes "in" ∷ []) words start at in
    let b = end-said start.1 start.2 end behind in
    let same : (Within start.0 end.0, end.1, end.2) ≡ got = ok-same _ got last in
    let first = codes "start=" ++ a.text in
    let second = codes "end=" ++ b.text in
    subst (BehindFirst (codes "date") noted (word ∷ words)) same (record {
      front = word ∷ first ∷ second ∷ [];
      kept = codes "in" ∷ first ∷ second ∷ [];
      whole = ap (λ ws. word ∷ ws) (a.whole ∙ ap (λ ws. first ∷ ws) b.whole);
      notes = b.notes ∙ (ap (λ ws. ws ++ second ∷ []) (a.notes ∙ append_assoc noted (codes "in" ∷ []) (first ∷ [])) ∙ append_assoc noted (codes "in" ∷ first ∷ []) (second ∷ []));
      said = within_dates word a.text b.text start.0 end.0 r a.moment b.moment;
    })

date_test-said : (noted words : Words) (got : Test × Words × Words) → date_test_at noted words ≡ Ok got → BehindFirst (codes "date") noted words got
unfolding date_test_at
date_test-said noted words got e =
    let (word, at, e1) = bind-ok (next_word_in words) _ got e in
    let (test, is_test, rest) = bind-ok (date_test_of word.0) _ got e1 in
    let d = date_word-case word.0 test (is word.0 (codes "lt")) (is word.0 (codes "gt")) (is word.0 (codes "in")) (is word.0 (codes "in_range")) (is word.0 (codes "spec")) refl refl refl refl is_test in
    subst (λ ws. BehindFirst (codes "date") noted ws got) (sym (word_at-ok words word at)) (dates-said word.0 test noted word.1 got d rest)

-- a test, by its first word
isnt : (word text : List ℕ) → is word text ≡ false → word ≢ text
isnt word text h e = false≢true (sym h ∙ (ap (λ w. is w text) e ∙ is-same text))

after-case : (word : List ℕ) (noted words : Words) (got : Test × Words × Words) (a b c : Bool) → is word (codes "date") ≡ a → is word (codes "defined") ≡ b
    → is word (codes "not_defined") ≡ c
    → cond a (date_test_at noted words) (cond b (defined_at true noted words) (cond c (defined_at false noted words) (attribute_at word noted words))) ≡ Ok got
    → BehindFirst word noted words got
after-case word noted words got true b c d f n e =
    subst (λ w. BehindFirst w noted words got) (sym (is-true word (codes "date") d)) (date_test-said noted words got e)
after-case word noted words got false true c d f n e =
    subst (λ w. BehindFirst w noted words got) (sym (is-true word (codes "defined") f)) (defined-said noted words got e)
after-case word noted words got false false true d f n e =
    subst (λ w. BehindFirst w noted words got) (sym (is-true word (codes "not_defined") n)) (not_defined-said noted words got e)
after-case word noted words got false false false d f n e =
    attribute-said word noted words got (isnt word (codes "date") d) (isnt word (codes "defined") f) (isnt word (codes "not_defined") n) e

pub record TestIsSaid (noted words : Words) (got : Test × Words × Words) : Type 0 where
  pub front : Words
  pub kept : Words
  pub whole : words ≡ front ++ got.2
  pub notes : got.1 ≡ noted ++ kept
  pub said : TestSays front kept got.0

-- what is read as a test says it
pub test-said : (noted words : Words) (got : Test × Words × Words) → test_at noted words ≡ Ok got → TestIsSaid noted words got
unfolding test_at
test-said noted words got e =
    let (word, at, rest) = bind-ok (noted_at noted words) (λ word. test_after word.0 word.1 word.2) got e in
    let one = noted-said noted words word at in
    let b = after-case word.0 word.1 word.2 got (is word.0 (codes "date")) (is word.0 (codes "defined")) (is word.0 (codes "not_defined")) refl refl refl rest in
    record {
      front = word.0 ∷ b.front;
      kept = word.0 ∷ b.kept;
      whole = one.whole ∙ ap (λ ws. word.0 ∷ ws) b.whole;
      notes = b.notes ∙ (ap (λ ws. ws ++ b.kept) one.notes ∙ append_assoc noted (word.0 ∷ []) b.kept);
      said = b.said;
    }
