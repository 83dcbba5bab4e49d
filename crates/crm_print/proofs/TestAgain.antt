-- A test of a rule is read again from the words that were noted, and the same words are noted.
use Rattle.std.proofs.Common.{◌≡◌, ℕ, Bool, true, false, List, [], ◌∷◌, ◌++◌, Result, Ok, refl, sym, ap, ◌∙◌, subst, append_assoc, append-nil}
use Rattle.std.specs.Prelude.{codes, if◌then◌else◌}
use Rattle.std.specs.Option.{ok_or}
use Rattle.crm_lex.specs.Names.{is}
use Rattle.date_rules.specs.declared.rule.Test.{Test}
use Rattle.date_rules.specs.declared.rule.Test.TheVariants.{Attribute, Defined, NotDefined, Before, After, Within}
use Rattle.crm_parse.specs.declared.expression.DateTest.{DateTest}
use Rattle.crm_parse.specs.declared.expression.DateTest.TheVariants as date
use Rattle.crm_parse.specs.declared.fault.ParseCause.{ParseCause}
use Rattle.crm_parse.specs.declared.fault.ParseCause.TheVariants.{BadValue}
use Rattle.crm_parse.specs.Reading.{Words, next_word_in}
use Rattle.faults.specs.Reading.{◌>>=◌}
use Rattle.crm_parse.specs.Rules.{attribute_at, comparable, comparison_of, date_at, date_test_at, date_test_of, date_test_text, dates_at, defined_at, end_date_at, end_text, filled, read_moment, noted_at, start_at, test_after, test_at}
use Rattle.crm_parse.specs.Texts.{after}
use Rattle.faults.proofs.Steps.{bind-ok}

-- a reader that notes words
abbrev pub Reader : Type 0 → Type 0
Reader A = Words → Words → Result (A × Words × Words) ParseCause

-- what was read is read again from the words that it noted, whatever was noted before and whatever follows
pub record Rereads {A : Type 0} (read : Reader A) (noted : Words) (got : A × Words × Words) : Type 0 where
  pub words : Words
  pub notes : got.1 ≡ noted ++ words
  pub again : (before more : Words) → read before (words ++ more) ≡ Ok (got.0, before ++ words, more)

abbrev pub Faithful : {A : Type 0} → Reader A → Type 0
Faithful {A} read = (noted words : Words) (got : A × Words × Words) → read noted words ≡ Ok got → Rereads read noted got

-- a reader that reads nothing
done : {A : Type 0} (value : A) → Faithful (λ noted words. Ok (value, noted, words))
done {A = A} value noted words got e =
    let same : (value, noted, words) ≡ got = cc in
    subst (Rereads (λ n w. Ok (value, n, w)) noted) same (record { words = []; notes = sym (append-nil noted); again = λ before more. rw (append-nil before) refl })

seq-again : {A B : Type 0} (first : Reader A) (next : A → Reader B) (x : A) (y : B) (a b before more : Words)
    → first before (a ++ (b ++ more)) ≡ Ok (x, before ++ a, b ++ more)
    → next x (before ++ a) (b ++ more) ≡ Ok (y, (before ++ a) ++ b, more)
    → (first before ((a ++ b) ++ more) >>= (λ x. next x.0 x.1 x.2)) ≡ Ok (y, before ++ (a ++ b), more)
seq-again first next x y a b before more e f =
    rw (append_assoc a b more, e) (f ∙ ap (λ (ws : Words). Ok (y, ws, more)) (append_assoc before a b))

seq-rereads : {A B : Type 0} (first : Reader A) (next : A → Reader B) (noted : Words) (x : A × Words × Words) (got : B × Words × Words)
    → Rereads first noted x → Rereads (next x.0) x.1 got → Rereads (λ noted words. first noted words >>= (λ x. next x.0 x.1 x.2)) noted got
seq-rereads first next noted x got a b = record {
  words = a.words ++ b.words;
  notes = b.notes ∙ (ap (λ ws. ws ++ b.words) a.notes ∙ append_assoc noted a.words b.words);
  again = λ before more. seq-again first next x.0 got.0 a.words b.words before more (a.again before (b.words ++ more)) (b.again (before ++ a.words) more);
}

-- two readers, one after the other
seq : {A B : Type 0} (first : Reader A) (next : A → Reader B) → Faithful first → ((x : A) → Faithful (next x))
    → Faithful (λ noted words. first noted words >>= (λ x. next x.0 x.1 x.2))
seq first next f g noted words got e =
    let (x, is_first, rest) = bind-ok (first noted words) (λ x. next x.0 x.1 x.2) got e in
    seq-rereads first next noted x got (f noted words x is_first) (g x.0 x.1 x.2 got rest)

checked-rereads : {C B : Type 0} (c : C) (next : C → Reader B) (test : Result C ParseCause) (noted : Words) (got : B × Words × Words)
    → test ≡ Ok c → Rereads (next c) noted got → Rereads (λ noted words. test >>= (λ c. next c noted words)) noted got
checked-rereads c next test noted got t h = record { words = h.words; notes = h.notes; again = λ before more. rw t (h.again before more) }

-- a reader after a test that reads nothing
checked : {C B : Type 0} (test : Result C ParseCause) (next : C → Reader B) → ((c : C) → Faithful (next c)) → Faithful (λ noted words. test >>= (λ c. next c noted words))
checked test next g noted words got e =
    let (c, is_one, rest) = bind-ok test (λ c. next c noted words) got e in
    checked-rereads c next test noted got is_one (g c noted words got rest)

-- the one reader or the other
either : {A : Type 0} (test : Bool) (one other : Reader A) → Faithful one → Faithful other → Faithful (λ noted words. if test then one noted words else other noted words)
either true one other f g = f
either false one other f g = g

-- a word that is noted
noted_at-faithful : Faithful noted_at
unfolding noted_at
noted_at-faithful noted words got e =
    let (word, at, last) = bind-ok (next_word_in words) _ got e in
    let same : (word.0, noted ++ word.0 ∷ [], word.1) ≡ got = cc in
    subst (Rereads noted_at noted) same (record { words = word.0 ∷ []; notes = refl; again = λ before more. refl })

attribute_at-faithful : (name : List ℕ) → Faithful (attribute_at name)
unfolding attribute_at
attribute_at-faithful name =
    checked (filled name) _ (λ taken. seq noted_at _ noted_at-faithful (λ word. checked (comparison_of word) _ (λ comparison.
    seq noted_at _ noted_at-faithful (λ value. checked (comparable comparison.0 value) _ (λ fits.
    done (Attribute name comparison.1 comparison.0 value))))))

defined_at-faithful : (defined : Bool) → Faithful (defined_at defined)
unfolding defined_at
defined_at-faithful defined =
    seq noted_at _ noted_at-faithful (λ name. checked (filled name) _ (λ taken. done (if defined then Defined name else NotDefined name)))

date_at-faithful : Faithful date_at
unfolding date_at
date_at-faithful = seq noted_at _ noted_at-faithful (λ word. checked (read_moment word) _ (λ moment. done moment))

start_at-faithful : Faithful start_at
unfolding start_at
start_at-faithful =
    seq noted_at _ noted_at-faithful (λ word. checked (ok_or (after (codes "start=") word) BadValue) _ (λ text. checked (read_moment text) _ (λ moment. done moment)))

end_at-faithful : Faithful end_date_at
unfolding end_date_at
end_at-faithful = seq noted_at _ noted_at-faithful (λ word. checked (end_text word) _ (λ text. checked (read_moment text) _ (λ moment. done moment)))

dates_at-faithful : (test : DateTest) → Faithful (dates_at test)
unfolding dates_at
dates_at-faithful date.Lt = seq date_at _ date_at-faithful (λ moment. done (Before moment))
dates_at-faithful date.Gt = seq date_at _ date_at-faithful (λ moment. done (After moment))
dates_at-faithful date.In = seq start_at _ start_at-faithful (λ start. seq end_date_at _ end_at-faithful (λ end. done (Within start end)))

date_test-again : (test : DateTest) → date_test_of (date_test_text test) ≡ Ok test
date_test-again date.Lt = refl
date_test-again date.Gt = refl
date_test-again date.In = refl

date_test-rereads : (test : DateTest) (noted : Words) (got : Test × Words × Words) → Rereads (dates_at test) (noted ++ date_test_text test ∷ []) got → Rereads date_test_at noted got
unfolding date_test_at
date_test-rereads test noted got h = record {
  words = date_test_text test ∷ h.words;
  notes = h.notes ∙ append_assoc noted (date_test_text test ∷ []) h.words;
  again = λ before more. rw (date_test-again test)
      (h.again (before ++ date_test_text test ∷ []) more ∙ ap (λ (ws : Words). Ok (got.0, ws, more)) (append_assoc before (date_test_text test ∷ []) h.words));
}

date_test_at-faithful : Faithful date_test_at
unfolding date_test_at
date_test_at-faithful noted words got e =
    let (word, at, e1) = bind-ok (next_word_in words) _ got e in
    let (test, is_test, rest) = bind-ok (date_test_of word.0) _ got e1 in
    date_test-rereads test noted got (dates_at-faithful test (noted ++ date_test_text test ∷ []) word.1 got rest)

test_after-faithful : (word : List ℕ) → Faithful (test_after word)
test_after-faithful word =
    either (is word (codes "date")) _ _ date_test_at-faithful (either (is word (codes "defined")) _ _ (defined_at-faithful true)
    (either (is word (codes "not_defined")) _ _ (defined_at-faithful false) (attribute_at-faithful word)))

-- a test is read again
pub test_at-faithful : Faithful test_at
unfolding test_at
test_at-faithful = seq noted_at _ noted_at-faithful test_after-faithful
