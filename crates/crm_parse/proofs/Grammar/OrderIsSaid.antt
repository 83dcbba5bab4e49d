-- What is read as an order says it.
use Rattle.std.proofs.Common.{◌≡◌, ℕ, Bool, true, false, not, List, [], ◌∷◌, ◌++◌, length, Option, Some, None, Ok, refl, sym, ap, ◌∙◌, subst, append_assoc, append-nil, arith}
use Rattle.std.specs.Prelude.{codes}
use Rattle.std.specs.Option.{ok_or}
use Rattle.crm_parse.specs.declared.draft.OrderDraft.{OrderDraft}
use Rattle.crm_parse.specs.declared.draft.StepDraft.{StepDraft}
use Rattle.crm_parse.specs.declared.fault.ParseCause.TheVariants.{BadValue}
use Rattle.crm_parse.specs.declared.words.ActionWord.{ActionWord}
use Rattle.crm_parse.specs.declared.words.KindWord.{KindWord}
use Rattle.crm_parse.specs.declared.words.KindWord.TheVariants.{Mandatory, Optional, Serialize}
use Rattle.crm_parse.specs.Order.{ends_steps, is_serialize_word, kind_at, kind_in, order_at, order_steps_at, read_order_step, some_action, step_parts, symmetrical_as, symmetrical_in, with_step, with_steps, written_action}
use Rattle.crm_parse.specs.Reading.{Words, colon_at, end_at, name_at, next_word_in, prefixed_at, resource_of}
use Rattle.crm_parse.specs.Texts.{cut_at}
use Rattle.crm_parse.specs.Values.{action_of, bool_of}
use Rattle.faults.specs.Reading.{◌>>=◌}
use Rattle.faults.proofs.Steps.{bind-ok}
use Rattle.crm_parse.proofs.Binds.{name_at-ok, ok_or-ok, word_at-ok}
use Rattle.crm_parse.proofs.OrderRead.{IsOrder, order_at-ok}
use Rattle.crm_parse.proofs.PairWords.{cut_at-some}
use Rattle.crm_parse.proofs.ResourceNames.{resource-ok}
use Rattle.crm_parse.proofs.Affixes.{colon_at-words, given_words, noted_words, prefixed_at-words}
use Rattle.crm_parse.specs.Grammar.Phrases.{ColonSays, EachSays, LabelSays, SaysOr, TableSays, in_table, is_said, label_then, left_out, no_word, one_word, then_colon}
use Rattle.crm_parse.specs.Grammar.OrderForm.{KindSays, OrderSays, StepSays, resource_acts, resource_alone, symmetrical_unsaid}
use Rattle.crm_parse.proofs.Grammar.Phrases.{each-append}
use Rattle.crm_parse.proofs.Grammar.KindsSaid.{kind-said}
use Rattle.crm_parse.proofs.Grammar.WordsSaid.{end-ok}

-- the kind
may-kind : (written : Option (List ℕ)) (kind : KindWord) → kind_in written ≡ Ok kind → SaysOr (ColonSays KindSays) Mandatory (given_words written) kind
may-kind None kind e = let k : Mandatory ≡ kind = cc in subst (SaysOr (ColonSays KindSays) Mandatory []) k left_out
may-kind (Some text) kind e = is_said (text ++ codes ":") kind (then_colon text kind (kind-said text kind e))

record KindIsSaid (words : Words) (read : KindWord × Words) : Type 0 where
  front : Words
  whole : words ≡ front ++ read.1
  said : SaysOr (ColonSays KindSays) Mandatory front read.0

kind_at-said : (words : Words) (read : KindWord × Words) → kind_at words ≡ Ok read → KindIsSaid words read
unfolding kind_at
kind_at-said words read e =
    let (kind, is_kind, last) = bind-ok (kind_in (colon_at words).0) _ read e in
    let pair : (kind, (colon_at words).1) ≡ read = cc in
    subst (KindIsSaid words) pair (record {
      front = given_words (colon_at words).0;
      whole = colon_at-words words (colon_at words) refl;
      said = may-kind (colon_at words).0 kind is_kind;
    })

-- a step
alone-said : (word name : List ℕ) (action : Option ActionWord) → resource_of word ≡ Ok name → None ≡ action → StepSays word (record { resource = name; action = action })
alone-said word name action e a =
    let (is_resource, same) = resource-ok word name e in
    subst (λ o. StepSays word (record { resource = name; action = o })) a
    (subst (λ w. StepSays w (record { resource = name; action = None })) same (resource_alone name is_resource.named))

acts-said : (word resource text name : List ℕ) (action : Option ActionWord) → word ≡ resource ++ 58 ∷ text → resource_of resource ≡ Ok name → some_action text ≡ Ok action
    → StepSays word (record { resource = name; action = action })
acts-said word resource text name action w e a =
    let (is_resource, same) = resource-ok resource name e in
    let (done, told, last) = bind-ok (ok_or (action_of text) BadValue) _ action a in
    let is_done : Some done ≡ action = cc in
    let whole : name ++ 58 ∷ text ≡ word = ap (λ n. n ++ 58 ∷ text) same ∙ sym w in
    subst (λ o. StepSays word (record { resource = name; action = o })) is_done
    (subst (λ w. StepSays w (record { resource = name; action = Some done })) whole
    (resource_acts name text done is_resource.named (ok_or-ok (action_of text) BadValue done told)))

step-case : (word : List ℕ) (cut : Option (List ℕ × List ℕ)) (name : List ℕ) (action : Option ActionWord) → cut_at 58 word ≡ cut
    → resource_of (step_parts word).0 ≡ Ok name → written_action (step_parts word).1 ≡ Ok action → StepSays word (record { resource = name; action = action })
step-case word None name action c e a =
    let found : resource_of word ≡ Ok name = rw (c, step_parts) at e in
    let told : Ok None ≡ Ok action = rw (c, step_parts) at a in
    alone-said word name action found (cc)
step-case word (Some parts) name action c e a =
    let found : resource_of parts.0 ≡ Ok name = rw (c, step_parts) at e in
    let told : some_action parts.1 ≡ Ok action = rw (c, step_parts) at a in
    acts-said word parts.0 parts.1 name action (cut_at-some 58 word parts c).whole found told

step-said : (word : List ℕ) (step : StepDraft) → read_order_step word ≡ Ok step → StepSays word step
unfolding read_order_step
step-said word step e =
    let (name, found, e1) = bind-ok (resource_of (step_parts word).0) _ step e in
    let (action, told, last) = bind-ok (written_action (step_parts word).1) _ step e1 in
    let whole : record { resource = name; action = action } ≡ step = cc in
    subst (StepSays word) whole (step-case word (cut_at 58 word) name action refl found told)

-- steps behind those that were read before
record StepsAreSaid (before : List StepDraft) (words : Words) (read : List StepDraft × Words) : Type 0 where
  step_words : Words
  steps : List StepDraft
  added : read.0 ≡ before ++ steps
  whole : words ≡ step_words ++ read.1
  said : EachSays StepSays step_words steps

no_step : (before : List StepDraft) (words : Words) → StepsAreSaid before words (before, words)
no_step before words = record { step_words = []; steps = []; added = sym (append-nil before); whole = refl; said = no_word }

more_steps : (before : List StepDraft) (words : Words) (one read : List StepDraft × Words) → StepsAreSaid before words one → StepsAreSaid one.0 one.1 read
    → StepsAreSaid before words read
more_steps before words one read a b = record {
  step_words = a.step_words ++ b.step_words;
  steps = a.steps ++ b.steps;
  added = b.added ∙ (ap (λ ss. ss ++ b.steps) a.added ∙ append_assoc before a.steps b.steps);
  whole = a.whole ∙ (ap (λ ws. a.step_words ++ ws) b.whole ∙ sym (append_assoc a.step_words b.step_words read.1));
  said = each-append StepSays a.step_words b.step_words a.steps b.steps a.said b.said;
}

one_step : (before : List StepDraft) (word : List ℕ) (words : Words) (step : StepDraft) → read_order_step word ≡ Ok step
    → StepsAreSaid before (word ∷ words) (before ++ step ∷ [], words)
one_step before word words step e =
    record { step_words = word ∷ []; steps = step ∷ []; added = refl; whole = refl; said = one_word word step [] [] (step-said word step e) no_word }

with_step-said : (before : List StepDraft) (words : Words) (read : List StepDraft × Words) → with_step before words ≡ Ok read → StepsAreSaid before words read
unfolding with_step
with_step-said before words read e =
    let (word, at, e1) = bind-ok (next_word_in words) _ read e in
    let (step, is_step, last) = bind-ok (read_order_step word.0) _ read e1 in
    let whole : (before ++ step ∷ [], word.1) ≡ read = cc in
    subst (λ ws. StepsAreSaid before ws read) (sym (word_at-ok words word at))
    (subst (StepsAreSaid before (word.0 ∷ word.1)) whole (one_step before word.0 word.1 step is_step))

steps-case : (before : List StepDraft) (word : List ℕ) (words : Words) (ends : Bool) (read : List StepDraft × Words) → ends_steps word ≡ ends
    → ((step : StepDraft) → with_steps (before ++ step ∷ []) words ≡ Ok read → StepsAreSaid (before ++ step ∷ []) words read)
    → with_steps before (word ∷ words) ≡ Ok read → StepsAreSaid before (word ∷ words) read
steps-case before word words true read d h e =
    let k : Ok (before, word ∷ words) ≡ Ok read = rw (d, with_steps) at e in
    let same : (before, word ∷ words) ≡ read = cc in
    subst (StepsAreSaid before (word ∷ words)) same (no_step before (word ∷ words))
steps-case before word words false read d h e =
    let k : (read_order_step word >>= (λ step. with_steps (before ++ step ∷ []) words)) ≡ Ok read = rw (d, with_steps) at e in
    let (step, is_step, rest) = bind-ok (read_order_step word) _ read k in
    more_steps before (word ∷ words) (before ++ step ∷ [], words) read (one_step before word words step is_step) (h step rest)

with_steps-said : (before : List StepDraft) (words : Words) (read : List StepDraft × Words) → with_steps before words ≡ Ok read → StepsAreSaid before words read
with_steps-said before [] read e = let same : (before, []) ≡ read = cc in subst (StepsAreSaid before []) same (no_step before [])
with_steps-said before (word ∷ words) read e =
    steps-case before word words (ends_steps word) read refl (λ step k. with_steps-said (before ++ step ∷ []) words read k) e

steps_at-said : (words : Words) (read : List StepDraft × Words) → order_steps_at words ≡ Ok read → StepsAreSaid [] words read
unfolding order_steps_at
steps_at-said words read e =
    let (a, first, e1) = bind-ok (with_step [] words) _ read e in
    let (b, second, e2) = bind-ok (with_step a.0 a.1) _ read e1 in
    more_steps [] words a read (with_step-said [] words a first) (more_steps a.0 a.1 b read (with_step-said a.0 a.1 b second) (with_steps-said b.0 b.1 read e2))

-- whether the order is symmetrical
pub unsaid-case : (kind : KindWord) → symmetrical_unsaid kind ≡ not (is_serialize_word kind)
unsaid-case Serialize = refl
unsaid-case Mandatory = refl
unsaid-case Optional = refl

as-case : (kind : KindWord) (both read : Bool) → symmetrical_as kind both ≡ Ok read → both ≡ read
as-case Serialize true read e = cc
as-case Serialize false read e = cc
as-case Mandatory both read e = cc
as-case Optional both read e = cc

abbrev pub label : List ℕ
label = codes "symmetrical="

may-symmetrical : (kind : KindWord) (written : Option (List ℕ)) (read : Bool) → symmetrical_in kind written ≡ Ok read
    → SaysOr (LabelSays label (TableSays bool_of)) (symmetrical_unsaid kind) (noted_words label written) read
unfolding symmetrical_in
may-symmetrical kind None read e =
    let same : not (is_serialize_word kind) ≡ read = cc in
    subst (SaysOr (LabelSays label (TableSays bool_of)) (symmetrical_unsaid kind) []) (unsaid-case kind ∙ same) left_out
may-symmetrical kind (Some text) read e =
    let (both, told, last) = bind-ok (ok_or (bool_of text) BadValue) _ read e in
    let same = as-case kind both read last in
    is_said (label ++ text) read (label_then text read (in_table text read (ok_or-ok (bool_of text) BadValue both told ∙ ap Some same)))

serialize-not : (kind : KindWord) (both : Bool) → symmetrical_as kind both ≡ Ok both → kind ≡ Serialize → both ≡ false
serialize-not kind true fits e = let h : symmetrical_as Serialize true ≡ Ok true = subst (λ k. symmetrical_as k true ≡ Ok true) e fits in cc
serialize-not kind false fits e = refl

record Parts (words : Words) (order : OrderDraft) : Type 0 where
  kind_words : Words
  step_words : Words
  last_words : Words
  words_are : words ≡ order.id ∷ (kind_words ++ (step_words ++ last_words))
  kind : SaysOr (ColonSays KindSays) Mandatory kind_words order.kind
  steps : EachSays StepSays step_words order.steps
  symmetrical : SaysOr (LabelSays label (TableSays bool_of)) (symmetrical_unsaid order.kind) last_words order.symmetrical

with_parts : (words : Words) (order : OrderDraft) → IsOrder order → Parts words order → OrderSays words order
with_parts words order is p = record {
  kind_words = p.kind_words;
  step_words = p.step_words;
  last_words = p.last_words;
  words_are = p.words_are;
  id = is.named;
  kind = p.kind;
  steps = p.steps;
  two_or_more = let n : length order.steps ≡ length (is.one ∷ is.two ∷ is.more) = ap length is.steps in omega (arith, n);
  symmetrical = p.symmetrical;
  serialize_is_one_way = serialize-not order.kind order.symmetrical is.fits;
}

parts-said : (words : Words) (order : OrderDraft) → order_at words ≡ Ok order → Parts words order
unfolding order_at
parts-said words order e =
    let (id, named, e1) = bind-ok (name_at words) _ order e in
    let (kind, is_kind, e2) = bind-ok (kind_at id.1) _ order e1 in
    let (steps, are_steps, e3) = bind-ok (order_steps_at kind.1) _ order e2 in
    let last = prefixed_at label steps.1 in
    let (both, is_both, e4) = bind-ok (symmetrical_in kind.0 last.0) _ order e3 in
    let (end, at_end, e5) = bind-ok (end_at last.1) _ order e4 in
    let made : record { id = id.0; kind = kind.0; steps = steps.0; symmetrical = both } ≡ order = cc in
    let a = kind_at-said id.1 kind is_kind in
    let b = steps_at-said kind.1 steps are_steps in
    let behind : steps.1 ≡ noted_words label last.0 =
    prefixed_at-words label steps.1 last refl ∙ (ap (λ ws. noted_words label last.0 ++ ws) (end-ok last.1 end at_end) ∙ append-nil (noted_words label last.0)) in
    let steps_are : steps.0 ≡ b.steps = b.added in
    subst (Parts words) made (record {
      kind_words = a.front;
      step_words = b.step_words;
      last_words = noted_words label last.0;
      words_are = (name_at-ok words id named).0 ∙ ap (λ ws. id.0 ∷ ws) (a.whole ∙ ap (λ ws. a.front ++ ws) (b.whole ∙ ap (λ ws. b.step_words ++ ws) behind));
      kind = a.said;
      steps = subst (EachSays StepSays b.step_words) (sym steps_are) b.said;
      symmetrical = may-symmetrical kind.0 last.0 both is_both;
    })

-- what is read as an order says it
pub order-is_said : (words : Words) (order : OrderDraft) → order_at words ≡ Ok order → OrderSays words order
order-is_said words order e = with_parts words order (order_at-ok words order e) (parts-said words order e)
