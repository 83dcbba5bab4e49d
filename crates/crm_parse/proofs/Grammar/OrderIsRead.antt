-- What says an order is read as it.
use Rattle.std.proofs.Common.{◌≡◌, ◌≤◌, ℕ, Bool, true, false, List, [], ◌∷◌, ◌++◌, length, Some, None, Ok, refl, sym, ap, ◌∙◌, subst, append_assoc, append-nil, arith}
use Rattle.std.specs.Prelude.{codes}
use Rattle.crm_parse.specs.declared.draft.OrderDraft.{OrderDraft}
use Rattle.crm_parse.specs.declared.draft.StepDraft.{StepDraft}
use Rattle.crm_parse.specs.declared.words.ActionWord.{ActionWord}
use Rattle.crm_parse.specs.declared.words.ActionWord.TheVariants.{Start, Stop, Promote, Demote}
use Rattle.crm_parse.specs.declared.words.KindWord.{KindWord}
use Rattle.crm_parse.specs.declared.words.KindWord.TheVariants.{Mandatory, Optional, Serialize}
use Rattle.crm_parse.specs.Order.{ends_steps, kind_at, order_at, order_steps_at, read_order_step, step_parts, symmetrical_as, symmetrical_in, with_step, with_steps}
use Rattle.crm_parse.specs.Reading.{Words, colon_at, end_at, prefixed_at}
use Rattle.crm_parse.specs.Texts.{before}
use Rattle.crm_parse.specs.Values.{bool_of}
use Rattle.crm_parse.proofs.Binds.{name_at-again}
use Rattle.crm_parse.proofs.PairWords.{has}
use Rattle.crm_parse.specs.WordTexts.{action_word_text}
use Rattle.crm_parse.proofs.Affixes.{before-again, name-no_colon}
use Rattle.crm_parse.proofs.LackedBytes.{cut_at-none, has-append, name-lacks, no_label}
use Rattle.crm_parse.proofs.PairsAgain.{cut_at-again}
use Rattle.crm_parse.specs.Grammar.Phrases.{ColonSays, EachSays, LabelSays, SaysOr, TableSays, in_table, is_said, label_then, left_out, no_word, one_word, then_colon}
use Rattle.crm_parse.specs.Grammar.OrderForm.{KindSays, OrderSays, StepSays, resource_acts, resource_alone, symmetrical_unsaid}
use Rattle.crm_parse.proofs.Grammar.KindsSaid.{kind-read}
use Rattle.crm_parse.proofs.Grammar.OrderIsSaid.{label, unsaid-case}
use Rattle.crm_parse.proofs.Grammar.WordsSaid.{action-text, ends-not, resource-again}

-- a step
step-read : (word : List ℕ) (step : StepDraft) → StepSays word step → read_order_step word ≡ Ok step
unfolding read_order_step
step-read w s (resource_alone resource h) = rw (read_order_step, step_parts, cut_at-none 58 resource (name-lacks 58 resource refl h), resource-again resource h) refl
step-read w s (resource_acts resource text action h a) =
    rw (read_order_step, step_parts, cut_at-again 58 resource text (name-lacks 58 resource refl h), resource-again resource h, a) refl

no_equals : (action : ActionWord) → has 61 (58 ∷ action_word_text action) ≡ false
no_equals Start = refl
no_equals Stop = refl
no_equals Promote = refl
no_equals Demote = refl

step-lacks : (word : List ℕ) (step : StepDraft) → StepSays word step → has 61 word ≡ false
step-lacks w s (resource_alone resource h) = name-lacks 61 resource refl h
step-lacks w s (resource_acts resource text action h a) =
    has-append 61 resource (58 ∷ text) (name-lacks 61 resource refl h) (subst (λ t. has 61 (58 ∷ t) ≡ false) (sym (action-text text action a)) (no_equals action))

goes_on : (word : List ℕ) (step : StepDraft) → StepSays word step → ends_steps word ≡ false
goes_on word step s = rw (no_label 61 (codes "symmetrical") [] word (step-lacks word step s)) refl

ends_behind : (resource : List ℕ) (t : ℕ) (ts : List ℕ) → has 58 (t ∷ ts) ≡ false → before (codes ":") (resource ++ 58 ∷ t ∷ ts) ≡ None
ends_behind resource t ts h = subst (λ w. before (codes ":") w ≡ None) (append_assoc resource (58 ∷ []) (t ∷ ts)) (ends-not 58 (resource ++ 58 ∷ []) t ts h)

acts-no_colon : (resource : List ℕ) (action : ActionWord) → before (codes ":") (resource ++ 58 ∷ action_word_text action) ≡ None
acts-no_colon resource Start = ends_behind resource 115 (codes "tart") refl
acts-no_colon resource Stop = ends_behind resource 115 (codes "top") refl
acts-no_colon resource Promote = ends_behind resource 112 (codes "romote") refl
acts-no_colon resource Demote = ends_behind resource 100 (codes "emote") refl

step-no_colon : (word : List ℕ) (step : StepDraft) → StepSays word step → before (codes ":") word ≡ None
step-no_colon w s (resource_alone resource h) = name-no_colon resource h
step-no_colon w s (resource_acts resource text action h a) =
    subst (λ t. before (codes ":") (resource ++ 58 ∷ t) ≡ None) (sym (action-text text action a)) (acts-no_colon resource action)

-- the kind
kind-written : (word : List ℕ) (kind : KindWord) (rest : Words) → ColonSays KindSays word kind → kind_at (word ∷ rest) ≡ Ok (kind, rest)
unfolding kind_at
kind-written w k rest (then_colon text kind s) = rw (kind_at, colon_at, before-again (codes ":") text, kind-read text kind s) refl

kind_at-read : (front : Words) (kind : KindWord) (rest : Words) → SaysOr (ColonSays KindSays) Mandatory front kind → colon_at rest ≡ (None, rest)
    → kind_at (front ++ rest) ≡ Ok (kind, rest)
unfolding kind_at
kind_at-read f k rest left_out n = rw (kind_at, n) refl
kind_at-read f k rest (is_said word kind s) n = kind-written word kind rest s

no_kind-case : (words : Words) (steps : List StepDraft) (rest : Words) → EachSays StepSays words steps → 2 ≤ length steps → colon_at (words ++ rest) ≡ (None, words ++ rest)
no_kind-case ws ss rest no_word n = absurd (omega (arith, n))
no_kind-case ws ss rest (one_word word step words steps s more) n = rw (colon_at, step-no_colon word step s) refl

-- steps
abbrev Ends : Words → Type 0
Ends rest = (before : List StepDraft) → with_steps before rest ≡ Ok (before, rest)

with_steps-read : (before : List StepDraft) (words : Words) (steps : List StepDraft) (rest : Words) → EachSays StepSays words steps → Ends rest
    → with_steps before (words ++ rest) ≡ Ok (before ++ steps, rest)
with_steps-read before ws ss rest no_word ends = ends before ∙ ap (λ (b : List StepDraft). Ok (b, rest)) (sym (append-nil before))
with_steps-read before ws ss rest (one_word word step words steps s more) ends =
    rw (goes_on word step s, step-read word step s)
    (with_steps-read (before ++ step ∷ []) words steps rest more ends ∙ ap (λ (b : List StepDraft). Ok (b, rest)) (append_assoc before (step ∷ []) steps))

with_step-read : (before : List StepDraft) (word : List ℕ) (step : StepDraft) (words : Words) → StepSays word step
    → with_step before (word ∷ words) ≡ Ok (before ++ step ∷ [], words)
unfolding with_step
with_step-read before word step words s = rw (with_step, step-read word step s) refl

two-read : (one two : List ℕ) (first second : StepDraft) (words : Words) (steps : List StepDraft) (rest : Words) → StepSays one first → StepSays two second
    → EachSays StepSays words steps → Ends rest → order_steps_at (one ∷ two ∷ (words ++ rest)) ≡ Ok (first ∷ second ∷ steps, rest)
unfolding order_steps_at
two-read one two first second words steps rest s t more ends =
    rw (order_steps_at, with_step-read [] one first (two ∷ (words ++ rest)) s, with_step-read (first ∷ []) two second (words ++ rest) t)
    (with_steps-read (first ∷ second ∷ []) words steps rest more ends)

second-read : (one : List ℕ) (first : StepDraft) (words : Words) (steps : List StepDraft) (rest : Words) → StepSays one first → EachSays StepSays words steps
    → 2 ≤ length (first ∷ steps) → Ends rest → order_steps_at (one ∷ (words ++ rest)) ≡ Ok (first ∷ steps, rest)
second-read one first ws ss rest s no_word n ends = absurd (omega (arith, n))
second-read one first ws ss rest s (one_word two second words steps t more) n ends = two-read one two first second words steps rest s t more ends

steps_at-read : (words : Words) (steps : List StepDraft) (rest : Words) → EachSays StepSays words steps → 2 ≤ length steps → Ends rest
    → order_steps_at (words ++ rest) ≡ Ok (steps, rest)
steps_at-read ws ss rest no_word n ends = absurd (omega (arith, n))
steps_at-read ws ss rest (one_word word step words steps s more) n ends = second-read word step words steps rest s more n ends

-- whether it is symmetrical
label-ends : (word : List ℕ) (both : Bool) (words : Words) → LabelSays label (TableSays bool_of) word both → Ends (word ∷ words)
label-ends w b words (label_then text both s) = λ done. refl

last-ends : (unsaid : Bool) (last : Words) (both : Bool) → SaysOr (LabelSays label (TableSays bool_of)) unsaid last both → Ends last
last-ends unsaid ws b left_out = λ done. refl
last-ends unsaid ws b (is_said word both s) = label-ends word both [] s

fits : (kind : KindWord) (both : Bool) → (kind ≡ Serialize → both ≡ false) → symmetrical_as kind both ≡ Ok both
fits Mandatory both h = refl
fits Optional both h = refl
fits Serialize false h = refl
fits Serialize true h = let e : true ≡ false = h refl in cc

in_table-is : (text : List ℕ) (both : Bool) → TableSays bool_of text both → bool_of text ≡ Some both
in_table-is t b (in_table text both h) = h

record LastRead (kind : KindWord) (last : Words) (both : Bool) : Type 0 where
  read : symmetrical_in kind (prefixed_at label last).0 ≡ Ok both
  end : end_at (prefixed_at label last).1 ≡ Ok tt

label-read : (kind : KindWord) (word : List ℕ) (both : Bool) → LabelSays label (TableSays bool_of) word both → (kind ≡ Serialize → both ≡ false)
    → LastRead kind (word ∷ []) both
unfolding symmetrical_in
label-read kind w b (label_then text both s) h =
    record { read = rw (symmetrical_in, in_table-is text both s) (fits kind both h); end = refl }

last-read : (kind : KindWord) (last : Words) (both : Bool) → SaysOr (LabelSays label (TableSays bool_of)) (symmetrical_unsaid kind) last both
    → (kind ≡ Serialize → both ≡ false) → LastRead kind last both
unfolding symmetrical_in
last-read kind ws b left_out h = record { read = ap Ok (sym (unsaid-case kind)); end = refl }
last-read kind ws b (is_said word both s) h = label-read kind word both s h

-- what says an order is read as it
pub order-is_read : (words : Words) (order : OrderDraft) → OrderSays words order → order_at words ≡ Ok order
unfolding order_at
order-is_read words order h =
    let rest = h.step_words ++ h.last_words in
    let last = last-read order.kind h.last_words order.symmetrical h.symmetrical h.serialize_is_one_way in
    rw (
      h.words_are,
      order_at,
      name_at-again order.id (h.kind_words ++ rest) h.id,
      kind_at-read h.kind_words order.kind rest h.kind (no_kind-case h.step_words order.steps h.last_words h.steps h.two_or_more),
      steps_at-read h.step_words order.steps h.last_words h.steps h.two_or_more (last-ends (symmetrical_unsaid order.kind) h.last_words order.symmetrical h.symmetrical),
      last.read,
      last.end,
    ) refl
