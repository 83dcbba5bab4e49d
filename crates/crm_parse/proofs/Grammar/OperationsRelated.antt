-- The operations of a primitive are read just when the words say them.
use Rattle.std.proofs.Common.{◌≡◌, ◌≢◌, ◌&&◌, not, ℕ, Bool, true, false, cond, List, [], ◌∷◌, ◌++◌, Ok, refl, sym, ap, ◌∙◌, subst, append_assoc, append-nil}
use Rattle.std.specs.Prelude.{codes}
use Rattle.std.specs.List.{AllByRecursion}
use Rattle.std.proofs.lemmas.Bool.{false_from_ne_true, false≢true, or_from, or_parts}
use Rattle.std.proofs.lemmas.Grind.{flat_map-append}
use Rattle.crm_lex.specs.Names.{is, is_name}
use Rattle.crm_parse.specs.declared.fault.ParseCause.TheVariants.{RepeatedKey, Unsupported}
use Rattle.crm_parse.specs.declared.owner.Owner.TheVariants as owner
use Rattle.crm_parse.specs.declared.owner.SectionWord.{SectionWord}
use Rattle.crm_parse.specs.declared.owner.SectionWord.TheVariants.{Attributes, Params, Meta, Utilization, Operations, Op}
use Rattle.crm_parse.specs.declared.pair.Kv.{Kv}
use Rattle.crm_parse.specs.declared.pair.Operation.{Operation}
use Rattle.crm_parse.specs.declared.place.OpName.{OpName}
use Rattle.crm_parse.specs.declared.place.Place.{Place}
use Rattle.crm_parse.specs.declared.place.Place.TheVariants as place
use Rattle.crm_parse.specs.declared.section.Sections.{Sections}
use Rattle.crm_parse.specs.Keys.{is_monitor_name}
use Rattle.crm_parse.specs.Monitors.{MayStandTogether, recurring}
use Rattle.crm_parse.specs.Operations.{has_monitor_room, has_op, interval_in, is_off, is_single, new_name, op_name, op_pairs, operation_of, with_op_pair, with_op_pairs}
use Rattle.crm_parse.specs.Pairs.{kv_of, repeats, with_pair}
use Rattle.crm_parse.specs.Reading.{Words, name_of}
use Rattle.faults.proofs.Steps.{bind-ok}
use Rattle.crm_parse.proofs.Binds.{is-same, is-true, name_of-ok, unless-ok}
use Rattle.crm_parse.proofs.FewMonitors.{few-kept}
use Rattle.crm_parse.proofs.OperationWords.{kept_operation}
use Rattle.crm_parse.proofs.SectionPairs.{pairs_of}
use Rattle.crm_parse.specs.Grammar.Phrases.{EachSays, no_word, one_word}
use Rattle.crm_parse.specs.Grammar.Parts.{EachTwo, MayBothBeWritten, MayFollow, MayStandBoth, PairSays, Section, SectionSays, an_operation, operation, operations_in, operation_if, pairs_if, pairs_in}
use Rattle.crm_parse.proofs.Grammar.PairsRelated.{filled-said, new-said, pair-said, two-push}
use Rattle.crm_parse.proofs.Grammar.SectionStates.{Stands, Stood, all-any, all-stood}
use Rattle.crm_parse.proofs.Grammar.SectionsAreSaid.{OpsAreSaid}

-- an operation that may stand once stands once
names-differ : (name : List ℕ) (ops : List Operation) → has_op ops name ≡ false → AllByRecursion (λ one. one.name ≢ name) ops
names-differ name [] h = tt
names-differ name (op ∷ ops) h =
    let (one, rest) = or_parts _ _ h in
    ((λ e. false≢true (sym one ∙ (ap (λ n. is n name) e ∙ is-same name))), names-differ name ops rest)

weaken : {A : Type 0} (P Q : A → Type 0) (xs : List A) → ((x : A) → P x → Q x) → AllByRecursion P xs → AllByRecursion Q xs
weaken P Q [] f h = tt
weaken P Q (x ∷ xs) f h = (f x h.0, weaken P Q xs f h.1)

single-case : (op : Operation) (ops : List Operation) (single : Bool) → is_single (op_name op.name) ≡ single → (single && has_op ops op.name) ≡ false
    → AllByRecursion (λ one. MayBothBeWritten one op) ops
single-case op ops true s h = weaken _ _ ops (λ one differs single. differs) (names-differ op.name ops h)
single-case op ops false s h = all-any _ ops (λ one single. let f : ⊥ = false≢true (sym s ∙ single) in absurd f)

differ-names : (name : List ℕ) (ops : List Operation) → AllByRecursion (λ one. one.name ≢ name) ops → has_op ops name ≡ false
differ-names name [] h = refl
differ-names name (op ∷ ops) h = or_from _ _ (false_from_ne_true _ (λ e. h.0 (is-true op.name name e))) (differ-names name ops h.1)

pub single-read : (op : Operation) (ops : List Operation) (single : Bool) → is_single (op_name op.name) ≡ single → AllByRecursion (λ one. MayBothBeWritten one op) ops
    → (single && has_op ops op.name) ≡ false
single-read op ops true s h = differ-names op.name ops (weaken _ _ ops (λ one may. may s) h)
single-read op ops false s h = refl

-- the name
record NameIsSaid (ops : List Operation) (word name : List ℕ) : Type 0 where
  same : name ≡ word
  named : is_name word ≡ true
  no_rule : word ≢ codes "rule"
  new : (is_single (op_name name) && has_op ops name) ≡ false

name-said : (ops : List Operation) (word name : List ℕ) → new_name ops word ≡ Ok name → NameIsSaid ops word name
unfolding new_name
name-said ops word name e =
    let (read, no_rule) = unless-ok (is word (codes "rule")) _ name Unsupported e in
    let (found, is_one, rest) = bind-ok (name_of word) _ name read in
    let (last, new) = unless-ok (is_single (op_name found) && has_op ops found) (Ok found) name RepeatedKey rest in
    let (same, good) = name_of-ok word found is_one in
    let is_found : found ≡ name = cc in
    record {
      same = sym is_found ∙ same;
      named = good;
      no_rule = λ f. false≢true (sym no_rule ∙ (ap (λ w. is w (codes "rule")) f ∙ is-same (codes "rule")));
      new = subst (λ n. (is_single (op_name n) && has_op ops n) ≡ false) is_found new;
    }

-- the pairs
record OpPairsAreSaid (p : Place) (before : List Kv) (words : Words) (after : List Kv) : Type 0 where
  pairs : List Kv
  added : after ≡ before ++ pairs
  said : EachSays (PairSays p) words pairs
  two : EachTwo (MayStandBoth p) after

op_pairs-said : (ops : List Operation) (recurring : Bool) (p : Place) (before : List Kv) (words : Words) (after : List Kv) → EachTwo (MayStandBoth p) before
    → with_op_pairs ops recurring p before words ≡ Ok after → OpPairsAreSaid p before words after
unfolding with_op_pair with_pair
op_pairs-said ops recurring p before [] after two e =
    let same : before ≡ after = cc in
    subst (OpPairsAreSaid p before []) same (record { pairs = []; added = sym (append-nil before); said = no_word; two = two })
op_pairs-said ops recurring p before (word ∷ words) after two e =
    let (between, one, rest) = bind-ok (with_op_pair ops recurring p before word) _ after e in
    let (more, is_more, room) = bind-ok (with_pair p before word) _ between one in
    let (done, has_room, last) = bind-ok (has_monitor_room ops (cond recurring (interval_in word) 0)) _ between room in
    let (pair, is_pair, added) = bind-ok (kv_of p word) _ more is_more in
    let (made, new) = unless-ok (repeats p before pair.key) (Ok (before ++ pair ∷ [])) more RepeatedKey added in
    let same : before ++ pair ∷ [] ≡ between = cc in
    let rest_said = op_pairs-said ops recurring p between words after (subst (EachTwo (MayStandBoth p)) same (two-push (MayStandBoth p) before pair two (new-said p before pair new))) rest in
    record {
      pairs = pair ∷ rest_said.pairs;
      added = rest_said.added ∙ (ap (λ ps. ps ++ rest_said.pairs) (sym same) ∙ append_assoc before (pair ∷ []) rest_said.pairs);
      said = one_word word pair words rest_said.pairs (pair-said p word pair is_pair) rest_said.said;
      two = rest_said.two;
    }

record AllOpPairs (p : Place) (words : Words) (pairs : List Kv) : Type 0 where
  said : EachSays (PairSays p) words pairs
  some : pairs ≢ []
  two : EachTwo (MayStandBoth p) pairs

all_op_pairs : (ops : List Operation) (name : OpName) (words : Words) (pairs : List Kv) → op_pairs ops name words ≡ Ok pairs
    → AllOpPairs (place.Operation name) words pairs
all_op_pairs ops name [] pairs e = cc
all_op_pairs ops name (word ∷ words) pairs e =
    let p = place.Operation name in
    let got = op_pairs-said ops (is_monitor_name name && not (is_off (word ∷ words))) p [] (word ∷ words) pairs tt e in
    subst (AllOpPairs p (word ∷ words)) (sym got.added)
    (record { said = got.said; some = filled-said p word words got.pairs got.said; two = subst (EachTwo (MayStandBoth p)) got.added got.two })

-- one more operation
record OperationIsSaid (ops : List Operation) (words : Words) (op : Operation) : Type 0 where
  said : SectionSays owner.Primitive (codes "op" ∷ words) (operation op)
  once : AllByRecursion (λ one. MayBothBeWritten one op) ops

operation-said : (ops : List Operation) (words : Words) (op : Operation) → operation_of ops words ≡ Ok op → OperationIsSaid ops words op
unfolding operation_of
operation-said ops [] op e = cc
operation-said ops (word ∷ words) op e =
    let (name, is_one, rest) = bind-ok (new_name ops word) _ op e in
    let (pairs, are, last) = bind-ok (op_pairs ops (op_name name) words) _ op rest in
    let made : Operation = record { name = name; pairs = pairs } in
    let same : made ≡ op = cc in
    let n = name-said ops word name is_one in
    let all = all_op_pairs ops (op_name name) words pairs are in
    let named : is_name name ≡ true = subst (λ w. is_name w ≡ true) (sym n.same) n.named in
    let no_rule : name ≢ codes "rule" = subst (λ w. w ≢ codes "rule") (sym n.same) n.no_rule in
    let said : SectionSays owner.Primitive (codes "op" ∷ name ∷ words) (operation made) = an_operation name words pairs refl named no_rule all.said all.some all.two in
    subst (OperationIsSaid ops (word ∷ words)) same (record {
      said = subst (λ w. SectionSays owner.Primitive (codes "op" ∷ w ∷ words) (operation made)) n.same said;
      once = single-case made ops (is_single (op_name name)) refl n.new;
    })

-- what is in the other sections stays
no_pairs : (w : SectionWord) (done : List Section) (op : Operation) → pairs_in w (done ++ operation op ∷ []) ≡ pairs_in w done
no_pairs w done op = flat_map-append (pairs_if w) done (operation op ∷ []) ∙ append-nil (pairs_in w done)

one_operation : (done : List Section) (op : Operation) → operations_in (done ++ operation op ∷ []) ≡ operations_in done ++ op ∷ []
one_operation done op = flat_map-append operation_if done (operation op ∷ [])

same-pairs : (w : SectionWord) (before : Sections) (ops : List Operation) → pairs_of w (record before { ops = ops }) ≡ pairs_of w before
same-pairs Attributes before ops = refl
same-pairs Params before ops = refl
same-pairs Meta before ops = refl
same-pairs Utilization before ops = refl
same-pairs Operations before ops = refl
same-pairs Op before ops = refl

pub op-stands : (done : List Section) (before : Sections) (words : Words) (op : Operation) → Stands owner.Primitive done before → operation_of before.ops words ≡ Ok op
    → Stood owner.Primitive (operation op) → AllByRecursion (λ one. MayBothBeWritten one op) before.ops
    → Stands owner.Primitive (done ++ operation op ∷ []) (record before { ops = before.ops ++ op ∷ [] })
op-stands done before words op h e stood once =
    let kept = kept_operation before.ops words op h.kept e in
    let ops : before.ops ++ op ∷ [] ≡ operations_in (done ++ operation op ∷ []) = ap (λ os. os ++ op ∷ []) h.ops ∙ sym (one_operation done op) in
    record {
      each = all-stood owner.Primitive done (operation op) h.each stood;
      pairs = λ w p at. same-pairs w before (before.ops ++ op ∷ []) ∙ (h.pairs w p at ∙ sym (no_pairs w done op));
      ops = ops;
      kept = kept;
      in_turn = two-push (MayFollow owner.Primitive) done (operation op) h.in_turn (all-any _ done (λ one. tt));
      keys = λ w p at. subst (EachTwo (MayStandBoth p)) (sym (no_pairs w done op)) (h.keys w p at);
      singles = subst (EachTwo MayBothBeWritten) (sym (one_operation done op)) (two-push MayBothBeWritten (operations_in done) op h.singles (subst (AllByRecursion (λ one. MayBothBeWritten one op)) h.ops once));
      monitors = subst (λ os. MayStandTogether (recurring os)) ops (few-kept (before.ops ++ op ∷ []) kept);
    }

-- what is read as an operation says it
pub ops-said : OpsAreSaid owner.Primitive
ops-said done before words op h allows e =
    let got = operation-said before.ops words op e in
    record {
      section = operation op;
      said = got.said;
      stands = op-stands done before words op h e (record { words = codes "op" ∷ words; said = got.said }) got.once;
    }
