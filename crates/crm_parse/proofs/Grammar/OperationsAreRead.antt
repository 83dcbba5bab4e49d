-- What says an operation is read as it.
use Rattle.std.proofs.Common.{◌≡◌, ◌≢◌, ◌&&◌, not, ℕ, Bool, true, false, List, [], ◌∷◌, ◌++◌, Ok, refl, sym, ap, ◌∙◌, subst, append_assoc, append-nil}
use Rattle.std.specs.Prelude.{codes}
use Rattle.std.specs.List.{AllByRecursion}
use Rattle.std.proofs.lemmas.Bool.{false_from_ne_true}
use Rattle.std.proofs.lemmas.Grind.{flat_map-append}
use Rattle.crm_lex.specs.Names.{is, is_name}
use Rattle.crm_parse.specs.declared.owner.Owner.TheVariants as owner
use Rattle.crm_parse.specs.declared.pair.Kv.{Kv}
use Rattle.crm_parse.specs.declared.pair.Operation.{Operation}
use Rattle.crm_parse.specs.declared.place.Place.{Place}
use Rattle.crm_parse.specs.declared.place.Place.TheVariants as place
use Rattle.crm_parse.specs.Keys.{is_monitor_name}
use Rattle.crm_parse.specs.Monitors.{MayStandTogether, recurring}
use Rattle.crm_parse.specs.Operations.{is_off, is_single, new_name, op_name, op_pairs, operation_of, with_op_pair, with_op_pairs}
use Rattle.crm_parse.specs.Pairs.{with_pair}
use Rattle.crm_parse.specs.Reading.{Words}
use Rattle.crm_parse.specs.Sections.{with_part}
use Rattle.crm_parse.proofs.Binds.{is-true, name_of-again}
use Rattle.crm_parse.proofs.OperationWords.{op_words}
use Rattle.crm_parse.proofs.PairLists.{pair_words}
use Rattle.crm_parse.specs.Grammar.Phrases.{EachSays, no_word, one_word}
use Rattle.crm_parse.specs.Grammar.Parts.{EachTwo, MayBothBeWritten, MayStandBoth, PairSays, Section, SectionSays, a_section, an_operation, operation, operation_if, operations_in, pairs_section}
use Rattle.crm_parse.proofs.Grammar.MonitorRoom.{Roomy, pairs-cut, rooms}
use Rattle.crm_parse.proofs.Grammar.OperationsRelated.{op-stands, single-read}
use Rattle.crm_parse.proofs.Grammar.PairsRelated.{new-read, pair-read, pairs-spelled, two-middle}
use Rattle.crm_parse.proofs.Grammar.SectionsAreRead.{OpsAreRead}

op_pairs-read : (ops : List Operation) (on : Bool) (p : Place) (before : List Kv) (words : Words) (pairs : List Kv) → EachSays (PairSays p) words pairs
    → EachTwo (MayStandBoth p) (before ++ pairs) → AllByRecursion (Roomy ops on) words → with_op_pairs ops on p before words ≡ Ok (before ++ pairs)
unfolding with_op_pair with_pair
op_pairs-read ops on p before ws ks no_word two room = ap Ok (sym (append-nil before))
op_pairs-read ops on p before ws ks (one_word word kv words kvs s more) two room =
    let new = new-read p before kv (two-middle (MayStandBoth p) before kv kvs two) in
    let next = subst (EachTwo (MayStandBoth p)) (sym (append_assoc before (kv ∷ []) kvs)) two in
    rw (with_op_pairs, with_op_pair, with_pair, pair-read p word kv s, new, room.0)
    (op_pairs-read ops on p (before ++ kv ∷ []) words kvs more next room.1 ∙ ap Ok (append_assoc before (kv ∷ []) kvs))

all-read : (ops : List Operation) (name : List ℕ) (pairs : List Kv) → let p = place.Operation (op_name name) in EachSays (PairSays p) (pair_words pairs) pairs → pairs ≢ []
    → EachTwo (MayStandBoth p) pairs → MayStandTogether (recurring (ops ++ record { name = name; pairs = pairs } ∷ [])) → op_pairs ops (op_name name) (pair_words pairs) ≡ Ok pairs
all-read ops name [] said some two few = absurd (some refl)
all-read ops name (kv ∷ kvs) said some two few =
    let p = place.Operation (op_name name) in
    op_pairs-read ops (is_monitor_name (op_name name) && not (is_off (pair_words (kv ∷ kvs)))) p [] (pair_words (kv ∷ kvs)) (kv ∷ kvs) said two
    (rooms ops p name (kv ∷ kvs) (pairs-cut p (pair_words (kv ∷ kvs)) (kv ∷ kvs) said) two few)

name-read : (ops : List Operation) (o : Operation) → is_name o.name ≡ true → o.name ≢ codes "rule" → AllByRecursion (λ one. MayBothBeWritten one o) ops
    → new_name ops o.name ≡ Ok o.name
unfolding new_name
name-read ops o named no_rule once =
    let n : is o.name (codes "rule") ≡ false = false_from_ne_true _ (λ e. no_rule (is-true o.name (codes "rule") e)) in
    rw (new_name, n, name_of-again o.name named, single-read o ops (is_single (op_name o.name)) refl once) refl

record SaysOp (o : Operation) : Type 0 where
  named : is_name o.name ≡ true
  no_rule : o.name ≢ codes "rule"
  said : EachSays (PairSays (place.Operation (op_name o.name))) (pair_words o.pairs) o.pairs
  some : o.pairs ≢ []
  two : EachTwo (MayStandBoth (place.Operation (op_name o.name))) o.pairs

op-same : (one other : Operation) → operation one ≡ operation other → one ≡ other
op-same one other e = ap (λ s. from s one) e
  where
    from : Section → Operation → Operation
    from (operation o) d = o
    from (pairs_section w kvs) d = d

says-case : (words : Words) (s : Section) (o : Operation) → SectionSays owner.Primitive words s → s ≡ operation o → SaysOp o
says-case ws s o (a_section w p words kvs at each some) e = cc
says-case ws s o (an_operation name words kvs prim named no_rule each some two) e =
    subst SaysOp (op-same _ o e) (record {
      named = named;
      no_rule = no_rule;
      said = subst (λ v. EachSays (PairSays (place.Operation (op_name name))) v kvs) (pairs-spelled _ words kvs each) each;
      some = some;
      two = two;
    })

operation-read : (ops : List Operation) (o : Operation) → SaysOp o → AllByRecursion (λ one. MayBothBeWritten one o) ops → MayStandTogether (recurring (ops ++ o ∷ []))
    → operation_of ops (op_words o) ≡ Ok o
unfolding operation_of
operation-read ops o h once few =
    rw (operation_of, name-read ops o h.named h.no_rule once, all-read ops o.name o.pairs h.said h.some h.two few) refl

-- what says an operation is read as it
pub ops-read : OpsAreRead owner.Primitive
unfolding with_part
ops-read done before words o h said fits =
    let says = says-case words (operation o) o said refl in
    let all : operations_in (done ++ operation o ∷ []) ≡ before.ops ++ o ∷ [] = flat_map-append operation_if done (operation o ∷ []) ∙ ap (λ os. os ++ o ∷ []) (sym h.ops) in
    let once = two-middle MayBothBeWritten before.ops o [] (subst (EachTwo MayBothBeWritten) all fits.singles) in
    let few = subst (λ os. MayStandTogether (recurring os)) all fits.monitors in
    let read = operation-read before.ops o says once few in
    record {
      after = record before { ops = before.ops ++ o ∷ [] };
      read = rw read refl;
      stands = op-stands done before (op_words o) o h read (record { words = words; said = said }) once;
    }
