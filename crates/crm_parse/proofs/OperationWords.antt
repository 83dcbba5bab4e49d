-- The words of some operations are read as those operations again.
use Rattle.std.proofs.Common.{◌≡◌, ℕ, Bool, not, ◌&&◌, cond, List, [], ◌∷◌, ◌++◌, Result, Ok, refl, sym, ap, ◌∙◌, subst}
use Rattle.std.specs.Prelude.{codes}
use Rattle.crm_lex.specs.Names.{is}
use Rattle.crm_parse.specs.declared.fault.ParseCause.{ParseCause}
use Rattle.crm_parse.specs.declared.fault.ParseCause.TheVariants.{RepeatedKey, Unsupported}
use Rattle.crm_parse.specs.declared.pair.Kv.{Kv}
use Rattle.crm_parse.specs.declared.pair.Operation.{Operation}
use Rattle.crm_parse.specs.declared.place.OpName.{OpName}
use Rattle.crm_parse.specs.declared.place.Place.{Place}
use Rattle.crm_parse.specs.declared.place.Place.TheVariants as place
use Rattle.crm_parse.specs.Keys.{is_monitor_name}
use Rattle.crm_parse.specs.Operations.{has_op, has_monitor_room, interval_in, is_off, is_single, new_name, op_name, op_pairs, operation_of, with_op_pair, with_op_pairs}
use Rattle.crm_parse.specs.Pairs.{with_pair}
use Rattle.crm_parse.specs.Reading.{Words, name_of}
use Rattle.faults.specs.Reading.{◌>>=◌}
use Rattle.crm_parse.proofs.Binds.{name_of-ok, unless-ok}
use Rattle.faults.proofs.Steps.{bind-ok}
use Rattle.crm_parse.proofs.PairLists.{Adds, AddsAll, adds_none, adds_more, pair_words, with_pair-adds}

with_op_pair-adds : (ops : List Operation) (recurring : Bool) (p : Place) (before : List Kv) (word : List ℕ) (after : List Kv)
    → with_op_pair ops recurring p before word ≡ Ok after → Adds before word after
unfolding with_op_pair
with_op_pair-adds ops recurring p before word after e =
    let (more, one, rest) = bind-ok (with_pair p before word) _ after e in
    let (room, has_place, last) = bind-ok (has_monitor_room ops (cond recurring (interval_in word) 0)) _ after rest in
    let same : more ≡ after = cc in
    subst (λ ps. Adds before word ps) same (with_pair-adds p before word more one)

with_op_pairs-adds : (ops : List Operation) (recurring : Bool) (p : Place) (before : List Kv) (words : Words) (after : List Kv)
    → with_op_pairs ops recurring p before words ≡ Ok after → AddsAll before words after
with_op_pairs-adds ops recurring p before [] after e =
    let same : before ≡ after = cc in
    subst (λ ps. AddsAll before [] ps) same (adds_none before)
with_op_pairs-adds ops recurring p before (word ∷ words) after e =
    let (between, one, rest) = bind-ok (with_op_pair ops recurring p before word) _ after e in
    adds_more before between after word words (with_op_pair-adds ops recurring p before word between one) (with_op_pairs-adds ops recurring p between words after rest)

op_pairs-words : (ops : List Operation) (name : OpName) (words : Words) (pairs : List Kv) → op_pairs ops name words ≡ Ok pairs → words ≡ pair_words pairs
op_pairs-words ops name [] pairs e = cc
op_pairs-words ops name (word ∷ words) pairs e =
    let all = with_op_pairs-adds ops (is_monitor_name name && not (is_off (word ∷ words))) (place.Operation name) [] (word ∷ words) pairs e in
    all.spelled ∙ ap pair_words (sym all.added)

new_name-ok : (ops : List Operation) (word name : List ℕ) → new_name ops word ≡ Ok name → name ≡ word
unfolding new_name
new_name-ok ops word name e =
    let (read, no_rule) = unless-ok (is word (codes "rule")) _ name Unsupported e in
    let (found, is_one, rest) = bind-ok (name_of word) _ name read in
    let (last, new) = unless-ok (is_single (op_name found) && has_op ops found) (Ok found) name RepeatedKey rest in
    let (same, good) = name_of-ok word found is_one in
    cc

-- the words of an operation behind `op`
abbrev pub op_words : Operation → Words
op_words op = op.name ∷ pair_words op.pairs

-- what was read of some words spells them
pub operation_of-words : (ops : List Operation) (words : Words) (op : Operation) → operation_of ops words ≡ Ok op → words ≡ op_words op
unfolding operation_of
operation_of-words ops [] op e = cc
operation_of-words ops (word ∷ words) op e =
    let (name, is_one, rest) = bind-ok (new_name ops word) _ op e in
    let (pairs, are, last) = bind-ok (op_pairs ops (op_name name) words) _ op rest in
    let made : Operation = record { name = name; pairs = pairs } in
    let same : made ≡ op = cc in
    let first : word ≡ name = sym (new_name-ok ops word name is_one) in
    ap (λ w. w ∷ words) first ∙ (ap (λ ws. name ∷ ws) (op_pairs-words ops (op_name name) words pairs are) ∙ ap op_words same)

-- some operations, and those that the words of more say
abbrev pub with_operations : List Operation → List Operation → Result (List Operation) ParseCause
with_operations before [] = Ok before
with_operations before (op ∷ ops) = do
  read ← operation_of before (op_words op)
  with_operations (before ++ read ∷ []) ops

-- some operations are read from nothing as they are
abbrev pub KeptOps : List Operation → Type 0
KeptOps ops = with_operations [] ops ≡ Ok ops

with_operations-append : (before ops more between : List Operation) → with_operations before ops ≡ Ok between
    → with_operations before (ops ++ more) ≡ with_operations between more
with_operations-append before [] more between e =
    let same : before ≡ between = cc in
    ap (λ os. with_operations os more) same
with_operations-append before (op ∷ ops) more between e =
    let (read, one, rest) = bind-ok (operation_of before (op_words op)) _ between e in
    rw one (with_operations-append (before ++ read ∷ []) ops more between rest)

-- and so is one that follows them
pub kept_operation : (ops : List Operation) (words : Words) (op : Operation) → KeptOps ops → operation_of ops words ≡ Ok op → KeptOps (ops ++ op ∷ [])
kept_operation ops words op k e =
    let again : operation_of ops (op_words op) ≡ Ok op = subst (λ ws. operation_of ops ws ≡ Ok op) (operation_of-words ops words op e) e in
    with_operations-append [] ops (op ∷ []) ops k ∙ rw again refl
