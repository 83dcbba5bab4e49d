-- Sections that lack a pair at their end can be continued. Else a section without a pair stands before another section word.
use Rattle.std.proofs.Common.{◌≡◌, ◌≢◌, ℕ, Bool, true, false, cond, List, [], ◌∷◌, ◌++◌, Result, Ok, Err, refl, sym, ◌∙◌}
use Rattle.std.specs.Prelude.{codes, not, nat_le, length, filter, ◌&&◌, ◌==◌}
use Rattle.std.specs.List.{AllByRecursion, list_any}
use Rattle.crm_lex.specs.Names.{is}
use Rattle.faults.specs.Reading.{◌>>=◌}
use Rattle.crm_parse.specs.declared.fault.ParseCause.{ParseCause}
use Rattle.crm_parse.specs.declared.fault.ParseCause.TheVariants.{ExtraWord, MissingWord, RepeatedKey, Unsupported}
use Rattle.crm_parse.specs.declared.owner.Owner.{Owner}
use Rattle.crm_parse.specs.declared.owner.SectionWord.{SectionWord}
use Rattle.crm_parse.specs.declared.owner.SectionWord.TheVariants.{Attributes, Params, Meta, Utilization, Operations, Op}
use Rattle.crm_parse.specs.declared.pair.Kv.{Kv}
use Rattle.crm_parse.specs.declared.pair.Operation.{Operation}
use Rattle.crm_parse.specs.declared.place.OpName.{OpName}
use Rattle.crm_parse.specs.declared.place.Place.{Place}
use Rattle.crm_parse.specs.declared.place.Place.TheVariants as place
use Rattle.crm_parse.specs.declared.section.Sections.{Sections}
use Rattle.crm_parse.specs.FirstFaults.{LacksEnabled}
use Rattle.crm_parse.specs.Keys.{is_monitor_name}
use Rattle.crm_parse.specs.Operations.{has_monitor_room, has_op, interval_in, interval_of, is_off, is_single, new_name, op_name, op_pairs, operation_of, recurs, with_op_pair, with_op_pairs}
use Rattle.crm_parse.specs.Pairs.{kv_of, repeats, with_pair, with_pairs, with_section}
use Rattle.crm_parse.specs.Reading.{Words, name_of}
use Rattle.crm_parse.specs.Sections.{cut_into_sections, may_follow, place_of, section_of, with_part, with_words}
use Rattle.crm_parse.proofs.CausesKept.{none-kv, none-ok}
use Rattle.crm_parse.proofs.FaultsStay.{same-fault}
use Rattle.crm_parse.proofs.GoesFurther.{LacksNone, none-if, none-name, none-step, none-when, lacks-enabled}
use Rattle.crm_parse.proofs.LinesGoFurther.{a_name, a_pair, kv-taken, pair_of_id}

pub then-ok : {A B : Type 0} (read : Result A ParseCause) (f : A → Result B ParseCause) (x : A) → read ≡ Ok x → (read >>= f) ≡ f x
then-ok read f x e = rw e refl

-- the pairs of a section lack no word, but that there is one
pair-none : (p : Place) (pairs : List Kv) (word : List ℕ) → LacksNone (with_pair p pairs word)
unfolding with_pair
pair-none p pairs word = none-step (kv_of p word) _ (none-kv p word) (λ pair. none-if (repeats p pairs pair.key) (Err RepeatedKey) (Ok (pairs ++ pair ∷ [])) (λ e. cc) (λ e. cc))

pairs-none : (p : Place) (pairs : List Kv) (words : Words) → LacksNone (with_pairs p pairs words)
pairs-none p pairs [] = none-ok pairs
pairs-none p pairs (word ∷ words) = none-step (with_pair p pairs word) _ (pair-none p pairs word) (λ more. pairs-none p more words)

section-none : (p : Place) (pairs : List Kv) (word : List ℕ) (words : Words) → LacksNone (with_section p pairs (word ∷ words))
section-none p pairs word words =
    none-if (is word (codes "rule")) (Err Unsupported) (with_pairs p pairs (word ∷ words)) (λ e. cc) (pairs-none p pairs (word ∷ words))

pair-filled : (p : Place) (pairs : List Kv) → with_pair p pairs a_pair ≡ Ok (pairs ++ pair_of_id ∷ [])
unfolding with_pair
pair-filled p pairs = rw (kv-taken p) refl

section-filled : (p : Place) (pairs : List Kv) → with_section p pairs (a_pair ∷ []) ≡ Ok (pairs ++ pair_of_id ∷ [])
section-filled p pairs = then-ok (with_pair p pairs a_pair) (λ more. with_pairs p more []) (pairs ++ pair_of_id ∷ []) (pair-filled p pairs)

-- an operation
new_name-none : (ops : List Operation) (word : List ℕ) → LacksNone (new_name ops word)
unfolding new_name
new_name-none ops word =
    none-if (is word (codes "rule")) (Err Unsupported) _ (λ e. cc) (none-step (name_of word) _ (none-name word) (λ name.
    none-if (is_single (op_name name) && has_op ops name) (Err RepeatedKey) (Ok name) (λ e. cc) (λ e. cc)))

room-none : (ops : List Operation) (interval : ℕ) → LacksNone (has_monitor_room ops interval)
room-none ops interval =
    none-if (interval == 0) (Ok tt) _ (none-ok tt) (none-if (nat_le 8 (length (filter recurs ops))) (Err Unsupported) _ (λ e. cc)
    (none-when (not (list_any (λ operation. recurs operation && (interval_of operation.pairs == interval)) ops)) RepeatedKey (λ e. cc)))

op_pair-none : (ops : List Operation) (recurring : Bool) (p : Place) (pairs : List Kv) (word : List ℕ) → LacksNone (with_op_pair ops recurring p pairs word)
unfolding with_op_pair
op_pair-none ops recurring p pairs word =
    none-step (with_pair p pairs word) _ (pair-none p pairs word) (λ more.
    none-step (has_monitor_room ops (cond recurring (interval_in word) 0)) _ (room-none ops (cond recurring (interval_in word) 0)) (λ room e. cc))

op_pairs-none : (ops : List Operation) (recurring : Bool) (p : Place) (pairs : List Kv) (words : Words) → LacksNone (with_op_pairs ops recurring p pairs words)
op_pairs-none ops recurring p pairs [] = none-ok pairs
op_pairs-none ops recurring p pairs (word ∷ words) =
    none-step (with_op_pair ops recurring p pairs word) _ (op_pair-none ops recurring p pairs word) (λ more. op_pairs-none ops recurring p more words)

op_pair-filled : (ops : List Operation) (recurring : Bool) (p : Place) → with_op_pair ops recurring p [] a_pair ≡ Ok (pair_of_id ∷ [])
unfolding with_op_pair
op_pair-filled ops true p = rw (pair-filled p []) refl
op_pair-filled ops false p = rw (pair-filled p []) refl

op_pairs-filled : (ops : List Operation) (name : OpName) → op_pairs ops name (a_pair ∷ []) ≡ Ok (pair_of_id ∷ [])
op_pairs-filled ops name = then-ok _ _ (pair_of_id ∷ []) (op_pair-filled ops (is_monitor_name name && not (is_off (a_pair ∷ []))) (place.Operation name))

-- the words of a section without a pair
pub data BareWords : SectionWord → Words → Type 0 where
  no_pair : (section : SectionWord) → section ≢ Op → BareWords section []
  no_operation : BareWords Op []
  no_pair_of_it : (name : List ℕ) → BareWords Op (name ∷ [])

-- words behind which a section has its pair; they begin no section
pub record Filled {T : Type 0} (statement : Owner) (section : SectionWord) (words : Words) (read : Words → Result T ParseCause) : Type 0 where
  pub bare : BareWords section words
  pub fill : Words
  pub other : AllByRecursion LacksEnabled fill
  pub plain : (is_name : Bool) → cut_into_sections statement is_name fill ≡ (fill, [])
  pub made : T
  pub gives : read (words ++ fill) ≡ Ok made

module _ (statement : Owner) where
  pair-plain : (is_name : Bool) → cut_into_sections statement is_name (a_pair ∷ []) ≡ (a_pair ∷ [], [])
  unfolding section_of
  pair-plain true = refl
  pair-plain false = refl

  named-plain : (is_name : Bool) → cut_into_sections statement is_name (a_name ∷ a_pair ∷ []) ≡ (a_name ∷ a_pair ∷ [], [])
  unfolding section_of
  named-plain true = refl
  named-plain false = refl

  op_filled-case : (ops : List Operation) (word : List ℕ) (read : Result (List ℕ) ParseCause) → new_name ops word ≡ read → operation_of ops (word ∷ []) ≡ Err MissingWord
      → Filled statement Op (word ∷ []) (operation_of ops)
  unfolding operation_of
  op_filled-case ops word (Ok name) r e = record {
    bare = no_pair_of_it word;
    fill = a_pair ∷ [];
    other = lacks-enabled (a_pair ∷ []) refl;
    plain = pair-plain;
    made = record { name = name; pairs = pair_of_id ∷ [] };
    gives = then-ok (new_name ops word) _ name r ∙ then-ok (op_pairs ops (op_name name) (a_pair ∷ [])) _ (pair_of_id ∷ []) (op_pairs-filled ops (op_name name));
  }
  op_filled-case ops word (Err why) r e =
      let same : Err why ≡ Err MissingWord = sym (rw r refl) ∙ e in
      absurd (new_name-none ops word (r ∙ same-fault why MissingWord same))

  op-filled : (ops : List Operation) (words : Words) → operation_of ops words ≡ Err MissingWord → Filled statement Op words (operation_of ops)
  unfolding operation_of new_name
  op-filled ops [] e = record {
    bare = no_operation;
    fill = a_name ∷ a_pair ∷ [];
    other = lacks-enabled (a_name ∷ a_pair ∷ []) refl;
    plain = named-plain;
    made = record { name = a_name; pairs = pair_of_id ∷ [] };
    gives = then-ok (op_pairs ops (op_name a_name) (a_pair ∷ [])) _ (pair_of_id ∷ []) (op_pairs-filled ops (op_name a_name));
  }
  op-filled ops (word ∷ []) e = op_filled-case ops word (new_name ops word) refl e
  op-filled ops (word ∷ next ∷ words) e =
      absurd (none-step (new_name ops word) _ (new_name-none ops word) (λ name. none-step (op_pairs ops (op_name name) (next ∷ words)) _
      (op_pairs-none ops (is_monitor_name (op_name name) && not (is_off (next ∷ words))) (place.Operation (op_name name)) [] (next ∷ words)) (λ pairs e. cc)) e)

  pairs-filled : (p : Place) (section : SectionWord) → section ≢ Op → (pairs : List Kv) (make : List Kv → Sections) (words : Words)
      → (with_section p pairs words >>= (λ more. Ok (make more))) ≡ Err MissingWord
      → Filled statement section words (λ ws. with_section p pairs ws >>= (λ more. Ok (make more)))
  pairs-filled p section other pairs make [] e = record {
    bare = no_pair section other;
    fill = a_pair ∷ [];
    other = lacks-enabled (a_pair ∷ []) refl;
    plain = pair-plain;
    made = make (pairs ++ pair_of_id ∷ []);
    gives = then-ok (with_section p pairs (a_pair ∷ [])) _ (pairs ++ pair_of_id ∷ []) (section-filled p pairs);
  }
  pairs-filled p section other pairs make (word ∷ words) e = absurd (none-step (with_section p pairs (word ∷ words)) _ (section-none p pairs word words) (λ more e. cc) e)

  operation-filled : (before : Sections) (words : Words) (read : Result Operation ParseCause) → operation_of before.ops words ≡ read
      → (read >>= (λ operation. Ok (record before { ops = before.ops ++ operation ∷ [] }))) ≡ Err MissingWord
      → Filled statement Op words (λ ws. operation_of before.ops ws >>= (λ operation. Ok (record before { ops = before.ops ++ operation ∷ [] })))
  operation-filled before words (Ok operation) r e = cc
  operation-filled before words (Err why) r e =
      let f = op-filled before.ops words (r ∙ same-fault why MissingWord e) in
      record {
        bare = f.bare;
        fill = f.fill;
        other = f.other;
        plain = f.plain;
        made = record before { ops = before.ops ++ f.made ∷ [] };
        gives = then-ok (operation_of before.ops (words ++ f.fill)) _ f.made f.gives;
      }

  words-filled : (p : Place) (before : Sections) (section : SectionWord) (words : Words) → with_words p before section words ≡ Err MissingWord
      → Filled statement section words (with_words p before section)
  words-filled p before Attributes words e = pairs-filled p Attributes (λ e. cc) before.attributes (λ pairs. record before { attributes = pairs }) words e
  words-filled p before Params words e = pairs-filled p Params (λ e. cc) before.params (λ pairs. record before { params = pairs }) words e
  words-filled p before Meta words e = pairs-filled p Meta (λ e. cc) before.meta (λ pairs. record before { meta = pairs }) words e
  words-filled p before Utilization words e = pairs-filled p Utilization (λ e. cc) before.utilization (λ pairs. record before { utilization = pairs }) words e
  words-filled p before Operations words e = pairs-filled p Operations (λ e. cc) before.operations (λ pairs. record before { operations = pairs }) words e
  words-filled p before Op words e = operation-filled before words (operation_of before.ops words) refl e

  follow-case : (p : Place) (before : Sections) (section : SectionWord) (words : Words) (follows : Bool) → cond follows (with_words p before section words) (Err ExtraWord) ≡ Err MissingWord
      → Filled statement section words (λ ws. cond follows (with_words p before section ws) (Err ExtraWord))
  follow-case p before section words true e = words-filled p before section words e
  follow-case p before section words false e = cc

  pub part-filled : (before : Sections) (section : SectionWord) (words : Words) → with_part statement before (section, words) ≡ Err MissingWord
      → Filled statement section words (λ ws. with_part statement before (section, ws))
  unfolding with_part
  part-filled before section words e = follow-case (place_of statement section) before section words (may_follow statement before section) e
