-- The recurring monitors of a primitive that was read are few, and have different intervals.
use Rattle.std.proofs.Common.{arith, ◌≡◌, ◌≢◌, ◌<◌, ℕ, zero, suc, Bool, true, false, not, ◌&&◌, ◌||◌, cond, List, [], ◌∷◌, ◌++◌, length, filter, slice_index_or, Ok, Err, refl, sym, ap, ◌∙◌, subst, append-nil, nat_le}
use Rattle.std.specs.Prelude.{◌==◌}
use Rattle.std.specs.List.{list_any}
use Rattle.std.proofs.lemmas.Bool.{and_parts, eq-eqb, eqb-true, false≢true, leb-false, ltb-true, or_parts, not-true}
use Rattle.std.proofs.lemmas.List.{length-append}
use Rattle.std.proofs.lemmas.List.Concat.{flat_map-append}
use Rattle.std.proofs.lemmas.List.Quantifiers.{all_pairs_push}
use Rattle.lemmas.proofs.Members.{all_append}
use Rattle.crm_parse.specs.declared.fault.ParseCause.TheVariants.{RepeatedKey, Unsupported}
use Rattle.crm_parse.specs.declared.pair.Operation.{Operation}
use Rattle.crm_parse.specs.Keys.{when}
use Rattle.crm_parse.specs.Monitors.{MayStandTogether, recurring, recurring_in}
use Rattle.crm_parse.specs.Operations.{has_monitor_room, interval_of, operation_of, recurs}
use Rattle.crm_parse.proofs.Binds.{unless-ok, when-ok}
use Rattle.faults.proofs.Steps.{bind-ok}
use Rattle.crm_parse.proofs.OperationRoom.{Fits, operation-fits}
use Rattle.crm_parse.proofs.OperationWords.{KeptOps, op_words, with_operations}

-- what differs from each of some numbers
differs : (xs : List ℕ) (y : ℕ) → list_any (λ x. x == y) xs ≡ false → (k : ℕ) (d : ℕ) → k < length xs → slice_index_or xs k d ≢ y
differs [] y h k d l same = absurd (let f : ⊥ = omega (arith, l) in f)
differs (x ∷ xs) y h zero d l same =
    let (one, rest) = or_parts (x == y) (list_any (λ x. x == y) xs) h in
    false≢true (sym one ∙ eq-eqb x y same)
differs (x ∷ xs) y h (suc k) d l same =
    let (one, rest) = or_parts (x == y) (list_any (λ x. x == y) xs) h in
    differs xs y rest k d (omega (arith, l)) same

few-push : (xs : List ℕ) (x : ℕ) → MayStandTogether xs → length xs < 8 → 0 < x → list_any (λ y. y == x) xs ≡ false → MayStandTogether (xs ++ x ∷ [])
few-push xs x h few above new = record {
  few = omega (arith, length-append xs (x ∷ []), few);
  above = all_append (λ (y : ℕ). 0 < y) xs (x ∷ []) h.above (above, tt);
  apart = all_pairs_push (λ (one other : ℕ). one ≢ other) xs x h.apart (differs xs x new);
}

-- how many recur, and whether one of some interval does
many-case : (b : Bool) (op : Operation) (ops : List Operation) → length (filter recurs ops) ≡ length (recurring ops)
    → length (cond b (op ∷ filter recurs ops) (filter recurs ops)) ≡ length (cond b (interval_of op.pairs ∷ []) [] ++ recurring ops)
many-case true op ops h = ap suc h
many-case false op ops h = h

pub as-many : (ops : List Operation) → length (filter recurs ops) ≡ length (recurring ops)
as-many [] = refl
as-many (op ∷ ops) = many-case (recurs op) op ops (as-many ops)

any-case : (b : Bool) (i : ℕ) (op : Operation) (ops : List Operation)
    → list_any (λ op. recurs op && (interval_of op.pairs == i)) ops ≡ list_any (λ x. x == i) (recurring ops)
    → (b && (interval_of op.pairs == i)) || list_any (λ op. recurs op && (interval_of op.pairs == i)) ops
    ≡ list_any (λ x. x == i) (cond b (interval_of op.pairs ∷ []) [] ++ recurring ops)
any-case true i op ops h = ap (λ (r : Bool). (interval_of op.pairs == i) || r) h
any-case false i op ops h = h

pub as-any : (i : ℕ) (ops : List Operation) → list_any (λ op. recurs op && (interval_of op.pairs == i)) ops ≡ list_any (λ x. x == i) (recurring ops)
as-any i [] = refl
as-any i (op ∷ ops) = any-case (recurs op) i op ops (as-any i ops)

-- what room means for an interval above 0
record HasRoom (ops : List Operation) (i : ℕ) : Type 0 where
  few : length (recurring ops) < 8
  new : list_any (λ x. x == i) (recurring ops) ≡ false

room-case : (ops : List Operation) (i : ℕ) (none : Bool) → (i == 0) ≡ none → 0 < i
    → cond none (Ok tt) (cond (nat_le 8 (length (filter recurs ops))) (Err Unsupported)
    (when (not (list_any (λ op. recurs op && (interval_of op.pairs == i)) ops)) RepeatedKey)) ≡ Ok tt → HasRoom ops i
room-case ops i true z above e = let same = eqb-true i 0 z in absurd (let f : ⊥ = omega (arith, same, above) in f)
room-case ops i false z above e =
    let any = list_any (λ op. recurs op && (interval_of op.pairs == i)) ops in
    let (rest, few) = unless-ok (nat_le 8 (length (filter recurs ops))) (when (not any) RepeatedKey) tt Unsupported e in
    let less = leb-false 8 (length (filter recurs ops)) few in
    record {
      few = omega (arith, less, as-many ops);
      new = sym (as-any i ops) ∙ not-true any (when-ok (not any) RepeatedKey tt rest);
    }

room-parts : (ops : List Operation) (i : ℕ) → 0 < i → has_monitor_room ops i ≡ Ok tt → HasRoom ops i
room-parts ops i above e = room-case ops i (i == 0) refl above e

-- one more operation
more-case : (ops : List Operation) (op : Operation) (b : Bool) → recurs op ≡ b → MayStandTogether (recurring ops) → Fits ops op
    → MayStandTogether (recurring ops ++ cond b (interval_of op.pairs ∷ []) [])
more-case ops op true r h fits =
    let (first, last) = and_parts _ _ r in
    let above = ltb-true 0 (interval_of op.pairs) last in
    let room = room-parts ops (interval_of op.pairs) above (fits r) in
    few-push (recurring ops) (interval_of op.pairs) h room.few above room.new
more-case ops op false r h fits = subst MayStandTogether (sym (append-nil (recurring ops))) h

few-more : (ops : List Operation) (op : Operation) → MayStandTogether (recurring ops) → Fits ops op → MayStandTogether (recurring (ops ++ op ∷ []))
few-more ops op h fits =
    let same : recurring (ops ++ op ∷ []) ≡ recurring ops ++ recurring_in op =
    flat_map-append recurring_in ops (op ∷ []) ∙ ap (λ xs. recurring ops ++ xs) (append-nil (recurring_in op)) in
    subst MayStandTogether (sym same) (more-case ops op (recurs op) refl h fits)

few-operations : (before ops after : List Operation) → MayStandTogether (recurring before) → with_operations before ops ≡ Ok after → MayStandTogether (recurring after)
few-operations before [] after h e =
    let same : before ≡ after = cc in
    subst (λ os. MayStandTogether (recurring os)) same h
few-operations before (op ∷ ops) after h e =
    let (read, one, rest) = bind-ok (operation_of before (op_words op)) _ after e in
    few-operations (before ++ read ∷ []) ops after (few-more before read h (operation-fits before (op_words op) read one)) rest

none-few : MayStandTogether []
none-few = record { few = omega arith; above = tt; apart = λ i j d l within. absurd (omega (arith, within)) }

-- the recurring monitors of a primitive that was read
pub few-kept : (ops : List Operation) → KeptOps ops → MayStandTogether (recurring ops)
few-kept ops h = few-operations [] ops ops none-few h
