-- A recurring monitor that may stand beside the others finds room behind them.
use Rattle.std.proofs.Common.{arith, ◌≡◌, ◌≢◌, inl, inr, ◌<◌, nat_le, ◌==◌, ◌&&◌, not, ℕ, zero, suc, Bool, true, false, cond, List, [], ◌∷◌, ◌++◌, length, filter, slice_index_or, Option, Some, None, Ok, Err, refl, sym, ap, ◌∙◌, subst, append-nil}
use Rattle.std.specs.Prelude.{codes, find, unwrap_or}
use Rattle.std.specs.List.{AllByRecursion, list_any}
use Rattle.std.specs.Option.{option_map, option_map_or}
use Rattle.std.proofs.Math.Seq.{get_or-append_seam}
use Rattle.std.proofs.lemmas.Bool.{and_from, and_parts, false_from_ne_true, false≢true, lt-ltb, ne_eqb, or_from, or_left}
use Rattle.std.proofs.lemmas.Bool.Decides.{nat_tests}
use Rattle.std.proofs.lemmas.Grind.{flat_map-append}
use Rattle.std.proofs.lemmas.List.{length-append}
use Rattle.crm_lex.specs.Names.{is}
use Rattle.crm_parse.specs.declared.fault.ParseCause.TheVariants.{RepeatedKey, Unsupported}
use Rattle.crm_parse.specs.declared.pair.Kv.{Kv}
use Rattle.crm_parse.specs.declared.pair.Operation.{Operation}
use Rattle.crm_parse.specs.declared.place.OpName.TheVariants as op
use Rattle.crm_parse.specs.declared.place.Place.{Place}
use Rattle.crm_parse.specs.Keys.{is_monitor_name, when}
use Rattle.crm_parse.specs.Monitors.{MayStandTogether, recurring, recurring_in}
use Rattle.crm_parse.specs.Operations.{has_monitor_room, interval_in, interval_of, is_off, op_name, recurs, says_no, value_of}
use Rattle.crm_parse.specs.Texts.{after, cut_at}
use Rattle.crm_parse.specs.Values.{time_of}
use Rattle.crm_parse.proofs.Binds.{is-same, is-true}
use Rattle.crm_parse.proofs.OperationRoom.{IsCut}
use Rattle.crm_parse.proofs.PairLists.{pair_words}
use Rattle.crm_parse.proofs.PairWords.{pair_word}
use Rattle.crm_parse.proofs.Affixes.{after-some, none_by}
use Rattle.crm_parse.proofs.PairsAgain.{cut_at-again}
use Rattle.crm_parse.specs.Grammar.Phrases.{EachSays, no_word, one_word}
use Rattle.crm_parse.specs.Grammar.Parts.{EachTwo, MayStandBoth, PairSays, a_pair}
use Rattle.crm_parse.proofs.Grammar.PairsRelated.{key-filled}
use Rattle.crm_parse.proofs.Grammar.SectionsAreRead.{in-front}
use Rattle.crm_parse.proofs.FewMonitors.{as-many, as-any}

-- the words of pairs are cut into them
pair-cut : (p : Place) (word : List ℕ) (kv : Kv) → PairSays p word kv → IsCut kv
pair-cut p w k (a_pair key value some lacks taken) = record { cut = cut_at-again 61 key value lacks; keyed = key-filled key some }

pub pairs-cut : (p : Place) (words : List (List ℕ)) (kvs : List Kv) → EachSays (PairSays p) words kvs → AllByRecursion IsCut kvs
pairs-cut p ws ks no_word = tt
pairs-cut p ws ks (one_word word kv words kvs s more) = (pair-cut p word kv s, pairs-cut p words kvs more)

-- pairs switch an operation off by the first of the key
off-case : (b off : Bool) (kv : Kv) (found : Option Kv) → off ≡ option_map_or says_no (option_map (λ pair. pair.value) found) false
    → cond b (says_no kv.value) off ≡ option_map_or says_no (option_map (λ pair. pair.value) (cond b (Some kv) found)) false
off-case true off kv found h = refl
off-case false off kv found h = h

pub pairs-off : (pairs : List Kv) → AllByRecursion IsCut pairs → is_off (pair_words pairs) ≡ option_map_or says_no (value_of (codes "enabled") pairs) false
pairs-off [] h = refl
pairs-off (kv ∷ pairs) h = rw (is_off, h.0.cut, h.0.keyed)
    (off-case (is kv.key (codes "enabled")) (is_off (pair_words pairs)) kv (find (λ pair. is pair.key (codes "enabled")) pairs) (pairs-off pairs h.1))

-- the word of an interval
interval-said : (kv : Kv) → is kv.key (codes "interval") ≡ true → interval_in (pair_word kv) ≡ unwrap_or (time_of kv.value) 0
interval-said kv e =
    let key : kv.key ≡ codes "interval" = is-true kv.key (codes "interval") e in
    let word : pair_word kv ≡ codes "interval=" ++ kv.value = ap (λ (k : List ℕ). k ++ 61 ∷ kv.value) key in
    rw word refl

first-same : (one other : List ℕ × List ℕ) → Some one ≡ Some other → one.0 ≡ other.0
first-same one other e = ap (λ (o : Option (List ℕ × List ℕ)). elim o [ None ↦ one.0 | Some p ↦ p.0 ]) e

no_interval : (kv : Kv) → IsCut kv → is kv.key (codes "interval") ≡ false → after (codes "interval=") (pair_word kv) ≡ None
no_interval kv h no_key = none_by _ (λ rest e.
    let w : pair_word kv ≡ codes "interval=" ++ rest = after-some (codes "interval=") (pair_word kv) rest e in
    let a : Some (kv.key, kv.value) ≡ Some (codes "interval", rest) = sym h.cut ∙ (ap (cut_at 61) w ∙ cut_at-again 61 (codes "interval") rest refl) in
    let key : kv.key ≡ codes "interval" = first-same (kv.key, kv.value) (codes "interval", rest) a in
    false≢true (sym no_key ∙ (ap (λ k. is k (codes "interval")) key ∙ is-same (codes "interval"))))

-- of the pairs of a key there is one
both-hold : {A : Type 0} (P Q R : A → Type 0) (xs : List A) → ((x : A) → P x → Q x → R x) → AllByRecursion P xs → AllByRecursion Q xs → AllByRecursion R xs
both-hold P Q R [] f h k = tt
both-hold P Q R (x ∷ xs) f h k = (f x h.0 k.0, both-hold P Q R xs f h.1 k.1)

abbrev finds : List Kv → Option Kv
finds pairs = find (λ pair. is pair.key (codes "interval")) pairs

not-both : (p : Place) (one other : Kv) → MayStandBoth p one other → is other.key (codes "interval") ≡ true → is one.key (codes "interval") ≡ false
not-both p one other (inl e) o = absurd (false≢true (ap (λ k. is k (codes "interval")) (sym e) ∙ o))
not-both p one other (inr h) o = false_from_ne_true _ (λ e.
    let same : one.key ≡ other.key = is-true one.key (codes "interval") e ∙ sym (is-true other.key (codes "interval") o) in
    let one_key : is one.key other.key ≡ true = ap (λ k. is one.key k) (sym same) ∙ is-same one.key in
    false≢true (sym h ∙ or_left _ _ one_key))

found-behind : (p : Place) (one other : Kv) (rest : List Kv) → MayStandBoth p one other → (is other.key (codes "interval") ≡ true → finds rest ≡ Some other)
    → is other.key (codes "interval") ≡ true → finds (one ∷ rest) ≡ Some other
found-behind p one other rest may h e = rw (not-both p one other may e) (h e)

firsts : (p : Place) (pairs : List Kv) → EachTwo (MayStandBoth p) pairs
    → AllByRecursion (λ kv. is kv.key (codes "interval") ≡ true → finds pairs ≡ Some kv) pairs
firsts p [] two = tt
firsts p (kv ∷ rest) two =
    ((λ e. rw e refl), both-hold _ _ _ rest (λ other may h. found-behind p kv other rest may h) two.0 (firsts p rest two.1))

-- an interval that differs from each of some
none-equal : (xs : List ℕ) (i : ℕ) → ((k d : ℕ) → k < length xs → slice_index_or xs k d ≢ i) → list_any (λ x. x == i) xs ≡ false
none-equal [] i h = refl
none-equal (x ∷ xs) i h = or_from _ _ (ne_eqb x i (h zero 0 (omega arith))) (none-equal xs i (λ k d l. h (suc k) d (omega (arith, l))))

last-apart : (xs : List ℕ) (i : ℕ) → MayStandTogether (xs ++ i ∷ []) → (k d : ℕ) → k < length xs → slice_index_or xs k d ≢ i
last-apart xs i h k d l same =
    h.apart k (length xs) d l (omega (arith, length-append xs (i ∷ [])))
    (in-front xs (i ∷ []) k d l ∙ (same ∙ sym (get_or-append_seam xs i [] d)))

room-case : (ops : List Operation) (i : ℕ) (none : Bool) → (i == 0) ≡ none → (0 < i → MayStandTogether (recurring ops ++ i ∷ []))
    → cond none (Ok tt) (cond (nat_le 8 (length (filter recurs ops))) (Err Unsupported)
    (when (not (list_any (λ o. recurs o && (interval_of o.pairs == i)) ops)) RepeatedKey)) ≡ Ok tt
room-case ops i true z h = refl
room-case ops i false z h =
    let above : 0 < i = grind (arith, nat_tests) in
    let few = h above in
    let n = few.few in
    let less : nat_le 8 (length (filter recurs ops)) ≡ false = grind (arith, nat_tests, as-many ops, length-append (recurring ops) (i ∷ []), n) in
    let new : list_any (λ o. recurs o && (interval_of o.pairs == i)) ops ≡ false = as-any i ops ∙ none-equal (recurring ops) i (last-apart (recurring ops) i few) in
    rw (less, new) refl

pub room : (ops : List Operation) (i : ℕ) → (0 < i → MayStandTogether (recurring ops ++ i ∷ [])) → has_monitor_room ops i ≡ Ok tt
room ops i h = room-case ops i (i == 0) refl h

-- the words of the pairs of a recurring operation find room
abbrev pub Roomy : List Operation → Bool → List ℕ → Type 0
Roomy ops on word = has_monitor_room ops (cond on (interval_in word) 0) ≡ Ok tt

word-case : (ops : List Operation) (i : ℕ) (kv : Kv) (b : Bool) → is kv.key (codes "interval") ≡ b → IsCut kv
    → (is kv.key (codes "interval") ≡ true → unwrap_or (time_of kv.value) 0 ≡ i) → has_monitor_room ops i ≡ Ok tt → Roomy ops true (pair_word kv)
word-case ops i kv true e cut h r = subst (λ n. has_monitor_room ops n ≡ Ok tt) (sym (h e) ∙ sym (interval-said kv e)) r
word-case ops i kv false e cut h r = rw (no_interval kv cut e) refl

words-room : (ops : List Operation) (i : ℕ) (kvs : List Kv) → AllByRecursion IsCut kvs
    → AllByRecursion (λ kv. is kv.key (codes "interval") ≡ true → unwrap_or (time_of kv.value) 0 ≡ i) kvs → has_monitor_room ops i ≡ Ok tt
    → AllByRecursion (Roomy ops true) (pair_words kvs)
words-room ops i [] cut h r = tt
words-room ops i (kv ∷ kvs) cut h r = (word-case ops i kv (is kv.key (codes "interval")) refl cut.0 h.0 r, words-room ops i kvs cut.1 h.1 r)

interval-is : (pairs : List Kv) (kv : Kv) → finds pairs ≡ Some kv → unwrap_or (time_of kv.value) 0 ≡ interval_of pairs
interval-is pairs kv e = rw e refl

map-all : {A : Type 0} (P Q : A → Type 0) (xs : List A) → ((x : A) → P x → Q x) → AllByRecursion P xs → AllByRecursion Q xs
map-all P Q [] f h = tt
map-all P Q (x ∷ xs) f h = (f x h.0, map-all P Q xs f h.1)

-- a monitor's name
monitor-case : (name : List ℕ) (a b c d e : Bool) → is_monitor_name (cond a op.Start (cond b op.Stop (cond c op.Promote (cond d op.Demote (cond e op.Monitor op.Other))))) ≡ true
    → is name (codes "monitor") ≡ e → is name (codes "monitor") ≡ true
monitor-case name true b c d e m s = cc
monitor-case name false true c d e m s = cc
monitor-case name false false true d e m s = cc
monitor-case name false false false true e m s = cc
monitor-case name false false false false true m s = s
monitor-case name false false false false false m s = cc

monitor-is : (name : List ℕ) → is_monitor_name (op_name name) ≡ true → is name (codes "monitor") ≡ true
monitor-is name m =
    monitor-case name (is name (codes "start")) (is name (codes "stop")) (is name (codes "promote")) (is name (codes "demote")) (is name (codes "monitor")) m refl

no_room-needed : (ops : List Operation) (words : List (List ℕ)) → AllByRecursion (Roomy ops false) words
no_room-needed ops [] = tt
no_room-needed ops (word ∷ words) = (refl, no_room-needed ops words)

on-case : (ops : List Operation) (p : Place) (name : List ℕ) (pairs : List Kv) (on : Bool) → is_monitor_name (op_name name) && not (is_off (pair_words pairs)) ≡ on
    → AllByRecursion IsCut pairs → EachTwo (MayStandBoth p) pairs → MayStandTogether (recurring (ops ++ record { name = name; pairs = pairs } ∷ []))
    → AllByRecursion (Roomy ops on) (pair_words pairs)
on-case ops p name pairs false e cut two few = no_room-needed ops (pair_words pairs)
on-case ops p name pairs true e cut two few =
    let (monitor, on) = and_parts _ _ e in
    let made : Operation = record { name = name; pairs = pairs } in
    let not_off : not (option_map_or says_no (value_of (codes "enabled") pairs) false) ≡ true = ap not (sym (pairs-off pairs cut)) ∙ on in
    let has_room : has_monitor_room ops (interval_of pairs) ≡ Ok tt = room ops (interval_of pairs) (λ above.
    let recurs_is : recurs made ≡ true = and_from _ _ (and_from _ _ (monitor-is name monitor) not_off) (lt-ltb 0 (interval_of pairs) above) in
    let one : recurring_in made ≡ interval_of pairs ∷ [] = rw recurs_is refl in
    subst MayStandTogether (flat_map-append recurring_in ops (made ∷ []) ∙ ap (λ xs. recurring ops ++ xs) (append-nil (recurring_in made) ∙ one)) few) in
    words-room ops (interval_of pairs) pairs cut (map-all _ _ pairs (λ kv h key. interval-is pairs kv (h key)) (firsts p pairs two)) has_room

pub rooms : (ops : List Operation) (p : Place) (name : List ℕ) (pairs : List Kv) → AllByRecursion IsCut pairs → EachTwo (MayStandBoth p) pairs
    → MayStandTogether (recurring (ops ++ record { name = name; pairs = pairs } ∷ []))
    → AllByRecursion (Roomy ops (is_monitor_name (op_name name) && not (is_off (pair_words pairs)))) (pair_words pairs)
rooms ops p name pairs cut two few = on-case ops p name pairs (is_monitor_name (op_name name) && not (is_off (pair_words pairs))) refl cut two few
