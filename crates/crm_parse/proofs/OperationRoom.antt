-- An operation that recurs has found room among those before it.
use Rattle.std.proofs.Common.{◌≡◌, ℕ, Bool, true, false, not, ◌&&◌, cond, List, [], ◌∷◌, ◌++◌, Option, Some, None, Ok, Err, refl, sym, ap, ◌∙◌, subst, append_assoc, append-nil}
use Rattle.std.specs.Prelude.{codes, find, unwrap_or, ◌==◌, length}
use Rattle.std.specs.List.{AllByRecursion}
use Rattle.std.specs.Option.{option_and_then, option_map, option_map_or}
use Rattle.std.proofs.lemmas.Bool.{and_parts, and_from}
use Rattle.crm_lex.specs.Names.{is}
use Rattle.crm_parse.specs.declared.fault.ParseCause.TheVariants.{RepeatedKey}
use Rattle.crm_parse.specs.declared.pair.Kv.{Kv}
use Rattle.crm_parse.specs.declared.pair.Operation.{Operation}
use Rattle.crm_parse.specs.declared.place.Place.{Place}
use Rattle.crm_parse.specs.declared.place.Place.TheVariants as place
use Rattle.crm_parse.specs.Keys.{accepts, is_monitor_name, stray}
use Rattle.crm_parse.specs.Operations.{has_monitor_room, interval_in, interval_of, is_off, new_name, op_name, op_pairs, operation_of, recurs, says_no, value_of, with_op_pair, with_op_pairs}
use Rattle.crm_parse.specs.Pairs.{kv_of, pair_of, repeats, with_pair}
use Rattle.crm_parse.specs.Reading.{Words}
use Rattle.crm_parse.specs.Texts.{cut_at}
use Rattle.crm_parse.specs.Values.{time_of}
use Rattle.crm_parse.proofs.Binds.{is-true, unless-ok}
use Rattle.faults.proofs.Steps.{bind-ok}
use Rattle.crm_parse.proofs.PairLists.{pair_words}
use Rattle.crm_parse.proofs.PairWords.{kv_of-word, pair_word}

-- the word of a pair is cut into its key, which isn't empty, and its value
pub record IsCut (kv : Kv) : Type 0 where
  pub cut : cut_at 61 (pair_word kv) ≡ Some (kv.key, kv.value)
  pub keyed : (length kv.key == 0) ≡ false

-- what a word was cut into
record CutInto (word : List ℕ) (parts : List ℕ × List ℕ) : Type 0 where
  cut : cut_at 61 word ≡ Some parts
  keyed : (length parts.0 == 0) ≡ false

cut-same : (word : List ℕ) (one other : List ℕ × List ℕ) → one ≡ other → CutInto word one → CutInto word other
cut-same word one other e h = rw e at h

pair-cut : (p : Place) (word : List ℕ) (found : Option (List ℕ × List ℕ)) (parts : List ℕ × List ℕ) → cut_at 61 word ≡ found → pair_of p word ≡ Ok parts
    → CutInto word parts
pair-cut p word None parts f e =
    let h : Err (stray p word) ≡ Ok parts = rw (f, pair_of) at e in
    cc
pair-cut p word (Some found) parts f e =
    let h : cond (length found.0 == 0) (Err (stray p word)) (Ok found) ≡ Ok parts = rw (f, pair_of) at e in
    let (same, some) = unless-ok (length found.0 == 0) (Ok found) parts (stray p word) h in
    cut-same word found parts (cc) (record { cut = f; keyed = some })

kv-same : (one other : Kv) → one ≡ other → IsCut one → IsCut other
kv-same one other e h = rw e at h

kv-cut : (p : Place) (word : List ℕ) (kv : Kv) → kv_of p word ≡ Ok kv → IsCut kv
unfolding kv_of
kv-cut p word kv e =
    let spelled = kv_of-word p word kv e in
    let (parts, cut, taken) = bind-ok (pair_of p word) _ kv e in
    let (done, is_taken, last) = bind-ok (accepts p parts.0 parts.1) _ kv taken in
    let made : Kv = record { key = parts.0; value = parts.1 } in
    let same : made ≡ kv = cc in
    let c = pair-cut p word (cut_at 61 word) parts refl cut in
    let whole : cut_at 61 (pair_word kv) ≡ Some (parts.0, parts.1) = ap (cut_at 61) (sym spelled) ∙ c.cut in
    let again : cut_at 61 (pair_word made) ≡ Some (parts.0, parts.1) = ap (λ (k : Kv). cut_at 61 (pair_word k)) same ∙ whole in
    kv-same made kv same (record { cut = again; keyed = c.keyed })

-- the interval that the word of one more pair says has room, where the operation recurs
abbrev Roomy : List Operation → Bool → List ℕ → Type 0
Roomy ops recurring word = has_monitor_room ops (cond recurring (interval_in word) 0) ≡ Ok tt

-- the pairs that were read of some words
record ReadsPairs (ops : List Operation) (recurring : Bool) (before : List Kv) (words : Words) (after : List Kv) : Type 0 where
  pairs : List Kv
  added : after ≡ before ++ pairs
  spelled : words ≡ pair_words pairs
  cut : AllByRecursion IsCut pairs
  room : AllByRecursion (Roomy ops recurring) words

-- one pair
record ReadsPair (ops : List Operation) (recurring : Bool) (before : List Kv) (word : List ℕ) (after : List Kv) : Type 0 where
  pair : Kv
  added : after ≡ before ++ pair ∷ []
  spelled : word ≡ pair_word pair
  cut : IsCut pair
  room : Roomy ops recurring word

reads-pair : (ops : List Operation) (recurring : Bool) (p : Place) (before : List Kv) (word : List ℕ) (after : List Kv)
    → with_op_pair ops recurring p before word ≡ Ok after → ReadsPair ops recurring before word after
unfolding with_op_pair with_pair
reads-pair ops recurring p before word after e =
    let (more, one, rest) = bind-ok (with_pair p before word) _ after e in
    let (room, has_place, last) = bind-ok (has_monitor_room ops (cond recurring (interval_in word) 0)) _ after rest in
    let same : more ≡ after = cc in
    let (pair, is_pair, added) = bind-ok (kv_of p word) _ more one in
    let (joined, new) = unless-ok (repeats p before pair.key) (Ok (before ++ pair ∷ [])) more RepeatedKey added in
    let whole : after ≡ before ++ pair ∷ [] = cc in
    record { pair = pair; added = whole; spelled = kv_of-word p word pair is_pair; cut = kv-cut p word pair is_pair; room = has_place }

reads-more : (ops : List Operation) (recurring : Bool) (before between after : List Kv) (word : List ℕ) (words : Words)
    → ReadsPair ops recurring before word between → ReadsPairs ops recurring between words after → ReadsPairs ops recurring before (word ∷ words) after
reads-more ops recurring before between after word words one all = record {
  pairs = one.pair ∷ all.pairs;
  added = all.added ∙ (ap (λ ps. ps ++ all.pairs) one.added ∙ append_assoc before (one.pair ∷ []) all.pairs);
  spelled = ap (λ w. w ∷ words) one.spelled ∙ ap (λ ws. pair_word one.pair ∷ ws) all.spelled;
  cut = (one.cut, all.cut);
  room = (one.room, all.room);
}

reads-none : (ops : List Operation) (recurring : Bool) (before : List Kv) → ReadsPairs ops recurring before [] before
reads-none ops recurring before = record { pairs = []; added = sym (append-nil before); spelled = refl; cut = tt; room = tt }

reads-pairs : (ops : List Operation) (recurring : Bool) (p : Place) (before : List Kv) (words : Words) (after : List Kv)
    → with_op_pairs ops recurring p before words ≡ Ok after → ReadsPairs ops recurring before words after
reads-pairs ops recurring p before [] after e =
    let same : before ≡ after = cc in
    subst (λ ps. ReadsPairs ops recurring before [] ps) same (reads-none ops recurring before)
reads-pairs ops recurring p before (word ∷ words) after e =
    let (between, one, rest) = bind-ok (with_op_pair ops recurring p before word) _ after e in
    reads-more ops recurring before between after word words (reads-pair ops recurring p before word between one)
    (reads-pairs ops recurring p between words after rest)

-- the words of some pairs switch an operation off where its pairs do
off-case : (b off : Bool) (kv : Kv) (found : Option Kv) → off ≡ option_map_or says_no (option_map (λ pair. pair.value) found) false
    → cond b (says_no kv.value) off ≡ option_map_or says_no (option_map (λ pair. pair.value) (cond b (Some kv) found)) false
off-case true off kv found h = refl
off-case false off kv found h = h

off-word : (kv : Kv) (words : Words) → IsCut kv
    → is_off (pair_word kv ∷ words) ≡ cond (is kv.key (codes "enabled")) (says_no kv.value) (is_off words)
off-word kv words h =
    let test : List ℕ × List ℕ → Bool = λ pair. cond (is pair.0 (codes "enabled")) (says_no pair.1) (is_off words) in
    ap (λ (found : Option (List ℕ × List ℕ)). elim found [ None ↦ false | Some pair ↦ cond (length pair.0 == 0) false (test pair) ]) h.cut
    ∙ ap (λ (b : Bool). cond b false (test (kv.key, kv.value))) h.keyed

off-pairs : (pairs : List Kv) → AllByRecursion IsCut pairs → is_off (pair_words pairs) ≡ option_map_or says_no (value_of (codes "enabled") pairs) false
off-pairs [] h = refl
off-pairs (kv ∷ pairs) h =
    off-word kv (pair_words pairs) h.0
    ∙ off-case (is kv.key (codes "enabled")) (is_off (pair_words pairs)) kv (find (λ pair. is pair.key (codes "enabled")) pairs) (off-pairs pairs h.1)

-- where the interval of each word has room, that of the pairs has
room-case : (ops : List Operation) (b : Bool) (kv : Kv) (found : Option Kv)
    → (b ≡ true → has_monitor_room ops (unwrap_or (time_of kv.value) 0) ≡ Ok tt)
    → has_monitor_room ops (unwrap_or (option_and_then time_of (option_map (λ pair. pair.value) found)) 0) ≡ Ok tt
    → has_monitor_room ops (unwrap_or (option_and_then time_of (option_map (λ pair. pair.value) (cond b (Some kv) found))) 0) ≡ Ok tt
room-case ops true kv found here next = here refl
room-case ops false kv found here next = next

interval-word : (kv : Kv) → is kv.key (codes "interval") ≡ true → interval_in (pair_word kv) ≡ unwrap_or (time_of kv.value) 0
interval-word kv e =
    let key : kv.key ≡ codes "interval" = is-true kv.key (codes "interval") e in
    let word : pair_word kv ≡ codes "interval=" ++ kv.value = ap (λ (k : List ℕ). k ++ 61 ∷ kv.value) key in
    rw word refl

room-pairs : (ops : List Operation) (pairs : List Kv) → AllByRecursion (Roomy ops true) (pair_words pairs) → has_monitor_room ops (interval_of pairs) ≡ Ok tt
room-pairs ops [] h = refl
room-pairs ops (kv ∷ pairs) h =
    room-case ops (is kv.key (codes "interval")) kv (find (λ pair. is pair.key (codes "interval")) pairs) (λ e. subst (λ n. has_monitor_room ops n ≡ Ok tt) (interval-word kv e) h.0) (room-pairs ops pairs h.1)

-- an operation that recurs finds room
abbrev pub Fits : List Operation → Operation → Type 0
Fits ops op = recurs op ≡ true → has_monitor_room ops (interval_of op.pairs) ≡ Ok tt

fits-same : (ops : List Operation) (one other : Operation) → one ≡ other → Fits ops one → Fits ops other
fits-same ops one other e h = rw e at h

monitor-name : (name : List ℕ) → is name (codes "monitor") ≡ true → is_monitor_name (op_name name) ≡ true
monitor-name name e = subst (λ n. is_monitor_name (op_name n) ≡ true) (sym (is-true name (codes "monitor") e)) refl

roomy-same : (ops : List Operation) (b : Bool) (words : Words) → b ≡ true → AllByRecursion (Roomy ops b) words → AllByRecursion (Roomy ops true) words
roomy-same ops b words e h = rw e at h

pairs-fit : (ops : List Operation) (name : List ℕ) (words : Words) (pairs : List Kv)
    → ReadsPairs ops (is_monitor_name (op_name name) && not (is_off words)) [] words pairs → Fits ops (record { name = name; pairs = pairs })
pairs-fit ops name words pairs r t =
    let (switched, above) = and_parts _ _ t in
    let (named, on) = and_parts _ _ switched in
    let off : is_off words ≡ option_map_or says_no (value_of (codes "enabled") pairs) false =
    ap is_off r.spelled ∙ (off-pairs r.pairs r.cut ∙ ap (λ ps. option_map_or says_no (value_of (codes "enabled") ps) false) (sym r.added)) in
    let recurring : is_monitor_name (op_name name) && not (is_off words) ≡ true =
    and_from (is_monitor_name (op_name name)) (not (is_off words)) (monitor-name name named) (ap not off ∙ on) in
    let spelled : words ≡ pair_words pairs = r.spelled ∙ ap pair_words (sym r.added) in
    room-pairs ops pairs (subst (AllByRecursion (Roomy ops true)) spelled (roomy-same ops _ words recurring r.room))

op_pairs-fit : (ops : List Operation) (name : List ℕ) (words : Words) (pairs : List Kv) → op_pairs ops (op_name name) words ≡ Ok pairs
    → Fits ops (record { name = name; pairs = pairs })
op_pairs-fit ops name [] pairs e = cc
op_pairs-fit ops name (word ∷ words) pairs e =
    pairs-fit ops name (word ∷ words) pairs
    (reads-pairs ops (is_monitor_name (op_name name) && not (is_off (word ∷ words))) (place.Operation (op_name name)) [] (word ∷ words) pairs e)

-- what was read of some words fits
pub operation-fits : (ops : List Operation) (words : Words) (op : Operation) → operation_of ops words ≡ Ok op → Fits ops op
unfolding operation_of
operation-fits ops [] op e = cc
operation-fits ops (word ∷ words) op e =
    let (name, is_one, rest) = bind-ok (new_name ops word) _ op e in
    let (pairs, are, last) = bind-ok (op_pairs ops (op_name name) words) _ op rest in
    let made : Operation = record { name = name; pairs = pairs } in
    let same : made ≡ op = cc in
    fits-same ops made op same (op_pairs-fit ops name words pairs are)
