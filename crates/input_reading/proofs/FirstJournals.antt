-- What holds of the first journal of a status.
use Rattle.std.proofs.Common.{◌≡◌, ℕ, ◌+◌, ◌<◌, ◌^◌, zero, suc, Bool, true, false, not, ◌&&◌, ◌||◌, if◌then◌else◌, List, [], ◌∷◌, ◌++◌, length, map, get_or, AllPairs, refl, ap, ◌∙◌, arith}
use Rattle.std.specs.List.{enumerate_from, filter_map, flat_map, list_all, list_any, range_with_len}
use Rattle.std.proofs.lemmas.Bool.Decides.{nat_tests}
use Rattle.std.proofs.lemmas.List.Folds.{list_any-append}
use Rattle.std.proofs.lemmas.List.Sums.{sum_by-append}
use Rattle.std.proofs.lemmas.Bool.{and_from, or_parts}
use Rattle.lemmas.proofs.Booleans.{sooner, later, denied_first}
use Rattle.cluster_types.specs.declared.cluster.Cluster.{Cluster}
use Rattle.cluster_types.specs.declared.journal.Event.{Event}
use Rattle.cluster_types.specs.declared.journal.Event.TheVariants.{Up, Down, Lost, Quorum, Wait, Cleanup, Ended}
use Rattle.cluster_types.specs.declared.journal.Promotion.{Promotion}
use Rattle.cluster_types.specs.Journals as journals
use Rattle.cluster_types.specs.Journals.{NodeSaid, Orderly, first_events, in_flight_by_begin, is_history_event, leaving, moment_of, seconds_of}
use Rattle.cluster_types.proofs.JournalLaws.{in-order, nothing-in-flight}
use Rattle.input_reading.specs.declared.status.line_meaning.Fact.{Fact}
use Rattle.input_reading.specs.declared.status.line_meaning.Fact.TheVariants as told
use Rattle.input_reading.specs.FirstJournal.{events_of, history_of, is_again, is_repeated, is_promotion_of_same_cell, now_of, promotion_in, quorum_of, word_of}
use Rattle.input_reading.specs.Inner.FirstJournal.{all_differ, is_known}

-- one more line
pub one_more_known : (nodes : ℕ) (before : List Fact) (one : Fact) → list_all (is_known nodes) before ≡ true → is_known nodes one ≡ true
    → list_all (is_known nodes) (before ++ one ∷ []) ≡ true
one_more_known nodes [] one h k = and_from (is_known nodes one) true k refl
one_more_known nodes (x ∷ before) one h k =
    and_from (is_known nodes x) (list_all (is_known nodes) (before ++ one ∷ [])) (sooner (is_known nodes x) _ h) (one_more_known nodes before one (later (is_known nodes x) _ h) k)

any_last : (a b c : Bool) → not a ≡ true → b ≡ false → c ≡ a || (b || false) → not c ≡ true
any_last a b c h k e = let f : a ≡ false = denied_first a true (and_from (not a) true h refl) in let g : a || (b || false) ≡ false = rw (f, k) refl in let r : c ≡ false = e ∙ g in rw r refl

pub one_more_differs : (before : List Fact) (one : Fact) → all_differ before ≡ true → is_repeated before one ≡ false
    → all_differ (before ++ one ∷ []) ≡ true
one_more_differs [] one h k = refl
one_more_differs (x ∷ before) one h k =
    let now = or_parts (is_again x one) (is_repeated before one) k in
    and_from (not (list_any (is_again x) (before ++ one ∷ []))) (all_differ (before ++ one ∷ []))
    (any_last (list_any (is_again x) before) (is_again x one) (list_any (is_again x) (before ++ one ∷ []))
    (sooner (not (list_any (is_again x) before)) _ h) now.0 (list_any-append (is_again x) before (one ∷ [])))
    (one_more_differs before one (later (not (list_any (is_again x) before)) _ h) now.1)

-- the history is what a status tells
history_reported : (nodes : ℕ) (lines : List Fact) → list_all (is_known nodes) lines ≡ true → list_all (is_history_event nodes) (history_of lines) ≡ true
history_reported nodes [] h = refl
history_reported nodes (told.Now seconds ∷ lines) h = history_reported nodes lines (later (is_known nodes (told.Now seconds)) _ h)
history_reported nodes (told.Quorum now ∷ lines) h = history_reported nodes lines h
history_reported nodes (told.Node node word ∷ lines) h = history_reported nodes lines h
history_reported nodes (told.Past event ∷ lines) h =
    and_from (is_history_event nodes event) _ (sooner (is_history_event nodes event) _ h) (history_reported nodes lines (later (is_history_event nodes event) _ h))
history_reported nodes (told.Promoting promotion ∷ lines) h = history_reported nodes lines h

-- the moment that is said is below 2^40
now_small : (nodes : ℕ) (lines : List Fact) → list_all (is_known nodes) lines ≡ true → now_of lines < 2 ^ 40
now_small nodes [] h = omega arith
now_small nodes (told.Now seconds ∷ lines) h = grind (arith, nat_tests)
now_small nodes (told.Quorum now ∷ lines) h = now_small nodes lines h
now_small nodes (told.Node node word ∷ lines) h = now_small nodes lines h
now_small nodes (told.Past event ∷ lines) h = now_small nodes lines (later (is_history_event nodes event) _ h)
now_small nodes (told.Promoting promotion ∷ lines) h = now_small nodes lines h

-- only the last wait takes time
joins_wait : (ns : List ℕ) → moment_of (map Up ns) ≡ 0
joins_wait [] = refl
joins_wait (n ∷ ns) = joins_wait ns

history_waits : (nodes : ℕ) (es : List Event) → list_all (is_history_event nodes) es ≡ true → moment_of es ≡ 0
history_waits nodes [] h = refl
history_waits nodes (Ended k a o m ∷ es) h = history_waits nodes es (later (is_history_event nodes (Ended k a o m)) _ h)
history_waits nodes (Cleanup r n ∷ es) h = history_waits nodes es (later (is_history_event nodes (Cleanup r n)) _ h)
history_waits nodes (e ∷ es) h = cc

unsaid_waits : (b : Bool) (n : ℕ) → moment_of (if b then Lost n ∷ [] else Down n ∷ []) ≡ 0
unsaid_waits true n = refl
unsaid_waits false n = refl

leaving_waits : (c : Cluster) (n : ℕ) (word : NodeSaid) → moment_of (leaving c (n, word)) ≡ 0
leaving_waits c n journals.online = refl
leaving_waits c n journals.offline = refl
leaving_waits c n journals.unclean = refl
leaving_waits c n journals.unsaid = unsaid_waits (c.properties.fencing && c.properties.startup_fencing) n

none_waits : (xs ys : List Event) → moment_of xs ≡ 0 → moment_of ys ≡ 0 → moment_of (xs ++ ys) ≡ 0
none_waits xs ys h k = sum_by-append seconds_of xs ys ∙ omega arith

leavings_wait : (c : Cluster) (n : ℕ) (words : List NodeSaid) → moment_of (flat_map (leaving c) (enumerate_from n words)) ≡ 0
leavings_wait c n [] = refl
leavings_wait c n (word ∷ words) = none_waits (leaving c (n, word)) _ (leaving_waits c n word) (leavings_wait c (n + 1) words)

moment_is_now : (c : Cluster) (history : List Event) (words : List NodeSaid) (quorum : Bool) (now : ℕ)
    → list_all (is_history_event (length c.nodes)) history ≡ true → moment_of (first_events c history words quorum now) ≡ now
moment_is_now c history words quorum now h =
    let joins = map Up (range_with_len 0 (length c.nodes)) in
    let leaves = flat_map (leaving c) (enumerate_from 0 words) in
    let last = Quorum quorum ∷ Wait now ∷ [] in
    let before : moment_of (joins ++ history ++ leaves) ≡ 0 =
    none_waits (joins ++ history) leaves (none_waits joins history (joins_wait (range_with_len 0 (length c.nodes))) (history_waits (length c.nodes) history h)) (leavings_wait c 0 words) in
    let ends : moment_of last ≡ 0 + now = refl in
    sum_by-append seconds_of (joins ++ history ++ leaves) last ∙ omega arith

-- the first journal is in order, has nothing in flight, and ends at the moment that is said
pub journal_in_order : (c : Cluster) (lines : List Fact) → list_all (is_known (length c.nodes)) lines ≡ true → Orderly (events_of c lines)
journal_in_order c lines h = in-order c (history_of lines) (map (word_of lines) (range_with_len 0 (length c.nodes))) (quorum_of lines) (now_of lines) (history_reported (length c.nodes) lines h)

pub journal_is_idle : (c : Cluster) (lines : List Fact) → list_all (is_known (length c.nodes)) lines ≡ true → in_flight_by_begin (events_of c lines) ≡ []
journal_is_idle c lines h = nothing-in-flight c (history_of lines) (map (word_of lines) (range_with_len 0 (length c.nodes))) (quorum_of lines) (now_of lines) (history_reported (length c.nodes) lines h)

pub journal_moment : (c : Cluster) (lines : List Fact) → list_all (is_known (length c.nodes)) lines ≡ true → moment_of (events_of c lines) < 2 ^ 40
journal_moment c lines h =
    let small = now_small (length c.nodes) lines h in
    let same = moment_is_now c (history_of lines) (map (word_of lines) (range_with_len 0 (length c.nodes))) (quorum_of lines) (now_of lines) (history_reported (length c.nodes) lines h) in
    omega arith

-- no cell has two promotion scores
abbrev cells_differ : List Promotion → Bool
cells_differ [] = true
cells_differ (p ∷ ps) = not (list_any (is_promotion_of_same_cell p) ps) && cells_differ ps

same_of_cell : (p : Promotion) (lines : List Fact) → list_any (is_promotion_of_same_cell p) (filter_map promotion_in lines) ≡ list_any (is_again (told.Promoting p)) lines
same_of_cell p [] = refl
same_of_cell p (told.Now seconds ∷ lines) = same_of_cell p lines
same_of_cell p (told.Quorum now ∷ lines) = same_of_cell p lines
same_of_cell p (told.Node node word ∷ lines) = same_of_cell p lines
same_of_cell p (told.Past event ∷ lines) = same_of_cell p lines
same_of_cell p (told.Promoting q ∷ lines) = ap (λ b. is_promotion_of_same_cell p q || b) (same_of_cell p lines)

cells_of : (lines : List Fact) → all_differ lines ≡ true → cells_differ (filter_map promotion_in lines) ≡ true
cells_of [] h = refl
cells_of (told.Now seconds ∷ lines) h = cells_of lines (later (not (list_any (is_again (told.Now seconds)) lines)) _ h)
cells_of (told.Quorum now ∷ lines) h = cells_of lines (later (not (list_any (is_again (told.Quorum now)) lines)) _ h)
cells_of (told.Node node word ∷ lines) h = cells_of lines (later (not (list_any (is_again (told.Node node word)) lines)) _ h)
cells_of (told.Past event ∷ lines) h = cells_of lines (later (not (list_any (is_again (told.Past event)) lines)) _ h)
cells_of (told.Promoting p ∷ lines) h =
    let none : list_any (is_promotion_of_same_cell p) (filter_map promotion_in lines) ≡ false =
    same_of_cell p lines ∙ denied_first (list_any (is_again (told.Promoting p)) lines) _ h in
    and_from (not (list_any (is_promotion_of_same_cell p) (filter_map promotion_in lines))) _ (ap not none)
    (cells_of lines (later (not (list_any (is_again (told.Promoting p)) lines)) _ h))

none_at : {X : Type 0} (test : X → Bool) (xs : List X) (j : ℕ) (d : X) → list_any test xs ≡ false → j < length xs → test (get_or xs j d) ≡ false
none_at test [] j d h m = absurd (omega (arith, m))
none_at test (x ∷ xs) zero d h m = (or_parts (test x) (list_any test xs) h).0
none_at test (x ∷ xs) (suc j) d h m = none_at test xs j d (or_parts (test x) (list_any test xs) h).1 (omega (arith, m))

pairs_of : (ps : List Promotion) → cells_differ ps ≡ true → AllPairs (λ (one other : Promotion). is_promotion_of_same_cell one other ≡ false) ps
pairs_of [] h i j d l m = absurd (omega (arith, m))
pairs_of (p ∷ ps) h zero zero d l m = absurd (omega (arith, l))
pairs_of (p ∷ ps) h zero (suc j) d l m = none_at (is_promotion_of_same_cell p) ps j d (denied_first (list_any (is_promotion_of_same_cell p) ps) _ h) (omega (arith, m))
pairs_of (p ∷ ps) h (suc i) zero d l m = absurd (omega (arith, l))
pairs_of (p ∷ ps) h (suc i) (suc j) d l m = pairs_of ps (later (not (list_any (is_promotion_of_same_cell p) ps)) _ h) i j d (omega (arith, l)) (omega (arith, m))

pub promotions_differ : (lines : List Fact) → all_differ lines ≡ true
    → AllPairs (λ (one other : Promotion). is_promotion_of_same_cell one other ≡ false) (filter_map promotion_in lines)
promotions_differ lines h = pairs_of (filter_map promotion_in lines) (cells_of lines h)
