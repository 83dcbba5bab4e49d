-- The first journal is in order, and has nothing in flight.
use Rattle.std.proofs.Common.{◌≡◌, ℕ, Bool, true, false, not, ◌&&◌, ◌==◌, if◌then◌else◌, List, [], ◌∷◌, ◌++◌, ◌+◌, ◌<◌, ◌≤◌, Option, Some, None, zero, suc, length, map, append_assoc, refl, sym, ap, ◌∙◌, arith}
use Rattle.std.proofs.lemmas.List.Elements.{filter_map-append}
use Rattle.std.specs.List.{list_all, filter_map, cons_option, last_or, flat_map, range_with_len, enumerate_from}
use Rattle.std.proofs.lemmas.Bool.{and_from}
use Rattle.lemmas.proofs.Booleans.{sooner, later, both}
use Rattle.cluster_types.specs.declared.cluster.Cluster.{Cluster}
use Rattle.cluster_types.specs.declared.journal.Action.TheVariants.{Probe, Operation}
use Rattle.cluster_types.specs.declared.journal.Event.{Event}
use Rattle.cluster_types.specs.declared.journal.Event.TheVariants.{Up, Down, Lost, Quorum, Wait, Cleanup, Begin, Ended}
use Rattle.cluster_types.proofs.Booleans.{clash}
use Rattle.cluster_types.proofs.StepLaws.{begins_nothing}
use Rattle.cluster_types.specs.Journals.{NodeSaid, online, offline, unclean, unsaid, NodeSign, joined, in_flight_by_begin, sign_of, last_sign, needs_node, Orderly, is_history_event, leaving, first_events}

-- events that begin nothing leave nothing in flight
pub nothing_begun : (es : List Event) → list_all begins_nothing es ≡ true → in_flight_by_begin es ≡ []
nothing_begun [] h = refl
nothing_begun (Begin k a ∷ es) h = cc
nothing_begun (Up n ∷ es) h = nothing_begun es h
nothing_begun (Down n ∷ es) h = nothing_begun es h
nothing_begun (Lost n ∷ es) h = nothing_begun es h
nothing_begun (Quorum b ∷ es) h = nothing_begun es h
nothing_begun (Wait s ∷ es) h = nothing_begun es h
nothing_begun (Cleanup r n ∷ es) h = nothing_begun es h
nothing_begun (Ended k a o m ∷ es) h = nothing_begun es h

all_joined : {X : Type 0} (p : X → Bool) (xs ys : List X) → list_all p xs ≡ true → list_all p ys ≡ true → list_all p (xs ++ ys) ≡ true
all_joined p [] ys h k = k
all_joined p (x ∷ xs) ys h k = both (p x) (p x) (list_all p xs) (list_all p (xs ++ ys)) (λ g. g) (λ g. all_joined p xs ys g k) h

-- what holds of every join, every leave and every loss holds of all that the first journal has around the history
module _ (p : Event → Bool) (up : (n : ℕ) → p (Up n) ≡ true) (down : (n : ℕ) → p (Down n) ≡ true) (lost : (n : ℕ) → p (Lost n) ≡ true) where
  joins_pass : (ns : List ℕ) → list_all p (map Up ns) ≡ true
  joins_pass [] = refl
  joins_pass (n ∷ ns) = and_from (p (Up n)) (list_all p (map Up ns)) (up n) (joins_pass ns)

  lost_or_down_passes : (b : Bool) (n : ℕ) → list_all p (if b then Lost n ∷ [] else Down n ∷ []) ≡ true
  lost_or_down_passes true n = and_from (p (Lost n)) true (lost n) refl
  lost_or_down_passes false n = and_from (p (Down n)) true (down n) refl

  leaving_passes : (c : Cluster) (n : ℕ) (word : NodeSaid) → list_all p (leaving c (n, word)) ≡ true
  leaving_passes c n online = refl
  leaving_passes c n offline = and_from (p (Down n)) true (down n) refl
  leaving_passes c n unclean = and_from (p (Lost n)) true (lost n) refl
  leaving_passes c n unsaid = lost_or_down_passes (c.properties.fencing && c.properties.startup_fencing) n

  leaves_pass : (c : Cluster) (n : ℕ) (words : List NodeSaid) → list_all p (flat_map (leaving c) (enumerate_from n words)) ≡ true
  leaves_pass c n [] = refl
  leaves_pass c n (word ∷ words) =
      all_joined p (leaving c (n, word)) (flat_map (leaving c) (enumerate_from (n + 1) words)) (leaving_passes c n word) (leaves_pass c (n + 1) words)

reports_begin_nothing : (nodes : ℕ) (es : List Event) → list_all (is_history_event nodes) es ≡ true → list_all begins_nothing es ≡ true
reports_begin_nothing nodes [] h = refl
reports_begin_nothing nodes (Ended k a o m ∷ es) h = reports_begin_nothing nodes es (later (is_history_event nodes (Ended k a o m)) _ h)
reports_begin_nothing nodes (Cleanup r n ∷ es) h = reports_begin_nothing nodes es (later (is_history_event nodes (Cleanup r n)) _ h)
reports_begin_nothing nodes (e ∷ es) h = cc

-- the first journal has nothing in flight
pub nothing-in-flight : (c : Cluster) (history : List Event) (words : List NodeSaid) (quorum : Bool) (now : ℕ)
    → list_all (is_history_event (length c.nodes)) history ≡ true → in_flight_by_begin (first_events c history words quorum now) ≡ []
nothing-in-flight c history words quorum now h =
    let joins = map Up (range_with_len 0 (length c.nodes)) in
    let leaves = flat_map (leaving c) (enumerate_from 0 words) in
    let last = Quorum quorum ∷ Wait now ∷ [] in
    nothing_begun (joins ++ history ++ leaves ++ last)
    (all_joined begins_nothing (joins ++ history ++ leaves) last
    (all_joined begins_nothing (joins ++ history) leaves
    (all_joined begins_nothing joins history (joins_pass begins_nothing (λ n. refl) (λ n. refl) (λ n. refl) (range_with_len 0 (length c.nodes)))
    (reports_begin_nothing (length c.nodes) history h))
    (leaves_pass begins_nothing (λ n. refl) (λ n. refl) (λ n. refl) c 0 words))
    refl)

-- each node has joined after the joins
not_seen : (b : Bool) (rest : List NodeSign) → b ≡ false → rest ≡ [] → cons_option (if b then Some joined else None) rest ≡ []
not_seen true rest h k = cc
not_seen false rest h k = k

seen_once : (b : Bool) (rest : List NodeSign) → (b ≡ true → rest ≡ []) → (b ≡ false → rest ≡ joined ∷ [])
    → cons_option (if b then Some joined else None) rest ≡ joined ∷ []
seen_once true rest h k = let e : rest ≡ [] = h refl in cc
seen_once false rest h k = k refl

joined_before : (n m k : ℕ) → n < m → filter_map (sign_of n) (map Up (range_with_len m k)) ≡ []
joined_before n m zero h = refl
joined_before n m (suc k) h = not_seen (m == n) _ (grind arith) (joined_before n (m + 1) k (grind arith))

joined_among : (n m k : ℕ) → m ≤ n → n < m + k → filter_map (sign_of n) (map Up (range_with_len m k)) ≡ joined ∷ []
joined_among n m zero h g = grind arith
joined_among n m (suc k) h g =
    seen_once (m == n) _ (λ e. joined_before n (m + 1) k (grind arith)) (λ e. joined_among n (m + 1) k (grind arith) (grind arith))

joined_of_all : (n nodes : ℕ) → n < nodes → filter_map (sign_of n) (map Up (range_with_len 0 nodes)) ≡ joined ∷ []
joined_of_all n nodes h = joined_among n 0 nodes (grind arith) (grind arith)

-- what a status tells shows no sign of a node, and wants only nodes of the cluster
no_sign : (n nodes : ℕ) (e : Event) → is_history_event nodes e ≡ true → sign_of n e ≡ None
no_sign n nodes (Ended k (Probe leaf node) o moment) h = refl
no_sign n nodes (Ended k (Operation op leaf node interval role) o moment) h = refl
no_sign n nodes (Cleanup leaf node) h = refl
no_sign n nodes _ h = cc

node_known : (n nodes : ℕ) (e : Event) → is_history_event nodes e ≡ true → needs_node n e ≡ true → n < nodes
node_known n nodes (Ended k (Probe leaf node) o moment) h w = grind arith
node_known n nodes (Ended k (Operation op leaf node interval role) o moment) h w = grind arith
node_known n nodes _ h w = cc

unsigned : (o : Option NodeSign) (rest : List NodeSign) → o ≡ None → rest ≡ [] → cons_option o rest ≡ []
unsigned None rest h k = k
unsigned (Some s) rest h k = cc

module _ (n : ℕ) (after : List Event) (e : Event) (w : needs_node n e ≡ true) where
  -- the event that wants the node doesn't stand where no event wants one
  unwanted : {X : Type 0} (u v : X) (rest before : List Event) → list_all (λ k. not (needs_node n k)) rest ≡ true → rest ≡ before ++ e ∷ after → u ≡ v
  unwanted u v [] [] h q = cc
  unwanted u v [] (b ∷ bs) h q = cc
  unwanted u v (x ∷ xs) [] h q = let same : x ≡ e = cc in let g : needs_node n x ≡ true = cc in clash u v (needs_node n x) _ h g
  unwanted u v (x ∷ xs) (b ∷ bs) h q = let tail : xs ≡ bs ++ e ∷ after = cc in unwanted u v xs bs (later (not (needs_node n x)) _ h) tail

  past : {X : Type 0} (u v : X) (xs ys before : List Event) → list_all (λ k. not (needs_node n k)) xs ≡ true → xs ++ ys ≡ before ++ e ∷ after
      → ((b : List Event) → before ≡ xs ++ b → ys ≡ b ++ e ∷ after → u ≡ v) → u ≡ v
  past u v [] ys before h q k = k before refl q
  past u v (x ∷ xs) ys [] h q k = let same : x ≡ e = cc in let g : needs_node n x ≡ true = cc in clash u v (needs_node n x) _ h g
  past u v (x ∷ xs) ys (b ∷ bs) h q k =
      let tail : xs ++ ys ≡ bs ++ e ∷ after = cc in
      let same : x ≡ b = cc in
      past u v xs ys bs (later (not (needs_node n x)) _ h) tail (λ c p r. let g : b ∷ bs ≡ x ∷ (xs ++ c) = cc in k c g r)

  module _ (nodes : ℕ) (rest : List Event) (h : list_all (λ k. not (needs_node n k)) rest ≡ true) where
    no_sign_before : (xs before : List Event) → list_all (is_history_event nodes) xs ≡ true → xs ++ rest ≡ before ++ e ∷ after → filter_map (sign_of n) before ≡ []
    no_sign_before [] before g q = unwanted (filter_map (sign_of n) before) [] rest before h q
    no_sign_before (x ∷ xs) [] g q = refl
    no_sign_before (x ∷ xs) (b ∷ bs) g q =
        let tail : xs ++ rest ≡ bs ++ e ∷ after = cc in
        let same : x ≡ b = cc in
        let none : sign_of n x ≡ None = no_sign n nodes x (sooner (is_history_event nodes x) _ g) in
        let none_too : sign_of n b ≡ None = cc in
        unsigned (sign_of n b) (filter_map (sign_of n) bs) none_too (no_sign_before xs bs (later (is_history_event nodes x) _ g) tail)

    is_among_reported : (xs before : List Event) → list_all (is_history_event nodes) xs ≡ true → xs ++ rest ≡ before ++ e ∷ after → is_history_event nodes e ≡ true
    is_among_reported [] before g q = unwanted (is_history_event nodes e) true rest before h q
    is_among_reported (x ∷ xs) [] g q =
        let same : x ≡ e = cc in let reported : is_history_event nodes x ≡ true = sooner (is_history_event nodes x) _ g in cc
    is_among_reported (x ∷ xs) (b ∷ bs) g q =
        let tail : xs ++ rest ≡ bs ++ e ∷ after = cc in is_among_reported xs bs (later (is_history_event nodes x) _ g) tail

glued : (a b c : List NodeSign) → c ≡ a ++ b → a ≡ joined ∷ [] → b ≡ [] → c ≡ joined ∷ []
glued a b c q h k = let e : a ++ b ≡ (joined ∷ []) ++ [] = cc in q ∙ e

-- the first journal is in order
pub in-order : (c : Cluster) (history : List Event) (words : List NodeSaid) (quorum : Bool) (now : ℕ)
    → list_all (is_history_event (length c.nodes)) history ≡ true → Orderly (first_events c history words quorum now)
in-order c history words quorum now h before after e n q w =
    let nodes = length c.nodes in
    let joins = map Up (range_with_len 0 nodes) in
    let leaves = flat_map (leaving c) (enumerate_from 0 words) in
    let last = Quorum quorum ∷ Wait now ∷ [] in
    let unwanting : Event → Bool = λ k. not (needs_node n k) in
    let rest_wants_none = all_joined unwanting leaves last (leaves_pass unwanting (λ m. refl) (λ m. refl) (λ m. refl) c 0 words) refl in
    let grouped : joins ++ (history ++ (leaves ++ last)) ≡ joins ++ history ++ leaves ++ last =
    sym (append_assoc (joins ++ history) leaves last ∙ append_assoc joins history (leaves ++ last)) in
    past n after e w (last_sign n before) (Some joined) joins (history ++ (leaves ++ last)) before (joins_pass unwanting (λ m. refl) (λ m. refl) (λ m. refl) (range_with_len 0 nodes)) (grouped ∙ q)
    (λ b p r.
    let silent = no_sign_before n after e w nodes (leaves ++ last) rest_wants_none history b h r in
    let reported = is_among_reported n after e w nodes (leaves ++ last) rest_wants_none history b h r in
    let has_joined = joined_of_all n nodes (node_known n nodes e reported w) in
    let signs : filter_map (sign_of n) before ≡ filter_map (sign_of n) joins ++ filter_map (sign_of n) b =
    ap (filter_map (sign_of n)) p ∙ filter_map-append (sign_of n) joins b in
    ap (last_or None) (glued (filter_map (sign_of n) joins) (filter_map (sign_of n) b) (filter_map (sign_of n) before) signs has_joined silent))
