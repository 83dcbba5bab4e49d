-- How the nodes leave, node by node.
use Rattle.std.proofs.Common.{◌≡◌, ℕ, ◌+◌, ◌-◌, ◌<◌, suc, List, [], ◌++◌, length, map, refl, arith, append_assoc, rules}
use Rattle.std.specs.List.{enumerate_from, flat_map, range_with_len}
use Rattle.cluster_types.specs.declared.cluster.Cluster.{Cluster}
use Rattle.cluster_types.specs.declared.journal.Event.{Event}
use Rattle.cluster_types.specs.Journals.{leaving}
use Rattle.input_reading.specs.declared.status.line_meaning.Fact.{Fact}
use Rattle.input_reading.specs.FirstJournal.{word_of}
use Rattle.input_reading.specs.Inner.FirstJournal.{leavings}

-- how so many nodes leave, from one of them on
abbrev pub leavings_from : Cluster → List Fact → ℕ → ℕ → List Event
leavings_from c told n count = flat_map (leaving c) (enumerate_from n (map (word_of told) (range_with_len n count)))

pub record Left (c : Cluster) (told : List Fact) (whole events : List Event) (n nodes : ℕ) : Type 0 where
  pub whole_is : whole ≡ events ++ leavings_from c told n (nodes - n)

pub all_leave : (c : Cluster) (told : List Fact) (before : List Event) → Left c told (before ++ leavings c told) before 0 (length c.nodes)
all_leave c told before = let e : length c.nodes - 0 ≡ length c.nodes = omega arith in record { whole_is = rw e refl }

pub one_leaves : (c : Cluster) (told : List Fact) (whole events later : List Event) (n nodes : ℕ) → n < nodes → Left c told whole events n nodes
    → later ≡ events ++ leaving c (n, word_of told n) → Left c told whole later (n + 1) nodes
one_leaves c told whole events later n nodes h l e =
    let k : nodes - n ≡ suc (nodes - (n + 1)) = omega arith in
    let rest = leavings_from c told (n + 1) (nodes - (n + 1)) in
    let step : leavings_from c told n (nodes - n) ≡ leaving c (n, word_of told n) ++ rest = rw k refl in
    let grouped : events ++ leaving c (n, word_of told n) ++ rest ≡ events ++ (leaving c (n, word_of told n) ++ rest) =
    append_assoc events (leaving c (n, word_of told n)) rest in
    let same : whole ≡ events ++ leavings_from c told n (nodes - n) = l.whole_is in
    record { whole_is = cc }

pub none_left : (c : Cluster) (told : List Fact) (whole events : List Event) (n : ℕ) → Left c told whole events n n → events ≡ whole
none_left c told whole events n l =
    let e : n - n ≡ 0 = omega arith in
    let none : leavings_from c told n (n - n) ≡ [] = rw e refl in
    let nothing : events ++ [] ≡ events = search rules in
    let same : whole ≡ events ++ leavings_from c told n (n - n) = l.whole_is in
    cc
