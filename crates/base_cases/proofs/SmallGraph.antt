-- Four actions and two gates: the first two come before the third through both gates, and the third before the fourth.
use Rattle.std.proofs.Common.{arith, ◌≡◌, ◌<◌, ◌≤◌, ◌+◌, ◌*◌, nat_lt, nat_le, ◌&&◌, ◌||◌, not, ℕ, Bool, true, if◌then◌else◌, [], ◌∷◌, Contains, refl}
use Rattle.std.proofs.lemmas.List.Elements.{All-contains}
use Rattle.std.proofs.lemmas.List.Sums.{AllPass-from_list_all}
use Rattle.lemmas.proofs.Booleans.{sooner, later}
use Rattle.edges.specs.declared.edge.Edge.{Edge}
use Rattle.cluster_types.specs.declared.journal.Action.TheVariants.{Probe}
use Rattle.cluster_types.proofs.RisingEdges.{graph-rising}
use Rattle.cluster_types.specs.Graphs.{GraphOf, IsGraph}

abbrev edge : ℕ → ℕ → Edge
edge x y = record { before = x; after = y }

abbrev pub small_graph : GraphOf
small_graph = record {
  actions = Probe 0 0 ∷ Probe 0 1 ∷ Probe 0 2 ∷ Probe 0 3 ∷ [];
  edges = record { positions = 6; list = edge 0 4 ∷ edge 1 4 ∷ edge 4 5 ∷ edge 5 2 ∷ edge 2 3 ∷ [] };
}

-- the gates stand between the second action and the third
abbrev height : ℕ → ℕ
height x = if nat_lt x 4 then 10 * x else 11 + x

of_action : (x : ℕ) → x < 4 → height x ≡ 10 * x
of_action x within = let h : nat_lt x 4 ≡ true = grind arith in rw h refl

abbrev passes : Edge → Bool
passes e = nat_lt e.before 6 && nat_lt e.after 6 && (not (nat_le 4 e.after) || nat_lt e.before e.after) && nat_lt (height e.before) (height e.after)

each_passes : (e : Edge) → Contains small_graph.edges.list e → passes e ≡ true
each_passes e c = All-contains (λ e. passes e ≡ true) small_graph.edges.list e (AllPass-from_list_all passes small_graph.edges.list refl) c

upward : (e : Edge) → passes e ≡ true → 4 ≤ e.after → e.before < e.after
upward e h gate = let up = later (nat_lt e.before 6 && nat_lt e.after 6) _ (sooner _ _ h) in grind arith

pub small_is_graph : IsGraph small_graph
small_is_graph =
    graph-rising small_graph height (omega arith)
    (λ e c. let h = each_passes e c in (grind arith, grind arith))
    (λ e c gate. upward e (each_passes e c) gate)
    (λ e c. let h : nat_lt (height e.before) (height e.after) ≡ true = later (nat_lt e.before 6 && nat_lt e.after 6 && (not (nat_le 4 e.after) || nat_lt e.before e.after)) _ (each_passes e c) in grind arith)
    (λ x y x_in y_in h. let p : height x ≡ 10 * x = of_action x x_in in let q : height y ≡ 10 * y = of_action y y_in in omega arith)
