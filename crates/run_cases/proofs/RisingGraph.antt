-- The edges of the small graph rise.
use Rattle.std.proofs.Common.{arith, ◌≡◌, ◌<◌, ◌≤◌, ◌+◌, ◌*◌, nat_lt, nat_le, ◌&&◌, ◌||◌, not, ℕ, Bool, true, if◌then◌else◌, [], ◌∷◌, Contains, refl}
use Rattle.std.proofs.lemmas.List.Elements.{All-contains}
use Rattle.std.proofs.lemmas.List.Sums.{AllPass-from_list_all}
use Rattle.lemmas.proofs.Booleans.{sooner, later}
use Rattle.edges.specs.declared.edge.Edge.{Edge}
use Rattle.cluster_types.proofs.RisingEdges.{graph-rising}
use Rattle.cluster_types.specs.Graphs.{IsGraph}
use Rattle.run_cases.specs.SmallGraph.{small_graph}

-- the gate stands between the second action and the third
abbrev height : ℕ → ℕ
height x = if nat_lt x 3 then 10 * x else 12 + x

of_action : (x : ℕ) → x < 3 → height x ≡ 10 * x
of_action x within = let h : nat_lt x 3 ≡ true = grind arith in rw h refl

abbrev passes : Edge → Bool
passes e = nat_lt e.before 4 && nat_lt e.after 4 && (not (nat_le 3 e.after) || nat_lt e.before e.after) && nat_lt (height e.before) (height e.after)

each_passes : (e : Edge) → Contains small_graph.edges.list e → passes e ≡ true
each_passes e c = All-contains (λ e. passes e ≡ true) small_graph.edges.list e (AllPass-from_list_all passes small_graph.edges.list refl) c

upward : (e : Edge) → passes e ≡ true → 3 ≤ e.after → e.before < e.after
upward e h gate = let up = later (nat_lt e.before 4 && nat_lt e.after 4) _ (sooner _ _ h) in grind arith

pub small_is_graph : IsGraph small_graph
small_is_graph =
    graph-rising small_graph height (omega arith)
    (λ e c. let h = each_passes e c in (grind arith, grind arith))
    (λ e c gate. upward e (each_passes e c) gate)
    (λ e c. let h : nat_lt (height e.before) (height e.after) ≡ true = later (nat_lt e.before 4 && nat_lt e.after 4 && (not (nat_le 3 e.after) || nat_lt e.before e.after)) _ (each_passes e c) in grind arith)
    (λ x y x_in y_in h. let p : height x ≡ 10 * x = of_action x x_in in let q : height y ≡ 10 * y = of_action y y_in in omega arith)
