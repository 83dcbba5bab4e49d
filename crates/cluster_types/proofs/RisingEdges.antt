-- Edges along which a height rises make a graph, where the heights of actions are in the order of their numbers.
use Rattle.std.proofs.Common.{arith, ◌<◌, ◌≤◌, ℕ, List, length, Contains}
use Rattle.edges.specs.declared.edge.Edge.{Edge}
use Rattle.edges.specs.Chains.{link_then, linked, one_link}
use Rattle.cluster_types.specs.Graphs.{GraphOf, IsGraph, LeadUpward, LeadsByGates}
use Rattle.edges.specs.Loops.{EndsWithin}

module _ (actions : ℕ) (edges : List Edge) (height : ℕ → ℕ) (rises : (e : Edge) → Contains edges e → height e.before < height e.after) where
  leads-rise : (x y : ℕ) → LeadsByGates actions edges x y → height x < height y
  leads-rise _ _ (one_link _ _ (linked e c)) = rises e c
  leads-rise _ _ (link_then _ _ y (linked e c) gate rest) =
      let first : height e.before < height e.after = rises e c in
      let others : height e.after < height y = leads-rise e.after y rest in
      omega arith

pub graph-rising : (g : GraphOf) (height : ℕ → ℕ) → length g.actions ≤ g.edges.positions → EndsWithin g.edges.positions g.edges.list
    → LeadUpward (length g.actions) g.edges.list → ((e : Edge) → Contains g.edges.list e → height e.before < height e.after)
    → ((x y : ℕ) → x < length g.actions → y < length g.actions → height x < height y → x < y) → IsGraph g
graph-rising g height enough within gates rises ordered = record {
  positions = enough;
  within = within;
  gates_upward = gates;
  actions_upward = λ x y x_in y_in led. ordered x y x_in y_in (leads-rise (length g.actions) g.edges.list height rises x y led);
}
