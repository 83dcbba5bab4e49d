-- Groups of edges that are added one after the other.
use Rattle.std.proofs.Common.{arith, ◌<◌, ◌≤◌, ◌+◌, ◌++◌, ◌⊎◌, ℕ, List, [], sym, ap, ◌∙◌}
use Rattle.std.proofs.lemmas.List.{append-nil, append_assoc, length-append}
use Rattle.edges.specs.declared.edge.Edge.{Edge}
use Rattle.planner.specs.Inner.Groups.{AddsGroup}
use Rattle.planner.proofs.Groups.{group_after, group_says, no_group}

pub adds_none : (actions : ℕ) (list : List Edge) (from : ℕ) → actions ≤ from → AddsGroup actions list list from from 0 (λ x y. ⊥)
adds_none actions list from le = record {
  more = [];
  list_is = sym (append-nil list);
  group = no_group actions from le;
  few = omega arith;
}

pub adds_after : (actions : ℕ) (a b d : List Edge) (from mid upto k l : ℕ) (R S : ℕ → ℕ → Type 0) → AddsGroup actions a b from mid k R → AddsGroup actions b d mid upto l S
    → AddsGroup actions a d from upto (k + l) (λ x y. R x y ⊎ S x y)
adds_after actions a b d from mid upto k l R S one two = record {
  more = one.more ++ two.more;
  list_is = two.list_is ∙ (ap (λ v. v ++ two.more) one.list_is ∙ append_assoc a one.more two.more);
  group = group_after actions from mid upto one.more two.more R S one.group two.group;
  few =
      let e = length-append one.more two.more in
      let f = one.few in
      let g = two.few in
      omega arith;
}

pub adds_says : (actions : ℕ) (a b : List Edge) (from upto k l : ℕ) (R S : ℕ → ℕ → Type 0) → ((x y : ℕ) → x < actions → y < actions → R x y → S x y)
    → ((x y : ℕ) → x < actions → y < actions → S x y → R x y) → k ≤ l → AddsGroup actions a b from upto k R → AddsGroup actions a b from upto l S
adds_says actions a b from upto k l R S f g le one = record {
  more = one.more;
  list_is = one.list_is;
  group = group_says actions from upto one.more R S f g one.group;
  few = let h = one.few in omega arith;
}
