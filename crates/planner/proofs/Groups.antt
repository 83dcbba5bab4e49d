-- Groups of edges, each with gates of its own and a relation that it says of the actions.
use Rattle.std.proofs.Common.{arith, ◌<◌, ◌≤◌, ◌⊎◌, inl, inr, ℕ, List, [], ◌++◌, Contains}
use Rattle.std.proofs.lemmas.List.Elements.{Contains-append_cases}
use Rattle.edges.specs.declared.edge.Edge.{Edge}
use Rattle.edges.specs.Chains.{link_then, linked, one_link}
use Rattle.cluster_types.specs.Graphs.{LeadsByGates}
use Rattle.planner.specs.Inner.Groups.{IsGroup, IsOwnEnd}
use Rattle.cluster_types.proofs.GateGroups.{IsOwn, action, gate, one_group, of_old, of_more}

pub to_own : (actions from x : ℕ) → IsOwn actions from x → IsOwnEnd actions from x
to_own actions from x (action h) = inl h
to_own actions from x (gate h) = inr h

pub of_own : (actions from x : ℕ) → IsOwnEnd actions from x → IsOwn actions from x
of_own actions from x (inl h) = action h
of_own actions from x (inr h) = gate h

pub own_ends : (actions from : ℕ) (e : Edge) → IsOwn actions from e.before × IsOwn actions from e.after → IsOwnEnd actions from e.before × IsOwnEnd actions from e.after
own_ends actions from e (h, k) = (to_own actions from e.before h, to_own actions from e.after k)

pub ends_own : (actions from : ℕ) (e : Edge) → IsOwnEnd actions from e.before × IsOwnEnd actions from e.after → IsOwn actions from e.before × IsOwn actions from e.after
ends_own actions from e (h, k) = (of_own actions from e.before h, of_own actions from e.after k)

pub none_leads : (actions x y : ℕ) → LeadsByGates actions [] x y → ⊥
none_leads actions _ _ (one_link _ _ (linked e (k, l, h))) = omega arith
none_leads actions _ _ (link_then _ _ y (linked e (k, l, h)) g rest) = omega arith

pub no_group : (actions from : ℕ) → actions ≤ from → IsGroup actions from from [] (λ x y. ⊥)
no_group actions from le = record {
  enough = le;
  ordered = omega arith;
  own = λ e c. absurd (let l = c.1 in omega arith);
  below = λ e c. absurd (let l = c.1 in omega arith);
  upward = λ e c g. absurd (let l = c.1 in omega arith);
  only = λ x y l m h. none_leads actions x y h;
  all = λ x y l m h. absurd h;
}

module _ (actions from mid upto : ℕ) (old more : List Edge) (R S : ℕ → ℕ → Type 0) (one : IsGroup actions from mid old R) (two : IsGroup actions mid upto more S) where
  own_from : (x : ℕ) → IsOwnEnd actions mid x → IsOwnEnd actions from x
  own_from x (inl h) = inl h
  own_from x (inr h) = let l = one.ordered in inr (omega arith)

  two_own : (e : Edge) → Contains more e → IsOwn actions mid e.before × IsOwn actions mid e.after
  two_own e c = ends_own actions mid e (two.own e c)

  mid_enough : actions ≤ mid
  mid_enough = let a = one.enough in let b = one.ordered in omega arith

  both_only : (x y : ℕ) → x < actions → y < actions → LeadsByGates actions (old ++ more) x y → R x y ⊎ S x y
  both_only x y l m h =
      elim (one_group actions mid old more mid_enough one.below two_own x y h l) [
        | inl k ↦ inl (one.only x y l m k)
        | inr k ↦ inr (two.only x y l m k)
      ]

  both_all : (x y : ℕ) → x < actions → y < actions → R x y ⊎ S x y → LeadsByGates actions (old ++ more) x y
  both_all x y l m (inl k) = of_old actions mid old more mid_enough one.below two_own x y (one.all x y l m k)
  both_all x y l m (inr k) = of_more actions mid old more mid_enough one.below two_own x y (two.all x y l m k)

  pub group_after : IsGroup actions from upto (old ++ more) (λ x y. R x y ⊎ S x y)
  group_after = record {
    enough = one.enough;
    ordered = let a = one.ordered in let b = two.ordered in omega arith;
    own = λ e c. elim (Contains-append_cases old more e c) [
      | inl h ↦ one.own e h
      | inr h ↦ (let o = two.own e h in (own_from e.before o.0, own_from e.after o.1))
    ];
    below = λ e c. elim (Contains-append_cases old more e c) [
      | inl h ↦ (let o = one.below e h in let l = two.ordered in (omega arith, omega arith))
      | inr h ↦ two.below e h
    ];
    upward = λ e c g. elim (Contains-append_cases old more e c) [
      | inl h ↦ one.upward e h g
      | inr h ↦ two.upward e h g
    ];
    only = both_only;
    all = both_all;
  }

-- a group says whatever is the same
pub group_says : (actions from upto : ℕ) (edges : List Edge) (R S : ℕ → ℕ → Type 0) → ((x y : ℕ) → x < actions → y < actions → R x y → S x y)
    → ((x y : ℕ) → x < actions → y < actions → S x y → R x y) → IsGroup actions from upto edges R → IsGroup actions from upto edges S
group_says actions from upto edges R S f g one = record {
  enough = one.enough;
  ordered = one.ordered;
  own = one.own;
  below = one.below;
  upward = one.upward;
  only = λ x y l m h. f x y l m (one.only x y l m h);
  all = λ x y l m h. one.all x y l m (g x y l m h);
}
