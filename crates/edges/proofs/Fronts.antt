-- The first edges of a list, and lists with more edges.
use Rattle.std.proofs.Common.{arith, ◌≡◌, ◌<◌, ◌≤◌, ◌+◌, ℕ, List, [], ◌∷◌, length, take, refl, ap, Option, Some, None, inl, inr, Contains}
use Rattle.std.proofs.lemmas.Bool.{cases_order}
use Rattle.lemmas.proofs.Members.{contains_first, contains_shorter, in_none}
use Rattle.edges.specs.Chains.{linked, link_then, one_link}
use Rattle.edges.specs.declared.edge.Edge.{Edge}
use Rattle.edges.specs.Loops.{ClosesFirst, EndsWithin, HasLoop, HasNoLoop, IsFirstLoop, Leads}
use Rattle.edges.proofs.Endings.{one_way}

no_way : (x y : ℕ) → Leads [] x y → ⊥
no_way _ _ (one_link _ _ (linked e c)) = in_none e c
no_way _ _ (link_then _ _ _ (linked e c) _ rest) = in_none e c

pub none_without_edges : HasNoLoop []
none_without_edges x led = no_way x x led

pub some_edge : (edges : List Edge) → HasLoop edges → 0 < length edges
some_edge [] l = absurd (none_without_edges l.at l.leads)
some_edge (e ∷ es) l = omega arith

pub ends_front : (positions : ℕ) (edges : List Edge) → EndsWithin positions edges → (n : ℕ) → EndsWithin positions (take n edges)
ends_front positions edges ends n e c = ends e (contains_first n edges e c)

-- a list with all edges of another leads wherever that leads
module _ (edges more : List Edge) (has_all : (e : Edge) → Contains edges e → Contains more e) where
  leads_with_more : (x y : ℕ) → Leads edges x y → Leads more x y
  leads_with_more _ _ (one_link _ _ (linked e c)) = one_link _ _ (linked e (has_all e c))
  leads_with_more _ _ (link_then _ _ y (linked e c) _ rest) = link_then _ _ y (linked e (has_all e c)) tt (leads_with_more e.after y rest)

  pub loop_with_more : HasLoop edges → HasLoop more
  loop_with_more l = record { at = l.at; leads = leads_with_more l.at l.at l.leads }

  pub free_with_fewer : HasNoLoop more → HasNoLoop edges
  free_with_fewer free x led = free x (leads_with_more x x led)

-- there is one first loop

stays_looped : (m n : ℕ) (edges : List Edge) → m ≤ n → HasLoop (take m edges) → HasNoLoop (take n edges) → ⊥
stays_looped m n edges le l none =
    one_way (take n edges) (loop_with_more (take m edges) (take n edges) (λ e h. contains_shorter m n edges e le h) l) none

never_closed : (k : ℕ) (edges : List Edge) → ClosesFirst edges k → HasNoLoop edges → ⊥
never_closed k edges c none =
    one_way edges (loop_with_more (take (k + 1) edges) edges (contains_first (k + 1) edges) c.closed) none

pub first_is_one : (edges : List Edge) (a b : Option ℕ) → IsFirstLoop edges a → IsFirstLoop edges b
    → a ≡ b
first_is_one edges None None f g = refl
first_is_one edges None (Some k) f g = absurd (never_closed k edges g f)
first_is_one edges (Some k) None f g = absurd (never_closed k edges f g)
first_is_one edges (Some j) (Some k) f g = elim (cases_order j k) [
  | inl e ↦ ap (λ n. Some n) e
  | inr (inl lt) ↦ absurd (stays_looped (j + 1) k edges (omega arith) f.closed g.before)
  | inr (inr lt) ↦ absurd (stays_looped (k + 1) j edges (omega arith) g.closed f.before)
]
