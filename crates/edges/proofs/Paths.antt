-- A loop is a way from a position back to it, however long.
use Rattle.std.proofs.Common.{arith, ◌≡◌, ◌<◌, ℕ, Bool, true, false, List, slice_index_or, refl, ◌∙◌, ◌⊎◌, inl, inr, Contains, Any}
use Rattle.std.specs.List.{list_any, range_with_len}
use Rattle.std.proofs.lemmas.Bool.{both_ways}
use Rattle.std.proofs.lemmas.List.Folds.{Any-from_list_any, list_any_at}
use Rattle.std.proofs.lemmas.List.FromFn.{length-range_with_len, get_or-range_with_len}
use Rattle.edges.specs.declared.edge.Edge.{Edge}
use Rattle.edges.specs.Chains.{linked, link_then, one_link}
use Rattle.edges.specs.Inner.ShortWays.{HasShortLoop, leads_within}
use Rattle.edges.specs.Loops.{EndsWithin, HasLoop, HasNoLoop, Leads}
use Rattle.edges.proofs.Endings.{begins_within}
use Rattle.edges.proofs.Leading.{leads-from_computed}
use Rattle.edges.proofs.Walks.{GoesOn, loop_of_short, short_loop_of_set}

-- from each position on such a way an edge leads to one on it

-- the position is x, or leads there
data Toward (edges : List Edge) (x : ℕ) : ℕ → Type 0 where
  leads_there : (y : ℕ) → Leads edges y x → Toward edges x y

module _ (positions : ℕ) (edges : List Edge) (ends : EndsWithin positions edges) (x : ℕ) (led : Leads edges x x) where
  toward_within : (y : ℕ) → Toward edges x y → y < positions
  toward_within _ (leads_there y l) = begins_within positions edges ends y x l

  on_way : (y z : ℕ) → Leads edges y z → z ≡ x → GoesOn edges (Toward edges x) y
  on_way _ _ (one_link _ _ (linked e c)) at = record { edge = e; among = c; from = refl; to = leads_there e.after (rw at led) }
  on_way _ _ (link_then _ _ z (linked e c) _ rest) at = record { edge = e; among = c; from = refl; to = leads_there e.after (rw at at rest) }

  goes_toward : (y : ℕ) → Toward edges x y → GoesOn edges (Toward edges x) y
  goes_toward _ (leads_there y l) = on_way y x l refl

  pub loop_of_path : HasShortLoop positions edges
  loop_of_path = short_loop_of_set positions edges (Toward edges x) toward_within goes_toward x (leads_there x led)

-- one of both

within_of_loop : (positions : ℕ) (edges : List Edge) → EndsWithin positions edges → (x : ℕ) → leads_within positions edges x x ≡ true
    → x < positions
within_of_loop positions edges ends x h = begins_within positions edges ends x x (leads-from_computed positions edges x x h)

found : (positions : ℕ) (edges : List Edge) → Any (λ x. leads_within positions edges x x ≡ true) (range_with_len 0 positions)
    → HasLoop edges
found positions edges (k, x, lt, at, h) = loop_of_short positions edges (record { at = x; leads = h })

not_found : (positions : ℕ) (edges : List Edge) → EndsWithin positions edges
    → list_any (λ x. leads_within positions edges x x) (range_with_len 0 positions) ≡ false
    → HasNoLoop edges
not_found positions edges ends none x led =
    let s : HasShortLoop positions edges = loop_of_path positions edges ends x led in
    let w = within_of_loop positions edges ends s.at s.leads in
    let l = length-range_with_len 0 positions in
    let at : slice_index_or (range_with_len 0 positions) s.at 0 ≡ s.at = get_or-range_with_len 0 positions s.at 0 w ∙ omega arith in
    absurd (both_ways _ none
    (list_any_at (λ x. leads_within positions edges x x) (range_with_len 0 positions) s.at 0 (omega arith) (rw at s.leads)))

pub loop_or_none : (positions : ℕ) (edges : List Edge) → EndsWithin positions edges → HasLoop edges ⊎ HasNoLoop edges
loop_or_none positions edges ends = on (list_any (λ x. leads_within positions edges x x) (range_with_len 0 positions)) refl where
  on : (b : Bool) → list_any (λ x. leads_within positions edges x x) (range_with_len 0 positions) ≡ b
      → HasLoop edges ⊎ HasNoLoop edges
  on true h = inl (found positions edges (Any-from_list_any (λ x. leads_within positions edges x x) (range_with_len 0 positions) h))
  on false h = inr (not_found positions edges ends h)

-- a height that rises along each edge rises along each way
module _ (edges : List Edge) (height : ℕ → ℕ) (rises : (e : Edge) → Contains edges e → height e.before < height e.after) where
  paths_rise : (x y : ℕ) → Leads edges x y → height x < height y
  paths_rise _ _ (one_link _ _ (linked e c)) = rises e c
  paths_rise _ _ (link_then _ _ y (linked e c) _ rest) =
      let first : height e.before < height e.after = rises e c in
      let others : height e.after < height y = paths_rise e.after y rest in
      omega arith

pub none_where_rising : (edges : List Edge) (height : ℕ → ℕ)
    → ((e : Edge) → Contains edges e → height e.before < height e.after) → HasNoLoop edges
none_where_rising edges height rises x led =
    let up : height x < height x = paths_rise edges height rises x x led in
    let f : ⊥ = omega arith in f
