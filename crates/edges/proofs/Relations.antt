-- Things at positions, and links between them: each link has an edge, or each edge a link. Where each edge from the position of a thing leads to that of one
-- that it is linked with, a way along edges is a chain of links, and a loop of edges one of links.
use Rattle.std.proofs.Common.{◌≡◌, ℕ, List, sym, ◌∙◌, Contains}
use Rattle.edges.specs.declared.edge.Edge.{Edge}
use Rattle.edges.specs.Chains.{Chain, link_then, linked, one_link}
use Rattle.edges.specs.Loops.{HasLoop, Leads}

-- an edge for a way from s
pub record EdgeFor {A W : Type 0} (target : W → A) (edges : List Edge) (pos : A → ℕ) (w : W) (s : A) : Type 0 where
  pub edge : Edge
  pub among : Contains edges edge
  pub from : edge.before ≡ pos s
  pub to : edge.after ≡ pos (target w)

-- a link from s along an edge
pub record LinkFor {A : Type 0} (Linked : A → A → Type 0) (pos : A → ℕ) (e : Edge) (s : A) : Type 0 where
  pub next : A
  pub link : Linked s next
  pub to : e.after ≡ pos next

-- one thing stands at a position
pub record OneAt {A : Type 0} (pos : A → ℕ) (x : ℕ) : Type 0 where
  pub thing : A
  pub here : x ≡ pos thing
  pub alone : (t : A) → pos thing ≡ pos t → thing ≡ t

-- a chain leads on to a position
record ChainTo {A : Type 0} (Linked : A → A → Type 0) (pos : A → ℕ) (s : A) (y : ℕ) : Type 0 where
  pub last : A
  pub chain : Chain Linked s last
  pub there : y ≡ pos last

-- a chain leads back to where it begins
pub record Ring {A : Type 0} (Linked : A → A → Type 0) : Type 0 where
  pub thing : A
  pub chain : Chain Linked thing thing

module _ {A : Type 0} (Linked : A → A → Type 0) (pos : A → ℕ) (edges : List Edge) where
  module _ (link_for : (e : Edge) (s : A) → Contains edges e → e.before ≡ pos s → LinkFor Linked pos e s) where
    chain_of_way : (x y : ℕ) → Leads edges x y → (s : A) → x ≡ pos s → ChainTo Linked pos s y
    chain_of_way _ _ (one_link _ _ (linked e h)) s from =
        let l = link_for e s h from in
        record { last = l.next; chain = one_link s l.next l.link; there = l.to }
    chain_of_way _ _ (link_then _ _ y (linked e h) _ rest) s from =
        let l = link_for e s h from in
        let on = chain_of_way e.after y rest l.next l.to in
        record { last = on.last; chain = link_then s l.next on.last l.link tt on.chain; there = on.there }

    module _ (begins_at : (e : Edge) → Contains edges e → OneAt pos e.before) where
      first_at : (x y : ℕ) → Leads edges x y → OneAt pos x
      first_at _ _ (one_link _ _ (linked e h)) = begins_at e h
      first_at _ _ (link_then _ _ y (linked e h) _ rest) = begins_at e h

      pub ring_of_loop : HasLoop edges → Ring Linked
      ring_of_loop l =
          let first = first_at l.at l.at l.leads in
          let back = chain_of_way l.at l.at l.leads first.thing first.here in
          let same : first.thing ≡ back.last = first.alone back.last (sym first.here ∙ back.there) in
          record { thing = first.thing; chain = rw (← same) at back.chain }
