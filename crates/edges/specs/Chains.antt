-- Chains of links, whatever is linked: each link leads on from where the one before it ends; and which chain is the longest. LongestChains counts the edges
-- of those between positions (rule of this project).
use Rattle.std.specs.Prelude.{◌≤◌, ◌&&◌, ◌||◌, ⊤, ℕ, suc, zero, Bool, List, [], ◌∷◌, Contains}

-- one of these links leads from the one to the other, by its two ends
pub data IsLinked {X L : Type 0} (before after : L → X) (links : List L) : X → X → Type 0 where
  linked : (l : L) → Contains links l → IsLinked before after links (before l) (after l)

-- a chain of one link or more leads from the one to the other, with none but such between
pub data ChainThrough {X : Type 0} (Between : X → Type 0) (Linked : X → X → Type 0) : X → X → Type 0 where
  one_link : (x y : X) → Linked x y → ChainThrough Between Linked x y
  link_then : (x y z : X) → Linked x y → Between y → ChainThrough Between Linked y z → ChainThrough Between Linked x z

-- a chain leads from the one to the other, whatever is between
abbrev pub Chain : {X : Type 0} → (X → X → Type 0) → X → X → Type 0
Chain Linked x y = ChainThrough (λ via. ⊤) Linked x y

-- a chain leads from x to y with none but some of these between, as a test: where there are none of these, by one link; else with the first of them left out,
-- all the way, or up to that first one and then on from it. It finds each such chain, however long (`ways_are_computed`, of edges; `chains_computed` of
-- `proofs/ThroughOthers.antt`, of any links)
abbrev pub leads_through : {X : Type 0} → (X → X → Bool) → List X → X → X → Bool
leads_through is_linked [] x y = is_linked x y
leads_through is_linked (via ∷ others) x y =
    leads_through is_linked others x y || leads_through is_linked others x via && leads_through is_linked others via y

-- no chain leads back to where it begins
abbrev pub LinksHaveNoLoop : {X : Type 0} → (X → X → Type 0) → Type 0
LinksHaveNoLoop {X} Linked = (x : X) → Chain Linked x x → ⊥

-- a chain of so many links ends there
pub data ChainEnds {X : Type 0} (Linked : X → X → Type 0) : ℕ → X → Type 0 where
  no_link : (x : X) → ChainEnds Linked zero x
  then_link : (n : ℕ) (x y : X) → ChainEnds Linked n x → Linked x y → ChainEnds Linked (suc n) y

-- the longest chain that ends there has so many links
pub record IsLongestChain {X : Type 0} (Linked : X → X → Type 0) (x : X) (n : ℕ) : Type 0 where
  pub chain : ChainEnds Linked n x
  pub longest : (m : ℕ) → ChainEnds Linked m x → m ≤ n
