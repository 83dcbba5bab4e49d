-- A chain rises as its links do.
use Rattle.std.proofs.Common.{arith, ◌<◌, ℕ}
use Rattle.edges.specs.Chains.{Chain, link_then, one_link}

chain_rises : {A : Type 0} (Linked : A → A → Type 0) (height : A → ℕ) → ((s t : A) → Linked s t → height s < height t) → (s t : A)
    → Chain Linked s t → height s < height t
chain_rises Linked height rises s t (one_link _ _ l) = rises s t l
chain_rises Linked height rises s t (link_then _ u _ l _ rest) =
    let up : height s < height u = rises s u l in
    let on : height u < height t = chain_rises Linked height rises u t rest in
    omega arith

pub no_ring : {A : Type 0} (Linked : A → A → Type 0) (height : A → ℕ) → ((s t : A) → Linked s t → height s < height t) → (s : A)
    → Chain Linked s s → ⊥
no_ring Linked height rises s ring =
    let up : height s < height s = chain_rises Linked height rises s s ring in
    let f : ⊥ = omega arith in f
