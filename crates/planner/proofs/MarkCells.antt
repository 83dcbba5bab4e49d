-- One cell more that is marked.
use Rattle.std.proofs.Common.{arith, ◌≡◌, ◌<◌, ◌+◌, ◌*◌, ◌==◌, ◌&&◌, ◌||◌, nat_lt, ℕ, Bool, true, false, List, length, slice_index_or, slice_set, refl, sym, ◌∙◌, inl, inr}
use Rattle.std.proofs.lemmas.Bool.{cases_lt, le-ltb, lt-ltb, ne_eqb}
use Rattle.lemmas.proofs.Booleans.{cond-or}
use Rattle.cluster_types.proofs.TableCells.{get-at, same_place}
use Rattle.planner.specs.Inner.Levels.{marks_in}

none_of : (a : Bool) → (false || a && false) ≡ false
none_of true = refl
none_of false = refl

pub marked_more : (nodes : ℕ) (cells : List Bool) (leaf node : ℕ) → node < nodes → leaf * nodes + node < length cells → (r n : ℕ)
    → marks_in nodes (slice_set cells (leaf * nodes + node) true) r n ≡ (marks_in nodes cells r n || r == leaf && n == node)
marked_more nodes cells leaf node on_node within r n = elim (cases_lt n nodes) [
  | inl lt ↦
      let t : nat_lt n nodes ≡ true = lt-ltb n nodes lt in
      rw t (get-at cells (r * nodes + n) (leaf * nodes + node) true false within (r == leaf && n == node)
      (same_place nodes r n leaf node lt on_node (r == leaf) refl)
      ∙ cond-or (r == leaf && n == node) (slice_index_or cells (r * nodes + n) false))
  | inr le ↦
      let t : nat_lt n nodes ≡ false = le-ltb n nodes le in
      let e : (n == node) ≡ false = ne_eqb n node (λ s. let f : ⊥ = omega arith in f) in
      rw (t, e) (sym (none_of (r == leaf)))
]
