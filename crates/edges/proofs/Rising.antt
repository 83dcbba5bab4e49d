-- Where each edge leads back in some order, no edges lead from a position back to it.
use Rattle.std.proofs.Common.{arith, ◌≡◌, ◌<◌, ◌==◌, ℕ, true, false, List, length, take, slice_index_or}
use Rattle.std.specs.List.{IsDistinct}
use Rattle.std.proofs.lemmas.Bool.{both_ways}
use Rattle.std.proofs.lemmas.List.{length-take, get_or-take}
use Rattle.edges.specs.declared.edge.Edge.{Edge}
use Rattle.edges.specs.Chains.{linked, link_then, one_link}
use Rattle.edges.specs.Loops.{Leads}
use Rattle.edges.specs.Sources.{is_in_list}
use Rattle.edges.specs.Inner.Clearing.{LeadsBack}
use Rattle.edges.proofs.Members.{StandsAt, place_of, has_take, not_before}

module _ (edges : List Edge) (order : List ℕ) (back : LeadsBack edges order) where
  pub leads_back : (x y : ℕ) → Leads edges x y → (k : ℕ) → k < length order → x ≡ slice_index_or order k 0 → is_in_list (take k order) y ≡ true
  leads_back _ _ (one_link _ _ (linked e c)) k lt at = back k e lt c at
  leads_back _ _ (link_then _ _ y (linked e c) _ rest) k lt at =
      let s : StandsAt (take k order) e.after = place_of (take k order) e.after (back k e lt c at) in
      let before : s.place < k = omega (arith, s.within, length-take k order) in
      let here : e.after ≡ slice_index_or order s.place 0 = let h = s.here in let t = get_or-take k order s.place 0 before in cc in
      has_take s.place k order y (omega arith) (leads_back e.after y rest s.place (omega arith) here)

  at_place : IsDistinct ◌==◌ order → (x k : ℕ) → k < length order → x ≡ slice_index_or order k 0 → is_in_list (take k order) x ≡ false
  at_place distinct x k lt at = rw at (not_before order k distinct lt)

  pub no_loop : IsDistinct ◌==◌ order → (x : ℕ) → is_in_list order x ≡ true → Leads edges x x → ⊥
  no_loop distinct x h led =
      let s : StandsAt order x = place_of order x h in
      both_ways (is_in_list (take s.place order) x) (at_place distinct x s.place s.within s.here) (leads_back x x led s.place s.within s.here)
