-- The loop over the orders of the kind Serialize.
use Rattle.std.proofs.Common.{arith, ◌≡◌, ◌<◌, ◌≤◌, ◌+◌, ◌⊎◌, ℕ, Bool, true, false, List, [], ◌∷◌, ◌++◌, length, get_or, take, sym, ap, subst, ◌∙◌}
use Rattle.std.specs.List.{list_any, sum_by}
use Rattle.std.proofs.lemmas.Bool.{or_cases}
use Rattle.std.proofs.lemmas.List.{take_more}
use Rattle.std.proofs.lemmas.List.Sums.{sum_by_push}
use Rattle.lemmas.proofs.Searches.{any-more}
use Rattle.cluster_types.specs.declared.cluster.Cluster.{Cluster}
use Rattle.edges.specs.declared.edge.Edge.{Edge}
use Rattle.cluster_types.specs.declared.journal.Action.{Action}
use Rattle.cluster_types.specs.declared.rules.Order.{Order}
use Rattle.cluster_types.specs.Numbers.{is_earlier}
use Rattle.planner.specs.Inner.Chains.{serialized_at}
use Rattle.planner.specs.Inner.Groups.{AddsGroup}
use Rattle.planner.specs.Inner.Serials.{most_serial, serial_room}
use Rattle.planner.proofs.Adding.{adds_after, adds_none, adds_says}
use Rattle.planner.proofs.AllJoins.{one_or}

module _ (c : Cluster) (actions : List Action) where
  abbrev says : ℕ → ℕ → Order → Bool
  says x y o = serialized_at actions (is_earlier c actions) x y o

  -- what the loop keeps
  pub record Serials (old now : List Edge) (from base : ℕ) (orders : List Order) : Type 0 where
    pub adds : AddsGroup (length actions) old now from base (sum_by (most_serial actions) orders) (λ x y. list_any (says x y) orders ≡ true)
    pub room : base ≤ from + sum_by (serial_room actions) orders

  pub serials_none : (list : List Edge) (from : ℕ) → length actions ≤ from → Serials list list from from []
  serials_none list from le = record {
    adds =
        adds_says (length actions) list list from from 0 0 (λ x y. ⊥) (λ x y. list_any (says x y) [] ≡ true) (λ x y l m h. absurd h)
        (λ x y l m h. let e : false ≡ true = h in cc) (omega arith) (adds_none (length actions) list from le);
    room = omega arith;
  }

  pub serials_more : (old now new : List Edge) (from base upto : ℕ) (orders : List Order) (i : ℕ) (d o : Order) → i < length orders → o ≡ get_or orders i d
      → Serials old now from base (take i orders) → AddsGroup (length actions) now new base upto (most_serial actions o) (λ x y. says x y o ≡ true)
      → upto ≤ base + serial_room actions o → Serials old new from upto (take (i + 1) orders)
  serials_more old now new from base upto orders i d o l is h more room =
      let os = take i orders in
      let e = sum_by_push (most_serial actions) os o in
      let f = sum_by_push (serial_room actions) os o in
      subst (Serials old new from upto) (sym (take_more orders i d l ∙ ap (λ v. os ++ v ∷ []) (sym is))) record {
        adds =
            adds_says (length actions) old new from upto (sum_by (most_serial actions) os + most_serial actions o) (sum_by (most_serial actions) (os ++ o ∷ []))
            (λ x y. (list_any (says x y) os ≡ true) ⊎ (says x y o ≡ true)) (λ x y. list_any (says x y) (os ++ o ∷ []) ≡ true)
            (λ x y l m k. any-more (says x y) os o ∙ one_or (list_any (says x y) os) (says x y o) k)
            (λ x y l m k. or_cases (list_any (says x y) os) (says x y o) (sym (any-more (says x y) os o) ∙ k)) (omega arith)
            (adds_after (length actions) old now new from base upto (sum_by (most_serial actions) os) (most_serial actions o) (λ x y. list_any (says x y) os ≡ true)
            (λ x y. says x y o ≡ true) h.adds more);
        room = let r = h.room in omega arith;
      }
