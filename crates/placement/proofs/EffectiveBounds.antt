-- The greatest key among a decision and those that need it is the least that is no less than each of them.
use Rattle.std.proofs.Common.{◌≡◌, Bool, true, false, Option, Some, List, filter, fold, map, sym, subst, ◌∙◌, Contains}
use Rattle.std.proofs.lemmas.Bool.{and_from}
use Rattle.std.proofs.lemmas.List.Folds.{fold-map}
use Rattle.lemmas.proofs.Members.{Kept, Mapped, in_filter, in_map, of_filter, of_map}
use Rattle.edges.proofs.ThroughOthers.{at_once, led_on}
use Rattle.cluster_types.specs.declared.cluster.Cluster.{Cluster}
use Rattle.cluster_types.specs.declared.placement.Decision.{Decision}
use Rattle.cluster_types.specs.Decisions.{Key, greater_key, is_among, is_less, needs, needs_at_once, needs_through}
use Rattle.placement.specs.Inner.EffectiveKeys.{effective_in}
use Rattle.placement.specs.Inner.Lending.{greater_by}
use Rattle.placement.proofs.KeyOrder.{greatest_is_least, greatest_keeps_each, greatest_keeps_own}
use Rattle.placement.proofs.ReadyFlags.{among-is}

module _ (c : Cluster) (ds : List Decision) (key : Decision → Key) where
  abbrev greatest : Decision → Key
  greatest = effective_in c ds key

  abbrev some_key : Decision → Option Key
  some_key e = Some (key e)

  abbrev needing : Decision → Decision → Bool
  needing d e = needs_through c ds e d

  as_lent : (d : Decision) → greatest d ≡ fold greater_by (key d) (map some_key (filter (needing d) ds))
  as_lent d = fold-map greater_key key (key d) (filter (needing d) ds) ∙ sym (fold-map greater_by some_key (key d) (filter (needing d) ds))

  pub own_at_most : (d : Decision) → is_less (greatest d) (key d) ≡ false
  own_at_most d = subst (λ (k : Key). is_less k (key d) ≡ false) (sym (as_lent d)) (greatest_keeps_own (key d) (map some_key (filter (needing d) ds)))

  pub each_at_most : (d e : Decision) → Contains ds e → needs_through c ds e d ≡ true → is_less (greatest d) (key e) ≡ false
  each_at_most d e there h =
      subst (λ (k : Key). is_less k (key e) ≡ false) (sym (as_lent d))
      (greatest_keeps_each (key d) (map some_key (filter (needing d) ds)) (key e)
      (in_map some_key (filter (needing d) ds) e (in_filter (needing d) ds e there h)))

  pub least_of_all : (d : Decision) (u : Key) → is_less u (key d) ≡ false
      → ((e : Decision) → Contains ds e → needs_through c ds e d ≡ true → is_less u (key e) ≡ false) → is_less u (greatest d) ≡ false
  least_of_all d u own each =
      subst (λ (k : Key). is_less u k ≡ false) (sym (as_lent d))
      (greatest_is_least (key d) (map some_key (filter (needing d) ds)) u own (λ k h.
      let m : Mapped some_key (filter (needing d) ds) (Some k) = of_map some_key (filter (needing d) ds) (Some k) h in
      let w : Kept (needing d) ds m.source = of_filter (needing d) ds m.source m.among in
      let is : key m.source ≡ k = let g = m.gives in cc in
      subst (λ (x : Key). is_less u x ≡ false) is (each m.source w.among w.passes)))

  -- what a decision needs has at least its greatest key
  pub needed_has_more : (d f : Decision) → Contains ds d → Contains ds f → needs c f d ≡ true → is_less (greatest d) (greatest f) ≡ false
  needed_has_more d f there also wants =
      let one : needs_through c ds f d ≡ true
      = at_once (needs_at_once c ds) ds f d (and_from (is_among ds d) _ (among-is ds d there) wants) in
      least_of_all f (greatest d) (each_at_most d f also one)
      (λ e present h. each_at_most d e present (led_on (needs_at_once c ds) ds e f d also h one))
