-- The steps that are listed for a cell are those that it gets.
use Rattle.std.proofs.Common.{arith, ◌≡◌, ◌<◌, ◌↔◌, ℕ, Bool, true, false, List, length, refl, sym, ap, subst, inl, inr, Contains}
use Rattle.std.specs.List.{range_with_len}
use Rattle.std.proofs.lemmas.Bool.{both_ways}
use Rattle.lemmas.proofs.Members.{in_range, of_range}
use Rattle.lemmas.proofs.Searches.{passes_by}
use Rattle.cluster_types.specs.declared.cluster.Cluster.{Cluster}
use Rattle.cluster_types.specs.declared.journal.Event.{Event}
use Rattle.cluster_types.specs.declared.leaf.Op.{Op}
use Rattle.cluster_types.specs.NeededActions.{Cycled, GetsAnyStep, GetsStep, GetsStepAnywhere, steps_at}
use Rattle.cluster_types.specs.Tables.{Targets}
use Rattle.planner.specs.Inner.Actions.{is_filled, is_touched, steps_in}
use Rattle.planner.specs.CycledCells.{MarkedCells}
use Rattle.planner.specs.Inner.Levels.{need_at, steps_by}
use Rattle.planner.specs.declared.needed_actions.steps.CellNeed.{CellNeed}
use Rattle.planner.proofs.StepTests.{filled, first_step, some_of}

-- what cells need is told, and which of them are cycled
pub record Tells (c : Cluster) (es : List Event) (targets : Targets) (need : ℕ → ℕ → CellNeed) (marked : MarkedCells) : Type 0 where
  pub needs : (r n : ℕ) → r < length c.leaves → n < length c.nodes → need r n ≡ need_at c es targets r n
  pub cycled : (r n : ℕ) → marked r n ≡ true ↔ Cycled c es targets r n

module _ (c : Cluster) (es : List Event) (targets : Targets) (need : ℕ → ℕ → CellNeed) (marked : MarkedCells) (told : Tells c es targets need marked) where
  steps_known : (r n : ℕ) → r < length c.leaves → n < length c.nodes → steps_in need marked r n ≡ steps_at c es targets r n (marked r n)
  steps_known r n lr ln = ap (λ (w : CellNeed). steps_by w (marked r n)) (told.needs r n lr ln)

  pub gets : (r n : ℕ) (o : Op) → r < length c.leaves → n < length c.nodes → Contains (steps_in need marked r n) o → GetsStep c es targets r n o
  gets r n o lr ln h = on (marked r n) refl (subst (λ (os : List Op). Contains os o) (steps_known r n lr ln) h) where
    on : (b : Bool) → marked r n ≡ b → Contains (steps_at c es targets r n b) o → GetsStep c es targets r n o
    on true e k = inl ((told.cycled r n).0 e, k)
    on false e k = inr ((λ y. both_ways (marked r n) e ((told.cycled r n).1 y)), k)

  pub got : (r n : ℕ) (o : Op) → r < length c.leaves → n < length c.nodes → GetsStep c es targets r n o → Contains (steps_in need marked r n) o
  got r n o lr ln g = subst (λ (os : List Op). Contains os o) (sym (steps_known r n lr ln)) (on (marked r n) refl g) where
    on : (b : Bool) → marked r n ≡ b → GetsStep c es targets r n o → Contains (steps_at c es targets r n b) o
    on true e (inl k) = k.1
    on true e (inr k) = absurd (k.0 ((told.cycled r n).0 e))
    on false e (inl k) = absurd (both_ways (marked r n) e ((told.cycled r n).1 k.0))
    on false e (inr k) = k.1

  pub gets_any : (r n : ℕ) → r < length c.leaves → n < length c.nodes → is_filled (steps_in need marked r n) ≡ true → GetsAnyStep c es targets r n
  gets_any r n lr ln h = let f = first_step (steps_in need marked r n) h in (f.0, gets r n f.0 lr ln f.1)

  pub any_got : (r n : ℕ) → r < length c.leaves → n < length c.nodes → GetsAnyStep c es targets r n → is_filled (steps_in need marked r n) ≡ true
  any_got r n lr ln g = filled (steps_in need marked r n) g.0 (got r n g.0 lr ln g.1)

  -- and so are the leaves that get a step anywhere
  pub touched_is : (r : ℕ) → r < length c.leaves → is_touched c need marked r ≡ true ↔ GetsStepAnywhere c es targets r
  touched_is r lr = (there, back) where
    there : is_touched c need marked r ≡ true → GetsStepAnywhere c es targets r
    there h =
        let f = some_of (λ n. is_filled (steps_in need marked r n)) (range_with_len 0 (length c.nodes)) h in
        let w = of_range 0 (length c.nodes) f.member f.among in
        let ln : f.member < length c.nodes = omega arith in
        (f.member, ln, gets_any r f.member lr ln f.passes)

    back : GetsStepAnywhere c es targets r → is_touched c need marked r ≡ true
    back (n, ln, g) =
        passes_by (λ n. is_filled (steps_in need marked r n)) (range_with_len 0 (length c.nodes)) n
        (in_range 0 (length c.nodes) n (omega arith) (omega arith)) (any_got r n lr ln g)
