-- Whether a cell is cycled shows in the actions: it is stopped, although it keeps a target.
use Rattle.std.proofs.Common.{arith, inl, inr, ◌⊎◌, ◌≡◌, ◌<◌, ◌+◌, ◌-◌, if◌then◌else◌, ℕ, suc, zero, Bool, true, false, Some, List, [], ◌∷◌, length, slice_get, refl, subst}
use Rattle.std.specs.Prelude.{Contains}
use Rattle.std.specs.List.{list_any}
use Rattle.std.proofs.lemmas.Bool.{or_parts}
use Rattle.lemmas.proofs.Booleans.{either}
use Rattle.cluster_types.specs.declared.journal.Action.{Action}
use Rattle.cluster_types.specs.declared.journal.Action.TheVariants.{Operation}
use Rattle.cluster_types.specs.declared.leaf.Op.{Op}
use Rattle.cluster_types.specs.declared.leaf.Op.TheVariants as op
use Rattle.cluster_types.specs.declared.leaf.Role.TheVariants as role
use Rattle.cluster_types.specs.declared.placement.Target.{Target}
use Rattle.cluster_types.specs.declared.placement.Target.TheVariants as target
use Rattle.cluster_types.specs.declared.states.CellState.{CellState}
use Rattle.cluster_types.specs.declared.states.CellState.TheVariants as cell
use Rattle.cluster_types.specs.Cells.{is_same_cell}
use Rattle.cluster_types.specs.NeededActions.{Cycled, NeededBeforeMigration, fence, probe, step, monitor, Needed, kept, sent, taken_in, GetsStep, runs, steps_of}
use Rattle.cluster_types.specs.Pins.{is_pinned}
use Rattle.cluster_types.specs.Steps.{Transition}
use Rattle.cluster_types.specs.Tables.{Targets}
use Rattle.run_safety.proofs.Carried.{Carries}
use Rattle.run_safety.proofs.Needing.{state, step_needed}
use Rattle.run_safety.proofs.Planned.{number_of, place_of}
use Rattle.run_safety.proofs.Truths.{one_cell, refuse, own_cell}

-- an action of a list that passes
pub record Found (p : Action → Bool) (actions : List Action) : Type 0 where
  pub place : ℕ
  pub action : Action
  pub is : slice_get actions place ≡ Some action
  pub passes : p action ≡ true

pub find_one : (p : Action → Bool) (actions : List Action) → list_any p actions ≡ true → Found p actions
find_one p [] h = absurd (let f : ⊥ = cc in f)
find_one p (a ∷ as_well) h =
    either (p a) _ h (λ k. record { place = 0; action = a; is = refl; passes = k })
    (λ k. let rest = find_one p as_well k in record { place = suc rest.place; action = rest.action; is = rest.is; passes = rest.passes })

pub find_none : (p : Action → Bool) (actions : List Action) → list_any p actions ≡ false → (i : ℕ) (a : Action) → slice_get actions i ≡ Some a → p a ≡ false
find_none p [] h i a e = absurd (let f : ⊥ = cc in f)
find_none p (b ∷ bs) h zero a e = let same : b ≡ a = cc in subst (λ z. p z ≡ false) same (or_parts (p b) _ h).0
find_none p (b ∷ bs) h (suc i) a e = find_none p bs (or_parts (p b) _ h).1 i a e

abbrev pub is_stop_of : ℕ → ℕ → Action → Bool
is_stop_of r n (Operation op.Stop leaf node interval held) = is_same_cell r n leaf node
is_stop_of r n _ = false

-- what runs and is cycled is stopped
stop_of_cycled : (pinned : Bool) (s : CellState) (u : Target) → pinned ≡ false → runs s ≡ true → Contains (if pinned then [] else steps_of s u true) op.Stop
stop_of_cycled true s u e h = absurd (let f : ⊥ = cc in f)
stop_of_cycled false cell.On target.Nowhere e h = (0, omega arith, refl)
stop_of_cycled false cell.On target.Started e h = (0, omega arith, refl)
stop_of_cycled false cell.On target.Promoted e h = (0, omega arith, refl)
stop_of_cycled false cell.Promoted target.Nowhere e h = (1, omega arith, refl)
stop_of_cycled false cell.Promoted target.Started e h = (1, omega arith, refl)
stop_of_cycled false cell.Promoted target.Promoted e h = (1, omega arith, refl)
stop_of_cycled false cell.Off u e h = absurd (let f : ⊥ = cc in f)
stop_of_cycled false cell.Away u e h = absurd (let f : ⊥ = cc in f)
stop_of_cycled false cell.Unprobed u e h = absurd (let f : ⊥ = cc in f)
stop_of_cycled false cell.Blocked u e h = absurd (let f : ⊥ = cc in f)
stop_of_cycled false cell.Failed u e h = absurd (let f : ⊥ = cc in f)

module _ (t : Transition) (targets : Targets) (carries : Carries t targets) (r n : ℕ) where
  abbrev pub IsCycled : Type 0
  IsCycled = Cycled t.cluster t.planned_at targets r n

  abbrev pub Gets : Op → Type 0
  Gets o = GetsStep t.cluster t.planned_at targets r n o

  step_gets : (s m : ℕ) (o : Op) → GetsStep t.cluster t.planned_at targets s m o → is_stop_of r n (Operation o s m 0 role.Started) ≡ true → Gets op.Stop
  step_gets s m op.Stop g h =
      let same = one_cell r n s m h in
      subst (λ z. GetsStep t.cluster t.planned_at targets z n op.Stop) same.0 (subst (λ z. GetsStep t.cluster t.planned_at targets s z op.Stop) same.1 g)
  step_gets s m op.Start g h = absurd (let f : ⊥ = cc in f)
  step_gets s m op.Promote g h = absurd (let f : ⊥ = cc in f)
  step_gets s m op.Demote g h = absurd (let f : ⊥ = cc in f)
  step_gets s m op.Monitor g h = absurd (let f : ⊥ = cc in f)

  stop_gets : (y : Action) → Needed t.cluster t.planned_at targets y → is_stop_of r n y ≡ true → Gets op.Stop
  stop_gets y (kept _ f others) h = of_first y f h
    where
      of_first : (y : Action) → NeededBeforeMigration t.cluster t.planned_at targets y → is_stop_of r n y ≡ true → Gets op.Stop
      of_first _ (fence m l e) h = absurd (let f : ⊥ = cc in f)
      of_first _ (probe s m k l e) h = absurd (let f : ⊥ = cc in f)
      of_first _ (step s m o k l g) h = step_gets s m o g h
      of_first _ (monitor s m w k l has needs) h = absurd (let f : ⊥ = cc in f)
  stop_gets _ (sent s from m g) h = absurd (let f : ⊥ = cc in f)
  stop_gets _ (taken_in s from m g) h = absurd (let f : ⊥ = cc in f)

  -- what runs is cycled, or it isn't
  pub cycled_or_not : r < length t.cluster.leaves → n < length t.cluster.nodes → is_pinned t.cluster t.planned_at r ≡ false → runs (state t r n) ≡ true
      → IsCycled ⊎ (IsCycled → ⊥)
  cycled_or_not h l free running = by (list_any (is_stop_of r n) t.actions) refl
    where
      by : (b : Bool) → list_any (is_stop_of r n) t.actions ≡ b → IsCycled ⊎ (IsCycled → ⊥)
      by true e =
          let one = find_one (is_stop_of r n) t.actions e in
          told (stop_gets one.action (carries.needed (one.place + 1) one.action (number_of t one.place one.action one.is)) one.passes)
        where
          told : Gets op.Stop → IsCycled ⊎ (IsCycled → ⊥)
          told (inl g) = inl g.0
          told (inr g) = inr g.0
      by false e =
          inr (λ g.
          let needed = step_needed t targets r n op.Stop (λ e. let f : ⊥ = cc in f) h l
          (inl (g, stop_of_cycled (is_pinned t.cluster t.planned_at r) (state t r n) (targets r n) free running)) in
          let number = carries.numbered (Operation op.Stop r n 0 role.Started) needed in
          let absent = find_none (is_stop_of r n) t.actions e (number.number - 1) (Operation op.Stop r n 0 role.Started) (place_of t.actions number.number _ number.is) in
          refuse _ absent (own_cell r n))

  -- a step that is needed either way is needed
  pub either_way : r < length t.cluster.leaves → n < length t.cluster.nodes → is_pinned t.cluster t.planned_at r ≡ false → runs (state t r n) ≡ true → (o : Op)
      → ((cycled : Bool) → Contains (if is_pinned t.cluster t.planned_at r then [] else steps_of (state t r n) (targets r n) cycled) o) → Gets o
  either_way h l free running o has = by (cycled_or_not h l free running)
    where
      by : IsCycled ⊎ (IsCycled → ⊥) → Gets o
      by (inl g) = inl (g, has true)
      by (inr g) = inr (g, has false)
