-- Each needed action has a place of its own in the order of numbers.
use Rattle.std.proofs.Common.{arith, ◌≡◌, ◌<◌, ◌+◌, ◌==◌, ◌&&◌, if◌then◌else◌, ℕ, Bool, true, false, List, [], ◌∷◌, ◌↔◌, length, Contains, refl, sym, ap, ◌∙◌}
use Rattle.std.proofs.lemmas.Bool.{and_from, eq-eqb, eqb-true}
use Rattle.lemmas.proofs.Members.{at_head, in_rest}
use Rattle.loops.proofs.OneRanking.{valid_rise}
use Rattle.cluster_types.specs.declared.cluster.Cluster.{Cluster}
use Rattle.cluster_types.specs.declared.journal.Action.{Action}
use Rattle.cluster_types.specs.declared.journal.Action.TheVariants.{Fence, Probe, Operation, MigrateTo, MigrateFrom}
use Rattle.cluster_types.specs.declared.journal.Event.{Event}
use Rattle.cluster_types.specs.declared.journal.Promotion.{Promotion}
use Rattle.cluster_types.specs.declared.leaf.Op.{Op}
use Rattle.cluster_types.specs.declared.leaf.Op.TheVariants as op
use Rattle.cluster_types.specs.declared.leaf.Role.TheVariants as role
use Rattle.cluster_types.specs.declared.placement.Placed.{Placed}
use Rattle.cluster_types.specs.Fields.{is_promotable, monitors}
use Rattle.cluster_types.specs.NeededActions.{NeededBeforeMigration, GetsStep, Needed, fence, kept, monitor, probe, sent, step, taken_in}
use Rattle.cluster_types.specs.Numbers.{ActionPlace, link, action_place, rank, step_of}
use Rattle.cluster_types.specs.Plans.{IsPlaced}
use Rattle.cluster_types.specs.Precedence.{is_migrating}
use Rattle.cluster_types.specs.Tables.{Targets, targets_of}
use Rattle.cluster_types.specs.Valid.{IsValid}
use Rattle.planner.specs.Inner.Leaves.{action_leaf}
use Rattle.plan_laws.proofs.CellSteps.{is_step}
use Rattle.plan_laws.proofs.Links.{link_of_leaf}
use Rattle.plan_laws.proofs.LowerNumbers.{promotable_target}
use Rattle.plan_laws.proofs.NeededActions.{promotable_by_demote, target_by_promote}
use Rattle.plan_laws.proofs.Phases.{stop_place}
use Rattle.planner.proofs.ActionKinds.{index_by, kind, node_of}
use Rattle.planner.proofs.ToldApart.{told_apart}

-- the kind of what stands at a place
abbrev kind_by : Cluster → ActionPlace → ℕ
kind_by c p =
    if p.phase == 0 then 15
    else (if p.phase == 1 then 0
    else (if p.phase == 2 then (if is_promotable c p.leaf && p.ranked == rank c (step_of op.Demote p.leaf) then 4 else 2)
    else (if p.phase == 3 then 5
    else (if p.phase == 4 then 6
    else (if p.phase == 5 then 2
    else (if p.phase == 6 then (if is_promotable c p.leaf && p.ranked == rank c (step_of op.Promote p.leaf) then 3 else 1)
    else 7 + index_by (monitors c p.leaf) p.interval))))))

apart_test : (b : Bool) (x y : ℕ) → (b ≡ true → x ≡ y → ⊥) → b && x == y ≡ false
apart_test true x y f = on (x == y) refl
  where
    on : (same : Bool) → (x == y) ≡ same → same ≡ false
    on true e = absurd (f refl (eqb-true x y e))
    on false e = refl
apart_test false x y f = refl

less_apart : (x y : ℕ) → x < y → x ≡ y → ⊥
less_apart x y l e = omega arith

more_apart : (x y : ℕ) → y < x → x ≡ y → ⊥
more_apart x y l e = omega arith

module _ (c : Cluster) (actions : List Action) where
  leaf_at : (x : Action) → (action_place c actions x).leaf ≡ action_leaf x
  leaf_at (Fence n) = refl
  leaf_at (Probe r n) = refl
  leaf_at (Operation op.Start r n i role) = refl
  leaf_at (Operation op.Stop r n i role) = on (is_migrating actions r)
    where
      on : (b : Bool) → (stop_place c actions r n b).leaf ≡ r
      on true = refl
      on false = refl
  leaf_at (Operation op.Promote r n i role) = refl
  leaf_at (Operation op.Demote r n i role) = refl
  leaf_at (Operation op.Monitor r n i role) = refl
  leaf_at (MigrateTo r s t) = refl
  leaf_at (MigrateFrom r s t) = refl

  node_at : (x : Action) → (action_place c actions x).node ≡ node_of x
  node_at (Fence n) = refl
  node_at (Probe r n) = refl
  node_at (Operation op.Start r n i role) = refl
  node_at (Operation op.Stop r n i role) = on (is_migrating actions r)
    where
      on : (b : Bool) → (stop_place c actions r n b).node ≡ n
      on true = refl
      on false = refl
  node_at (Operation op.Promote r n i role) = refl
  node_at (Operation op.Demote r n i role) = refl
  node_at (Operation op.Monitor r n i role) = refl
  node_at (MigrateTo r s t) = refl
  node_at (MigrateFrom r s t) = refl

module _ (c : Cluster) (es : List Event) (ps : List Promotion) (placed : Placed) (actions : List Action) (valid : IsValid c) (is : IsPlaced c es ps placed) where
  abbrev targets : Targets
  targets = targets_of placed.table

  -- on a promotable leaf
  start_below : (r : ℕ) → r < length c.leaves → is_promotable c r ≡ true → rank c (step_of op.Start r) < rank c (step_of op.Promote r)
  start_below r low e =
      valid_rise c valid (link op.Start r op.Promote r)
      (link_of_leaf c r (link op.Start r op.Promote r) low refl refl e (in_rest (link op.Demote r op.Stop r) (link op.Start r op.Promote r ∷ []) (link op.Start r op.Promote r)
      (at_head (link op.Start r op.Promote r) [] (link op.Start r op.Promote r) refl)))

  demote_below : (r : ℕ) → r < length c.leaves → is_promotable c r ≡ true → rank c (step_of op.Demote r) < rank c (step_of op.Stop r)
  demote_below r low e =
      valid_rise c valid (link op.Demote r op.Stop r)
      (link_of_leaf c r (link op.Demote r op.Stop r) low refl e refl (at_head (link op.Demote r op.Stop r) (link op.Start r op.Promote r ∷ []) (link op.Demote r op.Stop r) refl))

  step_kind : (r n : ℕ) (o : Op) → r < length c.leaves → n < length c.nodes → GetsStep c es targets r n o
      → kind_by c (action_place c actions (Operation o r n 0 role.Started)) ≡ kind c (Operation o r n 0 role.Started)
  step_kind r n op.Start low l g =
      ap (λ (b : Bool). if b then 3 else 1)
      (apart_test (is_promotable c r) (rank c (step_of op.Start r)) (rank c (step_of op.Promote r)) (λ e. less_apart _ _ (start_below r low e)))
  step_kind r n op.Promote low l g =
      let promotable = promotable_target c es ps placed is r n low l (target_by_promote c es targets r n g) in
      ap (λ (b : Bool). if b then 3 else 1)
      (and_from (is_promotable c r) (rank c (step_of op.Promote r) == rank c (step_of op.Promote r)) promotable (eq-eqb (rank c (step_of op.Promote r)) (rank c (step_of op.Promote r)) refl))
  step_kind r n op.Stop low l g = on (is_migrating actions r)
    where
      on : (b : Bool) → kind_by c (stop_place c actions r n b) ≡ 2
      on true = refl
      on false =
          ap (λ (b : Bool). if b then 4 else 2)
          (apart_test (is_promotable c r) (rank c (step_of op.Stop r)) (rank c (step_of op.Demote r)) (λ e. more_apart _ _ (demote_below r low e)))
  step_kind r n op.Demote low l g =
      let promotable = promotable_by_demote c es targets r n g in
      ap (λ (b : Bool). if b then 4 else 2)
      (and_from (is_promotable c r) (rank c (step_of op.Demote r) == rank c (step_of op.Demote r)) promotable (eq-eqb (rank c (step_of op.Demote r)) (rank c (step_of op.Demote r)) refl))
  step_kind r n op.Monitor low l g = let e : false ≡ true = (is_step c es targets r n op.Monitor g).fitting in cc

  first_kind : (x : Action) → NeededBeforeMigration c es targets x → kind_by c (action_place c actions x) ≡ kind c x
  first_kind _ (fence n h e) = refl
  first_kind _ (probe r n h l e) = refl
  first_kind _ (step r n o h l g) = step_kind r n o h l g
  first_kind _ (monitor r n m h l k g) = refl

  needed_kind : (x : Action) → Needed c es targets x → kind_by c (action_place c actions x) ≡ kind c x
  needed_kind x (kept _ f k) = first_kind x f
  needed_kind _ (sent r n m g) = refl
  needed_kind _ (taken_in r n m g) = refl

  pub own_place : ((a : Action) → Contains actions a ↔ Needed c es targets a) → (x y : Action) → Needed c es targets x → Needed c es targets y
      → action_place c actions x ≡ action_place c actions y → x ≡ y
  own_place needed x y h k e =
      told_apart c es ps placed actions valid is needed x y h k
      (sym (leaf_at c actions x) ∙ (ap (λ (p : ActionPlace). p.leaf) e ∙ leaf_at c actions y))
      (sym (node_at c actions x) ∙ (ap (λ (p : ActionPlace). p.node) e ∙ node_at c actions y))
      (sym (needed_kind x h) ∙ (ap (kind_by c) e ∙ needed_kind y k))
