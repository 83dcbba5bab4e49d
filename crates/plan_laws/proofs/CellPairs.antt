-- What must come first by its kind or on its cell: probes, stops, fences and demotes before starts and promotes, and all of them before monitors.
use Rattle.std.proofs.Common.{◌≡◌, ◌<◌, ◌==◌, ◌&&◌, ◌||◌, nat_lt, ℕ, Bool, true, false, Option, Some, None, List, [], ◌∷◌, length, Contains, refl, sym, subst}
use Rattle.std.proofs.lemmas.Bool.{and_parts, eqb-true, lt-ltb}
use Rattle.lemmas.proofs.Booleans.{either}
use Rattle.lemmas.proofs.Members.{at_head, in_rest}
use Rattle.cluster_types.specs.declared.cluster.Cluster.{Cluster}
use Rattle.cluster_types.specs.declared.journal.Action.{Action}
use Rattle.cluster_types.specs.declared.journal.Action.TheVariants.{Fence, Probe, Operation, MigrateTo, MigrateFrom}
use Rattle.cluster_types.specs.declared.journal.Event.{Event}
use Rattle.cluster_types.specs.declared.leaf.Op.TheVariants as op
use Rattle.cluster_types.specs.declared.leaf.Role.TheVariants as role
use Rattle.cluster_types.specs.Fields.{copies, is_promotable}
use Rattle.cluster_types.specs.NeededActions.{Needed}
use Rattle.cluster_types.specs.Numbers.{Link, is_place_before, is_earlier, link, links, action_place, rank, step_of}
use Rattle.cluster_types.specs.Precedence.{LeafOnNode, both, step_cell, comes_first_in_cell, demotes_first, fences_first, gives_any, is_migrating, is_one_cell, is_one_leaf, is_some_cell, op_cell, probe_cell, probes_first, stops_first}
use Rattle.cluster_types.specs.Tables.{Targets, holds_role}
use Rattle.plan_laws.proofs.Links.{link_of_leaf}
use Rattle.plan_laws.proofs.NeededActions.{bounds_of_cell, gets_step, promotable_by_demote, target_by_promote}
use Rattle.plan_laws.proofs.Phases.{gives_by_rank, stop_place, takes_by_rank}
use Rattle.plan_laws.proofs.Roles.{GivesTo, gives_start, gives_sent, gives_promote, given_any}
use Rattle.plan_laws.proofs.Words.{OfCell, of_cell, both_there, cell_there}

module _ (c : Cluster) (es : List Event) (targets : Targets) (actions : List Action) (needs : (a : Action) → Contains actions a → Needed c es targets a)
    (rise : (l : Link) → Contains (links c) l → rank c l.before < rank c l.after)
    (roles : (r n : ℕ) → r < length c.leaves → n < length c.nodes → holds_role targets r role.Promoted n ≡ true → is_promotable c r ≡ true) where
  probe_upward : (x y : Action) (a : LeafOnNode) (s : ℕ) → probe_cell x ≡ Some a → GivesTo y s → is_earlier c actions x y ≡ true
  probe_upward (Probe r n) _ a _ h (gives_start s m i role) = refl
  probe_upward (Probe r n) _ a _ h (gives_sent s f t) = refl
  probe_upward (Probe r n) _ a _ h (gives_promote s m i role) = refl
  probe_upward (Fence n) y a s h g = cc
  probe_upward (Operation o r n i role) y a s h g = cc
  probe_upward (MigrateTo r f t) y a s h g = cc
  probe_upward (MigrateFrom r f t) y a s h g = cc

  pub probes_upward : (x y : Action) → probes_first x y ≡ true → is_earlier c actions x y ≡ true
  probes_upward x y h =
      let b = both_there is_one_leaf (probe_cell x) (gives_any y) h in probe_upward x y b.one b.other.leaf b.is_one (given_any y b.other b.is_other)

  -- a stop comes before a start or a promote, whether its leaf migrates or not
  stop_start : (x y : Action) (r n s m : ℕ) → OfCell op.Stop x r n → OfCell op.Start y s m → is_earlier c actions x y ≡ true
  stop_start _ _ _ _ _ _ (of_cell r n i role) (of_cell s m j other) = go (is_migrating actions r) where
    go : (b : Bool) → is_place_before (stop_place c actions r n b) (action_place c actions (Operation op.Start s m j other)) ≡ true
    go true = refl
    go false = refl

  stop_promote : (x y : Action) (r n s m : ℕ) → OfCell op.Stop x r n → OfCell op.Promote y s m → is_earlier c actions x y ≡ true
  stop_promote _ _ _ _ _ _ (of_cell r n i role) (of_cell s m j other) = go (is_migrating actions r) where
    go : (b : Bool) → is_place_before (stop_place c actions r n b) (action_place c actions (Operation op.Promote s m j other)) ≡ true
    go true = refl
    go false = refl

  pub stops_upward : (x y : Action) → stops_first c x y ≡ true → is_earlier c actions x y ≡ true
  stops_upward x y h =
      let b = both_there (λ a b. is_one_leaf a b && (a.node == b.node || nat_lt (copies c a.leaf) (length c.nodes))) (op_cell op.Stop x) (op_cell op.Start y) h in
      stop_start x y b.one.leaf b.one.node b.other.leaf b.other.node (cell_there op.Stop x b.one b.is_one) (cell_there op.Start y b.other b.is_other)

  fence_upward : (n : ℕ) (y : Action) (s : ℕ) → GivesTo y s → is_earlier c actions (Fence n) y ≡ true
  fence_upward n _ _ (gives_start s m i role) = refl
  fence_upward n _ _ (gives_sent s f t) = refl
  fence_upward n _ _ (gives_promote s m i role) = refl

  pub fences_upward : (x y : Action) → fences_first x y ≡ true → is_earlier c actions x y ≡ true
  fences_upward (Fence n) y h = go (gives_any y) refl h
    where
      go : (v : Option LeafOnNode) → gives_any y ≡ v → is_some_cell v ≡ true → is_earlier c actions (Fence n) y ≡ true
      go (Some a) e k = fence_upward n y a.leaf (given_any y a e)
      go None e k = cc
  fences_upward (Probe r n) y h = cc
  fences_upward (Operation o r n i role) y h = cc
  fences_upward (MigrateTo r f t) y h = cc
  fences_upward (MigrateFrom r f t) y h = cc

  demote_promote : (x y : Action) (r n s m : ℕ) → OfCell op.Demote x r n → OfCell op.Promote y s m → is_earlier c actions x y ≡ true
  demote_promote _ _ _ _ _ _ (of_cell r n i role) (of_cell s m j other) = refl

  pub demotes_upward : (x y : Action) → demotes_first x y ≡ true → is_earlier c actions x y ≡ true
  demotes_upward x y h =
      either (both is_one_leaf (op_cell op.Demote x) (op_cell op.Promote y)) (both is_one_leaf (op_cell op.Stop x) (op_cell op.Promote y)) h
      (λ k. let b = both_there is_one_leaf (op_cell op.Demote x) (op_cell op.Promote y) k in
      demote_promote x y b.one.leaf b.one.node b.other.leaf b.other.node (cell_there op.Demote x b.one b.is_one) (cell_there op.Promote y b.other b.is_other))
      (λ k. let b = both_there is_one_leaf (op_cell op.Stop x) (op_cell op.Promote y) k in
      stop_promote x y b.one.leaf b.one.node b.other.leaf b.other.node (cell_there op.Stop x b.one b.is_one) (cell_there op.Promote y b.other b.is_other))

  -- on one cell
  demote_stop : (x y : Action) (r n s m : ℕ) → r ≡ s → Contains actions x → OfCell op.Demote x r n → OfCell op.Stop y s m → is_earlier c actions x y ≡ true
  demote_stop _ _ _ _ _ _ same inx (of_cell r n i role) (of_cell s m j other) = go (is_migrating actions s)
    where
      go : (b : Bool) → is_place_before (action_place c actions (Operation op.Demote r n i role)) (stop_place c actions s m b) ≡ true
      go true = refl
      go false =
          let need = needs (Operation op.Demote r n i role) inx in
          let within = bounds_of_cell c es targets op.Demote r n i role need in
          let yes = promotable_by_demote c es targets r n (gets_step c es targets op.Demote r n i role refl need) in
          let up = rise (link op.Demote r op.Stop r)
          (link_of_leaf c r (link op.Demote r op.Stop r) within.0 refl yes refl (at_head (link op.Demote r op.Stop r) (link op.Start r op.Promote r ∷ []) (link op.Demote r op.Stop r) refl)) in
          takes_by_rank _ _ r s n m 0 0 (subst (λ v. nat_lt (rank c (step_of op.Demote r)) (rank c (step_of op.Stop v)) ≡ true) same (lt-ltb _ _ up))

  start_promote : (x y : Action) (r n s m : ℕ) → r ≡ s → Contains actions y → OfCell op.Start x r n → OfCell op.Promote y s m → is_earlier c actions x y ≡ true
  start_promote _ _ _ _ _ _ same iny (of_cell r n i role) (of_cell s m j other) =
      let need = needs (Operation op.Promote s m j other) iny in
      let within = bounds_of_cell c es targets op.Promote s m j other need in
      let yes = roles s m within.0 within.1 (target_by_promote c es targets s m (gets_step c es targets op.Promote s m j other refl need)) in
      let up = rise (link op.Start s op.Promote s)
      (link_of_leaf c s (link op.Start s op.Promote s) within.0 refl refl yes
      (in_rest (link op.Demote s op.Stop s) (link op.Start s op.Promote s ∷ []) (link op.Start s op.Promote s) (at_head (link op.Start s op.Promote s) [] (link op.Start s op.Promote s) refl))) in
      gives_by_rank _ _ r s n m 0 0 (subst (λ v. nat_lt (rank c (step_of op.Start v)) (rank c (step_of op.Promote s)) ≡ true) (sym same) (lt-ltb _ _ up))

  change_monitor : (x y : Action) (a : LeafOnNode) (s m : ℕ) → step_cell x ≡ Some a → OfCell op.Monitor y s m → is_earlier c actions x y ≡ true
  change_monitor (Operation op.Start r n i role) _ a _ _ h (of_cell s m j other) = refl
  change_monitor (Operation op.Stop r n i role) _ a _ _ h (of_cell s m j other) = go (is_migrating actions r) where
    go : (b : Bool) → is_place_before (stop_place c actions r n b) (action_place c actions (Operation op.Monitor s m j other)) ≡ true
    go true = refl
    go false = refl
  change_monitor (Operation op.Promote r n i role) _ a _ _ h (of_cell s m j other) = refl
  change_monitor (Operation op.Demote r n i role) _ a _ _ h (of_cell s m j other) = refl
  change_monitor (Operation op.Monitor r n i role) y a s m h k = cc
  change_monitor (Fence n) y a s m h k = cc
  change_monitor (Probe r n) y a s m h k = cc
  change_monitor (MigrateTo r f t) y a s m h k = cc
  change_monitor (MigrateFrom r f t) y a s m h k = cc

  one_leaf : (a b : LeafOnNode) → is_one_cell a b ≡ true → a.leaf ≡ b.leaf
  one_leaf a b h = eqb-true a.leaf b.leaf (and_parts (a.leaf == b.leaf) (a.node == b.node) h).0

  pub in_cell_upward : (x y : Action) → Contains actions x → Contains actions y → comes_first_in_cell x y ≡ true → is_earlier c actions x y ≡ true
  in_cell_upward x y inx iny h =
      either (both is_one_cell (op_cell op.Demote x) (op_cell op.Stop y) || both is_one_cell (op_cell op.Start x) (op_cell op.Promote y))
      (both is_one_cell (step_cell x) (op_cell op.Monitor y)) h
      (λ in_cell. either (both is_one_cell (op_cell op.Demote x) (op_cell op.Stop y)) (both is_one_cell (op_cell op.Start x) (op_cell op.Promote y)) in_cell
      (λ k. let b = both_there is_one_cell (op_cell op.Demote x) (op_cell op.Stop y) k in
      demote_stop x y b.one.leaf b.one.node b.other.leaf b.other.node (one_leaf b.one b.other b.passes) inx (cell_there op.Demote x b.one b.is_one) (cell_there op.Stop y b.other b.is_other))
      (λ k. let b = both_there is_one_cell (op_cell op.Start x) (op_cell op.Promote y) k in
      start_promote x y b.one.leaf b.one.node b.other.leaf b.other.node (one_leaf b.one b.other b.passes) iny (cell_there op.Start x b.one b.is_one) (cell_there op.Promote y b.other b.is_other)))
      (λ k. let b = both_there is_one_cell (step_cell x) (op_cell op.Monitor y) k in
      change_monitor x y b.one b.other.leaf b.other.node b.is_one (cell_there op.Monitor y b.other b.is_other))
