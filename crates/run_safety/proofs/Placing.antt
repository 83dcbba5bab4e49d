-- What is needed of an action that starts or promotes: the cell has a target, and its leaf isn't pinned.
use Rattle.std.proofs.Common.{◌≡◌, ◌<◌, ℕ, true, false, List, length, subst}
use Rattle.std.specs.Prelude.{Some}
use Rattle.lemmas.proofs.Booleans.{sooner, later}
use Rattle.cluster_types.specs.declared.cluster.Cluster.{Cluster}
use Rattle.cluster_types.specs.declared.journal.Action.{Action}
use Rattle.cluster_types.specs.declared.journal.Action.TheVariants.{Operation}
use Rattle.cluster_types.specs.declared.journal.Event.{Event}
use Rattle.cluster_types.specs.declared.leaf.Op.{Op}
use Rattle.cluster_types.specs.declared.leaf.Op.TheVariants as op
use Rattle.cluster_types.specs.declared.leaf.Role.TheVariants as role
use Rattle.cluster_types.specs.CellStates.{cell_state}
use Rattle.cluster_types.specs.NeededActions.{NeededBeforeMigration, fence, probe, step, monitor, Needed, kept, sent, taken_in}
use Rattle.cluster_types.specs.Pins.{is_pinned}
use Rattle.cluster_types.specs.Precedence.{LeafOnNode, cell_of, gives_any}
use Rattle.cluster_types.specs.Tables.{Targets, is_somewhere}
use Rattle.cluster_types.proofs.NeededLaws.{bounds_of_first}
use Rattle.cluster_types.proofs.TableCells.{promoted_somewhere}
use Rattle.plan_laws.proofs.CellSteps.{IsStep, is_step, is_known}
use Rattle.run_safety.proofs.Givers.{start_step}

module _ (c : Cluster) (es : List Event) (targets : Targets) where
  pub record IsGiven (r n : ℕ) : Type 0 where
    pub leaf : r < length c.leaves
    pub node : n < length c.nodes
    pub free : is_pinned c es r ≡ false
    pub somewhere : is_somewhere (targets r n) ≡ true
    pub known : is_known (cell_state c r n es) ≡ true

  at_cell : (r n : ℕ) (at : LeafOnNode) → cell_of r n ≡ Some at → IsGiven r n → IsGiven at.leaf at.node
  at_cell r n at e is = let same : (record { leaf = r; node = n }) ≡ at = cc in subst (λ (z : LeafOnNode). IsGiven z.leaf z.node) same is

  of_start : (r n : ℕ) → r < length c.leaves → n < length c.nodes → IsStep c es targets r n op.Start → IsGiven r n
  of_start r n h l is = record {
    leaf = h;
    node = l;
    free = is.unpinned;
    somewhere = later (is_known (cell_state c r n es)) _ is.fitting;
    known = sooner (is_known (cell_state c r n es)) _ is.fitting;
  }

  step_given : (r n : ℕ) (o : Op) (at : LeafOnNode) → r < length c.leaves → n < length c.nodes → IsStep c es targets r n o → gives_any (Operation o r n 0 role.Started) ≡ Some at
      → IsGiven at.leaf at.node
  step_given r n op.Start at h l is e = at_cell r n at e (of_start r n h l is)
  step_given r n op.Promote at h l is e =
      at_cell r n at e (record {
        leaf = h;
        node = l;
        free = is.unpinned;
        somewhere = promoted_somewhere (targets r n) (later (is_known (cell_state c r n es)) _ is.fitting);
        known = sooner (is_known (cell_state c r n es)) _ is.fitting;
      })
  step_given r n op.Stop at h l is e = absurd (let f : ⊥ = cc in f)
  step_given r n op.Demote at h l is e = absurd (let f : ⊥ = cc in f)
  step_given r n op.Monitor at h l is e = absurd (let f : ⊥ = cc in f)

  first_given : (y : Action) (at : LeafOnNode) → NeededBeforeMigration c es targets y → gives_any y ≡ Some at → IsGiven at.leaf at.node
  first_given _ at (fence n l h) e = absurd (let f : ⊥ = cc in f)
  first_given _ at (probe r n h l u) e = absurd (let f : ⊥ = cc in f)
  first_given _ at (step r n o h l g) e = step_given r n o at h l (is_step c es targets r n o g) e
  first_given _ at (monitor r n m h l has needs) e = absurd (let f : ⊥ = cc in f)

  pub given : (y : Action) (at : LeafOnNode) → Needed c es targets y → gives_any y ≡ Some at → IsGiven at.leaf at.node
  given y at (kept _ f others) e = first_given y at f e
  given _ at (sent r n m g) e =
      let bounds = bounds_of_first c es targets op.Start r m 0 role.Started g.started in
      at_cell r m at e (of_start r m bounds.0 bounds.1 (start_step c es targets r m g.started))
  given _ at (taken_in r n m g) e = absurd (let f : ⊥ = cc in f)
