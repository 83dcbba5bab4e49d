-- No forbidden neighbour.
use Rattle.std.proofs.Common.{◌≡◌, ◌<◌, ◌==◌, ◌&&◌, ℕ, Bool, true, false, List, [], length, refl, sym, subst}
use Rattle.std.specs.Prelude.{Option, Some, None, Contains, IfSome}
use Rattle.std.proofs.lemmas.Bool.{both_ways, or_left, or_right, true_from_ne_false, and_from}
use Rattle.lemmas.proofs.Searches.{passes_by}
use Rattle.lemmas.proofs.Booleans.{number_itself}
use Rattle.cluster_types.specs.declared.journal.Action.{Action}
use Rattle.cluster_types.specs.declared.journal.Action.TheVariants.{Fence, Probe, Operation}
use Rattle.cluster_types.specs.declared.journal.Answer.{Answer}
use Rattle.cluster_types.specs.declared.journal.Event.{Event}
use Rattle.cluster_types.specs.declared.leaf.Op.TheVariants as op
use Rattle.cluster_types.specs.declared.leaf.Role.{Role}
use Rattle.cluster_types.specs.declared.leaf.Role.TheVariants as role
use Rattle.cluster_types.specs.declared.rules.Colocation.{Colocation}
use Rattle.cluster_types.specs.CellStates.{cell_state}
use Rattle.cluster_types.specs.Choice.{is_separation}
use Rattle.cluster_types.specs.Journals.{Orderly}
use Rattle.cluster_types.specs.LawfulTables.{IsLawfulCell}
use Rattle.cluster_types.specs.NeededActions.{Needed}
use Rattle.cluster_types.specs.NodeStates.{is_online}
use Rattle.cluster_types.specs.Precedence.{LeafOnNode, cell_of, gives_any, gives_role, is_parted, parts_first, takes_or_probes}
use Rattle.cluster_types.specs.Safety.{NoForbiddenNeighbour, OtherIsAway, may_have_role}
use Rattle.cluster_types.specs.Steps.{Transition, Begins, GoesBySteps, journal}
use Rattle.cluster_types.specs.Tables.{Targets, holds_role, is_promoted_target}
use Rattle.cluster_types.specs.Valid.{IsValidColocation, FitsRole}
use Rattle.cluster_types.proofs.Operations.{role_gives}
use Rattle.plan_laws.proofs.CellSteps.{is_known}
use Rattle.run_safety.proofs.Begins.{each_begin}
use Rattle.run_safety.proofs.Calm.{Calm}
use Rattle.run_safety.proofs.Carried.{Carries, IsSound}
use Rattle.run_safety.proofs.Copies.{is_given}
use Rattle.run_safety.proofs.Givers.{promoted_gives}
use Rattle.run_safety.proofs.Leads.{Must, by_fence, by_part}
use Rattle.run_safety.proofs.Needing.{Done, succeeded}
use Rattle.run_safety.proofs.Neighbours.{holds_not}
use Rattle.run_safety.proofs.Placing.{IsGiven}
use Rattle.run_safety.proofs.Truths.{own_cell}

module _ (t : Transition) (targets : Targets) (carries : Carries t targets) (sound : IsSound t targets) (orderly : Orderly t.planned_at)
    (valid : (col : Colocation) → Contains t.cluster.colocations col → IsValidColocation t.cluster col) where
  module _ (since : List Event) (k : ℕ) (a : Action) (calm : Calm t since) (begins : Begins t since k a) where
    -- the role that is given is that of the target
    promoted_held : (at : LeafOnNode) → gives_role role.Promoted a ≡ Some at → is_promoted_target (targets at.leaf at.node) ≡ true
    promoted_held at e = by a e (carries.needed k a begins.action)
      where
        by : (a : Action) → gives_role role.Promoted a ≡ Some at → Needed t.cluster t.planned_at targets a
            → is_promoted_target (targets at.leaf at.node) ≡ true
        by (Operation op.Promote s m i h) e needs =
            let same : (record { leaf = s; node = m }) ≡ at = cc in
            subst (λ (z : LeafOnNode). is_promoted_target (targets z.leaf z.node) ≡ true) same
            (promoted_gives t.cluster t.planned_at targets s m (Operation op.Promote s m i h) needs (own_cell s m))
        by _ e needs = cc

    module _ (held other : Role) (r s : ℕ) (at : LeafOnNode) (gives : gives_role held a ≡ Some at) (same : at.leaf ≡ r) where
      any : gives_any a ≡ Some at
      any = role_gives held a at gives

      on : IsGiven t.cluster t.planned_at targets at.leaf at.node
      on = is_given t targets carries sound orderly since k a calm begins at any

      online : is_online t.cluster at.node t.planned_at ≡ true
      online =
          true_from_ne_false (is_online t.cluster at.node t.planned_at) (λ e.
          both_ways (is_known (cell_state t.cluster at.leaf at.node t.planned_at)) (rw e refl) on.known)

      -- the leaf that is given the role has it as a target
      has_target : holds_role targets r held at.node ≡ true
      has_target = subst (λ z. holds_role targets z held at.node ≡ true) same (by held gives)
        where
          by : (held : Role) → gives_role held a ≡ Some at → holds_role targets at.leaf held at.node ≡ true
          by role.Started e = on.somewhere
          by role.Promoted e = promoted_held at e

      -- what takes the other's role comes first
      module _ (col : Colocation) (has : Contains t.cluster.colocations col) (parted : (x : Action) → is_parted s other r held x a ≡ true → parts_first col x a ≡ true) where
        comes_first : (x : Action) → takes_or_probes other x ≡ cell_of s at.node → Must t x a
        comes_first x takes =
            by_part t x a
            (passes_by (λ c. parts_first c x a) t.cluster.colocations col has (parted x pair))
          where
            pair : is_parted s other r held x a ≡ true
            pair = rw (takes, gives) (and_from ((s == s) && (at.leaf == r)) (at.node == at.node)
                (and_from (s == s) (at.leaf == r) (number_itself s) (subst (λ z. (at.leaf == z) ≡ true) same (number_itself at.leaf))) (number_itself at.node))

        done : (x : Action) → Must t x a → Done t since x
        done x must = succeeded t targets carries since k x a begins must

        meets_none : s < length t.cluster.leaves → holds_role targets s other at.node ≡ false → may_have_role t.cluster s other at.node (journal t since) ≡ false
        meets_none h none =
            holds_not t targets carries sound orderly since calm s at.node h on.node online
            (done (Probe s at.node) (comes_first (Probe s at.node) (probes other)))
            (done (Operation op.Stop s at.node 0 role.Started) (comes_first (Operation op.Stop s at.node 0 role.Started) (stops other)))
            (done (Fence at.node) (by_fence t (Fence at.node) a (rw any refl))) other none
            (λ e. done (Operation op.Demote s at.node 0 role.Started) (comes_first (Operation op.Demote s at.node 0 role.Started)
            (subst (λ z. takes_or_probes z (Operation op.Demote s at.node 0 role.Started) ≡ cell_of s at.node) (sym e) refl)))
          where
            probes : (other : Role) → takes_or_probes other (Probe s at.node) ≡ cell_of s at.node
            probes role.Started = refl
            probes role.Promoted = refl

            stops : (other : Role) → takes_or_probes other (Operation op.Stop s at.node 0 role.Started) ≡ cell_of s at.node
            stops role.Started = refl
            stops role.Promoted = refl

  there : (held : Role) (r : ℕ) → FitsRole t.cluster r held → r < length t.cluster.leaves
  there role.Started r h = h
  there role.Promoted r h = h.0

  no_neighbour : (since : List Event) (k : ℕ) (a : Action) → Calm t since → Begins t since k a → (col : Colocation) → Contains t.cluster.colocations col → is_separation col ≡ true
      → OtherIsAway t.cluster a col.dependent col.dependent_role col.primary col.primary_role (journal t since)
      × OtherIsAway t.cluster a col.primary col.primary_role col.dependent col.dependent_role (journal t since)
  no_neighbour since k a calm begins col has apart =
      (one (gives_role col.dependent_role a) refl, other (gives_role col.primary_role a) refl)
    where
      lawful : (at : LeafOnNode) → gives_any a ≡ Some at → IsLawfulCell t.cluster t.planned_at targets at.leaf at.node
      lawful at gives =
          let on : IsGiven t.cluster t.planned_at targets at.leaf at.node = is_given t targets carries sound orderly since k a calm begins at gives in
          sound.lawful.cells at.leaf at.node on.leaf on.node on.free on.somewhere

      one : (o : Option LeafOnNode) → gives_role col.dependent_role a ≡ o
          → IfSome o (λ at. at.leaf ≡ col.dependent → may_have_role t.cluster col.primary col.primary_role at.node (journal t since) ≡ false)
      one None e = tt
      one (Some at) e = λ same.
          meets_none since k a calm begins col.dependent_role col.primary_role col.dependent col.primary at e same col has
          (λ x h. and_from (is_separation col) _ apart (or_right (is_parted col.dependent col.dependent_role col.primary col.primary_role x a) _ h))
          (there col.primary_role col.primary (valid col has).primary)
          ((lawful at (role_gives col.dependent_role a at e)).apart_from_primaries col has apart (sym same)
          (subst (λ z. holds_role targets z col.dependent_role at.node ≡ true) (sym same)
          (has_target since k a calm begins col.dependent_role col.primary_role col.dependent col.primary at e same)))

      other : (o : Option LeafOnNode) → gives_role col.primary_role a ≡ o
          → IfSome o (λ at. at.leaf ≡ col.primary → may_have_role t.cluster col.dependent col.dependent_role at.node (journal t since) ≡ false)
      other None e = tt
      other (Some at) e = λ same.
          meets_none since k a calm begins col.primary_role col.dependent_role col.primary col.dependent at e same col has
          (λ x h. and_from (is_separation col) _ apart (or_left _ (is_parted col.primary col.primary_role col.dependent col.dependent_role x a) h))
          (there col.dependent_role col.dependent (valid col has).dependent)
          ((lawful at (role_gives col.primary_role a at e)).apart_from_dependents col has apart (sym same)
          (subst (λ z. holds_role targets z col.primary_role at.node ≡ true) (sym same)
          (has_target since k a calm begins col.primary_role col.dependent_role col.primary col.dependent at e same)))

  pub no_forbidden_neighbour : (whole : Bool) (rest left : Option (List Answer)) (later : List Event) → GoesBySteps t whole [] rest later left → NoForbiddenNeighbour t later
  no_forbidden_neighbour =
      each_begin t (λ before k a. (col : Colocation) → Contains t.cluster.colocations col → is_separation col ≡ true
      → OtherIsAway t.cluster a col.dependent col.dependent_role col.primary col.primary_role (journal t before)
      × OtherIsAway t.cluster a col.primary col.primary_role col.dependent col.dependent_role (journal t before))
      no_neighbour
