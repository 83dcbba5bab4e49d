-- Why a leaf has no target (rule of this project).
use Rattle.std.specs.Prelude.{◌≡◌, ◌⊎◌, ℕ, ◌<◌, ◌==◌, Bool, true, false, not, if◌then◌else◌, Option, Some, None, unwrap_or, List, ◌∷◌, ◌++◌, length, slice_get}
use Rattle.std.specs.List.{list_all, range_with_len, AllByRecursion}
use Rattle.cluster_types.specs.declared.cluster.Cluster.{Cluster}
use Rattle.cluster_types.specs.declared.journal.Event.{Event}
use Rattle.cluster_types.specs.declared.leaf.Op.TheVariants as op
use Rattle.cluster_types.specs.declared.placement.Decision.TheVariants.{Place}
use Rattle.cluster_types.specs.declared.placement.NoReason.{NoReason}
use Rattle.cluster_types.specs.declared.placement.NoReason.TheVariants as none
use Rattle.cluster_types.specs.declared.rules.Colocation.{Colocation}
use Rattle.cluster_types.specs.declared.rules.Order.{Order}
use Rattle.cluster_types.specs.declared.rules.OrderKind.TheVariants as kind
use Rattle.cluster_types.specs.Choice.{is_mandatory, is_dependent, is_stopped_role}
use Rattle.cluster_types.specs.Failures.{is_fail_stopped}
use Rattle.cluster_types.specs.Fields.{copies, target_role_of}
use Rattle.cluster_types.specs.Held.{Held, LacksFirst, LacksPrimary}
use Rattle.cluster_types.specs.Pins.{is_pinned}
use Rattle.cluster_types.specs.Rights.{may_start}
use Rattle.cluster_types.specs.Tables.{Targets, is_somewhere}
use Rattle.cluster_types.specs.Precedence.{is_giving}

-- why a leaf has no target, by a list that says it of each leaf. Of one that the list doesn't have nothing is said
abbrev pub leaf_reason : List (Option NoReason) → ℕ → Option NoReason
leaf_reason reasons r = unwrap_or (slice_get reasons r) None

-- x is the first of the list for which P holds
pub record IsFirstOf {X : Type 0} (P : X → Type 0) (xs : List X) (x : X) : Type 0 where
  pub before : List X
  pub after : List X
  pub split : xs ≡ before ++ x ∷ after
  pub none_before : AllByRecursion (λ y. ¬ P y) before
  pub holds : P x

module _ (c : Cluster) (es : List Event) (table : Targets) where
  -- nothing was chosen for the leaf. The table is that after all decisions
  abbrev pub is_chosen_nowhere : ℕ → Bool
  is_chosen_nowhere r = list_all (λ n. not (is_somewhere (table r n))) (range_with_len 0 (length c.nodes))

  -- the first reason that holds, of those that are no rule's
  abbrev pub plain_reason : ℕ → Option NoReason
  plain_reason r =
      if copies c r == 0 then Some none.NoCopies
      else (if is_stopped_role (target_role_of c r) then Some none.Stopped
      else (if is_fail_stopped c r es then Some none.OnFail
      else (if c.properties.stop_all then Some none.StopAll
      else (if not (may_start c es) then Some none.NoQuorum
      else (if is_chosen_nowhere r then Some none.NoNode else None)))))

  -- the colocation holds the leaf back on the node: its primary has no target there, in its role, that isn't held
  pub record IsHeldByColocation (r n : ℕ) (col : Colocation) : Type 0 where
    pub mandatory : is_mandatory col ≡ true
    pub dependent : is_dependent (Place r) col ≡ true
    pub lacking : LacksPrimary c es table (Held c es table) col n

  -- the order holds the leaf back on the node: in scope its first has no target in its role that isn't held
  pub record IsHeldByOrder (r n : ℕ) (o : Order) : Type 0 where
    pub mandatory : o.kind ≡ kind.Mandatory
    pub later : o.then_leaf ≡ r
    pub starts : o.then_op ≡ op.Start
    pub first_gives : is_giving o.first_op ≡ true
    pub lacking : LacksFirst c es table (Held c es table) o n

  -- on the earliest node where it was chosen the leaf is held by this rule: the first such colocation, or the first such order where there is
  -- no such colocation
  pub record IsHeldBy (r : ℕ) (id : List ℕ) : Type 0 where
    pub node : ℕ
    pub chosen : is_somewhere (table r node) ≡ true
    pub earliest : (m : ℕ) → m < node → is_somewhere (table r m) ≡ false
    pub rule :
        ((col : Colocation) × IsFirstOf (IsHeldByColocation r node) c.colocations col × (id ≡ col.id))
        ⊎ (AllByRecursion (λ col. ¬ IsHeldByColocation r node col) c.colocations
        × ((o : Order) × IsFirstOf (IsHeldByOrder r node) c.orders o × (id ≡ o.id)))

  -- the reason of a leaf
  abbrev pub IsReason : ℕ → NoReason → Type 0
  IsReason r (none.Held id) = (plain_reason r ≡ None) × IsHeldBy r id
  IsReason r reason = plain_reason r ≡ Some reason

  -- a leaf has a reason just when it isn't pinned and has no target
  abbrev pub HasReason : Targets → ℕ → Option NoReason → Type 0
  HasReason targets r None = (is_pinned c es r ≡ true) ⊎ ((n : ℕ) × (n < length c.nodes) × (is_somewhere (targets r n) ≡ true))
  HasReason targets r (Some reason) =
      (is_pinned c es r ≡ false) × ((n : ℕ) → n < length c.nodes → is_somewhere (targets r n) ≡ false) × IsReason r reason
