-- What a separation says, and an order that isn't Serialize, is a join or two.
use Rattle.std.proofs.Common.{◌≡◌, ◌==◌, ◌&&◌, ◌||◌, not, if◌then◌else◌, ℕ, Bool, true, false, List, [], ◌∷◌, Option, Some, None, refl, sym, ap, ◌∙◌}
use Rattle.std.specs.List.{list_any}
use Rattle.std.proofs.Math.Bool.{or-false}
use Rattle.cluster_types.specs.declared.cluster.Cluster.{Cluster}
use Rattle.cluster_types.specs.declared.journal.Action.{Action}
use Rattle.cluster_types.specs.declared.journal.Action.TheVariants.{Fence, Probe, Operation, MigrateTo, MigrateFrom}
use Rattle.cluster_types.specs.declared.leaf.Op.{Op}
use Rattle.cluster_types.specs.declared.leaf.Op.TheVariants as op
use Rattle.cluster_types.specs.declared.rules.Colocation.{Colocation}
use Rattle.cluster_types.specs.declared.rules.Order.{Order}
use Rattle.cluster_types.specs.Choice.{is_separation}
use Rattle.cluster_types.specs.Precedence.{LeafOnNode, as_earlier, as_later, both, cell_of, gives_role, inverse, is_inverse_pair, is_one_cell, is_ordered, is_ordered_pair, is_parted, is_serialize, is_taken_back, is_giving, op_cell, parts_first, takers, takes_or_probes}
use Rattle.cluster_types.specs.Tables.{is_in_scope}
use Rattle.planner.specs.declared.precedence.sides.Side.TheVariants as side
use Rattle.planner.specs.Joins.{join, colocation_joins, earlier_taker, in_leaf, inverse_join, is_joined, later_demote, later_taker, order_joins, take_cell}
use Rattle.planner.proofs.Tests.{any_same}

-- a separation
pub parted_joined : (r s : ℕ) (u v : Option LeafOnNode) → both (λ a b. a.leaf == r && b.leaf == s && a.node == b.node) u v ≡ both is_one_cell (in_leaf r true u) (in_leaf s true v)
parted_joined r s (Some a) (Some b) = on (a.leaf == r) (b.leaf == s)
  where
    on : (p q : Bool) → (p && q && (a.node == b.node)) ≡ both is_one_cell (if p then cell_of 0 a.node else None) (if q then cell_of 0 b.node else None)
    on true true = refl
    on true false = refl
    on false q = refl
parted_joined r s (Some a) None = on (a.leaf == r)
  where
    on : (p : Bool) → false ≡ both is_one_cell (if p then cell_of 0 a.node else None) None
    on true = refl
    on false = refl
parted_joined r s None v = refl

pub separation_joined : (c : Cluster) (actions : List Action) (x y : Action) (col : Colocation) → parts_first col x y ≡ list_any (is_joined c actions x y) (colocation_joins col)
separation_joined c actions x y col = on (is_separation col)
    (parted_joined col.dependent col.primary (takes_or_probes col.dependent_role x) (gives_role col.primary_role y))
    (parted_joined col.primary col.dependent (takes_or_probes col.primary_role x) (gives_role col.dependent_role y))
  where
    on : (b : Bool) → is_parted col.dependent col.dependent_role col.primary col.primary_role x y
        ≡ both is_one_cell (in_leaf col.dependent true (takes_or_probes col.dependent_role x)) (in_leaf col.primary true (gives_role col.primary_role y))
        → is_parted col.primary col.primary_role col.dependent col.dependent_role x y
        ≡ both is_one_cell (in_leaf col.primary true (takes_or_probes col.primary_role x)) (in_leaf col.dependent true (gives_role col.dependent_role y))
        → (b && (is_parted col.dependent col.dependent_role col.primary col.primary_role x y || is_parted col.primary col.primary_role col.dependent col.dependent_role x y))
        ≡ list_any (is_joined c actions x y)
        (if b then join (side.Parts col.dependent col.dependent_role) (side.GivesRole col.primary col.primary_role)
        ∷ join (side.Parts col.primary col.primary_role) (side.GivesRole col.dependent col.dependent_role) ∷ [] else [])
    on true e f = rw e (rw f (ap (λ v. both is_one_cell (in_leaf col.dependent true (takes_or_probes col.dependent_role x)) (in_leaf col.primary true (gives_role col.primary_role y)) || v)
        (sym (or-false (both is_one_cell (in_leaf col.primary true (takes_or_probes col.primary_role x)) (in_leaf col.dependent true (gives_role col.dependent_role y)))))))
    on false e f = refl

-- an order, in scope
scoped : (local : Bool) (n m : ℕ) → (not local || n == m) ≡ ((if local then n else 0) == (if local then m else 0))
scoped true n m = refl
scoped false n m = refl

pub ordered_joined : (o : Order) (r s : ℕ) (u v : Option LeafOnNode)
    → both (λ a b. a.leaf == r && b.leaf == s && is_in_scope o a.node b.node) u v ≡ both is_one_cell (in_leaf r o.local u) (in_leaf s o.local v)
ordered_joined o r s (Some a) (Some b) = on (a.leaf == r) (b.leaf == s)
  where
    on : (p q : Bool) → (p && q && is_in_scope o a.node b.node)
        ≡ both is_one_cell (if p then cell_of 0 (if o.local then a.node else 0) else None) (if q then cell_of 0 (if o.local then b.node else 0) else None)
    on true true = scoped o.local a.node b.node
    on true false = refl
    on false q = refl
ordered_joined o r s (Some a) None = on (a.leaf == r)
  where
    on : (p : Bool) → false ≡ both is_one_cell (if p then cell_of 0 (if o.local then a.node else 0) else None) None
    on true = refl
    on false = refl
ordered_joined o r s None v = refl

-- the sides of an inverse: what takes what a word gives, in one side
module _ (T : LeafOnNode → LeafOnNode → Bool) where
  either_taker : (x : Action) (v : Option LeafOnNode) → (both T (op_cell op.Demote x) v || both T (op_cell op.Stop x) v) ≡ both T (take_cell x) v
  either_taker (Fence n) v = refl
  either_taker (Probe r n) v = refl
  either_taker (Operation op.Start r n i role) v = refl
  either_taker (Operation op.Stop r n i role) v = refl
  either_taker (Operation op.Promote r n i role) v = refl
  either_taker (Operation op.Demote r n i role) v = or-false (both T (cell_of r n) v)
  either_taker (Operation op.Monitor r n i role) v = refl
  either_taker (MigrateTo r s t) v = refl
  either_taker (MigrateFrom r s t) v = refl

  pub earlier_takers : (o : Op) (x : Action) (v : Option LeafOnNode) → list_any (λ p. both T (as_earlier p x) v) (takers o) ≡ both T (earlier_taker o x) v
  earlier_takers op.Start x v = or-false (both T (op_cell op.Stop x) v)
  earlier_takers op.Promote x v =
      ap (λ w. both T (op_cell op.Demote x) v || w) (or-false (both T (op_cell op.Stop x) v)) ∙ either_taker x v
  earlier_takers op.Stop x v = refl
  earlier_takers op.Demote x v = refl
  earlier_takers op.Monitor x v = refl

  none_later : (u : Option LeafOnNode) → both T u None ≡ false
  none_later (Some a) = refl
  none_later None = refl

  either_none : (u : Option LeafOnNode) (w : Option LeafOnNode) → (both T u None || both T u w) ≡ both T u w
  either_none (Some a) w = refl
  either_none None w = refl

  or_none : (u : Option LeafOnNode) (w : Option LeafOnNode) → (both T u w || both T u None) ≡ both T u w
  or_none (Some a) w = or-false (both T (Some a) w)
  or_none None w = refl

  later_either : (actions : List Action) (u : Option LeafOnNode) (y : Action)
      → (both T u (op_cell op.Demote y) || both T u (as_later actions op.Stop y)) ≡ both T u (later_demote actions y)
  later_either actions u (Fence n) = either_none u None
  later_either actions u (Probe r n) = either_none u None
  later_either actions u (Operation op.Start r n i role) = either_none u None
  later_either actions u (Operation op.Stop r n i role) = either_none u (as_later actions op.Stop (Operation op.Stop r n i role))
  later_either actions u (Operation op.Promote r n i role) = either_none u None
  later_either actions u (Operation op.Demote r n i role) = or_none u (cell_of r n)
  later_either actions u (Operation op.Monitor r n i role) = either_none u None
  later_either actions u (MigrateTo r s t) = either_none u (cell_of r s)
  later_either actions u (MigrateFrom r s t) = either_none u None

  pub later_takers : (actions : List Action) (o : Op) (u : Option LeafOnNode) (y : Action) → list_any (λ q. both T u (as_later actions q y)) (takers o) ≡ both T u (later_taker actions o y)
  later_takers actions op.Start u y = or-false (both T u (as_later actions op.Stop y))
  later_takers actions op.Promote u y =
      ap (λ w. both T u (op_cell op.Demote y) || w) (or-false (both T u (as_later actions op.Stop y))) ∙ later_either actions u y
  later_takers actions op.Stop u y = sym (none_later u)
  later_takers actions op.Demote u y = sym (none_later u)
  later_takers actions op.Monitor u y = sym (none_later u)

module _ (c : Cluster) (actions : List Action) (o : Order) (x y : Action) where
  abbrev in_order : LeafOnNode → LeafOnNode → Bool
  in_order a b = a.leaf == o.then_leaf && b.leaf == o.first && is_in_scope o a.node b.node

  taken_back_joined : is_taken_back actions o x y
      ≡ both is_one_cell (in_leaf o.then_leaf o.local (earlier_taker o.then_op x)) (in_leaf o.first o.local (later_taker actions o.first_op y))
  taken_back_joined =
      any_same (λ p. list_any (λ q. both in_order (as_earlier p x) (as_later actions q y)) (takers o.first_op)) (λ p. both in_order (as_earlier p x) (later_taker actions o.first_op y))
      (λ p. later_takers in_order actions o.first_op (as_earlier p x) y) (takers o.then_op)
      ∙ (earlier_takers in_order o.then_op x (later_taker actions o.first_op y)
      ∙ ordered_joined o o.then_leaf o.first (earlier_taker o.then_op x) (later_taker actions o.first_op y))

  inverse_joined : is_inverse_pair actions o x y ≡ is_joined c actions x y (inverse_join o)
  inverse_joined = on (is_giving o.first_op && is_giving o.then_op)
    where
      on : (b : Bool) → (if b then is_taken_back actions o x y else is_ordered_pair actions o (inverse o.then_op) o.then_leaf (inverse o.first_op) o.first x y)
          ≡ is_joined c actions x y
          (if b then join (side.EarlierTakers o.then_leaf o.then_op o.local) (side.LaterTakers o.first o.first_op o.local)
          else join (side.Earlier o.then_leaf (inverse o.then_op) o.local) (side.Later o.first (inverse o.first_op) o.local))
      on true = taken_back_joined
      on false = ordered_joined o o.then_leaf o.first (as_earlier (inverse o.then_op) x) (as_later actions (inverse o.first_op) y)

  own_joined : is_ordered_pair actions o o.first_op o.first o.then_op o.then_leaf x y
      ≡ is_joined c actions x y (join (side.Earlier o.first o.first_op o.local) (side.Later o.then_leaf o.then_op o.local))
  own_joined = ordered_joined o o.first o.then_leaf (as_earlier o.first_op x) (as_later actions o.then_op y)

  pub order_joined : is_ordered actions o x y ≡ list_any (is_joined c actions x y) (order_joins o)
  order_joined = on (is_serialize o.kind) o.symmetrical (is_ordered_pair actions o o.first_op o.first o.then_op o.then_leaf x y) (is_inverse_pair actions o x y) own_joined inverse_joined
    where
      on : (b d p q : Bool) → p ≡ is_joined c actions x y (join (side.Earlier o.first o.first_op o.local) (side.Later o.then_leaf o.then_op o.local))
          → q ≡ is_joined c actions x y (inverse_join o)
          → (not b && (p || d && q)) ≡ list_any (is_joined c actions x y)
          (if b then [] else join (side.Earlier o.first o.first_op o.local) (side.Later o.then_leaf o.then_op o.local) ∷ (if d then inverse_join o ∷ [] else []))
      on true d p q e f = refl
      on false true p q e f = rw e (rw f (ap (λ v. is_joined c actions x y (join (side.Earlier o.first o.first_op o.local) (side.Later o.then_leaf o.then_op o.local)) || v)
          (sym (or-false (is_joined c actions x y (inverse_join o))))))
      on false false p q e f = rw e refl
