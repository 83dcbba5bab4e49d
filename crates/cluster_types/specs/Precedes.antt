-- Which action must have succeeded before which may begin, case by case. A case names the section of Pacemaker Explained that it follows; one that names
-- none is a rule of this project. `must_precede` computes the same (`precedence_is_computed`).
use Rattle.std.specs.Prelude.{◌≡◌, ◌≢◌, ◌⊎◌, ◌<◌, ◌&&◌, ℕ, Bool, true, false, List, length, Contains}
use Rattle.cluster_types.specs.declared.cluster.Cluster.{Cluster}
use Rattle.cluster_types.specs.declared.journal.Action.{Action}
use Rattle.cluster_types.specs.declared.journal.Action.TheVariants.{Fence, Probe}
use Rattle.cluster_types.specs.declared.leaf.Op.{Op}
use Rattle.cluster_types.specs.declared.leaf.Op.TheVariants as op
use Rattle.cluster_types.specs.declared.leaf.Role.{Role}
use Rattle.cluster_types.specs.declared.rules.Colocation.{Colocation}
use Rattle.cluster_types.specs.declared.rules.Order.{Order}
use Rattle.cluster_types.specs.Choice.{is_separation}
use Rattle.cluster_types.specs.Fields.{copies}
use Rattle.cluster_types.specs.Precedence.{as_earlier, as_later, cell_of, gives_role, inverse, is_giving, is_serialize, migrates_first, op_cell, takers, takes_or_probes}
use Rattle.cluster_types.specs.Tables.{is_in_scope}

-- What an action counts as on a leaf and a node, by the functions of `Precedence`. Which case asks which of these is said by the cases below.

-- by itself: a migration is no operation
abbrev pub IsOperation : Op → Action → ℕ → ℕ → Type 0
IsOperation o x r n = op_cell o x ≡ cell_of r n

-- as the earlier by an order: the taking in of a migration is the start on its target
abbrev pub CountsAsFirst : Op → Action → ℕ → ℕ → Type 0
CountsAsFirst o x r n = as_earlier o x ≡ cell_of r n

-- as the later by an order: the sending of a migration is the start on its target and the stop on its source, and the stop of a leaf that migrates is none
abbrev pub CountsAsLater : List Action → Op → Action → ℕ → ℕ → Type 0
CountsAsLater actions o y r n = as_later actions o y ≡ cell_of r n

-- as the later that gives the leaf the role: the sending of a migration is the start on its target
abbrev pub GivesRole : Role → Action → ℕ → ℕ → Type 0
GivesRole given y r n = gives_role given y ≡ cell_of r n

-- as the earlier that takes the role from the leaf, or probes for it: a migration does neither
abbrev pub TakesOrProbes : Role → Action → ℕ → ℕ → Type 0
TakesOrProbes taken x r n = takes_or_probes taken x ≡ cell_of r n

-- on one cell: demote before stop, start before promote, and each of these four before a monitor
pub data ComesFirstOnCell : Op → Op → Type 0 where
  demote_stop : ComesFirstOnCell op.Demote op.Stop
  start_promote : ComesFirstOnCell op.Start op.Promote
  change_monitor : (o : Op) → o ≢ op.Monitor → ComesFirstOnCell o op.Monitor

-- the two leaves of a colocation, each with its role, from either end
pub data AreSides (col : Colocation) : ℕ → Role → ℕ → Role → Type 0 where
  dependent_first : AreSides col col.dependent col.dependent_role col.primary col.primary_role
  primary_first : AreSides col col.primary col.primary_role col.dependent col.dependent_role

-- which word of which leaf an order puts before which
pub data PutsFirst (o : Order) : Op → ℕ → Op → ℕ → Type 0 where
  -- the first's word before the then's
  forth : PutsFirst o o.first_op o.first o.then_op o.then_leaf
  -- where it is symmetrical and both words give a role: what takes the then's role before what takes the first's
  back : (p q : Op) → o.symmetrical ≡ true → is_giving o.first_op && is_giving o.then_op ≡ true → Contains (takers o.then_op) p → Contains (takers o.first_op) q
      → PutsFirst o p o.then_leaf q o.first
  -- where it is symmetrical and not both words give a role: the inverse of the then's word before the inverse of the first's
  turned : o.symmetrical ≡ true → is_giving o.first_op && is_giving o.then_op ≡ false → PutsFirst o (inverse o.then_op) o.then_leaf (inverse o.first_op) o.first

-- the two leaves of an order, from either end
pub data AreEnds (o : Order) : ℕ → ℕ → Type 0 where
  first_and_then : AreEnds o o.first o.then_leaf
  then_and_first : AreEnds o o.then_leaf o.first

-- the first action must have succeeded before the other may begin. The actions are all that are needed, and is_earlier is the order of their numbers
module _ (c : Cluster) (actions : List Action) (is_earlier : Action → Action → Bool) where
  pub data Precedes : Action → Action → Type 0 where
    -- a leaf is probed, on every node, before it is started, sent to or promoted on any ("Monitoring Resources for Failure": probes show that it runs nowhere else)
    probe : (r n m : ℕ) (given : Role) (y : Action) → GivesRole given y r m → Precedes (Probe r n) y
    -- a leaf is stopped on a node before it is started there, and where it has fewer copies than there are nodes before it is started anywhere
    stop : (r n m : ℕ) (x y : Action) → IsOperation op.Stop x r n → IsOperation op.Start y r m → (n ≡ m) ⊎ (copies c r < length c.nodes) → Precedes x y
    -- a node is fenced before any leaf is started, sent or promoted anywhere ("Fencing": what ran on it is down for sure)
    fence : (n r m : ℕ) (given : Role) (y : Action) → GivesRole given y r m → Precedes (Fence n) y
    -- on one cell a demote comes before a stop, a start before a promote, and all four before a monitor
    same_cell : (r n : ℕ) (o p : Op) (x y : Action) → ComesFirstOnCell o p → IsOperation o x r n → IsOperation p y r n → Precedes x y
    -- a leaf is demoted or stopped, on every node, before it is promoted on any ("Promotable Clones": no more are promoted than may be)
    demote : (r n m : ℕ) (p : Op) (x y : Action) → Contains (takers op.Promote) p → IsOperation p x r n → IsOperation op.Promote y r m → Precedes x y
    -- where two leaves must be apart, what takes the role of the one on a node, or probes the one there, comes before what gives the other its own there
    apart : (col : Colocation) (r s n : ℕ) (taken given : Role) (x y : Action) → Contains c.colocations col → is_separation col ≡ true
        → AreSides col r taken s given → TakesOrProbes taken x r n → GivesRole given y s n → Precedes x y
    -- what an order puts first comes first, in its scope ("Specifying the Order in which Resources Should Start/Stop", kinds Mandatory and Optional)
    order : (o : Order) (p q : Op) (r s n m : ℕ) (x y : Action) → Contains c.orders o → is_serialize o.kind ≡ false → PutsFirst o p r q s
        → CountsAsFirst p x r n → CountsAsLater actions q y s m → is_in_scope o n m ≡ true → Precedes x y
    -- of two starts, stops, promotes or demotes, one of each side of an order and in its scope, the lower number comes first, whatever the order's words: they
    -- must not go on at once (the same section, kind Serialize). Of an order of a leaf with itself both are of that leaf
    serialize : (o : Order) (p q : Op) (r s n m : ℕ) (x y : Action) → Contains c.orders o → is_serialize o.kind ≡ true → AreEnds o r s
        → p ≢ op.Monitor → q ≢ op.Monitor → IsOperation p x r n → IsOperation q y s m → is_in_scope o n m ≡ true → is_earlier x y ≡ true → Precedes x y
    -- a migration has its turns ("Migrating Resources")
    migration : (x y : Action) → migrates_first x y ≡ true → Precedes x y
