-- The scores of a leaf on a node, and those that are lent to it (Pacemaker Explained, "Scores" and "Colocation"; which leaves lend is a rule of
-- this project).
use Rattle.std.specs.Prelude.{ℕ, suc, zero, ◌==◌, ◌&&◌, ◌||◌, Bool, true, false, not, if◌then◌else◌, ℤ, pos, neg_ℤ, int_le, List, [], ◌∷◌, ◌++◌, length, map, filter, find, fold, slice_get, count_by}
use Rattle.std.specs.List.{list_any, flat_map, range_with_len}
use Rattle.std.specs.Option.{option_map_or}
use Rattle.std.specs.Ordering.{int_eq}
use Rattle.date_rules.specs.Rule.{holds}
use Rattle.edges.specs.Chains.{Chain, IsLinked, leads_through}
use Rattle.score.specs.Total.{infinity, minus_infinity, total_of}
use Rattle.cluster_types.specs.declared.cluster.Cluster.{Cluster}
use Rattle.cluster_types.specs.declared.journal.Event.{Event}
use Rattle.cluster_types.specs.declared.journal.Promotion.{Promotion}
use Rattle.cluster_types.specs.declared.leaf.Role.{Role}
use Rattle.cluster_types.specs.declared.leaf.Role.TheVariants as role
use Rattle.cluster_types.specs.declared.node.Node.{Node}
use Rattle.cluster_types.specs.declared.placement.Decision.{Decision}
use Rattle.cluster_types.specs.declared.placement.Decision.TheVariants.{Place, Promote}
use Rattle.cluster_types.specs.declared.rules.Colocation.{Colocation}
use Rattle.cluster_types.specs.declared.rules.Location.{Location}
use Rattle.cluster_types.specs.declared.rules.RuleLocation.{RuleLocation}
use Rattle.cluster_types.specs.declared.states.CellState.{CellState}
use Rattle.cluster_types.specs.declared.states.CellState.TheVariants as cell
use Rattle.cluster_types.specs.CellStates.{cell_state}
use Rattle.cluster_types.specs.Failures.{is_banned}
use Rattle.cluster_types.specs.Fields.{is_cloned, is_follower, of_leaf}
use Rattle.cluster_types.specs.Journals.{moment_of}
use Rattle.cluster_types.specs.NodeStates.{is_usable}

abbrev pub is_started : Role → Bool
is_started role.Started = true
is_started role.Promoted = false

abbrev pub is_promoted : Role → Bool
is_promoted role = not (is_started role)

-- the leaf is active in the cell: it runs there, or may have failed there
abbrev pub is_active : CellState → Bool
is_active cell.On = true
is_active cell.Promoted = true
is_active cell.Failed = true
is_active _ = false

-- how much a leaf wants to be promoted on a node: what its agent said, else -1 (rule of this project)
abbrev pub promotion_score : List Promotion → ℕ → ℕ → ℤ
promotion_score promotions r n =
    option_map_or (λ (p : Promotion). p.score) (find (λ p. p.leaf == r && p.node == n) promotions) (neg_ℤ (pos 1))

module _ (c : Cluster) where
  -- the colocation ties two uncloned leaves for good, both in the role Started
  abbrev pub is_tie : Colocation → Bool
  is_tie col =
      int_eq col.score infinity && is_started col.dependent_role && is_started col.primary_role
      && not (is_cloned c col.dependent) && not (is_cloned c col.primary)

  -- a tie puts s with r
  abbrev pub IsTieLink : ℕ → ℕ → Type 0
  IsTieLink s r = IsLinked (λ (col : Colocation). col.dependent) (λ (col : Colocation). col.primary) (filter is_tie c.colocations) s r

  -- s must be with r through a chain of ties
  abbrev pub IsTied : ℕ → ℕ → Type 0
  IsTied s r = Chain IsTieLink s r

  -- a tie puts s with r, as a test
  abbrev pub is_tied_at_once : ℕ → ℕ → Bool
  is_tied_at_once s r = list_any (λ col. is_tie col && col.dependent == s && col.primary == r) c.colocations

  -- s must be with r through a chain of ties, as a test: at once, or through leaves that are tied in turn. It says what IsTied says where the leaves of all
  -- colocations are there (`ties_are_computed` of crate `loops`)
  abbrev pub is_tied : ℕ → ℕ → Bool
  is_tied s r = leads_through is_tied_at_once (range_with_len 0 (length c.leaves)) s r

  -- the leaves that must be with r through a chain of ties, in their order
  abbrev pub lenders : ℕ → List ℕ
  lenders r = filter (λ s. is_tied s r) (range_with_len 0 (length c.leaves))

module _ (c : Cluster) (es : List Event) where
  -- a rule holds at a node and the moment of the journal
  abbrev pub rule_holds : RuleLocation → ℕ → Bool
  rule_holds rl n = option_map_or (λ (node : Node). holds rl.rule node.name node.attributes (moment_of es)) (slice_get c.nodes n) false

  -- in how many cells a leaf is active
  abbrev pub active_count : ℕ → ℕ
  active_count r = count_by (λ n. is_active (cell_state c r n es)) (range_with_len 0 (length c.nodes))

  -- the scores of the locations of a leaf and a node whose role passes the test, with those whose rule holds there
  abbrev pub location_scores : (Role → Bool) → ℕ → ℕ → List ℤ
  location_scores passes r n =
      map (λ (l : Location). l.score) (filter (λ l. l.leaf == r && l.node == n && passes l.role) c.locations)
      ++ map (λ (rl : RuleLocation). rl.score) (filter (λ rl. rl.leaf == r && passes rl.role && rule_holds rl n) c.rule_locations)

  -- some location of the leaf, of whatever role and score, names the node, or has a rule that holds there
  abbrev pub is_located : ℕ → ℕ → Bool
  is_located r n =
      list_any (λ (l : Location). l.leaf == r && l.node == n) c.locations
      || list_any (λ (rl : RuleLocation). rl.leaf == r && rule_holds rl n) c.rule_locations

  abbrev pub stickiness_scores : ℕ → ℕ → List ℤ
  stickiness_scores r n =
      if is_active (cell_state c r n es) then of_leaf c r (λ leaf. leaf.stickiness ∷ []) [] else []

  abbrev pub ban_scores : ℕ → ℕ → List ℤ
  ban_scores r n = if is_banned c r n es then minus_infinity ∷ [] else []

  -- in a cluster that isn't symmetric a leaf may only be where a location names it or a rule of its own holds; the members of a group follow the first
  abbrev pub opt_in_scores : ℕ → ℕ → List ℤ
  opt_in_scores r n = if not c.properties.symmetric && not (is_follower c r) && not (is_located r n) then minus_infinity ∷ [] else []

  -- the own scores of a leaf on a node: its locations of role Started, its stickiness where it is active, and what keeps it away
  abbrev pub own_terms : ℕ → ℕ → List ℤ
  own_terms r n = location_scores is_started r n ++ stickiness_scores r n ++ ban_scores r n ++ opt_in_scores r n

  -- the own terms of some leaves on a node
  abbrev pub terms_of : List ℕ → ℕ → List ℤ
  terms_of leaves n = flat_map (λ r. own_terms r n) leaves

  -- with the terms of these leaves some usable node is left
  abbrev pub has_node_left : List ℕ → Bool
  has_node_left leaves = list_any (λ n. is_usable c n es && int_le (pos 0) (total_of (terms_of leaves n))) (range_with_len 0 (length c.nodes))

  -- one more lender joins, unless no usable node would be left
  abbrev pub with_lender : List ℕ → ℕ → List ℕ
  with_lender joined s = if has_node_left (joined ++ s ∷ []) then joined ++ s ∷ [] else joined

  -- the leaf with the lenders that join it, tried in their order
  abbrev pub with_lenders : ℕ → List ℕ
  with_lenders r = fold with_lender (r ∷ []) (lenders c r)

  -- the total of a decision on a node, with what is lent to it and before the finite colocations
  abbrev pub base : List Promotion → Decision → ℕ → ℤ
  base promotions (Place r) n = total_of (terms_of (with_lenders r) n)
  base promotions (Promote r) n = total_of (promotion_score promotions r n ∷ location_scores is_promoted r n)
