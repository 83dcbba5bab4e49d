-- Examples of how decisions came about, computed from the definitions.
use Rattle.std.proofs.Common.{◌≡◌, pos, neg_ℤ, true, false, Some, None, List, [], ◌∷◌, refl}
use Rattle.std.specs.Prelude.{codes}
use Rattle.std.specs.Fmt.{digits}
use Rattle.cluster_types.specs.declared.cluster.Cluster.{Cluster}
use Rattle.cluster_types.specs.declared.journal.Event.{Event}
use Rattle.cluster_types.specs.declared.journal.Promotion.{Promotion}
use Rattle.cluster_types.specs.declared.leaf.Op.TheVariants.{Start}
use Rattle.cluster_types.specs.declared.leaf.Role.TheVariants as role
use Rattle.cluster_types.specs.declared.placement.Decision.{Decision}
use Rattle.cluster_types.specs.declared.placement.Decision.TheVariants.{Place, Promote}
use Rattle.cluster_types.specs.declared.placement.NoReason.TheVariants as none
use Rattle.cluster_types.specs.declared.placement.Placed.{Placed}
use Rattle.cluster_types.specs.declared.placement.Target.TheVariants as target
use Rattle.cluster_types.specs.Pins.{pinned_targets}
use Rattle.cluster_types.specs.Plans.{with_totals}
use Rattle.cluster_types.proofs.SmallClusters.{plain_leaf, plain_options, two_nodes, unfenced, location, colocation, start_order, did, online}
use Rattle.decision_account.specs.Accounts.{why_lines, why_text}

-- b must be where a is and wants to be on n2, so that it lends its location to a. They both leave n1, where a runs

abbrev lending : Cluster
lending = unfenced (record (two_nodes (record (plain_leaf (codes "a")) { stickiness = pos 7 } ∷ plain_leaf (codes "b") ∷ [])) {
  locations = location (codes "a1") 0 1 (pos 50) ∷ location (codes "b1") 1 1 (pos 1000000) ∷ [];
  colocations = colocation (codes "ba") 1 0 (pos 1000000) ∷ [];
})

abbrev runs_on_n1 : List Event
runs_on_n1 = online (did Start 0 0 0 4 ∷ []) 5

abbrev in_turn : List Decision
in_turn = Place 0 ∷ Place 1 ∷ []

abbrev both_on_n2 : Placed
both_on_n2 = record {
  pins = None ∷ None ∷ [];
  decided = with_totals lending runs_on_n1 [] (pinned_targets lending runs_on_n1) in_turn;
  table = record { nodes = 2; targets = target.Nowhere ∷ target.Started ∷ target.Nowhere ∷ target.Started ∷ [] };
  none = None ∷ None ∷ [];
}

as_told : why_text lending (why_lines lending runs_on_n1 [] in_turn both_on_n2) ≡ codes "place a\npart a n1 7 stickiness\nscore a n1 7\nnot a n1 less n2\npart a n2 50 location a1\npart a n2 INFINITY lent b location b1\nscore a n2 INFINITY\nchosen a n2\nplace b\nscore b n1 0\nnot b n1 without ba\npart b n2 INFINITY location b1\nscore b n2 INFINITY\nchosen b n2\ntarget a n2 started\ntarget b n2 started\n"
unfolding digits
as_told = refl

-- a may be nowhere, so that b, which starts after it, is held back where it was chosen. x wants to be with b, and y must not be with x

abbrev waiting : Cluster
waiting = unfenced (record (two_nodes (plain_leaf (codes "a") ∷ plain_leaf (codes "b") ∷ plain_leaf (codes "x") ∷ plain_leaf (codes "y") ∷ [])) {
  locations = location (codes "a1") 0 0 (neg_ℤ (pos 1000000)) ∷ location (codes "a2") 0 1 (neg_ℤ (pos 1000000)) ∷ [];
  colocations = colocation (codes "xb") 2 1 (pos 5) ∷ colocation (codes "yx") 3 2 (neg_ℤ (pos 1000000)) ∷ [];
  orders = start_order (codes "ab") 0 1 false ∷ [];
})

abbrev a_last : List Decision
a_last = Place 1 ∷ Place 2 ∷ Place 3 ∷ Place 0 ∷ []

abbrev without_b : Placed
without_b = record {
  pins = None ∷ None ∷ None ∷ None ∷ [];
  decided = with_totals waiting (online [] 5) [] (pinned_targets waiting (online [] 5)) a_last;
  table = record {
    nodes = 2;
    targets = target.Nowhere ∷ target.Nowhere ∷ target.Nowhere ∷ target.Nowhere ∷ target.Started ∷ target.Nowhere ∷ target.Nowhere ∷ target.Started ∷ [];
  };
  none = Some none.NoNode ∷ Some (none.Held (codes "ab")) ∷ None ∷ None ∷ [];
}

b_is_held : why_text waiting (why_lines waiting (online [] 5) [] a_last without_b) ≡ codes "place b\nscore b n1 0\nchosen b n1\nscore b n2 0\nnot b n2 later n1\nplace x\npart x n1 5 colocation xb\nscore x n1 5\nchosen x n1\nscore x n2 0\nnot x n2 less n1\nplace y\nscore y n1 0\nnot y n1 beside yx\nscore y n2 0\nchosen y n2\nplace a\npart a n1 -INFINITY location a1\nscore a n1 -INFINITY\nnot a n1 below\npart a n2 -INFINITY location a2\nscore a n2 -INFINITY\nnot a n2 below\nheld b n1 ab\nnone a NoNode\nnone b Held ab\ntarget x n1 started\ntarget y n2 started\n"
unfolding digits
b_is_held = refl

-- No node is open by itself, and a location names n1 alone. The leaf is promoted there, by what its agent said and a location of that role

abbrev opened : Cluster
opened = record (two_nodes (record (plain_leaf (codes "e")) { copies = 2; cloned = true; promotable = true; stickiness = pos 1 } ∷ [])) {
  properties = record plain_options { fencing = false; symmetric = false };
  locations = location (codes "e1") 0 0 (pos 3) ∷ record (location (codes "e2") 0 0 (pos 4)) { role = role.Promoted } ∷ [];
}

abbrev wanted_on_n1 : List Promotion
wanted_on_n1 = record { leaf = 0; node = 0; score = pos 10 } ∷ []

abbrev place_then_promote : List Decision
place_then_promote = Place 0 ∷ Promote 0 ∷ []

abbrev promoted_on_n1 : Placed
promoted_on_n1 = record {
  pins = None ∷ [];
  decided = with_totals opened (online [] 5) wanted_on_n1 (pinned_targets opened (online [] 5)) place_then_promote;
  table = record { nodes = 2; targets = target.Promoted ∷ target.Nowhere ∷ [] };
  none = None ∷ [];
}

only_n1_is_open : why_text opened (why_lines opened (online [] 5) wanted_on_n1 place_then_promote promoted_on_n1) ≡ codes "place e\npart e n1 3 location e1\nscore e n1 3\nchosen e n1\npart e n2 -INFINITY opt-in\nscore e n2 -INFINITY\nnot e n2 below\npromote e\npart e n1 10 promotion\npart e n1 4 location e2\nscore e n1 14\nchosen e n1\npart e n2 -1 promotion\nscore e n2 -1\nnot e n2 below\ntarget e n1 promoted\n"
unfolding digits
only_n1_is_open = refl
