-- Examples of rules of migrations that no other example notices, computed from the definitions.
use Rattle.std.proofs.Common.{arith, ◌≡◌, ℕ, zero, suc, pos, neg_ℤ, true, false, List, [], ◌∷◌, ◌++◌, refl, inl, inr}
use Rattle.std.specs.Prelude.{codes}
use Rattle.cluster_types.specs.declared.cluster.Cluster.{Cluster}
use Rattle.cluster_types.specs.declared.journal.Action.TheVariants.{MigrateTo, MigrateFrom}
use Rattle.cluster_types.specs.declared.journal.Answer.TheVariants as answer
use Rattle.cluster_types.specs.declared.journal.Event.{Event}
use Rattle.cluster_types.specs.declared.journal.Event.TheVariants.{Lost, Begin, Ended}
use Rattle.cluster_types.specs.declared.journal.Outcome.TheVariants.{Code, Gone}
use Rattle.cluster_types.specs.declared.leaf.Leaf.{Leaf}
use Rattle.cluster_types.specs.declared.leaf.Op.TheVariants.{Start, Stop}
use Rattle.cluster_types.specs.declared.placement.Target.TheVariants as target
use Rattle.cluster_types.specs.declared.rules.Colocation.{Colocation}
use Rattle.cluster_types.specs.declared.rules.Order.{Order}
use Rattle.cluster_types.specs.declared.rules.OrderKind.TheVariants as kind
use Rattle.cluster_types.specs.AnswersThatApply.{added_by}
use Rattle.cluster_types.specs.Journals.{needs_node}
use Rattle.cluster_types.specs.May.{may_be_running}
use Rattle.cluster_types.specs.NeededActions.{GetsStepAnywhere, IsHarmlessColocation, IsHarmlessOrder, Migrates}
use Rattle.cluster_types.specs.Tables.{Targets}
use Rattle.cluster_types.proofs.NeededLaws.{can_be_cycled}
use Rattle.cluster_types.proofs.SmallClusters.{plain_leaf, two_nodes, colocation, start_order, did, probed, online}

-- a sending begins only while both nodes are there, and ends while its source is; a taking in wants its target alone
sending_wants_its_source : needs_node 0 (Begin 1 (MigrateTo 0 0 1)) ≡ true
sending_wants_its_source = refl

sending_wants_its_target : needs_node 1 (Begin 1 (MigrateTo 0 0 1)) ≡ true
sending_wants_its_target = refl

sending_ends_without_its_target : needs_node 1 (Ended 1 (MigrateTo 0 0 1) (Code 0) 1000) ≡ false
sending_ends_without_its_target = refl

sending_ends_with_its_source : needs_node 0 (Ended 1 (MigrateTo 0 0 1) (Code 0) 1000) ≡ true
sending_ends_with_its_source = refl

taking_in_wants_its_target : needs_node 1 (Begin 2 (MigrateFrom 0 0 1)) ≡ true
taking_in_wants_its_target = refl

taking_in_wants_no_source : needs_node 0 (Begin 2 (MigrateFrom 0 0 1)) ≡ false
taking_in_wants_no_source = refl

-- two machines, of which the second may be moved live, both on n1 and both better on n2
abbrev moving : Leaf
moving = record (plain_leaf (codes "vm")) { migrates = true }

abbrev both : Cluster
both = two_nodes (plain_leaf (codes "s") ∷ moving ∷ [])

abbrev on_n1 : List Event
on_n1 = online (did Start 0 0 0 900 ∷ probed 0 1 7 900 ∷ did Start 1 0 0 900 ∷ probed 1 1 7 900 ∷ []) 1000

abbrev goes_to_n2 : Targets
goes_to_n2 r zero = target.Nowhere
goes_to_n2 r (suc n) = target.Started

-- with the source a sending is gone, and with the target a taking in
gone_with_its_source : added_by both on_n1 ((1, MigrateTo 1 0 1) ∷ []) (answer.Lost 0) ≡ Ended 1 (MigrateTo 1 0 1) Gone 1000 ∷ Lost 0 ∷ []
gone_with_its_source = refl

goes_on_without_its_target : added_by both on_n1 ((1, MigrateTo 1 0 1) ∷ []) (answer.Lost 1) ≡ Lost 1 ∷ []
goes_on_without_its_target = refl

taken_in_no_more : added_by both on_n1 ((2, MigrateFrom 1 0 1) ∷ []) (answer.Lost 1) ≡ Ended 2 (MigrateFrom 1 0 1) Gone 1000 ∷ Lost 1 ∷ []
taken_in_no_more = refl

taken_in_without_its_source : added_by both on_n1 ((2, MigrateFrom 1 0 1) ∷ []) (answer.Lost 0) ≡ Lost 0 ∷ []
taken_in_without_its_source = refl

abbrev with_order : Order → Cluster
with_order o = record both { orders = o ∷ [] }

-- an order harms a migration of its then whose first is stopped or started
abbrev starts_first : Order
starts_first = start_order (codes "o") 0 1 false

first_is_stopped : GetsStepAnywhere (with_order starts_first) on_n1 goes_to_n2 0
first_is_stopped = (0, omega arith, (Stop, inr ((λ h. let can = can_be_cycled (with_order starts_first) on_n1 goes_to_n2 0 0 h in cc), (0, omega arith, refl))))

harmed_by_its_first : IsHarmlessOrder (with_order starts_first) on_n1 goes_to_n2 1 starts_first → ⊥
harmed_by_its_first h = h.as_then refl (λ e. cc) first_is_stopped

not_moved_live : (n m : ℕ) → Migrates (with_order starts_first) on_n1 goes_to_n2 1 n m → ⊥
not_moved_live n m g = harmed_by_its_first (g.orders starts_first (0, omega arith, refl))

-- a Serialize order harms it in either place
abbrev in_turn : Order
in_turn = record (start_order (codes "o") 1 0 false) { kind = kind.Serialize; symmetrical = false }

other_is_stopped : GetsStepAnywhere (with_order in_turn) on_n1 goes_to_n2 0
other_is_stopped = (0, omega arith, (Stop, inr ((λ h. let can = can_be_cycled (with_order in_turn) on_n1 goes_to_n2 0 0 h in cc), (0, omega arith, refl))))

harmed_in_turn : IsHarmlessOrder (with_order in_turn) on_n1 goes_to_n2 1 in_turn → ⊥
harmed_in_turn h = elim (h.as_first refl) [
  | inl allowed ↦ allowed.0 refl
  | inr undisturbed ↦ undisturbed other_is_stopped
]

-- a separation harms it, whichever side it is
abbrev apart : ℕ → ℕ → Colocation
apart r s = colocation (codes "x") r s (neg_ℤ (pos 1000000))

s_is_stopped : GetsStepAnywhere both on_n1 goes_to_n2 0
s_is_stopped = (0, omega arith, (Stop, inr ((λ h. let can = can_be_cycled both on_n1 goes_to_n2 0 0 h in cc), (0, omega arith, refl))))

harmed_by_a_dependent : IsHarmlessColocation both on_n1 goes_to_n2 1 (apart 0 1) → ⊥
harmed_by_a_dependent h = h.as_primary refl refl s_is_stopped

harmed_by_a_primary : IsHarmlessColocation both on_n1 goes_to_n2 1 (apart 1 0) → ⊥
harmed_by_a_primary h = h.as_dependent refl refl s_is_stopped

-- where another node may still run it, it isn't moved live
may_run_on_the_lost : may_be_running both 0 1 (online (did Start 0 0 0 900 ∷ did Start 0 1 0 900 ∷ []) 1000 ++ Lost 1 ∷ []) ≡ true
may_run_on_the_lost = refl
