-- An example of what the loss of a node does where a promotion score is told, proved from the definitions.
use Rattle.std.proofs.Common.{arith, ◌≡◌, ◌≢◌, ◌<◌, ◌==◌, ◌&&◌, ◌||◌, not, ap, ℕ, zero, suc, pos, true, false, None, List, [], ◌∷◌, ◌++◌, refl, inr}
use Rattle.std.specs.Prelude.{codes}
use Rattle.std.specs.List.{list_all}
use Rattle.std.proofs.lemmas.Bool.{ne_eqb}
use Rattle.lemmas.proofs.Members.{in_none}
use Rattle.cluster_types.specs.declared.cluster.Cluster.{Cluster}
use Rattle.cluster_types.specs.declared.journal.Event.{Event}
use Rattle.cluster_types.specs.declared.journal.Event.TheVariants.{Lost}
use Rattle.cluster_types.specs.declared.journal.Promotion.{Promotion}
use Rattle.cluster_types.specs.declared.placement.Decision.{Decision}
use Rattle.cluster_types.specs.declared.placement.Decision.TheVariants.{Place, Promote}
use Rattle.cluster_types.specs.declared.placement.Placed.{Placed}
use Rattle.cluster_types.specs.declared.placement.Target.TheVariants as target
use Rattle.cluster_types.specs.declared.report.Loss.{Loss}
use Rattle.cluster_types.specs.Choice.{after_decisions}
use Rattle.cluster_types.specs.Decisions.{Decides, all_made, one_more, decisions, is_among, is_decision, is_made_before, is_ready, needs}
use Rattle.cluster_types.specs.Each.{implies}
use Rattle.cluster_types.specs.Held.{Held, IsFinalTarget}
use Rattle.cluster_types.specs.Pins.{pinned_targets}
use Rattle.cluster_types.specs.Plans.{with_totals}
use Rattle.cluster_types.specs.Reasons.{HasReason, leaf_reason}
use Rattle.cluster_types.specs.Tables.{Targets, targets_of}
use Rattle.cluster_types.proofs.Few.{cells_of_one}
use Rattle.cluster_types.proofs.LeastSets.{held-least}
use Rattle.cluster_types.proofs.SmallClusters.{plain_leaf, two_nodes, online}
use Rattle.planner.specs.Losses.{IsLoss}

-- n1 is lost. The agent on n2 wants to be promoted there, and only by its score it is

abbrev replicated : Cluster
replicated = two_nodes (record (plain_leaf (codes "db")) { copies = 2; cloned = true; promotable = true } ∷ [])

abbrev idle : List Event
idle = online [] 0

abbrev lost : List Event
lost = idle ++ Lost 0 ∷ []

abbrev wanted : List Promotion
wanted = record { leaf = 0; node = 1; score = pos 5 } ∷ []

abbrev both : List Decision
both = Place 0 ∷ Promote 0 ∷ []

abbrev chosen : Targets
chosen = after_decisions replicated lost wanted (pinned_targets replicated lost) both

is_not : false ≡ true → ⊥
is_not h = let f : ⊥ = cc in f

-- no other leaf is decided

beyond : (r : ℕ) → (suc r == 0) || false ≡ false
beyond r = ap (λ b. b || false) (ne_eqb (suc r) 0 (λ e. let g : ⊥ = omega arith in g))

not_ready : (made : List Decision) (d : Decision) → is_decision replicated lost d ≡ false → is_ready replicated lost made d ≡ false
not_ready made d other =
    ap (λ b. b && not (is_among made d) && list_all (λ e. implies (needs replicated d e) (is_among made e)) (decisions replicated lost)) other

none_of_others : (made : List Decision) (d : Decision) → is_decision replicated lost d ≡ false → is_ready replicated lost made d ≡ true → ⊥
none_of_others made d other h = let q = not_ready made d other in let f : ⊥ = cc in f

before_all : (e : Decision) → is_ready replicated lost [] e ≡ true → e ≢ Place 0 → is_made_before replicated lost wanted (Place 0) e ≡ true
before_all (Place zero) h other = absurd (other refl)
before_all (Place (suc r)) h other = absurd (none_of_others [] (Place (suc r)) (beyond r) h)
before_all (Promote zero) h other = absurd (is_not h)
before_all (Promote (suc r)) h other = absurd (none_of_others [] (Promote (suc r)) (beyond r) h)

before_none : (e : Decision) → is_ready replicated lost (Place 0 ∷ []) e ≡ true → e ≢ Promote 0 → is_made_before replicated lost wanted (Promote 0) e ≡ true
before_none (Place zero) h other = absurd (is_not h)
before_none (Place (suc r)) h other = absurd (none_of_others (Place 0 ∷ []) (Place (suc r)) (beyond r) h)
before_none (Promote zero) h other = absurd (other refl)
before_none (Promote (suc r)) h other = absurd (none_of_others (Place 0 ∷ []) (Promote (suc r)) (beyond r) h)

none_is_left : (d : Decision) → is_ready replicated lost both d ≡ false
none_is_left (Place zero) = refl
none_is_left (Place (suc r)) = not_ready both (Place (suc r)) (beyond r)
none_is_left (Promote zero) = refl
none_is_left (Promote (suc r)) = not_ready both (Promote (suc r)) (beyond r)

both_in_order : Decides replicated lost wanted [] both
both_in_order =
    one_more [] both (Place 0) (record { ready = refl; first = before_all })
    (one_more (Place 0 ∷ []) both (Promote 0) (record { ready = refl; first = before_none }) (all_made both none_is_left))

abbrev placed : Placed
placed = record {
  pins = None ∷ [];
  decided = with_totals replicated lost wanted (pinned_targets replicated lost) both;
  table = record { nodes = 2; targets = target.Nowhere ∷ target.Promoted ∷ [] };
  none = None ∷ [];
}

nothing_is_held : (d : Decision) (n : ℕ) → Held replicated lost chosen d n → ⊥
nothing_is_held = held-least replicated lost chosen (λ d n. ⊥) (record {
  by_order = λ o n may lacks. in_none o may.present;
  by_colocation = λ col n may lacks. in_none col may.present;
  by_place = λ r n promoted held. held;
})

has_its_target : (r : ℕ) → r < 1 → HasReason replicated lost chosen (targets_of placed.table) r (leaf_reason placed.none r)
has_its_target zero h = inr (1, omega arith, refl)
has_its_target (suc r) h = absurd (let f : ⊥ = omega arith in f)

abbrev loss : Loss
loss = record { node = 0; pins = placed.pins; table = placed.table; none = placed.none }

promoted_by_its_score : IsLoss replicated idle wanted loss
promoted_by_its_score = record {
  placed = placed;
  is = record {
    decisions = both;
    in_order = both_in_order;
    pins = refl;
    decided = refl;
    nodes = refl;
    cells = refl;
    targets = cells_of_one (λ r n. IsFinalTarget replicated lost chosen r n (targets_of placed.table r n))
        (λ h. absurd (is_not h)) (refl, nothing_is_held (Promote 0) 1);
    leaves = refl;
    reasons = has_its_target;
  };
  pins = refl;
  table = refl;
  none = refl;
}
