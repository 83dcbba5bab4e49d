-- Decisions that are in order by what is read of a cluster are those that the journal decides.
use Rattle.std.proofs.Common.{◌≡◌, ◌==◌, ◌&&◌, ◌||◌, ◌<◌, nat_lt, not, Bool, Option, List, [], length, map, sym, ap, subst, ◌∙◌, Contains}
use Rattle.std.specs.List.{range_with_len}
use Rattle.std.proofs.lemmas.Bool.{false_from_ne_true}
use Rattle.cluster_types.specs.declared.cluster.Cluster.{Cluster}
use Rattle.cluster_types.specs.declared.journal.Event.{Event}
use Rattle.cluster_types.specs.declared.journal.Promotion.{Promotion}
use Rattle.cluster_types.specs.declared.placement.Decision.{Decision}
use Rattle.cluster_types.specs.declared.placement.Pin.{Pin}
use Rattle.cluster_types.specs.declared.states.States.{States}
use Rattle.cluster_types.specs.Decisions.{Decides, IsMadeNext, Key, all_made, decisions, effective_key, is_less, is_place, is_ready, key_of, leaf_of}
use Rattle.cluster_types.specs.Pins.{pin_of}
use Rattle.cluster_types.specs.UnpackedStates.{states_of}
use Rattle.plan_laws.proofs.MadeOnes.{never_both, there}
use Rattle.plan_laws.proofs.Reaches as reached
use Rattle.plan_laws.proofs.Reaches.{Reaches, all_of_reached}
use Rattle.plan_laws.proofs.Ready.{ready_is_one}
use Rattle.placement.specs.declared.totals.table.ScoreTable.{ScoreTable}
use Rattle.placement.specs.Scores.{scores_of}
use Rattle.placement.specs.Inner.DecisionLists.{decisions_in, compared_key}
use Rattle.placement.specs.Inner.EffectiveKeys.{effective_in}
use Rattle.placement.specs.Inner.Turns as turns
use Rattle.placement.specs.Inner.Turns.{AreInOrder, IsFirstReady, WereMade, is_ready_in}
use Rattle.placement.proofs.DecisionsWithin.{decisions-within}
use Rattle.placement.proofs.KeysOfStates.{effective-same, key-is}
use Rattle.placement.proofs.PinsOfStates.{decisions-are}

-- which of two decisions of these keys goes first
abbrev goes_first : Decision → Decision → Key → Key → Bool
goes_first d e p q =
    is_less q p || not (is_less p q) && (nat_lt (leaf_of d) (leaf_of e) || leaf_of d == leaf_of e && is_place d && not (is_place e))

module _ (c : Cluster) (es : List Event) (ps : List Promotion) where
  -- by keys that are the effective ones
  module _ (key : Decision → Key) (same : (d : Decision) → Contains (decisions c es) d → key d ≡ effective_key c es ps d) where
    next-is : (made : List Decision) (d : Decision) → IsFirstReady (is_ready_in c (decisions c es) made) key (decisions c es) d → IsMadeNext c es ps made d
    next-is made d best = record {
      ready = best.ready_now;
      first = λ e also other.
          let h : Contains (decisions c es) e = there c es e (ready_is_one c es made e also) in
          sym (ap (λ (p : Key). goes_first d e p (key e)) (same d best.among) ∙ ap (goes_first d e (effective_key c es ps d)) (same e h))
          ∙ best.first e h also other;
    }

    reaches : (made : List Decision) → WereMade c (decisions c es) key made → Reaches c es ps made
    reaches _ turns.none_made = reached.none_made
    reaches _ (turns.one_more made d before next) = reached.next_made made d (reaches made before) (next-is made d next)

    decides : (order : List Decision) → AreInOrder c (decisions c es) key order → Decides c es ps [] order
    decides order are =
        all_of_reached c es ps order order (reaches order are.made)
        (all_made order (λ d. false_from_ne_true (is_ready c es order d) (λ ready.
        never_both (is_ready c es order d) ready (are.none_left d (there c es d (ready_is_one c es order d ready))))))

  pub order-decides : (states : States) (scores : ScoreTable) (pins : List (Option Pin)) (order : List Decision) → states ≡ states_of c es ps → scores ≡ scores_of c es ps
      → pins ≡ map (pin_of c es) (range_with_len 0 (length c.leaves))
      → AreInOrder c (decisions_in c pins) (effective_in c (decisions_in c pins) (compared_key c states scores)) order → Decides c es ps [] order
  order-decides states scores pins order told table pinned are =
      let ds = decisions c es in
      let key = compared_key c states scores in
      let is : decisions_in c pins ≡ ds = decisions-are c es ps pins pinned in
      let within : (d : Decision) → Contains ds d → leaf_of d < length c.leaves = λ d h. decisions-within c pins d (subst (λ xs. Contains xs d) (sym is) h) in
      let keyed : (d : Decision) → Contains ds d → key d ≡ key_of c es ps d = λ d h.
      ap (λ (s : States). compared_key c s scores d) told ∙ (ap (λ (t : ScoreTable). compared_key c (states_of c es ps) t d) table ∙ key-is c es ps d (within d h)) in
      decides (effective_in c ds key) (effective-same c ds key (key_of c es ps) keyed) order (subst (λ xs. AreInOrder c xs (effective_in c xs key) order) is are)
