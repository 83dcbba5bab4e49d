-- The losses of one node more.
use Rattle.std.proofs.Common.{◌≡◌, ◌+◌, ℕ, true, false, List, [], ◌∷◌, ◌++◌, filter, refl, sym, ap, ◌∙◌, inl, inr}
use Rattle.std.specs.List.{range_with_len}
use Rattle.std.proofs.lemmas.List.{append-nil, map-append}
use Rattle.std.proofs.lemmas.List.Elements.{Contains-push_cases}
use Rattle.lemmas.proofs.Ranges.{filter-more}
use Rattle.cluster_types.specs.declared.cluster.Cluster.{Cluster}
use Rattle.cluster_types.specs.declared.journal.Event.{Event}
use Rattle.cluster_types.specs.declared.journal.Promotion.{Promotion}
use Rattle.cluster_types.specs.NodeStates.{is_online}
use Rattle.cluster_types.specs.declared.report.Loss.{Loss}
use Rattle.planner.specs.Losses.{AreLosses, IsLoss}
use Rattle.planner.specs.Inner.OnlineBefore.{online_before}

module _ (c : Cluster) (es : List Event) (ps : List Promotion) where
  module _ (n : ℕ) (losses : List Loss) (so_far : AreLosses c es ps (online_before c es n) losses) where
    pub not_lost : is_online c n es ≡ false → AreLosses c es ps (online_before c es (n + 1)) losses
    not_lost off = record {
      nodes_lost = so_far.nodes_lost ∙ (sym (append-nil _) ∙ sym (filter-more (λ k. is_online c k es) n false off));
      each = so_far.each;
    }

    pub lost : (loss : Loss) → is_online c n es ≡ true → loss.node ≡ n → IsLoss c es ps loss → AreLosses c es ps (online_before c es (n + 1)) (losses ++ loss ∷ [])
    lost loss on node is = record {
      nodes_lost =
          map-append (λ (l : Loss). l.node) losses (loss ∷ [])
          ∙ (ap (λ ns. ns ++ loss.node ∷ []) so_far.nodes_lost
          ∙ (ap (λ k. filter (λ k. is_online c k es) (range_with_len 0 n) ++ k ∷ []) node ∙ sym (filter-more (λ k. is_online c k es) n true on)));
      each = λ other h. elim (Contains-push_cases losses loss other h) [
        | inl old ↦ so_far.each other old
        | inr new ↦ rw (← new) is
      ];
    }
