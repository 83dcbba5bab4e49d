-- The nodes that are unclean by their states, and those that are to be fenced.
use Rattle.std.proofs.Common.{◌≡◌, ℕ, zero, suc, ◌+◌, ◌<◌, true, false, Some, List, [], length, filter, slice_get, refl, sym, ap, subst, ◌∙◌, append-nil, arith}
use Rattle.std.specs.List.{range_with_len}
use Rattle.std.specs.Option.{option_map_or}
use Rattle.lemmas.proofs.Ranges.{filter-more, filter-same}
use Rattle.cluster_types.specs.declared.cluster.Cluster.{Cluster}
use Rattle.cluster_types.specs.declared.journal.Event.{Event}
use Rattle.cluster_types.specs.declared.journal.Promotion.{Promotion}
use Rattle.cluster_types.specs.declared.states.States.{States}
use Rattle.cluster_types.specs.NodeStates.{node_state, is_unclean_state}
use Rattle.cluster_types.specs.Rights.{may_fence, is_to_be_fenced}
use Rattle.cluster_types.specs.UnpackedStates.{states_of}
use Rattle.cluster_types.proofs.StatesKept.{node_kept, nodes_fit}
use Rattle.state_unpack.specs.Inner.Unclean.{unclean_in}

-- a test that never passes keeps none
filter-none : (n : ℕ) → filter (λ (i : ℕ). false) (range_with_len 0 n) ≡ []
filter-none zero = refl
filter-none (suc n) =
    let on : n + 1 ≡ suc n = omega arith in
    subst (λ k. filter (λ (i : ℕ). false) (range_with_len 0 k) ≡ []) on (filter-more (λ i. false) n false refl ∙ (append-nil _ ∙ filter-none n))

module _ (c : Cluster) (es : List Event) (promotions : List Promotion) (states : States) (told : states ≡ states_of c es promotions) where
  state-is : (n : ℕ) → n < length c.nodes → slice_get states.nodes n ≡ Some (node_state c n es)
  state-is n low = ap (λ (s : States). slice_get s.nodes n) told ∙ node_kept c es promotions n low

  size : length states.nodes ≡ length c.nodes
  size = ap (λ (s : States). length s.nodes) told ∙ nodes_fit c es promotions

  -- the cluster may not fence
  pub fences-none : may_fence c es ≡ false → [] ≡ filter (λ n. is_to_be_fenced c n es) (range_with_len 0 (length c.nodes))
  fences-none never = sym (filter-same (λ n. is_to_be_fenced c n es) (λ i. false) (length c.nodes) (λ i low. rw never refl) ∙ filter-none (length c.nodes))

  -- it may
  pub fences-unclean : may_fence c es ≡ true → unclean_in states.nodes ≡ filter (λ n. is_to_be_fenced c n es) (range_with_len 0 (length c.nodes))
  fences-unclean may =
      ap (λ k. filter (λ n. option_map_or is_unclean_state (slice_get states.nodes n) false) (range_with_len 0 k)) size
      ∙ filter-same _ (λ n. is_to_be_fenced c n es) (length c.nodes) (λ i low. rw (state-is i low, may) refl)
