-- The last that is shown of a node, where events come that show something of it or don't.
use Rattle.std.proofs.Common.{◌≡◌, if◌then◌else◌, ℕ, Bool, true, false, Option, Some, None, List, [], ◌∷◌, ◌++◌, append-nil, refl, ap, ◌∙◌}
use Rattle.std.specs.List.{filter_map, last_or}
use Rattle.std.proofs.lemmas.List.Elements.{filter_map-append}
use Rattle.cluster_types.specs.declared.cluster.Cluster.{Cluster}
use Rattle.cluster_types.specs.declared.journal.Event.{Event}
use Rattle.cluster_types.specs.declared.states.NodeState.TheVariants as node
use Rattle.cluster_types.specs.Journals.{NodeSign, joined, went_down, was_lost, was_fenced, sign_of, last_sign}
use Rattle.cluster_types.specs.NodeStates.{is_online, is_online_state, state_by}
use Rattle.cluster_types.proofs.LastSigns.{signed}
use Rattle.run_safety.proofs.Each.{Each, none, more}

module _ (n : ℕ) where
  signs_none : (ys : List Event) → Each (λ e. sign_of n e ≡ None) ys → filter_map (sign_of n) ys ≡ []
  signs_none _ none = refl
  signs_none _ (more e ys h rest) = rw h (signs_none ys rest)

  -- what shows nothing of a node leaves it as it is
  pub still : (es ys : List Event) → Each (λ e. sign_of n e ≡ None) ys → last_sign n (es ++ ys) ≡ last_sign n es
  still es ys h =
      ap (last_or None) (filter_map-append (sign_of n) es ys ∙ (ap (λ xs. filter_map (sign_of n) es ++ xs) (signs_none ys h) ∙ append-nil (filter_map (sign_of n) es)))

  -- a node that is there stays there, where nothing but its joining is shown
  abbrev pub is_kept : Option NodeSign → Bool
  is_kept None = true
  is_kept (Some joined) = true
  is_kept _ = false

  pub stays : (es : List Event) (e : Event) → is_kept (sign_of n e) ≡ true → last_sign n es ≡ Some joined → last_sign n (es ++ e ∷ []) ≡ Some joined
  stays es e h there = by (sign_of n e) refl h
    where
      by : (s : Option NodeSign) → sign_of n e ≡ s → is_kept s ≡ true → last_sign n (es ++ e ∷ []) ≡ Some joined
      by None g h = still es (e ∷ []) (more e [] g none) ∙ there
      by (Some joined) g h = signed n es e joined g
      by (Some went_down) g h = cc
      by (Some was_lost) g h = cc
      by (Some was_fenced) g h = cc

-- an online node is there
pub online_joined : (c : Cluster) (n : ℕ) (es : List Event) → is_online c n es ≡ true → last_sign n es ≡ Some joined
online_joined c n es h = by (last_sign n es) refl h
  where
    not_so : (b : Bool) → is_online_state (if b then node.Unclean else node.Offline) ≡ false
    not_so true = refl
    not_so false = refl

    by : (s : Option NodeSign) → last_sign n es ≡ s → is_online_state (state_by c n es s) ≡ true → last_sign n es ≡ Some joined
    by None e h = cc
    by (Some joined) e h = e
    by (Some went_down) e h = cc
    by (Some was_lost) e h = let g = not_so c.properties.fencing in cc
    by (Some was_fenced) e h = cc
