-- The last that is shown of a node, with one more event.
use Rattle.std.proofs.Common.{◌≡◌, ℕ, ◌<◌, ◌==◌, Bool, true, false, if◌then◌else◌, Option, Some, None, List, [], ◌∷◌, ◌++◌, length, get_or, set, slice_get, refl, sym, ap, ◌∙◌, append-nil, eqb-true, arith, unwrap_or}
use Rattle.std.proofs.lemmas.List.{length-set, get_or-set_same, get_or-set_other}
use Rattle.std.proofs.lemmas.List.Elements.{filter_map-append}
use Rattle.std.proofs.lemmas.Option.{slice_get-get_or}
use Rattle.std.specs.List.{filter_map, last_or}
use Rattle.std.specs.Option.{option_map}
use Rattle.cluster_types.specs.declared.journal.Event.{Event}
use Rattle.cluster_types.specs.declared.journal.Event.TheVariants.{Up, Down, Lost, Quorum, Wait, Cleanup, Begin, Ended}
use Rattle.cluster_types.specs.Journals.{NodeSign, sign_of, last_sign, said_of_quorum, has_quorum}
use Rattle.lemmas.proofs.Lasts.{last-more}
use Rattle.state_unpack.specs.declared.signs.Sign.{Sign}
use Rattle.state_unpack.specs.Inner.CellsKept.{quorum_after}
use Rattle.state_unpack.specs.Signs.{as_sign, ShowsSigns}
use Rattle.state_unpack.specs.Inner.Signs.{or_else}

-- it is what this event shows, if it shows something, or the last before
last-after : (n : ℕ) (es : List Event) (e : Event) (sign : Option NodeSign) → sign_of n e ≡ sign → last_sign n (es ++ e ∷ []) ≡ or_else sign (last_sign n es)
last-after n es e None s = ap (last_or None) (filter_map-append (sign_of n) es (e ∷ [])) ∙ (rw s (ap (last_or None) (append-nil (filter_map (sign_of n) es))))
last-after n es e (Some sign) s = ap (last_or None) (filter_map-append (sign_of n) es (e ∷ [])) ∙ (rw s (last-more None (filter_map (sign_of n) es) sign))

module _ (nodes : ℕ) (es : List Event) (e : Event) (signs : List (Option Sign)) (shows : ShowsSigns nodes es signs) where
  -- nothing is shown of the nodes that there are
  pub shows-nothing : ((n : ℕ) → n < nodes → sign_of n e ≡ None) → ShowsSigns nodes (es ++ e ∷ []) signs
  shows-nothing none = record {
    len = shows.len;
    last = λ n h. shows.last n h ∙ ap Some (sym (last-after n es e None (none n h)));
  }

  -- something is shown of this node, and of no other
  pub shows-one : (node : ℕ) (sign : Sign) → ((n : ℕ) → sign_of n e ≡ (if node == n then Some (as_sign sign) else None)) → node < length signs
      → ShowsSigns nodes (es ++ e ∷ []) (set signs node (Some sign))
  shows-one node sign one low = record {
    len = length-set signs node (Some sign) ∙ shows.len;
    last = λ n h. split n h (node == n) refl;
  }
    where
      split : (n : ℕ) → n < nodes → (t : Bool) → (node == n) ≡ t
          → option_map (option_map as_sign) (slice_get (set signs node (Some sign)) n) ≡ Some (last_sign n (es ++ e ∷ []))
      split n h true t =
          let same = eqb-true node n t in
          let shown : sign_of n e ≡ Some (as_sign sign) = one n ∙ rw t refl in
          let in_new : n < length (set signs node (Some sign)) = omega (arith, h, shows.len, length-set signs node (Some sign)) in
          ap (option_map (option_map as_sign)) (slice_get-get_or (set signs node (Some sign)) n None in_new ∙ ap Some (ap (λ m. get_or (set signs node (Some sign)) m None) (sym same) ∙ get_or-set_same signs node (Some sign) None low))
          ∙ ap Some (sym (last-after n es e (Some (as_sign sign)) shown))
      split n h false t =
          let shown : sign_of n e ≡ None = one n ∙ rw t refl in
          let in_old : n < length signs = omega (arith, h, shows.len) in
          let in_new : n < length (set signs node (Some sign)) = omega (arith, in_old, length-set signs node (Some sign)) in
          let other : get_or (set signs node (Some sign)) n None ≡ get_or signs n None = get_or-set_other signs node n (Some sign) None (grind arith) in
          ap (option_map (option_map as_sign)) (slice_get-get_or (set signs node (Some sign)) n None in_new ∙ (ap Some other ∙ sym (slice_get-get_or signs n None in_old)))
          ∙ (shows.last n h ∙ ap Some (sym (last-after n es e None shown)))

-- the last word on quorum likewise
pub quorum-more : (es : List Event) (e : Event) → has_quorum (es ++ e ∷ []) ≡ quorum_after (has_quorum es) e
quorum-more es e = ap (λ o. unwrap_or o false) (ap (last_or None) (filter_map-append said_of_quorum es (e ∷ []))) ∙ split e
  where
    unsaid : unwrap_or (last_or None (filter_map said_of_quorum es ++ [])) false ≡ has_quorum es
    unsaid = ap (λ xs. unwrap_or (last_or None xs) false) (append-nil (filter_map said_of_quorum es))

    split : (e : Event) → unwrap_or (last_or None (filter_map said_of_quorum es ++ filter_map said_of_quorum (e ∷ []))) false ≡ quorum_after (has_quorum es) e
    split (Quorum now) = ap (λ o. unwrap_or o false) (last-more None (filter_map said_of_quorum es) now)
    split (Up node) = unsaid
    split (Down node) = unsaid
    split (Lost node) = unsaid
    split (Wait seconds) = unsaid
    split (Cleanup leaf node) = unsaid
    split (Begin k a) = unsaid
    split (Ended k a o moment) = unsaid
