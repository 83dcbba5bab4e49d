-- Which leaves are pinned, by the list that says why each is.
use Rattle.std.proofs.Common.{arith, ◌≡◌, ◌≤◌, ℕ, true, Option, List, inl, inr, length, map, refl, sym, ◌∙◌, ap}
use Rattle.std.specs.Prelude.{is_some}
use Rattle.std.specs.List.{range_with_len}
use Rattle.std.specs.Option.{option_map_or}
use Rattle.std.proofs.lemmas.Bool.{cases_lt}
use Rattle.std.proofs.lemmas.List.FromFn.{length-map-range_with_len}
use Rattle.std.proofs.lemmas.Option.{slice_get_past}
use Rattle.lemmas.proofs.Ranges.{slice_get-range}
use Rattle.cluster_types.specs.declared.cluster.Cluster.{Cluster}
use Rattle.cluster_types.specs.declared.journal.Event.{Event}
use Rattle.cluster_types.specs.declared.placement.Pin.{Pin}
use Rattle.cluster_types.specs.Pins.{is_pinned, is_pinned_in, pin_of}

module _ (c : Cluster) (es : List Event) (pins : List (Option Pin)) (are : pins ≡ map (pin_of c es) (range_with_len 0 (length c.leaves))) where
  -- a leaf that the cluster doesn't have isn't managed
  unknown : (r : ℕ) → length c.leaves ≤ r → is_pinned c es r ≡ true
  unknown r le = rw (slice_get_past c.leaves r le) refl

  unlisted : (r : ℕ) → length c.leaves ≤ r → is_pinned_in pins r ≡ true
  unlisted r le =
      let size : length pins ≡ length c.leaves = ap length are ∙ length-map-range_with_len (pin_of c es) 0 (length c.leaves) in
      let past : length pins ≤ r = omega arith in
      rw (slice_get_past pins r past) refl

  -- the list says it of every leaf
  pub pin_known : (r : ℕ) → is_pinned_in pins r ≡ is_pinned c es r
  pin_known r = elim (cases_lt r (length c.leaves)) [
    | inl lt ↦
        ap (λ (xs : List (Option Pin)). is_pinned_in xs r) are
        ∙ ap (λ (o : Option (Option Pin)). option_map_or (λ (pin : Option Pin). is_some pin) o true) (slice_get-range (pin_of c es) (length c.leaves) r lt)
    | inr le ↦ unlisted r le ∙ sym (unknown r le)
  ]
