-- The lines of a run that is kept, after one more transition and after one more answer.
use Rattle.std.proofs.Common.{arith, ◌≡◌, ◌≤◌, ◌+◌, ◌-◌, ℕ, List, [], ◌∷◌, ◌++◌, length, refl, ap, ◌∙◌, sym, append-nil, append_assoc, take, drop}
use Rattle.std.specs.List.{flat_map}
use Rattle.std.proofs.Math.Seq.{drop-append_seam, take-append_seam}
use Rattle.std.proofs.lemmas.Grind.{flat_map-append}
use Rattle.std.proofs.lemmas.List.{drop-append-le, length-drop, take-append-le, length-append}
use Rattle.cluster_types.specs.declared.cluster.Cluster.{Cluster}
use Rattle.cluster_types.specs.declared.journal.Event.{Event}
use Rattle.cluster_types.specs.declared.run.Passed.{Passed}
use Rattle.cluster_types.specs.declared.run.RunLine.{RunLine}
use Rattle.cluster_types.specs.declared.run.RunLine.TheVariants as line
use Rattle.cluster_types.specs.Tables.{targets_of}
use Rattle.cluster_types.specs.Texts.{all_passed_lines, begin_of, between, end_lines, event_lines, passed_lines, target_lines}
use Rattle.run_safety.specs.KeptLines.{AreWithin}

module _ (es ys : List Event) where
  -- events before the end of a journal stay where they are
  pub between_same : (a b : ℕ) → a ≤ length es → b ≤ length es → between a b (es ++ ys) ≡ between a b es
  between_same a b low high =
      ap (take (b - a)) (drop-append-le a es ys low)
      ∙ take-append-le (b - a) (drop a es) ys (let e = length-drop a es in omega (arith, e, low, high))

  -- those that are new
  pub between_new : (b : ℕ) → b ≡ length es + length ys → between (length es) b (es ++ ys) ≡ ys
  between_new b e =
      let n : b - length es ≡ length ys = omega (arith, e) in
      ap (λ z. take z (drop (length es) (es ++ ys))) n ∙ ap (take (length ys)) (drop-append_seam es ys)
      ∙ ap (take (length ys)) (sym (append-nil ys)) ∙ take-append_seam ys []

  take_past : {X : Type 0} (xs zs : List X) (n : ℕ) → n ≡ length xs + length zs → take n (xs ++ zs) ≡ xs ++ zs
  take_past xs zs n e = ap (λ z. take z (xs ++ zs)) (e ∙ sym (length-append xs zs)) ∙ ap (take (length (xs ++ zs))) (sym (append-nil (xs ++ zs))) ∙ take-append_seam (xs ++ zs) []

  -- those from a place on
  between_more : (a : ℕ) → a ≤ length es → between a (length (es ++ ys)) (es ++ ys) ≡ between a (length es) es ++ ys
  between_more a low =
      let n = length-drop a es in
      let m = length-append es ys in
      ap (take (length (es ++ ys) - a)) (drop-append-le a es ys low)
      ∙ take_past (drop a es) ys (length (es ++ ys) - a) (omega (arith, n, m, low))
      ∙ ap (λ z. z ++ ys) (sym (ap (take (length es - a)) (sym (append-nil (drop a es))) ∙ take_past (drop a es) [] (length es - a) (omega (arith, n, low)) ∙ append-nil (drop a es)))

  module _ (c : Cluster) where
    passed_same : (k : ℕ) (p : Passed) → p.begins_at ≤ length es → p.ends_at ≤ length es → passed_lines c (es ++ ys) k p ≡ passed_lines c es k p
    passed_same k p low high =
        ap (λ z. ((line.Transition k ∷ target_lines c p.pins (targets_of p.table) p.none) ++ flat_map event_lines z) ++ end_lines c k p.end) (between_same p.begins_at p.ends_at low high)

    -- what comes of a transition behind which another follows
    followed : (k : ℕ) (q : Passed) (next : ℕ) (mine lines more : List RunLine) → q.begins_at ≤ length es → q.ends_at ≤ length es → next ≤ length es → mine ≡ lines ++ more
        → (passed_lines c (es ++ ys) k q ++ flat_map event_lines (between q.ends_at next (es ++ ys))) ++ mine
        ≡ ((passed_lines c es k q ++ flat_map event_lines (between q.ends_at next es)) ++ lines) ++ more
    followed k q next mine lines more low high near e =
        ap (λ z. (z ++ flat_map event_lines (between q.ends_at next (es ++ ys))) ++ mine) (passed_same k q low high)
        ∙ ap (λ z. (passed_lines c es k q ++ flat_map event_lines z) ++ mine) (between_same q.ends_at next high near)
        ∙ ap (λ z. (passed_lines c es k q ++ flat_map event_lines (between q.ends_at next es)) ++ z) e
        ∙ sym (append_assoc (passed_lines c es k q ++ flat_map event_lines (between q.ends_at next es)) lines more)

    begin_near : (qs : List Passed) → AreWithin (length es) qs → begin_of c es qs ≤ length es
    begin_near [] h = omega arith
    begin_near (q ∷ qs) h = h.0.0

    module _ (p : Passed) (begins : p.begins_at ≡ length es) (ends : p.ends_at ≡ length es + length ys) where
      -- what the new transition prints
      abbrev newly : ℕ → List RunLine
      newly j = ((line.Transition j ∷ target_lines c p.pins (targets_of p.table) p.none) ++ flat_map event_lines ys) ++ end_lines c j p.end

      next_begin : (qs : List Passed) → begin_of c (es ++ ys) (qs ++ p ∷ []) ≡ begin_of c es qs
      next_begin [] = begins
      next_begin (q ∷ qs) = refl

      no_more : between p.ends_at (length (es ++ ys)) (es ++ ys) ≡ []
      no_more = let m = length-append es ys in let n : length (es ++ ys) - p.ends_at ≡ 0 = omega (arith, m, ends) in ap (λ z. take z (drop p.ends_at (es ++ ys))) n

      pub one_passed_more : (k j : ℕ) (qs : List Passed) → j ≡ k + length qs → AreWithin (length es) qs
          → all_passed_lines c (es ++ ys) k (qs ++ p ∷ []) ≡ all_passed_lines c es k qs ++ newly j
      one_passed_more k j [] e h =
          let at : k ≡ j = omega (arith, e) in
          append-nil (passed_lines c (es ++ ys) k p ++ flat_map event_lines (between p.ends_at (length (es ++ ys)) (es ++ ys)))
          ∙ ap (λ z. passed_lines c (es ++ ys) k p ++ flat_map event_lines z) no_more
          ∙ append-nil (passed_lines c (es ++ ys) k p)
          ∙ ap (λ z. ((line.Transition k ∷ target_lines c p.pins (targets_of p.table) p.none) ++ flat_map event_lines (between z p.ends_at (es ++ ys))) ++ end_lines c k p.end) begins
          ∙ ap (λ z. ((line.Transition k ∷ target_lines c p.pins (targets_of p.table) p.none) ++ flat_map event_lines z) ++ end_lines c k p.end) (between_new p.ends_at ends)
          ∙ ap newly at
      one_passed_more k j (q ∷ qs) e h =
          ap (λ z. (passed_lines c (es ++ ys) k q ++ flat_map event_lines (between q.ends_at z (es ++ ys))) ++ all_passed_lines c (es ++ ys) (k + 1) (qs ++ p ∷ [])) (next_begin qs)
          ∙ followed k q (begin_of c es qs) (all_passed_lines c (es ++ ys) (k + 1) (qs ++ p ∷ [])) (all_passed_lines c es (k + 1) qs) (newly j) h.0.0 h.0.1 (begin_near qs h.1)
          (one_passed_more (k + 1) j qs (omega (arith, e)) h.1)

    -- events behind the last transition
    pub between_passed : (k : ℕ) (q : Passed) (qs : List Passed) → AreWithin (length es) (q ∷ qs)
        → all_passed_lines c (es ++ ys) k (q ∷ qs) ≡ all_passed_lines c es k (q ∷ qs) ++ flat_map event_lines ys
    between_passed k q [] h =
        let mine = passed_lines c es k q in
        append-nil (passed_lines c (es ++ ys) k q ++ flat_map event_lines (between q.ends_at (length (es ++ ys)) (es ++ ys)))
        ∙ ap (λ z. z ++ flat_map event_lines (between q.ends_at (length (es ++ ys)) (es ++ ys))) (passed_same k q h.0.0 h.0.1)
        ∙ ap (λ z. passed_lines c es k q ++ flat_map event_lines z) (between_more q.ends_at h.0.1)
        ∙ ap (λ z. passed_lines c es k q ++ z) (flat_map-append event_lines (between q.ends_at (length es) es) ys)
        ∙ sym (append_assoc (passed_lines c es k q) (flat_map event_lines (between q.ends_at (length es) es)) (flat_map event_lines ys))
        ∙ ap (λ z. z ++ flat_map event_lines ys) (sym (append-nil (passed_lines c es k q ++ flat_map event_lines (between q.ends_at (length es) es))))
    between_passed k q (x ∷ xs) h =
        followed k q x.begins_at (all_passed_lines c (es ++ ys) (k + 1) (x ∷ xs)) (all_passed_lines c es (k + 1) (x ∷ xs)) (flat_map event_lines ys) h.0.0 h.0.1 h.1.0.0
        (between_passed (k + 1) x xs h.1)
