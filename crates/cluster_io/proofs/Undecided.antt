-- What a reader of lines holds gives no answer yet, where it isn't found to.
use Rattle.std.proofs.Common.{◌≡◌, ◌⊎◌, inl, inr, ℕ, zero, suc, ◌+◌, ◌-◌, ◌≤◌, nat_lt, ◌==◌, Bool, true, false, List, [], ◌∷◌, ◌++◌, length, take, drop, replicate, arith, refl, ap, sym, ◌∙◌}
use Rattle.std.proofs.lemmas.Bool.{ltb-true, ltb-false, or_from}
use Rattle.std.proofs.lemmas.List.{append-nil, length-append, length-replicate}
use Rattle.std.proofs.lemmas.List.Folds.{list_any-append}
use Rattle.crm_lex.specs.RawLines.{physical_lines}
use Rattle.cluster_io.specs.NextLine.{reader_answer, has_feed, IsUndecided}
use Rattle.cluster_io.specs.Inner.Scanning.{Looked, physical_content_length}
use Rattle.cluster_io.specs.Inner.FoundLines.{before_feed}
use Rattle.cluster_io.specs.declared.line_scan.Bounds.{Bounds}
use Rattle.cluster_io.specs.declared.line_scan.Scan.{Scan}
use Rattle.cluster_io.specs.declared.line_step.LineStep.{LineStep}
use Rattle.cluster_io.specs.declared.line_step.LineStep.TheVariants.{Line, End, TooLong, TooLarge}
use Rattle.cluster_io.proofs.LineAnswers.{feed_not_long}
use Rattle.cluster_io.proofs.Scans.{whole_more, before_length, rest_length, rest_too_long, rest_too_large, at_end_line, at_end_too_long}

no_feed_in : (n : ℕ) → has_feed (replicate n 97) ≡ false
no_feed_in zero = refl
no_feed_in (suc n) = no_feed_in n

-- it goes past its bounds
abbrev IsPast : LineStep → Type 0
IsPast step = (step ≡ TooLong) ⊎ (step ≡ TooLarge)

past_is_new : (step other : LineStep) → IsPast step → (other ≡ Line) ⊎ (other ≡ End) → step ≡ other → ⊥
past_is_new step other (inl a) (inl b) e = cc
past_is_new step other (inl a) (inr b) e = cc
past_is_new step other (inr a) (inl b) e = cc
past_is_new step other (inr a) (inr b) e = cc

module _ (bounds : Bounds) (held : List ℕ) (s : Scan) (l : Looked bounds held s) (none : has_feed (drop s.line held) ≡ false)
    (fits : length held ≤ bounds.room) (short : s.content + length (before_feed (drop s.line held)) ≤ bounds.longest) where
  front : List ℕ
  front = take s.line held

  text : List ℕ
  text = drop s.line held

  -- bytes to follow, one more than there is room for
  many : List ℕ
  many = replicate (bounds.room + 1 - length held) 97

  overfull : IsPast (reader_answer bounds.room bounds.longest (held ++ many))
  unfolding front text many
  overfull = by (nat_lt bounds.longest (physical_content_length (physical_lines front) + length (text ++ many) - 1)) refl
    where
      before : length front ≡ s.line
      before = before_length bounds held s l none

      behind : length text ≡ length held - s.line
      behind = rest_length bounds held s l none

      sum : length (text ++ many) ≡ length text + length many
      sum = length-append text many

      filled : length many ≡ bounds.room + 1 - length held
      filled = length-replicate (bounds.room + 1 - length held) 97

      unfed : has_feed (text ++ many) ≡ false
      unfed = list_any-append (λ b. b == 10) text many ∙ or_from (has_feed text) (has_feed many) none (no_feed_in (bounds.room + 1 - length held))

      same : reader_answer bounds.room bounds.longest (held ++ many) ≡ reader_answer bounds.room bounds.longest (front ++ ((text ++ many) ++ []))
      same = ap (reader_answer bounds.room bounds.longest)
          (whole_more bounds held s l none many ∙ ap (λ (t : List ℕ). front ++ t) (sym (append-nil (text ++ many))))

      by : (t : Bool) → nat_lt bounds.longest (physical_content_length (physical_lines front) + length (text ++ many) - 1) ≡ t
          → IsPast (reader_answer bounds.room bounds.longest (held ++ many))
      by true e =
          let more = ltb-true bounds.longest (physical_content_length (physical_lines front) + length (text ++ many) - 1) e in
          inl (same
          ∙ rest_too_long front (text ++ many) [] bounds.room bounds.longest l.joins unfed
          (omega (arith, before, behind, sum, filled, l.order, l.within)) (omega (arith, l.content_counted, l.short)) more)
      by false e =
          let no_more = ltb-false bounds.longest (physical_content_length (physical_lines front) + length (text ++ many) - 1) e in
          inr (same
          ∙ rest_too_large front (text ++ many) [] bounds.room bounds.longest l.joins unfed
          (omega (arith, before, behind, sum, filled, l.order, l.within)) (omega (arith, before, l.in_room)) no_more)

  -- a line feed next leaves it within its bounds
  fed : reader_answer bounds.room bounds.longest (held ++ 10 ∷ []) ≡ TooLong → ⊥
  unfolding front text
  fed e =
      let before = before_length bounds held s l none in
      let behind = rest_length bounds held s l none in
      feed_not_long front text bounds.room bounds.longest l.joins none (omega (arith, before, behind, l.order, l.within))
      (omega (arith, short, l.content_counted))
      (ap (reader_answer bounds.room bounds.longest) (sym (whole_more bounds held s l none (10 ∷ []))) ∙ e)

  at_end : (step : LineStep) → ((rest : List ℕ) → reader_answer bounds.room bounds.longest (held ++ rest) ≡ step)
      → reader_answer bounds.room bounds.longest held ≡ step
  at_end step all = ap (reader_answer bounds.room bounds.longest) (sym (append-nil held)) ∙ all []

  no_answer : (step : LineStep) → ((rest : List ℕ) → reader_answer bounds.room bounds.longest (held ++ rest) ≡ step)
      → (step ≡ Line) ⊎ (step ≡ End) → ⊥
  no_answer step all which = past_is_new (reader_answer bounds.room bounds.longest (held ++ many)) step overfull which (all many)

  pub undecided : IsUndecided bounds.room bounds.longest held
  undecided step all = by (nat_lt 0 (length held)) (nat_lt bounds.longest (s.content + (length held - s.line))) refl refl
    where
      none_held : (xs : List ℕ) → length xs ≤ 0 → reader_answer bounds.room bounds.longest xs ≡ End
      none_held [] h = refl
      none_held (b ∷ bs) h = absurd (omega (arith, h))

      by : (some long : Bool) → nat_lt 0 (length held) ≡ some → nat_lt bounds.longest (s.content + (length held - s.line)) ≡ long → ⊥
      by false long e f = no_answer step all (inr (sym (at_end step all) ∙ none_held held (ltb-false 0 (length held) e)))
      by true false e f =
          no_answer step all
          (inl (sym (at_end step all)
          ∙ at_end_line bounds held s l none fits (ltb-true 0 (length held) e) (ltb-false bounds.longest (s.content + (length held - s.line)) f)))
      by true true e f =
          fed (all (10 ∷ [])
          ∙ (sym (at_end step all) ∙ at_end_too_long bounds held s l none fits (ltb-true bounds.longest (s.content + (length held - s.line)) f)))
