-- Lines that stand before another are whole.
use Rattle.std.proofs.Common.{◌≡◌, ℕ, Bool, true, false, if◌then◌else◌, List, [], ◌∷◌, ◌++◌, append-nil, refl, sym, ap, subst, ◌∙◌}
use Rattle.std.specs.List.{concat}
use Rattle.std.proofs.lemmas.List.Folds.{concat-append}
use Rattle.crm_lex.specs.RawLines.{goes_on, joined, onto_group, physical_lines, raw_lines}
use Rattle.crm_lex.proofs.PhysicalLines.{Whole, Whole-physical, concat-lines, lines-concat}
use Rattle.live_run.specs.SourceFollowed.{bytes_of}
use Rattle.live_run.proofs.LinesJoined.{text_bytes}
use Rattle.sim_core.specs.TraceSection.{AreWholeLines}

-- whole lines behind some that others stood behind
others_behind : (front : List (List ℕ)) (next : List ℕ) (back others : List (List ℕ)) → Whole (front ++ next ∷ back) → Whole others → Whole (front ++ others)
others_behind [] next back others w whole = whole
others_behind (line ∷ []) next back [] w whole = w.0
others_behind (line ∷ []) next back (other ∷ others) w whole = (w.0, w.1, whole)
others_behind (line ∷ more ∷ front) next back others w whole = (w.0, w.1, others_behind (more ∷ front) next back others w.2 whole)

-- physical lines of these logical lines, before another: whatever stands behind them goes on its own
record StandBefore (continues : Bool) (lines : List (List ℕ)) (gs : List (List (List ℕ))) : Type 0 where
  front : List (List ℕ)
  next : List ℕ
  back : List (List ℕ)
  parts : lines ≡ front ++ next ∷ back
  joins : (others : List (List ℕ)) → joined continues (front ++ others) ≡ gs ++ joined false others

none_of : (g : List (List ℕ)) (gs more : List (List (List ℕ))) → [] ≡ gs ++ g ∷ more → ⊥
none_of g [] more e = cc
none_of g (h ∷ gs) more e = cc

stand_before : (continues : Bool) (lines : List (List ℕ)) (h : List (List ℕ)) (gs : List (List (List ℕ))) (g : List (List ℕ)) (more : List (List (List ℕ)))
    → joined continues lines ≡ h ∷ gs ++ g ∷ more → StandBefore continues lines (h ∷ gs)
stand_before continues [] h gs g more e = absurd (let wrong : ⊥ = cc in wrong)
stand_before continues (line ∷ lines) h gs g more e = by (goes_on continues line) refl e (λ c h gs. stand_before c lines h gs g more)
  where
    Later : Type 0
    Later = (c : Bool) (h : List (List ℕ)) (gs : List (List (List ℕ))) → joined c lines ≡ h ∷ gs ++ g ∷ more → StandBefore c lines (h ∷ gs)

    onto : (all : List (List (List ℕ))) → joined true lines ≡ all → goes_on continues line ≡ true → onto_group line all ≡ h ∷ gs ++ g ∷ more → Later → StandBefore continues (line ∷ lines) (h ∷ gs)
    onto [] is on e later = absurd (none_of g gs more (let rest : [] ≡ gs ++ g ∷ more = cc in rest))
    onto (first ∷ others) is on e later =
        let here : line ∷ first ≡ h = cc in
        let left : others ≡ gs ++ g ∷ more = cc in
        let p = later true first gs (is ∙ ap (λ (xs : List (List (List ℕ))). first ∷ xs) left) in
        record {
          front = line ∷ p.front;
          next = p.next;
          back = p.back;
          parts = ap (λ (ls : List (List ℕ)). line ∷ ls) p.parts;
          joins = λ others. (let rest = p.joins others in rw (on, rest) (ap (λ (x : List (List ℕ)). x ∷ (gs ++ joined false others)) here));
        }

    alone : (gs : List (List (List ℕ))) → goes_on continues line ≡ false → line ∷ [] ≡ h → joined false lines ≡ gs ++ g ∷ more → Later → StandBefore continues (line ∷ lines) (h ∷ gs)
    alone [] off here e later = behind lines e
      where
        behind : (ls : List (List ℕ)) → joined false ls ≡ g ∷ more → StandBefore continues (line ∷ ls) (h ∷ [])
        behind [] e = absurd (let wrong : ⊥ = cc in wrong)
        behind (next ∷ back) e = record {
          front = line ∷ [];
          next = next;
          back = back;
          parts = refl;
          joins = λ others. rw off (ap (λ (x : List (List ℕ)). x ∷ joined false others) here);
        }
    alone (other ∷ gs) off here e later =
        let p = later false other gs e in
        record {
          front = line ∷ p.front;
          next = p.next;
          back = p.back;
          parts = ap (λ (ls : List (List ℕ)). line ∷ ls) p.parts;
          joins = λ others. (let rest = p.joins others in rw (off, rest) (ap (λ (x : List (List ℕ)). x ∷ (other ∷ gs ++ joined false others)) here));
        }

    by : (t : Bool) → goes_on continues line ≡ t → (if t then onto_group line (joined true lines) else (line ∷ []) ∷ joined false lines) ≡ h ∷ gs ++ g ∷ more → Later
        → StandBefore continues (line ∷ lines) (h ∷ gs)
    by true on e later = onto (joined true lines) refl on e later
    by false off e later = alone gs off (let here : line ∷ [] ≡ h = cc in here) (let left : joined false lines ≡ gs ++ g ∷ more = cc in left) later

-- the bytes of logical lines before another
pub whole_before : (text : List ℕ) (gs : List (List (List ℕ))) (g : List (List ℕ)) (more : List (List (List ℕ))) → raw_lines text ≡ gs ++ g ∷ more → AreWholeLines (bytes_of gs)
whole_before text [] g more e = λ behind. refl
whole_before text (h ∷ gs) g more e =
    subst AreWholeLines bytes
    (λ behind. own behind ∙ ap (λ (first : List (List (List ℕ))). first ++ raw_lines behind) (sym alone))
  where
    s : StandBefore false (physical_lines text) (h ∷ gs)
    s = stand_before false (physical_lines text) h gs g more e

    own : (behind : List ℕ) → raw_lines (concat s.front ++ behind) ≡ (h ∷ gs) ++ raw_lines behind
    own behind =
        let whole : Whole (s.front ++ physical_lines behind)
        = others_behind s.front s.next s.back (physical_lines behind) (subst Whole s.parts (Whole-physical text)) (Whole-physical behind) in
        let joint : concat (s.front ++ physical_lines behind) ≡ concat s.front ++ behind
        = concat-append s.front (physical_lines behind) ∙ ap (λ (bs : List ℕ). concat s.front ++ bs) (concat-lines behind) in
        ap raw_lines (sym joint) ∙ (ap (joined false) (lines-concat (s.front ++ physical_lines behind) whole) ∙ s.joins (physical_lines behind))

    alone : raw_lines (concat s.front) ≡ h ∷ gs
    alone = ap raw_lines (sym (append-nil (concat s.front))) ∙ (own [] ∙ append-nil (h ∷ gs))

    bytes : concat s.front ≡ bytes_of (h ∷ gs)
    bytes = sym (text_bytes (concat s.front)) ∙ ap bytes_of alone
