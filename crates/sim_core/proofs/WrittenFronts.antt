-- A front of the text of a run is the lines of the steps that it has whole, and a part of what comes behind them.
use Rattle.std.proofs.Common.{◌≡◌, ◌⊎◌, inl, inr, ℕ, ◌+◌, ◌-◌, ◌<◌, ◌≤◌, Bool, Option, List, [], ◌++◌, length, take, append_assoc, refl, ap, sym, ◌∙◌, arith}
use Rattle.std.proofs.Math.Seq.{take-append-add}
use Rattle.std.proofs.lemmas.Bool.{cases_lt}
use Rattle.std.proofs.lemmas.Grind.{flat_map-append}
use Rattle.cluster_types.specs.declared.cluster.Cluster.{Cluster}
use Rattle.cluster_types.specs.declared.journal.Answer.{Answer}
use Rattle.cluster_types.specs.declared.journal.Promotion.{Promotion}
use Rattle.cluster_types.specs.declared.run.RunLine.{RunLine}
use Rattle.cluster_types.specs.Runs.{RunStanding, Runs, here, one_more}
use Rattle.cluster_types.specs.Texts.{run_line}
use Rattle.live_run.specs.Ends.{run_lines_text}

module _ (c : Cluster) (promotions : List Promotion) (whole : Bool) where
  -- the first bytes of a text, from where a run stands
  pub record CutAt (at : RunStanding) (rest : Option (List Answer)) (text : List ℕ) (count : ℕ) : Type 0 where
    pub lines : List RunLine
    pub stands : RunStanding
    pub behind : Option (List Answer)
    pub runs : Runs c promotions whole at rest lines stands behind
    pub part : List ℕ
    pub parts : take count text ≡ run_lines_text c lines ++ part

  -- less than the lines of the first step
  cut_before : (at : RunStanding) (rest : Option (List Answer)) (text : List ℕ) (count : ℕ) → CutAt at rest text count
  cut_before at rest text count = record { lines = []; stands = at; behind = rest; runs = here at rest; part = take count text; parts = refl }

  pub cut_at : (at later : RunStanding) (rest left : Option (List Answer)) (lines : List RunLine) → Runs c promotions whole at rest lines later left → (last : List ℕ) (count : ℕ)
      → CutAt at rest (run_lines_text c lines ++ last) count
  cut_at at _ rest _ _ (here _ _) last count = cut_before at rest last count
  cut_at at later rest left _ (one_more _ next _ _ middle _ lines more step runs) last count =
      by (cases_lt count (length (run_lines_text c lines))) (cut_at next later middle left more runs last (count - length (run_lines_text c lines)))
    where
      text : run_lines_text c (lines ++ more) ++ last ≡ run_lines_text c lines ++ (run_lines_text c more ++ last)
      text =
          ap (λ (t : List ℕ). t ++ last) (flat_map-append (run_line c) lines more) ∙ append_assoc (run_lines_text c lines) (run_lines_text c more) last

      by : (count < length (run_lines_text c lines)) ⊎ (length (run_lines_text c lines) ≤ count)
          → CutAt next middle (run_lines_text c more ++ last) (count - length (run_lines_text c lines))
          → CutAt at rest (run_lines_text c (lines ++ more) ++ last) count
      by (inl few) behind = cut_before at rest (run_lines_text c (lines ++ more) ++ last) count
      by (inr many) behind =
          let size : count ≡ length (run_lines_text c lines) + (count - length (run_lines_text c lines)) = omega (arith, many) in
          record {
            lines = lines ++ behind.lines;
            stands = behind.stands;
            behind = behind.behind;
            runs = one_more at next behind.stands rest middle behind.behind lines behind.lines step behind.runs;
            part = behind.part;
            parts = ap (λ (t : List ℕ). take count t) text
                ∙ (ap (λ (n : ℕ). take n (run_lines_text c lines ++ (run_lines_text c more ++ last))) size
                ∙ (take-append-add (run_lines_text c lines) (run_lines_text c more ++ last) (count - length (run_lines_text c lines))
                ∙ (ap (λ (t : List ℕ). run_lines_text c lines ++ t) behind.parts
                ∙ (sym (append_assoc (run_lines_text c lines) (run_lines_text c behind.lines) behind.part)
                ∙ ap (λ (t : List ℕ). t ++ behind.part) (sym (flat_map-append (run_line c) lines behind.lines))))));
          }
