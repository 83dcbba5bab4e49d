-- What an auditor is told, line by line.
use Rattle.std.proofs.Common.{arith, ◌≡◌, ◌≢◌, ◌+◌, ℕ, List, [], ◌∷◌, ◌++◌, take, append-nil, sym, ap, ◌∙◌}
use Rattle.std.specs.Prelude.{Some, option_map, slice_get}
use Rattle.std.proofs.lemmas.List.{take_more}
use Rattle.std.proofs.lemmas.Option.{get_or_from_slice_get, slice_get-map, slice_get_within}
use Rattle.cluster_types.specs.declared.run.RunLine.{RunLine}
use Rattle.input_reading.specs.declared.run.text.RunTextLine.{RunTextLine}
use Rattle.sim_core.specs.declared.auditor.Auditor.{Auditor}
use Rattle.sim_core.specs.Inner.Auditors.{PassesLines, StopsAtLine, audited_cluster, audited_lines}
use Rattle.sim_core.specs.LawfulRuns.{clause_of, said}

take_next : {X : Type 0} (xs : List X) (i : ℕ) (x : X) → slice_get xs i ≡ Some x → take (i + 1) xs ≡ take i xs ++ x ∷ []
take_next xs i x e = take_more xs i x (slice_get_within xs i x e) ∙ ap (λ y. take i xs ++ y ∷ []) (get_or_from_slice_get xs i x x e)

-- what stands at a place of the written lines, the line there says
pub said_at : (lines : List RunTextLine) (i : ℕ) (l : RunTextLine) → slice_get lines i ≡ Some l → slice_get (said lines) i ≡ Some l.what
said_at lines i l e = slice_get-map (λ (y : RunTextLine). y.what) lines i ∙ ap (option_map (λ (y : RunTextLine). y.what)) e

module _ (old new : Auditor) (line : RunLine) (cluster : audited_cluster new ≡ audited_cluster old) (lines : new.lines.now ≡ old.lines.now) where
  -- the next line is told
  pub passes_one : new.place ≡ old.place + 1 → slice_get (audited_lines old) old.place ≡ Some line → PassesLines old new (line ∷ [])
  passes_one place there = record {
    cluster_stays = cluster;
    lines_stay = lines;
    within = λ h. rw (place, lines) (let w = slice_get_within (audited_lines old) old.place line there in omega arith);
    passed = rw (place, lines) (take_next (audited_lines old) old.place line there);
  }

  -- another is
  pub stops_one : new.place ≡ old.place → new.due ≡ Some (clause_of line) → slice_get (audited_lines old) old.place ≢ Some line → StopsAtLine old new [] line
  stops_one place due different = record {
    passes = record {
      cluster_stays = cluster;
      lines_stay = lines;
      within = λ h. rw (place, lines) h;
      passed = rw (place, lines) (sym (append-nil (take old.place (audited_lines old))));
    };
    different = rw (place, lines) different;
    due_is = due;
  }

-- the first of some lines were told, and these are left
pub record HearsOn (old new : Auditor) (lines left : List RunLine) : Type 0 where
  pub passed : List RunLine
  pub parts : lines ≡ passed ++ left
  pub passes : PassesLines old new passed
