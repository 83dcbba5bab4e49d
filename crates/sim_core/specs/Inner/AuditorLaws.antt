-- An auditor has come from itself, and from what it came from on the way. No public clause cites this module.
use Rattle.std.proofs.Common.{Option, Some, None, List, [], ◌++◌, take, append-nil, append_assoc, refl, sym, ap, ◌∙◌}
use Rattle.cluster_types.specs.declared.run.RunLine.{RunLine}
use Rattle.sim_core.specs.declared.auditor.Auditor.{Auditor}
use Rattle.sim_core.specs.Inner.Auditors.{PassesLines, HasSaidStop, StopsAtLine, audited_lines}

pub passes_itself : (a : Auditor) → PassesLines a a []
passes_itself a = record { cluster_stays = refl; lines_stay = refl; within = λ h. h; passed = sym (append-nil (take a.place (audited_lines a))) }

module _ (first middle last : Auditor) (lines more : List RunLine) (a : PassesLines first middle lines) where
  pub passes_then : PassesLines middle last more → PassesLines first last (lines ++ more)
  passes_then b = record {
    cluster_stays = b.cluster_stays ∙ a.cluster_stays;
    lines_stay = b.lines_stay ∙ a.lines_stay;
    within = λ h. b.within (a.within h);
    passed = b.passed ∙ ap (λ (ls : List RunLine). ls ++ more) a.passed ∙ append_assoc (take first.place (audited_lines first)) lines more;
  }

  pub stops_later : (at : RunLine) → StopsAtLine middle last more at → StopsAtLine first last (lines ++ more) at
  stops_later at b = record { passes = passes_then b.passes; different = b.different; due_is = b.due_is }

  pub stops_behind : (at : Option RunLine) → HasSaidStop middle last more at → HasSaidStop first last (lines ++ more) at
  stops_behind (Some at) b = stops_later at b
  stops_behind None b = b
