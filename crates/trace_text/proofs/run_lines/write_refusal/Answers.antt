use Rattle.std.proofs.Common.{◌<◌, sym, subst, length, List, ℕ}
use Rattle.trace_text.proofs.ShortLines.{kept_whole, short_refusal}
use Rattle.trace_text.proofs.run_lines.write_refusal.Goals as goal

pub returns : goal.returns
returns c =
    let short = short_refusal c.args.line c.args.cause.now c.requires in
    let text = kept_whole _ _ _ c.clear.ensures.text c.in-Ok.ensures short in
    record { text = text; size = subst (λ (t : List ℕ). length t < 1024) (sym text) short }
