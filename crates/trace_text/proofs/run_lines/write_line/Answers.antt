use Rattle.std.proofs.Common.{◌<◌, sym, subst, length, List, ℕ}
use Rattle.cluster_types.specs.Texts.{run_line}
use Rattle.trace_text.specs.RunLines.{lent_line}
use Rattle.trace_text.proofs.ShortLines.{kept_whole, short_line}
use Rattle.trace_text.proofs.run_lines.write_line.Goals as goal

pub returns : goal.returns
returns c =
    let cl = c.args.cluster.now in
    let short = short_line cl c.requires.names c.args.line.now c.requires.reason in
    let text = kept_whole _ _ (run_line cl (lent_line c.args.line.now)) c.clear.ensures.text c.in-Ok.ensures short in
    record { text = text; size = subst (λ (t : List ℕ). length t < 1024) (sym text) short }
