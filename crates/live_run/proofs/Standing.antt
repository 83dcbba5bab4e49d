-- Bytes that are the first logical line of a longer text are so whatever comes behind them.
use Rattle.std.proofs.Common.{◌≡◌, ℕ, ◌<◌, Bool, true, false, List, [], ◌∷◌, ◌++◌, length, length-append, refl, ap, sym, ◌∙◌, arith}
use Rattle.std.specs.List.{concat}
use Rattle.cluster_io.specs.NextLine.{first_line, holds_line}
use Rattle.crm_lex.specs.RawLines.{physical_lines, raw_lines}
use Rattle.crm_lex.proofs.PhysicalLines.{concat-lines}
use Rattle.live_run.proofs.Cuts.{cut_at}
use Rattle.live_run.proofs.Unfinished.{longer, whole_first}

-- they are a whole line
holds_first : (raw behind : List ℕ) → 0 < length behind → first_line (raw ++ behind) ≡ physical_lines raw → holds_line raw ≡ true
holds_first raw behind some first = by (holds_line raw) refl
  where
    by : (t : Bool) → holds_line raw ≡ t → holds_line raw ≡ true
    by true e = e
    by false e =
        let past = longer raw behind e some in
        let size = ap (λ (lines : List (List ℕ)). length (concat lines)) first in
        let own = ap length (concat-lines raw) in
        absurd (omega (arith, past, size, own))

some_held : (raw : List ℕ) → holds_line raw ≡ true → 0 < length raw
some_held [] e = cc
some_held (b ∷ bs) e = omega arith

pub first_stands : (raw behind : List ℕ) → 0 < length behind → first_line (raw ++ behind) ≡ physical_lines raw
    → (rest : List ℕ) → raw_lines (raw ++ rest) ≡ physical_lines raw ∷ raw_lines rest
first_stands raw behind some first rest =
    let whole = holds_first raw behind some first in
    let same : first_line (raw ++ rest) ≡ physical_lines raw = whole_first raw rest whole ∙ (sym (whole_first raw behind whole) ∙ first) in
    let held = some_held raw whole in
    let size = length-append raw rest in
    (cut_at (raw ++ rest) raw rest refl (omega (arith, held, size)) same).lines
