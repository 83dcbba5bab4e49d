-- What holds while the lines of a status are read.
use Rattle.std.proofs.Common.{◌≡◌, ℕ, ◌+◌, ◌<◌, true, List, [], ◌∷◌, length, drop, get_or, Ok, refl, ◌∙◌}
use Rattle.std.proofs.Math.Numerals.{suc-eq-add-one}
use Rattle.std.proofs.Math.Seq.{drop-cons}
use Rattle.std.specs.List.{list_all}
use Rattle.crm_lex.specs.declared.line.Line.{Line}
use Rattle.cluster_types.specs.declared.cluster.Cluster.{Cluster}
use Rattle.input_reading.specs.declared.status.line_meaning.Fact.{Fact}
use Rattle.input_reading.specs.FirstJournal.{with_status_line, with_status_lines}
use Rattle.input_reading.specs.Inner.FirstJournal.{all_differ, is_known}

-- the lines so far are read, and the rest is still to be read
pub record AreTold (c : Cluster) (told : List Fact) (lines rest : List Line) : Type 0 where
  pub read : with_status_lines c [] lines ≡ with_status_lines c told rest
  pub known : list_all (is_known (length c.nodes)) told ≡ true
  pub once : all_differ told ≡ true

-- one more line is read
pub one_more : (c : Cluster) (told more : List Fact) (lines : List Line) (line : Line) (i : ℕ)
    → AreTold c told lines (drop i lines) → i < length lines → line ≡ get_or lines i line → with_status_line c told line ≡ Ok more
    → (list_all (is_known (length c.nodes)) told ≡ true → list_all (is_known (length c.nodes)) more ≡ true)
    → (all_differ told ≡ true → all_differ more ≡ true) → AreTold c more lines (drop (i + 1) lines)
one_more c told more lines line i are_told within is reads knows differs =
    let next : drop i lines ≡ line ∷ drop (i + 1) lines = rw (is, ← suc-eq-add-one i) (drop-cons lines i line within) in
    let goes_on : with_status_lines c told (drop i lines) ≡ with_status_lines c more (drop (i + 1) lines) = rw (next, reads, with_status_lines) refl in
    record { read = are_told.read ∙ goes_on; known = knows are_told.known; once = differs are_told.once }
