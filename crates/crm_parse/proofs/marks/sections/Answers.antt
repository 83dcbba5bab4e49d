use Rattle.std.proofs.Common.{◌≡◌, false, min, codes, [], length, sym, refl, arith}
use Rattle.std.specs.List.{list_any}
use Rattle.crm_parse.specs.Marks.{is_mark}
use Rattle.crm_parse.proofs.Unmarked.{all_placed, at_end}
use Rattle.crm_parse.proofs.marks.sections.Goals as goal

pub returns-then-not-has_mark : goal.returns-then-not-has_mark
returns-then-not-has_mark c =
    let lines = c.args.lines.now in
    let none : list_any is_mark lines ≡ false = sym c.if-not-has_mark.ensures in
    let same : min (length lines) (length lines) ≡ length lines = omega arith in
    rw (all_placed (codes "%results") [] lines none, at_end (codes "%status") lines refl none, at_end (codes "%results") lines refl none, same) refl
