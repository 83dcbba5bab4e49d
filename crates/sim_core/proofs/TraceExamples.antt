-- Texts of whole lines, and what stands in an input before its results.
use Rattle.std.proofs.Common.{◌≡◌, [], codes, refl}
use Rattle.sim_core.specs.TraceSection.{AreWholeLines, before_results, with_trace_section}

nothing_is_whole : AreWholeLines []
nothing_is_whole behind = refl

lines_are_whole : AreWholeLines (codes "node n1\n  node n2 \n")
lines_are_whole behind = refl

open_line_is_not : ¬ AreWholeLines (codes "node n1")
open_line_is_not whole = let e = whole (codes "2\n") in cc

continued_line_is_not : ¬ AreWholeLines (codes "node \\\n")
continued_line_is_not whole = let e = whole (codes "n1\n") in cc

all_stands_before_none : before_results (codes "node n1\n%status\n") ≡ codes "node n1\n%status\n"
all_stands_before_none = refl

before_other_forms : before_results (codes "node n1\n  \"%results\" \r\nlost n1\n") ≡ codes "node n1\n"
before_other_forms = refl

in_their_place : with_trace_section (codes "node n1\n%results\nlost n1\n") (codes "transition 1\n") ≡ codes "node n1\n%trace\ntransition 1\n"
in_their_place = refl

behind_nothing : with_trace_section [] (codes "transition 1\n") ≡ codes "%trace\ntransition 1\n"
behind_nothing = refl
