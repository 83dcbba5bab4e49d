use Rattle.std.proofs.Common.{ℕ, List, arith, ap, length, ◌∙◌}
use Rattle.std.proofs.lemmas.List.{take_rest}
use Rattle.cluster_io.specs.Inner.FoundLines.{before_feed}
use Rattle.cluster_io.proofs.Scans.{at_rest_too_long, at_rest_too_long_whole, at_rest_too_large, at_rest_open, at_rest_looked}
use Rattle.cluster_io.proofs.Undecided.{undecided}
use Rattle.cluster_io.proofs.line_scan.rest_of.Goals as goal

pub returns-then-saturating_sub-bounds-clause-found : goal.returns-then-saturating_sub-bounds-clause-found
returns-then-saturating_sub-bounds-clause-found c =
    at_rest_too_long c.args.bounds c.args.held.now c.args.scan c.requires.looked c.requires.rest c.requires.in_room
    (omega (arith, c.saturating_sub.ensures))

pub returns-then-held-bounds-clause-found : goal.returns-then-held-bounds-clause-found
returns-then-held-bounds-clause-found c =
    at_rest_too_large c.args.bounds c.args.held.now c.args.scan c.requires.looked c.requires.rest c.requires.in_room
    (omega (arith, c.saturating_sub.ensures)) (omega arith)

pub returns-then-scan-before_end-clause-found : goal.returns-then-scan-before_end-clause-found
returns-then-scan-before_end-clause-found c =
    let size = ap length c.before_end.ensures ∙ ap (λ (t : List ℕ). length (before_feed t)) (take_rest c.args.held.now c.args.scan.line) in
    at_rest_too_long_whole c.args.bounds c.args.held.now c.args.scan c.requires.looked c.requires.rest (omega arith)
    (omega (arith, c.saturating_sub.ensures)) (omega (arith, size))

pub returns-clause-looked : goal.returns-clause-looked
returns-clause-looked c = at_rest_looked c.args.bounds c.args.held.now c.args.scan c.requires.looked c.requires.rest

pub returns-clause-found : goal.returns-clause-found
returns-clause-found c =
    let size = ap length c.before_end.ensures ∙ ap (λ (t : List ℕ). length (before_feed t)) (take_rest c.args.held.now c.args.scan.line) in
    at_rest_open c.args.bounds c.args.held.now c.args.scan c.requires.looked c.requires.rest
    (omega (arith, c.saturating_sub.ensures)) (omega arith)
    (undecided c.args.bounds c.args.held.now c.args.scan c.requires.looked c.requires.rest (omega arith) (omega (arith, size)))
