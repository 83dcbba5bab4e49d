use Rattle.std.proofs.Common.{arith}
use Rattle.cluster_io.proofs.Scans.{at_end_too_long, at_end_joined, at_end_open, none_behind}
use Rattle.cluster_io.proofs.line_scan.last_line.Goals as goal

pub returns-then-scan-rest : goal.returns-then-scan-rest
returns-then-scan-rest c =
    at_end_too_long c.args.bounds c.args.held.now c.args.scan c.requires.looked
    (none_behind c.args.bounds c.args.held.now c.args.scan c.requires.looked c.requires.all_scanned) c.requires.in_room
    (omega arith)

pub returns-then-rest-eq0 : goal.returns-then-rest-eq0
returns-then-rest-eq0 c =
    at_end_joined c.args.bounds c.args.held.now c.args.scan c.requires.looked
    (none_behind c.args.bounds c.args.held.now c.args.scan c.requires.looked c.requires.all_scanned) c.requires.in_room
    c.requires.some (omega arith) (omega arith)

pub returns-else-rest-eq0 : goal.returns-else-rest-eq0
returns-else-rest-eq0 c =
    at_end_open c.args.bounds c.args.held.now c.args.scan c.requires.looked
    (none_behind c.args.bounds c.args.held.now c.args.scan c.requires.looked c.requires.all_scanned) c.requires.in_room
    c.requires.some (omega arith) (omega arith)
