use Rattle.std.proofs.Common.{◌≡◌, ℕ, ◌+◌, nat_lt, not, ◌&&◌, ◌||◌, List, length, arith, ap, sym, subst}
use Rattle.crm_lex.specs.RawLines.{ends_in_backslash, begins_comment}
use Rattle.cluster_io.specs.Inner.Scanning.{Looked}
use Rattle.cluster_io.proofs.Scans.{at_feed_too_long, at_feed_too_large, at_feed_line, at_feed_next}
use Rattle.cluster_io.proofs.line_scan.line_at.Goals as goal

pub returns-then-content-bounds-clause-found : goal.returns-then-content-bounds-clause-found
returns-then-content-bounds-clause-found c =
    at_feed_too_long c.args.bounds c.args.held.now c.args.scan c.args.feed c.requires.looked c.requires.feed
    c.requires.in_room (omega (arith, ap length c.before_end-text.ensures))

pub returns-then-feed-bounds-clause-found : goal.returns-then-feed-bounds-clause-found
returns-then-feed-bounds-clause-found c =
    at_feed_too_large c.args.bounds c.args.held.now c.args.scan c.args.feed c.requires.looked c.requires.feed
    c.requires.in_room (omega (arith, ap length c.before_end-text.ensures)) (omega arith)

pub returns-then-not-goes_on-clause-found : goal.returns-then-not-goes_on-clause-found
returns-then-not-goes_on-clause-found c =
    at_feed_line c.args.bounds c.args.held.now c.args.scan c.args.feed c.requires.looked c.requires.feed
    c.requires.in_room c.goes_on.result
    (subst (λ (t : List ℕ). c.goes_on.result ≡ (ends_in_backslash t && (nat_lt 0 c.args.scan.line || not (begins_comment t))))
    c.before_end-text.ensures c.goes_on.ensures)
    c.if-not-goes_on.true (omega (arith, ap length c.before_end-text.ensures)) (omega arith)

pub returns-clause-next : goal.returns-clause-next
returns-clause-next c =
    subst (λ (t : List ℕ). Looked c.args.bounds c.args.held.now record {
      line = c.args.feed + 1;
      scanned = c.args.feed + 1;
      content = c.args.scan.content + length t;
      lines = c.args.scan.lines + 1;
    }) (sym c.before_end-text.ensures)
    (at_feed_next c.args.bounds c.args.held.now c.args.scan c.args.feed c.requires.looked c.requires.feed
    c.requires.in_room c.goes_on.result
    (subst (λ (t : List ℕ). c.goes_on.result ≡ (ends_in_backslash t && (nat_lt 0 c.args.scan.line || not (begins_comment t))))
    c.before_end-text.ensures c.goes_on.ensures)
    c.if-not-goes_on.false (omega (arith, ap length c.before_end-text.ensures)) (omega arith))
