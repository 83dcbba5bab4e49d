use Rattle.std.proofs.Common.{◌≡◌, ◌==◌, true, false, refl}
use Rattle.cluster_types.specs.Cells.{is_of_cell, is_same_cell}
use Rattle.cluster_types.specs.Outcomes.{is_ignored}
use Rattle.simulated.proofs.Hearing.{forgets, hears, hears-said, hears-still, passes_over}
use Rattle.simulated.proofs.heard_cells.hear.Goals as goal

pub returns-in-Up-clause-heard : goal.returns-in-Up-clause-heard
returns-in-Up-clause-heard c = λ es h.
    let node = c.in-Up.node in
    hears-said c.args.cluster.now es c.args.event (λ r n. node == n) false c.args.heard.now.items c.forget_node.new.heard.items c.forget_node.ensures
    (λ r n was. rw c.in-Up.is (forgets (node == n) was)) h

pub returns-in-Cleanup-clause-heard : goal.returns-in-Cleanup-clause-heard
returns-in-Cleanup-clause-heard c = λ es h.
    let leaf = c.in-Cleanup.leaf in
    let node = c.in-Cleanup.node in
    hears-said c.args.cluster.now es c.args.event (λ r n. is_same_cell r n leaf node) false c.args.heard.now.items c.say_of_cell.new.heard.items c.say_of_cell.ensures
    (λ r n was. rw c.in-Cleanup.is (forgets (is_same_cell r n leaf node) was)) h

pub returns-then-not-is_ignored-clause-heard : goal.returns-then-not-is_ignored-clause-heard
returns-then-not-is_ignored-clause-heard c = λ es h.
    let action = c.in-Ended.action in
    let ignored = is_ignored c.args.cluster.now action c.in-Ended.outcome in
    let counts : ignored ≡ false = cc in
    hears-said c.args.cluster.now es c.args.event (λ r n. is_of_cell r n action) true c.args.heard.now.items c.hear_of.new.heard.items c.hear_of.ensures
    (λ r n was. rw c.in-Ended.is (hears (is_of_cell r n action) ignored was counts)) h

pub returns-else-not-is_ignored-clause-heard : goal.returns-else-not-is_ignored-clause-heard
returns-else-not-is_ignored-clause-heard c = λ es h.
    let action = c.in-Ended.action in
    let ignored = is_ignored c.args.cluster.now action c.in-Ended.outcome in
    let passed : ignored ≡ true = cc in
    hears-still c.args.cluster.now es c.args.event c.args.heard.now.items (λ r n. rw c.in-Ended.is refl)
    (λ r n. rw c.in-Ended.is (passes_over (is_of_cell r n action) ignored passed)) h
