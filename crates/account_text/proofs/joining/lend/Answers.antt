use Rattle.std.proofs.Common.{rules, ◌≡◌, ◌≤◌, ◌++◌, ◌∷◌, [], true, false, length, sym, ◌∙◌, arith}
use Rattle.score.specs.NodeSet.{has}
use Rattle.placement.specs.Inner.LendingRows as lending
use Rattle.placement.specs.OwnRows.{own_by}
use Rattle.placement.proofs.Lenders.{few-joined}
use Rattle.placement.proofs.OwnTerms.{few-own, small-own}
use Rattle.placement.proofs.RowSums.{rows-fit}
use Rattle.placement.proofs.TermRows.{row-room, row-length}
use Rattle.placement.proofs.TriedLenders.{tried-row, tried-test}
use Rattle.account_text.proofs.joining.lend.Goals as goal

pub both-requires-clause-one : goal.both-requires-clause-one
both-requires-clause-one c = row-length (length c.args.own.now.cluster.now.nodes) _ c.args.joined.row c.requires.joined.row ∙ sym c.len-nodes.ensures

pub both-requires-clause-other : goal.both-requires-clause-other
both-requires-clause-other c =
    let own = c.args.own.now in
    row-length (length own.cluster.now.nodes) (own_by own.cluster.now own.states.now c.args.lender) c.row.result.now c.row.ensures ∙ sym c.len-nodes.ensures

pub both-requires-clause-roomy : goal.both-requires-clause-roomy
both-requires-clause-roomy c =
    let own = c.args.own.now in
    let cluster = own.cluster.now in
    let within : c.args.lender ≤ length cluster.leaves = omega (arith, c.requires.lender) in
    row-room (length cluster.nodes) _ c.args.joined.row c.requires.joined.row
    (λ n low. let a = few-joined cluster own.states.now c.args.leaf own.limits c.args.lender within n in omega (arith, a))

pub both-requires-clause-room : goal.both-requires-clause-room
both-requires-clause-room c = λ n low.
    let own = c.args.own.now in
    let cluster = own.cluster.now in
    let states = own.states.now in
    let within : c.args.lender ≤ length cluster.leaves = omega (arith, c.requires.lender) in
    rows-fit (length cluster.nodes) _ (own_by cluster states c.args.lender) c.args.joined.row c.row.result.now c.requires.joined.row c.row.ensures
    (λ m below. few-joined cluster states c.args.leaf own.limits c.args.lender within m)
    (λ m below. let a = few-own cluster states c.args.lender m in let b = small-own cluster c.args.lender own.limits in omega (arith, a, b))
    n (omega (arith, low, c.len-nodes.ensures))

pub returns-then-not-fits : goal.returns-then-not-fits
returns-then-not-fits c =
    let own = c.args.own.now in
    let cluster = own.cluster.now in
    let states = own.states.now in
    let joined = lending.joined_below cluster states c.args.leaf c.args.lender in
    let row = tried-row cluster states joined c.args.lender c.len-nodes.result c.args.joined.row c.row.result.now c.in_ok-row.row c.len-nodes.ensures c.in_ok-row.ensures.terms c.requires.joined.row c.row.ensures in
    let fits : c.in_ok-fits.fits ≡ lending.leaves_a_node_by cluster states (joined ++ c.args.lender ∷ []) =
    tried-test cluster states joined c.args.lender c.len-nodes.result (has own.usable) c.in_ok-row.row c.in_ok-fits.fits c.len-nodes.ensures own.nodes row (λ terms is. c.in_ok-fits.ensures terms is) in
    let out : c.in_ok-fits.fits ≡ false = let t = c.if-not-fits.true in cc in
    let stays_out : lending.leaves_a_node_by cluster states (joined ++ c.args.lender ∷ []) ≡ false = sym fits ∙ out in
    rw stays_out c.requires.joined

pub returns : goal.returns
returns c =
    let own = c.args.own.now in
    let cluster = own.cluster.now in
    let states = own.states.now in
    let joined = lending.joined_below cluster states c.args.leaf c.args.lender in
    let row = tried-row cluster states joined c.args.lender c.len-nodes.result c.args.joined.row c.row.result.now c.in_ok-row.row c.len-nodes.ensures c.in_ok-row.ensures.terms c.requires.joined.row c.row.ensures in
    let fits : c.in_ok-fits.fits ≡ lending.leaves_a_node_by cluster states (joined ++ c.args.lender ∷ []) =
    tried-test cluster states joined c.args.lender c.len-nodes.result (has own.usable) c.in_ok-row.row c.in_ok-fits.fits c.len-nodes.ensures own.nodes row (λ terms is. c.in_ok-fits.ensures terms is) in
    let inside : c.in_ok-fits.fits ≡ true = let t = c.if-not-fits.false in cc in
    let joins : lending.leaves_a_node_by cluster states (joined ++ c.args.lender ∷ []) ≡ true = sym fits ∙ inside in
    let pushed : c.push.new.self.items ≡ joined ++ c.args.lender ∷ [] = (let are = c.requires.joined.are in search rules) in
    rw joins (record { are = pushed; row = row })
