use Rattle.std.proofs.Common.{rules, ◌≡◌, ◌∷◌, [], true, false, length, get_or, sym, ap, subst, ◌∙◌, append-nil, arith}
use Rattle.std.proofs.lemmas.List.FromFn.{get_or-map-range_with_len}
use Rattle.cluster_types.specs.Terms.{is_tied}
use Rattle.placement.specs.Inner.LendingRows.{joined_below, with_lender_by}
use Rattle.placement.specs.OwnRows.{own_by}
use Rattle.placement.specs.Inner.OwnRows.{terms_by}
use Rattle.placement.specs.Rows.{IsRow}
use Rattle.placement.proofs.Lenders.{lend-more, lend-skip}
use Rattle.placement.proofs.OwnTerms.{few-own, small-own}
use Rattle.placement.proofs.TermRows.{row-length, row-room, row-same}
use Rattle.placement.proofs.totals.lending_rows.joined_row.Goals as goal

pub copy_of-requires-clause-row : goal.copy_of-requires-clause-row
copy_of-requires-clause-row c = row-length (length c.args.own.now.cluster.now.nodes) _ c.row.result.now c.row.ensures ∙ sym c.len.ensures

pub copy_of-requires-clause-roomy : goal.copy_of-requires-clause-roomy
copy_of-requires-clause-roomy c =
    let own = c.args.own.now in
    let cluster = own.cluster.now in
    row-room (length cluster.nodes) (own_by cluster own.states.now c.args.leaf) c.row.result.now c.row.ensures
    (λ n low. let a = few-own cluster own.states.now c.args.leaf n in let b = small-own cluster c.args.leaf own.limits in omega (arith, a, b))

pub loop-lender-init : goal.loop-lender-init
loop-lender-init c =
    let own = c.args.own.now in
    let cluster = own.cluster.now in
    let states = own.states.now in
    let first = subst (λ k. IsRow k (own_by cluster states c.args.leaf) c.in_ok-joined.joined) c.len.ensures
    (c.in_ok-joined.ensures.terms (own_by cluster states c.args.leaf) (subst (λ k. IsRow k (own_by cluster states c.args.leaf) c.row.result.now) (sym c.len.ensures) c.row.ensures)) in
    row-same (length cluster.nodes) (own_by cluster states c.args.leaf) (terms_by cluster states (c.args.leaf ∷ [])) c.in_ok-joined.joined
    (λ n low. sym (append-nil (own_by cluster states c.args.leaf n))) first

pub loop-lender-preserved-then-not-is_marked : goal.loop-lender-preserved-then-not-is_marked
loop-lender-preserved-then-not-is_marked c =
    let l = c.loop-lender in
    let own = c.args.own.now in
    let cluster = own.cluster.now in
    let states = own.states.now in
    let mark : get_or c.args.marks.now l.lender false ≡ false = search rules in
    let is = get_or-map-range_with_len (λ s. is_tied cluster s c.args.leaf) 0 (length cluster.leaves) l.lender l.lender false (search rules) (omega arith) in
    let free : is_tied cluster l.lender c.args.leaf ≡ false = sym is ∙ (sym (ap (λ m. get_or m l.lender false) c.requires.marks) ∙ mark) in
    subst (λ js. IsRow (length cluster.nodes) (terms_by cluster states js) l.joined) (sym (lend-skip cluster states c.args.leaf l.lender free)) l.invariant

pub loop-lender-preserved : goal.loop-lender-preserved
loop-lender-preserved c =
    let l = c.loop-lender in
    let own = c.args.own.now in
    let cluster = own.cluster.now in
    let states = own.states.now in
    let mark : get_or c.args.marks.now l.lender false ≡ true = search rules in
    let is = get_or-map-range_with_len (λ s. is_tied cluster s c.args.leaf) 0 (length cluster.leaves) l.lender l.lender false (search rules) (omega arith) in
    let tied : is_tied cluster l.lender c.args.leaf ≡ true = sym is ∙ (sym (ap (λ m. get_or m l.lender false) c.requires.marks) ∙ mark) in
    let js = with_lender_by cluster states (joined_below cluster states c.args.leaf l.lender) l.lender in
    let row : IsRow (length cluster.nodes) (terms_by cluster states js) c.in_ok-joined-2.joined = search rules in
    subst (λ js. IsRow (length cluster.nodes) (terms_by cluster states js) c.in_ok-joined-2.joined) (sym (lend-more cluster states c.args.leaf l.lender tied)) row
