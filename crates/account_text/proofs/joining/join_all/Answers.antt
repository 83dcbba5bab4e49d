use Rattle.std.proofs.Common.{rules, ◌≡◌, true, false, length, get_or, sym, ap, subst, ◌∙◌, arith}
use Rattle.std.proofs.lemmas.List.FromFn.{get_or-map-range_with_len}
use Rattle.cluster_types.specs.Terms.{is_tied}
use Rattle.placement.specs.Inner.LendingRows.{joined_below, with_lender_by}
use Rattle.placement.proofs.Lenders.{lend-more, lend-skip}
use Rattle.account_text.specs.Inner.JoinedLeaves.{IsJoined}
use Rattle.account_text.proofs.joining.join_all.Goals as goal

pub loop-lender-preserved-then-not-flag_at : goal.loop-lender-preserved-then-not-flag_at
loop-lender-preserved-then-not-flag_at c =
    let l = c.loop-lender in
    let own = c.args.own.now in
    let cluster = own.cluster.now in
    let states = own.states.now in
    let mark : get_or c.args.marks.now l.lender false ≡ false = search rules in
    let is = get_or-map-range_with_len (λ s. is_tied cluster s c.args.leaf) 0 (length cluster.leaves) l.lender l.lender false (search rules) (omega arith) in
    let free : is_tied cluster l.lender c.args.leaf ≡ false = sym is ∙ (sym (ap (λ m. get_or m l.lender false) c.requires.marks) ∙ mark) in
    subst (λ js. IsJoined cluster states js l.joined) (sym (lend-skip cluster states c.args.leaf l.lender free)) l.invariant

pub loop-lender-preserved : goal.loop-lender-preserved
loop-lender-preserved c =
    let l = c.loop-lender in
    let own = c.args.own.now in
    let cluster = own.cluster.now in
    let states = own.states.now in
    let mark : get_or c.args.marks.now l.lender false ≡ true = search rules in
    let is = get_or-map-range_with_len (λ s. is_tied cluster s c.args.leaf) 0 (length cluster.leaves) l.lender l.lender false (search rules) (omega arith) in
    let tied : is_tied cluster l.lender c.args.leaf ≡ true = sym is ∙ (sym (ap (λ m. get_or m l.lender false) c.requires.marks) ∙ mark) in
    let js = with_lender_by cluster states (joined_below cluster states c.args.leaf l.lender) l.lender in
    let more : IsJoined cluster states js c.in_ok-joined-2.joined = search rules in
    subst (λ js. IsJoined cluster states js c.in_ok-joined-2.joined) (sym (lend-more cluster states c.args.leaf l.lender tied)) more
