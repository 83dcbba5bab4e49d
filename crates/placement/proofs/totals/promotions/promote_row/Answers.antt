use Rattle.std.proofs.Common.{rules, ◌+◌, length, sym, subst, ◌∙◌, arith}
use Rattle.cluster_types.specs.Terms.{is_promoted, promotion_score}
use Rattle.placement.specs.Locations.{scores_given}
use Rattle.placement.specs.Rows.{IsRow, IsRoomy}
use Rattle.placement.proofs.Given.{few-given}
use Rattle.placement.proofs.OwnTerms.{small-own}
use Rattle.placement.proofs.TermRows.{row-length, row-room, row-same}
use Rattle.placement.proofs.Wishes.{wish-all, wish-more, wish-none, wished}
use Rattle.placement.proofs.totals.promotions.promote_row.Goals as goal

pub loop-node-init : goal.loop-node-init
loop-node-init c =
    let cluster = c.args.cluster.now in
    let nodes = length cluster.nodes in
    let terms = scores_given cluster c.args.moment is_promoted c.args.leaf cluster.locations cluster.rule_locations in
    let first : IsRow nodes terms c.in_ok-row.row = search rules in
    record {
      terms = λ promotions are. row-same nodes terms (wished terms (promotion_score promotions c.args.leaf) 0) c.in_ok-row.row (λ n low. wish-none terms (promotion_score promotions c.args.leaf) n) first;
      size = row-length nodes terms c.in_ok-row.row first;
      later = λ n high. row-room nodes terms c.in_ok-row.row first
          (λ m low. let a = few-given cluster c.args.moment is_promoted c.args.leaf cluster.locations cluster.rule_locations m in
          omega (arith, a, small-own cluster c.args.leaf c.requires.valid.limits)) n;
    }

pub put_if-requires-clause-room : goal.put_if-requires-clause-room
put_if-requires-clause-room c = c.loop-node.invariant.later c.loop-node.node (omega arith)

pub loop-node-preserved : goal.loop-node-preserved
loop-node-preserved c =
    let l = c.loop-node in
    let cluster = c.args.cluster.now in
    let nodes = length cluster.nodes in
    let terms = scores_given cluster c.args.moment is_promoted c.args.leaf cluster.locations cluster.rule_locations in
    record {
      terms = λ promotions are. row-same nodes _ (wished terms (promotion_score promotions c.args.leaf) (l.node + 1)) c.put_if.new.row
          (λ n low. wish-more terms (promotion_score promotions c.args.leaf) l.node c.wish-term.result (c.wish-term.ensures promotions are) n)
          (c.put_if.ensures.terms nodes (wished terms (promotion_score promotions c.args.leaf) l.node) (sym l.invariant.size) (l.invariant.terms promotions are));
      size = c.put_if.ensures.nodes ∙ l.invariant.size;
      later = λ n high. subst IsRoomy (sym (c.put_if.ensures.others n (λ e. absurd (let f : ⊥ = omega (arith, e, high) in f)))) (l.invariant.later n (omega (arith, high)));
    }

pub returns : goal.returns
returns c = λ promotions are.
    let l = c.loop-node in
    let cluster = c.args.cluster.now in
    let nodes = length cluster.nodes in
    let terms = scores_given cluster c.args.moment is_promoted c.args.leaf cluster.locations cluster.rule_locations in
    row-same nodes (wished terms (promotion_score promotions c.args.leaf) l.node) _ l.row
    (λ n low. wish-all terms (promotion_score promotions c.args.leaf) nodes l.node n (omega (arith, c.loop-node-test.false, c.len-node-end.ensures)) low)
    (l.invariant.terms promotions are)
