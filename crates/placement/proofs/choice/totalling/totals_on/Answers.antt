use Rattle.std.proofs.Common.{rules, ◌≡◌, ◌<◌, ◌≤◌, ◌++◌, ◌∷◌, [], ℤ, List, length, map, get_or, sym, ap, ◌∙◌, arith}
use Rattle.std.specs.List.{range_with_len}
use Rattle.std.proofs.lemmas.List.FromFn.{get_or-map-range_with_len, length-map-range_with_len}
use Rattle.lemmas.proofs.Ranges.{map-more}
use Rattle.score.specs.Total.{total_of}
use Rattle.cluster_types.specs.Choice.{preference}
use Rattle.cluster_types.specs.Tables.{targets_of}
use Rattle.placement.specs.Scores.{score_in}
use Rattle.placement.specs.Inner.Reads.{total_in}
use Rattle.placement.proofs.choice.totalling.totals_on.Goals as goal

pub overflow_cast-node : goal.overflow_cast-node
overflow_cast-node c =
    let known = c.args.known.now in
    let cluster = known.cluster.now in
    let made : c.in_ok-preferences.preferences.items ≡ map (preference cluster (targets_of c.args.table.now) c.args.decision) (range_with_len 0 (length cluster.nodes)) = search rules in
    let long = ap length made ∙ length-map-range_with_len (preference cluster (targets_of c.args.table.now) c.args.decision) 0 (length cluster.nodes) in
    let few : length cluster.nodes ≤ 256 = known.limits.nodes in
    let low : c.loop-node.node < length c.in_ok-preferences.preferences.items = search rules in
    omega (arith, long, few, low)

pub push_reserved-requires : goal.push_reserved-requires
push_reserved-requires c = omega (arith, c.loop-node.invariant.size, c.loop-node.invariant.room, c.loop-node-test.true)

pub loop-node-preserved : goal.loop-node-preserved
loop-node-preserved c =
    let l = c.loop-node in
    let known = c.args.known.now in
    let cluster = known.cluster.now in
    let table = targets_of c.args.table.now in
    let d = c.args.decision in
    let f = total_in cluster known.scores.now table d in
    let read = c.index.result.now in
    let made : c.in_ok-preferences.preferences.items ≡ map (preference cluster table d) (range_with_len 0 (length cluster.nodes)) = search rules in
    let long = ap length made ∙ length-map-range_with_len (preference cluster table d) 0 (length cluster.nodes) in
    let low : l.node < length c.in_ok-preferences.preferences.items = search rules in
    let preferred : read ≡ preference cluster table d l.node =
    c.index.ensures ∙ (ap (λ (xs : List ℤ). get_or xs l.node read) made
    ∙ get_or-map-range_with_len (preference cluster table d) 0 (length cluster.nodes) l.node l.node read (omega (arith, long, low)) (omega arith)) in
    let is : c.total_of_both.result ≡ f l.node =
    c.total_of_both.ensures ∙ (ap (λ b. total_of (b ∷ read ∷ [])) c.total_at-base.ensures
    ∙ ap (λ p. total_of (score_in known.scores.now d l.node ∷ p ∷ [])) preferred) in
    let items : c.push_reserved.new.self.items ≡ l.all.items ++ c.total_of_both.result ∷ [] = search rules in
    record {
      made = items ∙ (ap (λ t. l.all.items ++ t ∷ []) is ∙ (ap (λ xs. xs ++ f l.node ∷ []) l.invariant.made ∙ sym (map-more f l.node)));
      size = search rules;
      room = search rules;
    }

pub returns : goal.returns
returns c =
    let l = c.loop-node in
    let known = c.args.known.now in
    let cluster = known.cluster.now in
    let table = targets_of c.args.table.now in
    let made : c.in_ok-preferences.preferences.items ≡ map (preference cluster table c.args.decision) (range_with_len 0 (length cluster.nodes)) = search rules in
    let long = ap length made ∙ length-map-range_with_len (preference cluster table c.args.decision) 0 (length cluster.nodes) in
    let done : l.node ≡ length c.in_ok-preferences.preferences.items = search rules in
    l.invariant.made ∙ ap (λ k. map (total_in cluster known.scores.now table c.args.decision) (range_with_len 0 k)) (done ∙ long)
