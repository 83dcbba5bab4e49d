use Rattle.std.proofs.Common.{rules, ◌≡◌, ℕ, ℤ, List, length, map, sym, ap, subst, ◌∙◌, arith}
use Rattle.std.specs.List.{range_with_len}
use Rattle.std.proofs.lemmas.List.FromFn.{length-map-range_with_len}
use Rattle.cluster_types.specs.Tables.{targets_of}
use Rattle.cluster_types.specs.UnpackedStates.{states_of}
use Rattle.placement.specs.Inner.Picks.{ArePicked}
use Rattle.placement.specs.Inner.Reads.{cap_in, is_candidate_in, total_in}
use Rattle.placement.proofs.ChosenOfJournal.{candidate-is, chooses, on_each, totals-are}
use Rattle.placement.proofs.LoadsAfter.{loads-fit}
use Rattle.placement.proofs.ReadOfStates.{cap-is}
use Rattle.placement.proofs.choice.chosen_nodes.chosen_nodes.Goals as goal

pub candidate_nodes-among-requires : goal.candidate_nodes-among-requires
candidate_nodes-among-requires c =
    let cluster = c.args.known.now.cluster.now in
    let f = total_in cluster c.args.known.now.scores.now (targets_of c.args.loaded.now.table) c.args.decision in
    let seen : c.in_ok-totals.totals.items ≡ map f (range_with_len 0 (length cluster.nodes)) = search rules in
    ap length c.deref.ensures.value ∙ (ap length seen ∙ length-map-range_with_len f 0 (length cluster.nodes))

pub choose-nodes-requires-clause-few : goal.choose-nodes-requires-clause-few
choose-nodes-requires-clause-few c =
    let cluster = c.args.known.now.cluster.now in
    let f = total_in cluster c.args.known.now.scores.now (targets_of c.args.loaded.now.table) c.args.decision in
    let seen : c.in_ok-totals.totals.items ≡ map f (range_with_len 0 (length cluster.nodes)) = search rules in
    let long = ap length c.deref-2.ensures.value ∙ (ap length seen ∙ length-map-range_with_len f 0 (length cluster.nodes)) in
    let few = c.args.known.now.limits.nodes in
    omega (arith, long, few)

pub choose-nodes-requires-clause-nodes : goal.choose-nodes-requires-clause-nodes
choose-nodes-requires-clause-nodes c = λ n h.
    let cluster = c.args.known.now.cluster.now in
    let f = total_in cluster c.args.known.now.scores.now (targets_of c.args.loaded.now.table) c.args.decision in
    let seen : c.in_ok-totals.totals.items ≡ map f (range_with_len 0 (length cluster.nodes)) = search rules in
    let long = ap length c.deref-2.ensures.value ∙ (ap length seen ∙ length-map-range_with_len f 0 (length cluster.nodes)) in
    let low = c.candidate_nodes-among.ensures.there n h in
    omega (arith, long, low)

pub choose-nodes-requires-clause-loads : goal.choose-nodes-requires-clause-loads
choose-nodes-requires-clause-loads c =
    let cluster = c.args.known.now.cluster.now in
    let loaded = c.args.loaded.now in
    let f = total_in cluster c.args.known.now.scores.now (targets_of loaded.table) c.args.decision in
    let seen : c.in_ok-totals.totals.items ≡ map f (range_with_len 0 (length cluster.nodes)) = search rules in
    let long = ap length c.deref-2.ensures.value ∙ (ap length seen ∙ length-map-range_with_len f 0 (length cluster.nodes)) in
    let loads = ap length c.deref-3.ensures.value ∙ loads-fit cluster loaded.table loaded.loads.items c.requires.loaded in
    loads ∙ sym long

pub returns : goal.returns
returns c = λ es ps tell.
    let known = c.args.known.now in
    let cluster = known.cluster.now in
    let loaded = c.args.loaded.now in
    let table = targets_of loaded.table in
    let d = c.args.decision in
    let totals = c.in_ok-totals.totals.items in
    let seen : totals ≡ map (total_in cluster known.scores.now table d) (range_with_len 0 (length cluster.nodes)) = search rules in
    let each : totals ≡ on_each cluster es ps table d =
    seen ∙ (ap (λ s. map (total_in cluster s table d) (range_with_len 0 (length cluster.nodes))) tell.scored ∙ totals-are cluster es ps table d c.requires.leaf) in
    let read : c.deref.result.now ≡ totals = search rules in
    let among = c.candidate_nodes-among.result in
    let cap = c.cap_of-cap.ensures ∙ (ap (λ s. cap_in cluster s d) tell.known ∙ cap-is cluster es ps d c.requires.leaf) in
    let picks : ArePicked totals loaded.loads.items among c.cap_of-cap.result c.choose-nodes.result =
    subst (λ (ls : List ℕ). ArePicked totals ls among c.cap_of-cap.result c.choose-nodes.result) c.deref-3.ensures.value
    (subst (λ (ts : List ℤ). ArePicked ts c.deref-3.result.now among c.cap_of-cap.result c.choose-nodes.result) c.deref-2.ensures.value c.choose-nodes.ensures) in
    chooses cluster es ps table d totals loaded.loads.items among c.choose-nodes.result c.cap_of-cap.result each c.requires.loaded.each cap
    c.candidate_nodes-among.ensures.there
    (λ n low. c.candidate_nodes-among.ensures.passed n
    ∙ (ap (λ xs. is_candidate_in cluster known.states.now known.rights table d xs n) (read ∙ each)
    ∙ (ap (λ s. is_candidate_in cluster s known.rights table d (on_each cluster es ps table d) n) tell.known
    ∙ (ap (λ r. is_candidate_in cluster (states_of cluster es ps) r table d (on_each cluster es ps table d) n) (known.told es ps tell.known)
    ∙ candidate-is cluster es ps table d c.requires.leaf n low))))
    picks
