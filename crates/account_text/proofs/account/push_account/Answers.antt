use Rattle.std.proofs.Common.{◌≡◌, ◌++◌, length, sym, ap, ◌∙◌, arith}
use Rattle.std.specs.List.{flat_map, range_with_len}
use Rattle.std.proofs.lemmas.List.{append_assoc}
use Rattle.std.proofs.lemmas.List.FromFn.{length-map-range_with_len}
use Rattle.cluster_types.specs.Choice.{total_on}
use Rattle.cluster_types.specs.Tables.{targets_of}
use Rattle.cluster_types.specs.Texts.{decision_line}
use Rattle.decision_account.specs.Accounts.{node_lines, why_text}
use Rattle.placement.specs.Reads.{may_stay_in}
use Rattle.account_text.specs.Inner.VerdictsByStates.{last_of}
use Rattle.account_text.specs.Inner.Sources.{lent_values}
use Rattle.account_text.proofs.AccountLines.{decision_text}
use Rattle.account_text.proofs.VerdictsRead.{last_within}
use Rattle.account_text.proofs.account.push_account.Goals as goal

pub last_chosen-requires-clause-few : goal.last_chosen-requires-clause-few
last_chosen-requires-clause-few c =
    let known = c.args.read.now.known in
    let told = c.requires.read.journal in
    let chosen = c.requires.chosen told.events told.promotions told.tell in
    let long = ap length c.deref-2.ensures.value ∙ ap length chosen.each
    ∙ length-map-range_with_len (total_on known.cluster.now told.events told.promotions (targets_of c.args.loaded.now.table) c.args.decision) 0 (length known.cluster.now.nodes) in
    let few = known.limits.nodes in
    omega (arith, long, few)

pub invariant_of-asked-clause-totals : goal.invariant_of-asked-clause-totals
invariant_of-asked-clause-totals c =
    let known = c.args.read.now.known in
    let told = c.requires.read.journal in
    let chosen = c.requires.chosen told.events told.promotions told.tell in
    ap length chosen.each
    ∙ length-map-range_with_len (total_on known.cluster.now told.events told.promotions (targets_of c.args.loaded.now.table) c.args.decision) 0 (length known.cluster.now.nodes)

pub invariant_of-asked-clause-may_stay : goal.invariant_of-asked-clause-may_stay
invariant_of-asked-clause-may_stay c =
    let known = c.args.read.now.known in
    c.may_stay.ensures ∙ ap (may_stay_in known.cluster.now known.states.now known.rights) c.leaf.ensures

pub invariant_of-asked-clause-of_it : goal.invariant_of-asked-clause-of_it
invariant_of-asked-clause-of_it c = ap lent_values c.deref.ensures.value ∙ c.in_ok-sides.ensures

pub invariant_of-asked-clause-is_last : goal.invariant_of-asked-clause-is_last
invariant_of-asked-clause-is_last c =
    let chosen = c.args.chosen.now in
    c.last_chosen.ensures ∙ ap (λ ts. last_of ts c.deref-3.result.now chosen.nodes) c.deref-2.ensures.value
    ∙ ap (λ ls. last_of chosen.totals.items ls chosen.nodes) c.deref-3.ensures.value

pub invariant_of-asked-clause-within : goal.invariant_of-asked-clause-within
invariant_of-asked-clause-within c = λ m is.
    let chosen = c.args.chosen.now in
    let last : c.last_chosen.result ≡ last_of chosen.totals.items c.args.loaded.now.loads.items chosen.nodes
    = c.last_chosen.ensures ∙ ap (λ ts. last_of ts c.deref-3.result.now chosen.nodes) c.deref-2.ensures.value
    ∙ ap (λ ls. last_of chosen.totals.items ls chosen.nodes) c.deref-3.ensures.value in
    last_within chosen.totals.items c.args.loaded.now.loads.items chosen.nodes m (sym last ∙ is)

pub returns : goal.returns
returns c = λ es ps tell.
    let cluster = c.args.read.now.known.cluster.now in
    let table = targets_of c.args.loaded.now.table in
    let d = c.args.decision in
    let old = c.args.text.now.items in
    let rest = flat_map (λ n. why_text cluster (node_lines cluster es ps table d n)) (range_with_len 0 (length cluster.nodes)) in
    c.in_ok-push_nodes.ensures es ps tell
    ∙ ap (λ t. t ++ rest) c.in_ok-push_decision.ensures ∙ append_assoc old (decision_line cluster d) rest
    ∙ ap (λ t. old ++ t) (sym (decision_text cluster es ps table d))
