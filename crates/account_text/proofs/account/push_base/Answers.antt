use Rattle.std.proofs.Common.{◌≡◌, ◌++◌, ◌<◌, length, sym, ap, subst, ◌∙◌}
use Rattle.std.specs.List.{flat_map}
use Rattle.std.proofs.lemmas.Result.{on_ok_weaker}
use Rattle.cluster_types.specs.declared.cluster.Cluster.{Cluster}
use Rattle.cluster_types.specs.declared.states.States.{States}
use Rattle.cluster_types.specs.Decisions.{leaf_of}
use Rattle.decision_account.specs.Parts.{lender_of}
use Rattle.placement.specs.Inner.LendingRows.{all_joined}
use Rattle.account_text.specs.Inner.PartsByStates.{base_parts_by, joined_by, own_parts_by, parts_text}
use Rattle.account_text.proofs.DecidedLeaves.{joined_within}
use Rattle.account_text.proofs.ToldTexts.{parts_of_all}
use Rattle.account_text.proofs.account.push_base.Goals as goal

pub push_place-requires-clause-leaves : goal.push_place-requires-clause-leaves
push_place-requires-clause-leaves c = λ s h.
    let known = c.args.read.now.known in
    let cluster = known.cluster.now in
    let told = c.requires.read.journal in
    let low : c.in-Place.leaf < length cluster.leaves = subst (λ d. leaf_of d < length cluster.leaves) c.in-Place.is c.requires.leaf in
    let is : c.args.joined.now ≡ all_joined cluster known.states.now c.in-Place.leaf = c.requires.joined ∙ ap (joined_by cluster known.states.now) c.in-Place.is in
    subst (λ (k : Cluster). s < length k.leaves) (sym c.requires.read.sources_cluster)
    (joined_within cluster told.events told.promotions known.states.now told.tell.known c.in-Place.leaf low c.args.joined.now is s h)

pub returns-in-Place : goal.returns-in-Place
returns-in-Place c =
    let known = c.args.read.now.known in
    let sources = c.args.read.now.sources in
    let cluster = known.cluster.now in
    let states = known.states.now in
    let leaf = c.in-Place.leaf in
    let n = c.args.node in
    let cell = c.args.cell.now in
    let old = c.args.text.now.items in
    let is : c.args.joined.now ≡ all_joined cluster states leaf = c.requires.joined ∙ ap (joined_by cluster states) c.in-Place.is in
    on_ok_weaker c.push_place.result
    (λ e.
    e ∙ ap (λ (k : Cluster). old ++ flat_map (λ s. parts_text k cell (own_parts_by k sources.states.now (lender_of leaf s) s n)) c.args.joined.now)
    c.requires.read.sources_cluster
    ∙ ap (λ (k : States). old ++ flat_map (λ s. parts_text cluster cell (own_parts_by cluster k (lender_of leaf s) s n)) c.args.joined.now)
    c.requires.read.sources_states
    ∙ ap (λ t. old ++ t) (parts_of_all cluster cell (λ s. own_parts_by cluster states (lender_of leaf s) s n) c.args.joined.now)
    ∙ ap (λ js. old ++ parts_text cluster cell (flat_map (λ s. own_parts_by cluster states (lender_of leaf s) s n) js)) is
    ∙ ap (λ d. old ++ parts_text cluster cell (base_parts_by cluster states d n)) (sym c.in-Place.is)) c.push_place.ensures
