use Rattle.std.proofs.Common.{◌≡◌, ◌++◌, ◌<◌, length, sym, ap, subst, ◌∙◌}
use Rattle.std.specs.List.{flat_map, range_with_len}
use Rattle.cluster_types.specs.declared.cluster.Cluster.{Cluster}
use Rattle.cluster_types.specs.Choice.{after_decisions}
use Rattle.cluster_types.specs.Decisions.{leaf_of}
use Rattle.cluster_types.specs.Pins.{pinned_targets}
use Rattle.cluster_types.specs.Tables.{targets_of}
use Rattle.cluster_types.specs.Texts.{run_line, target_lines}
use Rattle.cluster_types.specs.UnpackedStates.{states_of}
use Rattle.decision_account.specs.Accounts.{account_lines, why_text}
use Rattle.placement.specs.Steps.{Tell}
use Rattle.placement.specs.Scores.{scores_of}
use Rattle.account_text.specs.Inner.AccountSoFar.{decisions_made}
use Rattle.account_text.specs.Inner.HeldTexts.{leaf_text}
use Rattle.account_text.proofs.DecidedLeaves.{decided_below}
use Rattle.account_text.proofs.WholeTexts.{decisions_back, whole_text}
use Rattle.account_text.proofs.account.why_text.Goals as goal

pub push_all_made-requires-clause-leaves : goal.push_all_made-requires-clause-leaves
push_all_made-requires-clause-leaves c = λ x h.
    let told = c.requires.journal in
    subst (λ (k : Cluster). leaf_of x.decision < length k.leaves) (sym c.in_ok-read.ensures.cluster)
    (decided_below c.args.cluster.now told.events told.promotions c.args.placed.now told.is c.as_slice-decided.result.now c.as_slice-decided.ensures x h)

pub returns : goal.returns
returns c = λ es ps states scores is.
    let cluster = c.args.cluster.now in
    let placed = c.args.placed.now in
    let known = c.in_ok-read.read.known in
    let same = c.in_ok-read.ensures.cluster in
    let tell : Tell known.cluster.now es ps known.states.now known.scores.now = record {
      known = c.in_ok-read.ensures.states ∙ (states ∙ ap (λ (k : Cluster). states_of k es ps) (sym same));
      scored = c.in_ok-read.ensures.scores ∙ (scores ∙ ap (λ (k : Cluster). scores_of k es ps) (sym same));
    } in
    let pinned = pinned_targets cluster es in
    let table = targets_of c.in_ok-loaded.loaded.table in
    let decided = decisions_made c.as_slice-decided.result.now in
    let goals = targets_of placed.table in
    let one = c.push_all_made.new.text.items in
    let two = c.push_held.new.text.items in
    let made = c.in_ok-loaded-2.ensures.text es ps tell in
    let start : table ≡ pinned = ap targets_of c.in_ok-loaded.ensures.table ∙ c.in_ok-table.ensures.targets es ps states (c.as_slice.ensures ∙ is.pins) in
    let order : decided ≡ is.decisions = ap decisions_made (c.as_slice-decided.ensures ∙ is.decided) ∙ decisions_back cluster es ps pinned is.decisions in
    let taken : targets_of c.in_ok-loaded-2.loaded.table ≡ after_decisions cluster es ps pinned is.decisions
    = made.left ∙ (ap (λ (k : Cluster). after_decisions k es ps table decided) same
    ∙ (ap (λ t. after_decisions cluster es ps t decided) start ∙ ap (after_decisions cluster es ps pinned) order)) in
    let accounts : one ≡ why_text cluster (account_lines cluster es ps pinned is.decisions)
    = made.added ∙ (ap (λ t. t ++ why_text known.cluster.now (account_lines known.cluster.now es ps table decided)) c.new-text.ensures.items
    ∙ (ap (λ (k : Cluster). why_text k (account_lines k es ps table decided)) same
    ∙ (ap (λ t. why_text cluster (account_lines cluster es ps t decided)) start ∙ ap (λ ds. why_text cluster (account_lines cluster es ps pinned ds)) order))) in
    let holding : two ≡ one ++ flat_map (leaf_text cluster (after_decisions cluster es ps pinned is.decisions) goals) (range_with_len 0 (length cluster.leaves))
    = c.in_ok-push_held.ensures ∙ ap (λ t. one ++ flat_map (leaf_text cluster t goals) (range_with_len 0 (length cluster.leaves))) taken in
    let targets : c.push_targets.new.text.items ≡ two ++ flat_map (run_line cluster) (target_lines cluster placed.pins goals placed.none)
    = c.in_ok-push_targets.ensures
    ∙ (ap (λ pins. two ++ flat_map (run_line cluster) (target_lines cluster pins goals c.as_slice-3.result.now)) c.as_slice-2.ensures
    ∙ ap (λ none. two ++ flat_map (run_line cluster) (target_lines cluster placed.pins goals none)) c.as_slice-3.ensures) in
    record { is = is; printed = whole_text cluster es ps is.decisions placed one two c.push_targets.new.text.items accounts holding targets }
