use Rattle.std.proofs.Common.{rules, ◌≡◌, ◌++◌, List, ℕ, slice_index_or, sym, ap, ◌∙◌}
use Rattle.std.specs.List.{flat_map}
use Rattle.cluster_types.specs.Decisions.{leaf_of}
use Rattle.cluster_types.specs.Tables.{targets_of}
use Rattle.cluster_types.specs.Texts.{leaf_on, score_line}
use Rattle.decision_account.specs.Accounts.{verdict_text}
use Rattle.placement.specs.declared.choice.inputs.Known.{Known}
use Rattle.account_text.specs.Inner.AskedVerdicts.{verdict_asked}
use Rattle.account_text.specs.Inner.Sides.{preference_part}
use Rattle.account_text.specs.Inner.PartsByStates.{base_parts_by, parts_text}
use Rattle.account_text.proofs.NodeTexts.{node_more}
use Rattle.account_text.proofs.account.push_node.Goals as goal

pub returns : goal.returns
returns c = λ es ps tell.
    let asked = c.args.asked.now in
    let cluster = asked.known.now.cluster.now in
    let table = targets_of asked.loaded.now.table in
    let d = asked.decision in
    let n = c.args.node in
    let old = c.args.text.now.items in
    let one = c.push_base.new.text.items in
    let two = c.push_preferences.new.text.items in
    let three = c.push_total.new.text.items in
    let four = c.push_verdict.new.text.items in
    let cell = c.push_leaf_on.new.text.items in
    let total = c.index-total.result.now in
    let is : cell ≡ leaf_on cluster (leaf_of d) n = search rules in
    let base : one ≡ old ++ parts_text cluster cell (base_parts_by cluster asked.known.now.states.now d n)
    = c.in_ok-push_base.ensures
    ∙ ap (λ (t : List ℕ). old ++ parts_text c.args.read.now.known.cluster.now t (base_parts_by c.args.read.now.known.cluster.now c.args.read.now.known.states.now d n)) c.deref.ensures.value
    ∙ ap (λ (k : Known). old ++ parts_text k.cluster.now cell (base_parts_by k.cluster.now k.states.now d n)) (sym c.requires.known) in
    let preferred : two ≡ one ++ flat_map (λ rule. parts_text cluster cell (preference_part table d n rule.now)) asked.sides.now
    = c.in_ok-push_preferences.ensures
    ∙ ap (λ (t : List ℕ). one ++ flat_map (λ rule. parts_text cluster t (preference_part table d n rule.now)) asked.sides.now) c.deref-2.ensures.value in
    let there : total ≡ slice_index_or asked.chosen.now.totals.items n total = search rules in
    let score : three ≡ two ++ score_line cluster (leaf_of d) (n, total) = search rules in
    let verdict : four ≡ three ++ verdict_text cluster cell (verdict_asked asked n) = search rules in
    node_more asked es ps tell n c.requires.node old one two three four cell total is base preferred there score verdict
