-- The lines of a decision, node by node, and of all decisions, one after the other.
use Rattle.std.proofs.Common.{◌≡◌, ℕ, List, [], ◌∷◌, ◌++◌, length, map, refl, sym, ap, ◌∙◌}
use Rattle.std.specs.List.{flat_map, range_with_len}
use Rattle.std.proofs.lemmas.Grind.{flat_map-append}
use Rattle.std.proofs.lemmas.List.{append_assoc, append-nil}
use Rattle.cluster_types.specs.declared.cluster.Cluster.{Cluster}
use Rattle.cluster_types.specs.declared.journal.Event.{Event}
use Rattle.cluster_types.specs.declared.journal.Promotion.{Promotion}
use Rattle.cluster_types.specs.declared.placement.Decision.{Decision}
use Rattle.cluster_types.specs.Choice.{after_decision, after_decisions, total_on}
use Rattle.cluster_types.specs.Decisions.{leaf_of}
use Rattle.cluster_types.specs.Tables.{Targets}
use Rattle.cluster_types.specs.Texts.{decision_line, leaf_on, score_line}
use Rattle.decision_account.specs.Accounts.{account_lines, counted, decision_lines, judged, node_lines, part_text, scored, verdict_text, why_line, why_text}
use Rattle.decision_account.specs.Parts.{ScorePart, base_parts, preference_parts, told_parts, without_zeros}
use Rattle.decision_account.specs.Verdicts.{verdict_on}
use Rattle.trace_text.proofs.MoreLines.{lines_of_lines}
use Rattle.account_text.specs.Inner.PartsByStates.{parts_text}

counted_text : (c : Cluster) (r n : ℕ) (parts : List ScorePart) → flat_map (why_line c) (map (counted r n) parts) ≡ flat_map (part_text c (leaf_on c r n)) parts
counted_text c r n [] = refl
counted_text c r n (part ∷ parts) = ap (λ t. part_text c (leaf_on c r n) part ++ t) (counted_text c r n parts)

module _ (c : Cluster) (es : List Event) (ps : List Promotion) where
  -- the text of a node: its parts of both kinds, its total and its verdict
  pub node_text : (table : Targets) (d : Decision) (n : ℕ) → why_text c (node_lines c es ps table d n)
      ≡ parts_text c (leaf_on c (leaf_of d) n) (base_parts c es ps d n) ++ parts_text c (leaf_on c (leaf_of d) n) (preference_parts c table d n)
      ++ score_line c (leaf_of d) (n, total_on c es ps table d n) ++ verdict_text c (leaf_on c (leaf_of d) n) (verdict_on c es ps table d n)
  node_text table d n =
      let cell = leaf_on c (leaf_of d) n in
      let ends = scored (leaf_of d) n (total_on c es ps table d n) ∷ judged (leaf_of d) n (verdict_on c es ps table d n) ∷ [] in
      let score = score_line c (leaf_of d) (n, total_on c es ps table d n) in
      let verdict = verdict_text c cell (verdict_on c es ps table d n) in
      let base = without_zeros (base_parts c es ps d n) in
      let preferred = without_zeros (preference_parts c table d n) in
      flat_map-append (why_line c) (map (counted (leaf_of d) n) (told_parts c es ps table d n)) ends
      ∙ ap (λ t. t ++ flat_map (why_line c) ends) (counted_text c (leaf_of d) n (told_parts c es ps table d n) ∙ flat_map-append (part_text c cell) base preferred)
      ∙ ap (λ t. flat_map (part_text c cell) base ++ flat_map (part_text c cell) preferred ++ (score ++ t)) (append-nil verdict)
      ∙ sym (append_assoc (flat_map (part_text c cell) base ++ flat_map (part_text c cell) preferred) score verdict)

  -- the text of a decision, node by node
  pub decision_text : (table : Targets) (d : Decision) → why_text c (decision_lines c es ps table d)
      ≡ decision_line c d ++ flat_map (λ n. why_text c (node_lines c es ps table d n)) (range_with_len 0 (length c.nodes))
  decision_text table d = ap (λ t. decision_line c d ++ t) (lines_of_lines (why_line c) (node_lines c es ps table d) (range_with_len 0 (length c.nodes)))

  -- of one decision more
  pub account_more : (table : Targets) (ds : List Decision) (d : Decision)
      → account_lines c es ps table (ds ++ d ∷ []) ≡ account_lines c es ps table ds ++ decision_lines c es ps (after_decisions c es ps table ds) d
  account_more table [] d = append-nil (decision_lines c es ps table d)
  account_more table (x ∷ xs) d =
      ap (λ ls. decision_lines c es ps table x ++ ls) (account_more (after_decision c es ps table x) xs d)
      ∙ sym (append_assoc (decision_lines c es ps table x) (account_lines c es ps (after_decision c es ps table x) xs)
      (decision_lines c es ps (after_decisions c es ps (after_decision c es ps table x) xs) d))
