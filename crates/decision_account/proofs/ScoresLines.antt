-- Without parts, verdicts and held lines there are left the lines of `scores`.
use Rattle.std.proofs.Common.{◌≡◌, ℕ, suc, zero, ◌+◌, Option, Some, None, List, [], ◌∷◌, ◌++◌, length, map, filter, refl, ap, ◌∙◌}
use Rattle.std.specs.List.{enumerate_from, flat_map, range_with_len}
use Rattle.std.specs.Option.{option_map_or}
use Rattle.std.proofs.lemmas.Grind.{flat_map-append}
use Rattle.std.proofs.lemmas.List.{append-nil}
use Rattle.std.proofs.lemmas.List.Elements.{filter-append}
use Rattle.cluster_types.specs.declared.cluster.Cluster.{Cluster}
use Rattle.cluster_types.specs.declared.journal.Event.{Event}
use Rattle.cluster_types.specs.declared.journal.Promotion.{Promotion}
use Rattle.cluster_types.specs.declared.placement.Decision.{Decision}
use Rattle.cluster_types.specs.declared.placement.Placed.{Placed}
use Rattle.cluster_types.specs.declared.run.RunLine.{RunLine}
use Rattle.cluster_types.specs.Choice.{after_decision, after_decisions, total_on}
use Rattle.cluster_types.specs.Decisions.{leaf_of}
use Rattle.cluster_types.specs.Pins.{pinned_targets}
use Rattle.cluster_types.specs.Plans.{with_totals}
use Rattle.cluster_types.specs.Tables.{Targets, targets_of}
use Rattle.cluster_types.specs.Texts.{decided_lines, run_line, score_line, scores_text, target_lines}
use Rattle.decision_account.specs.Accounts.{WhyLine, account_lines, counted, decision_lines, held, held_lines, holder_lines, is_scores_line, judged, node_lines, scored, told, why_line, why_lines, why_text}
use Rattle.decision_account.specs.Holders.{held_decision, holder_of}
use Rattle.decision_account.specs.Parts.{ScorePart, told_parts}
use Rattle.decision_account.specs.Verdicts.{verdict_on}

module _ (c : Cluster) where
  -- the text of those lines that `scores` has
  abbrev rest_of : List WhyLine → List ℕ
  rest_of lines = why_text c (filter is_scores_line lines)

  rest-append : (xs ys : List WhyLine) → rest_of (xs ++ ys) ≡ rest_of xs ++ rest_of ys
  rest-append xs ys = ap (flat_map (why_line c)) (filter-append is_scores_line xs ys) ∙ flat_map-append (why_line c) (filter is_scores_line xs) (filter is_scores_line ys)

  no_parts : (r n : ℕ) (parts : List ScorePart) → rest_of (map (counted r n) parts) ≡ []
  no_parts r n [] = refl
  no_parts r n (part ∷ parts) = no_parts r n parts

  all_targets : (lines : List RunLine) → rest_of (map told lines) ≡ flat_map (run_line c) lines
  all_targets [] = refl
  all_targets (line ∷ lines) = ap (λ (xs : List ℕ). run_line c line ++ xs) (all_targets lines)

  -- where each gives no line of `scores`, all together give none
  none_of_all : {X : Type 0} (f : X → List WhyLine) → ((x : X) → rest_of (f x) ≡ []) → (xs : List X) → rest_of (flat_map f xs) ≡ []
  none_of_all f none [] = refl
  none_of_all f none (x ∷ xs) = rest-append (f x) (flat_map f xs) ∙ rw (none x, none_of_all f none xs) refl

  module _ (taken targets : Targets) where
    no_held_line : (n : ℕ) (o : Option Decision) → rest_of (holder_lines c taken targets n o) ≡ []
    no_held_line n None = refl
    no_held_line n (Some d) = go (holder_of c targets d n)
      where
        go : (o : Option (List ℕ)) → rest_of (option_map_or (λ id. held d n id ∷ []) o []) ≡ []
        go None = refl
        go (Some id) = refl

    no_held_lines : rest_of (held_lines c taken targets) ≡ []
    no_held_lines =
        none_of_all (λ r. flat_map (λ n. holder_lines c taken targets n (held_decision taken targets r n)) (range_with_len 0 (length c.nodes)))
        (λ r. none_of_all (λ n. holder_lines c taken targets n (held_decision taken targets r n)) (λ n. no_held_line n (held_decision taken targets r n))
        (range_with_len 0 (length c.nodes))) (range_with_len 0 (length c.leaves))

  module _ (es : List Event) (ps : List Promotion) where
    one_node : (table : Targets) (d : Decision) (n : ℕ)
        → rest_of (node_lines c es ps table d n) ≡ score_line c (leaf_of d) (n, total_on c es ps table d n)
    one_node table d n =
        rest-append (map (counted (leaf_of d) n) (told_parts c es ps table d n))
        (scored (leaf_of d) n (total_on c es ps table d n) ∷ judged (leaf_of d) n (verdict_on c es ps table d n) ∷ [])
        ∙ rw (no_parts (leaf_of d) n (told_parts c es ps table d n)) (append-nil (score_line c (leaf_of d) (n, total_on c es ps table d n)))

    all_nodes : (table : Targets) (d : Decision) (from count : ℕ)
        → rest_of (flat_map (node_lines c es ps table d) (range_with_len from count))
        ≡ flat_map (score_line c (leaf_of d)) (enumerate_from from (map (total_on c es ps table d) (range_with_len from count)))
    all_nodes table d from zero = refl
    all_nodes table d from (suc count) =
        rest-append (node_lines c es ps table d from) (flat_map (node_lines c es ps table d) (range_with_len (from + 1) count))
        ∙ rw (one_node table d from, all_nodes table d (from + 1) count) refl

    all_decisions : (table : Targets) (ds : List Decision)
        → rest_of (account_lines c es ps table ds) ≡ flat_map (decided_lines c) (with_totals c es ps table ds)
    all_decisions table [] = refl
    all_decisions table (d ∷ ds) =
        rest-append (decision_lines c es ps table d) (account_lines c es ps (after_decision c es ps table d) ds)
        ∙ rw (all_nodes table d 0 (length c.nodes), all_decisions (after_decision c es ps table d) ds) refl

    pub scores_are_left : (ds : List Decision) (placed : Placed) → placed.decided ≡ with_totals c es ps (pinned_targets c es) ds
        → rest_of (why_lines c es ps ds placed) ≡ scores_text c placed
    scores_are_left ds placed same =
        let accounts = account_lines c es ps (pinned_targets c es) ds in
        let holding = held_lines c (after_decisions c es ps (pinned_targets c es) ds) (targets_of placed.table) in
        let goals = target_lines c placed.pins (targets_of placed.table) placed.none in
        rest-append (accounts ++ holding) (map told goals)
        ∙ ap (λ (xs : List ℕ). xs ++ rest_of (map told goals)) (rest-append accounts holding)
        ∙ rw (
          all_decisions (pinned_targets c es) ds,
          no_held_lines (after_decisions c es ps (pinned_targets c es) ds) (targets_of placed.table),
          all_targets goals,
          append-nil (flat_map (decided_lines c) (with_totals c es ps (pinned_targets c es) ds)),
          same,
        ) refl
