-- The text of all decisions, one by one, and of all that is told.
use Rattle.std.proofs.Common.{◌≡◌, ℕ, ◌+◌, ◌<◌, List, [], ◌∷◌, ◌++◌, length, map, take, slice_index_or, refl, sym, ap, subst, ◌∙◌}
use Rattle.std.specs.List.{flat_map, range_with_len}
use Rattle.std.proofs.lemmas.Grind.{flat_map-append}
use Rattle.std.proofs.lemmas.List.{append_assoc, append-nil, map-append, take_more}
use Rattle.cluster_types.specs.declared.cluster.Cluster.{Cluster}
use Rattle.cluster_types.specs.declared.journal.Event.{Event}
use Rattle.cluster_types.specs.declared.journal.Promotion.{Promotion}
use Rattle.cluster_types.specs.declared.placement.Decided.{Decided}
use Rattle.cluster_types.specs.declared.placement.Decision.{Decision}
use Rattle.cluster_types.specs.declared.placement.Placed.{Placed}
use Rattle.cluster_types.specs.declared.run.RunLine.{RunLine}
use Rattle.cluster_types.specs.Choice.{after_decision, after_decisions}
use Rattle.cluster_types.specs.Pins.{pinned_targets}
use Rattle.cluster_types.specs.Plans.{with_totals}
use Rattle.cluster_types.specs.Tables.{Targets, targets_of}
use Rattle.cluster_types.specs.Texts.{run_line, target_lines}
use Rattle.decision_account.specs.Accounts.{account_lines, decision_lines, held_lines, holder_lines, told, why_line, why_lines, why_text}
use Rattle.decision_account.specs.Holders.{held_decision}
use Rattle.plan_laws.proofs.MoreDecisions.{table_more}
use Rattle.trace_text.proofs.MoreLines.{lines_of_lines}
use Rattle.account_text.specs.Inner.AccountSoFar.{AreAccounted, decisions_made}
use Rattle.account_text.specs.Inner.HeldTexts.{leaf_text}
use Rattle.account_text.proofs.AccountLines.{account_more}

module _ (c : Cluster) (es : List Event) (ps : List Promotion) where
  -- one decision more
  behind : (start : Targets) (ds : List Decision) (d : Decision) (old mid new : List ℕ) (table after : Targets) → AreAccounted c es ps start ds old mid table
      → AreAccounted c es ps table (d ∷ []) mid new after → AreAccounted c es ps start (ds ++ d ∷ []) old new after
  behind start ds d old mid new table after were is =
      let now = after_decisions c es ps start ds in
      let before = why_text c (account_lines c es ps start ds) in
      let one = why_text c (decision_lines c es ps now d) in
      record {
        left = is.left ∙ ap (λ t. after_decision c es ps t d) were.left ∙ sym (table_more c es ps start ds d);
        added =
            is.added ∙ ap (λ t. mid ++ why_text c (decision_lines c es ps t d ++ [])) were.left
            ∙ ap (λ ls. mid ++ why_text c ls) (append-nil (decision_lines c es ps now d))
            ∙ ap (λ t. t ++ one) were.added ∙ append_assoc old before one
            ∙ ap (λ t. old ++ t)
            (sym (ap (why_text c) (account_more c es ps start ds d) ∙ flat_map-append (why_line c) (account_lines c es ps start ds) (decision_lines c es ps now d)));
      }

  pub accounted_more : (start : Targets) (all : List Decided) (i : ℕ) (x : Decided) (old mid new : List ℕ) (table after : Targets) → i < length all
      → x ≡ slice_index_or all i x → AreAccounted c es ps start (decisions_made (take i all)) old mid table
      → AreAccounted c es ps table (x.decision ∷ []) mid new after → AreAccounted c es ps start (decisions_made (take (i + 1) all)) old new after
  accounted_more start all i x old mid new table after low at were is =
      let t : take (i + 1) all ≡ take i all ++ x ∷ [] = rw (← at) at (take_more all i x low) in
      let split : decisions_made (take (i + 1) all) ≡ decisions_made (take i all) ++ x.decision ∷ []
      = ap decisions_made t ∙ map-append (λ (y : Decided). y.decision) (take i all) (x ∷ []) in
      subst (λ ds. AreAccounted c es ps start ds old new after) (sym split)
      (behind start (decisions_made (take i all)) x.decision old mid new table after were is)

  -- the decisions, without their totals
  pub decisions_back : (table : Targets) (ds : List Decision) → decisions_made (with_totals c es ps table ds) ≡ ds
  decisions_back table [] = refl
  decisions_back table (d ∷ ds) = ap (λ (xs : List Decision). d ∷ xs) (decisions_back (after_decision c es ps table d) ds)

flat_same : {X : Type 0} (f g : X → List ℕ) → ((x : X) → f x ≡ g x) → (xs : List X) → flat_map f xs ≡ flat_map g xs
flat_same f g same [] = refl
flat_same f g same (x ∷ xs) = ap (λ t. t ++ flat_map f xs) (same x) ∙ ap (λ t. g x ++ t) (flat_same f g same xs)

module _ (c : Cluster) where
  told_text : (lines : List RunLine) → why_text c (map told lines) ≡ flat_map (run_line c) lines
  told_text [] = refl
  told_text (line ∷ lines) = ap (λ t. run_line c line ++ t) (told_text lines)

  held_text : (taken targets : Targets) → why_text c (held_lines c taken targets) ≡ flat_map (leaf_text c taken targets) (range_with_len 0 (length c.leaves))
  held_text taken targets =
      lines_of_lines (why_line c)
      (λ r. flat_map (λ n. holder_lines c taken targets n (held_decision taken targets r n)) (range_with_len 0 (length c.nodes))) (range_with_len 0 (length c.leaves))
      ∙ flat_same (λ r. why_text c (flat_map (λ n. holder_lines c taken targets n (held_decision taken targets r n)) (range_with_len 0 (length c.nodes))))
      (leaf_text c taken targets)
      (λ r. lines_of_lines (why_line c) (λ n. holder_lines c taken targets n (held_decision taken targets r n)) (range_with_len 0 (length c.nodes)))
      (range_with_len 0 (length c.leaves))

  -- the decisions, what is held back, and the targets
  pub whole_text : (es : List Event) (ps : List Promotion) (ds : List Decision) (placed : Placed) (one two three : List ℕ)
      → one ≡ why_text c (account_lines c es ps (pinned_targets c es) ds)
      → two ≡ one ++ flat_map (leaf_text c (after_decisions c es ps (pinned_targets c es) ds) (targets_of placed.table)) (range_with_len 0 (length c.leaves))
      → three ≡ two ++ flat_map (run_line c) (target_lines c placed.pins (targets_of placed.table) placed.none)
      → three ≡ why_text c (why_lines c es ps ds placed)
  whole_text es ps ds placed one two three first second third =
      let accounts = account_lines c es ps (pinned_targets c es) ds in
      let taken = after_decisions c es ps (pinned_targets c es) ds in
      let holding = held_lines c taken (targets_of placed.table) in
      let goals = target_lines c placed.pins (targets_of placed.table) placed.none in
      third ∙ ap (λ t. t ++ flat_map (run_line c) goals) (second ∙ ap (λ t. one ++ t) (sym (held_text taken (targets_of placed.table))) ∙ ap (λ t. t ++ why_text c holding) first)
      ∙ ap (λ t. why_text c accounts ++ why_text c holding ++ t) (sym (told_text goals))
      ∙ ap (λ t. t ++ why_text c (map told goals)) (sym (flat_map-append (why_line c) accounts holding))
      ∙ sym (flat_map-append (why_line c) (accounts ++ holding) (map told goals))
