-- The lines that tell how each decision came about, and their text (rule of this project).
use Rattle.std.specs.Prelude.{◌≡◌, ℕ, ℤ, Bool, true, false, Option, Some, None, List, [], ◌∷◌, ◌++◌, length, map, flat_map, codes}
use Rattle.std.specs.List.{range_with_len}
use Rattle.std.specs.Option.{option_map_or}
use Rattle.score.specs.ScoreText.{score_text}
use Rattle.cluster_types.specs.declared.cluster.Cluster.{Cluster}
use Rattle.cluster_types.specs.declared.journal.Event.{Event}
use Rattle.cluster_types.specs.declared.journal.Promotion.{Promotion}
use Rattle.cluster_types.specs.declared.placement.Decision.{Decision}
use Rattle.cluster_types.specs.declared.placement.Decision.TheVariants.{Place, Promote}
use Rattle.cluster_types.specs.declared.placement.Placed.{Placed}
use Rattle.cluster_types.specs.declared.run.RunLine.{RunLine}
use Rattle.cluster_types.specs.Choice.{after_decision, after_decisions, total_on}
use Rattle.cluster_types.specs.Decisions.{leaf_of}
use Rattle.cluster_types.specs.Fields.{leaf_name}
use Rattle.cluster_types.specs.Pins.{pinned_targets}
use Rattle.cluster_types.specs.Plans.{IsPlaced}
use Rattle.cluster_types.specs.Tables.{Targets, targets_of}
use Rattle.cluster_types.specs.Texts.{decision_line, leaf_on, node_name, run_line, score_line, target_lines}
use Rattle.decision_account.specs.Holders.{held_decision, holder_of}
use Rattle.decision_account.specs.Parts.{Origin, from_ban, from_colocation, from_location, from_opt_in, from_promotion, from_stickiness, ScorePart, told_parts}
use Rattle.decision_account.specs.Verdicts.{Verdict, beside, below, capped, chosen, forbidden, fuller, later, less, unplaced, unusable, verdict_on, without}

-- a line: a decision; a part, the total and the verdict of a leaf on a node; a decision that is held back on a node, with the id of the rule; a target
pub data WhyLine : Type 0 where
  decided : Decision → WhyLine
  counted : ℕ → ℕ → ScorePart → WhyLine
  scored : ℕ → ℕ → ℤ → WhyLine
  judged : ℕ → ℕ → Verdict → WhyLine
  held : Decision → ℕ → List ℕ → WhyLine
  told : RunLine → WhyLine

-- the lines of `scores` are among these
abbrev pub is_scores_line : WhyLine → Bool
is_scores_line (decided d) = true
is_scores_line (scored r n score) = true
is_scores_line (told line) = true
is_scores_line _ = false

module _ (c : Cluster) (es : List Event) (promotions : List Promotion) where
  -- what is told of a decision on a node
  abbrev pub node_lines : Targets → Decision → ℕ → List WhyLine
  node_lines table d n =
      map (counted (leaf_of d) n) (told_parts c es promotions table d n)
      ++ scored (leaf_of d) n (total_on c es promotions table d n) ∷ judged (leaf_of d) n (verdict_on c es promotions table d n) ∷ []

  abbrev pub decision_lines : Targets → Decision → List WhyLine
  decision_lines table d = decided d ∷ flat_map (node_lines table d) (range_with_len 0 (length c.nodes))

  -- each decision, by the table that those before it left
  abbrev pub account_lines : Targets → List Decision → List WhyLine
  account_lines table [] = []
  account_lines table (d ∷ ds) = decision_lines table d ++ account_lines (after_decision c es promotions table d) ds

module _ (c : Cluster) (before_holding targets : Targets) where
  abbrev pub holder_lines : ℕ → Option Decision → List WhyLine
  holder_lines n None = []
  holder_lines n (Some d) = option_map_or (λ id. held d n id ∷ []) (holder_of c targets d n) []

  -- what was chosen and is held back, leaf by leaf and node by node
  abbrev pub held_lines : List WhyLine
  held_lines = flat_map (λ r. flat_map (λ n. holder_lines n (held_decision before_holding targets r n)) (range_with_len 0 (length c.nodes))) (range_with_len 0 (length c.leaves))

-- all lines of a placement that these decisions make
abbrev pub why_lines : Cluster → List Event → List Promotion → List Decision → Placed → List WhyLine
why_lines c es promotions decisions placed =
    account_lines c es promotions (pinned_targets c es) decisions
    ++ held_lines c (after_decisions c es promotions (pinned_targets c es) decisions) (targets_of placed.table)
    ++ map told (target_lines c placed.pins (targets_of placed.table) placed.none)

abbrev pub origin_text : Origin → List ℕ
origin_text (from_location id) = codes "location " ++ id
origin_text from_stickiness = codes "stickiness"
origin_text from_ban = codes "banned"
origin_text from_opt_in = codes "opt-in"
origin_text from_promotion = codes "promotion"
origin_text (from_colocation id) = codes "colocation " ++ id

module _ (c : Cluster) where
  abbrev pub lender_text : Option ℕ → List ℕ
  lender_text None = []
  lender_text (Some s) = codes "lent " ++ leaf_name c s ++ codes " "

  -- the lines of a leaf and a node, which are told by their text
  abbrev pub part_text : List ℕ → ScorePart → List ℕ
  part_text cell part =
      codes "part " ++ cell ++ codes " " ++ score_text part.score ++ codes " " ++ lender_text part.lender ++ origin_text part.origin ++ codes "\n"

  -- a verdict is `not LEAF NODE REASON`, where the node isn't chosen
  abbrev pub verdict_text : List ℕ → Verdict → List ℕ
  verdict_text cell chosen = codes "chosen " ++ cell ++ codes "\n"
  verdict_text cell unusable = codes "not " ++ cell ++ codes " unusable\n"
  verdict_text cell forbidden = codes "not " ++ cell ++ codes " forbidden\n"
  verdict_text cell below = codes "not " ++ cell ++ codes " below\n"
  verdict_text cell (without col) = codes "not " ++ cell ++ codes " without " ++ col.id ++ codes "\n"
  verdict_text cell (beside col) = codes "not " ++ cell ++ codes " beside " ++ col.id ++ codes "\n"
  verdict_text cell unplaced = codes "not " ++ cell ++ codes " unplaced\n"
  verdict_text cell capped = codes "not " ++ cell ++ codes " capped\n"
  verdict_text cell (less m) = codes "not " ++ cell ++ codes " less " ++ node_name c m ++ codes "\n"
  verdict_text cell (fuller m) = codes "not " ++ cell ++ codes " fuller " ++ node_name c m ++ codes "\n"
  verdict_text cell (later m) = codes "not " ++ cell ++ codes " later " ++ node_name c m ++ codes "\n"

  abbrev pub why_line : WhyLine → List ℕ
  why_line (decided d) = decision_line c d
  why_line (counted r n part) = part_text (leaf_on c r n) part
  why_line (scored r n total) = score_line c r (n, total)
  why_line (judged r n verdict) = verdict_text (leaf_on c r n) verdict
  why_line (held (Place r) n id) = codes "held " ++ leaf_on c r n ++ codes " " ++ id ++ codes "\n"
  why_line (held (Promote r) n id) = codes "unpromoted " ++ leaf_on c r n ++ codes " " ++ id ++ codes "\n"
  why_line (told line) = run_line c line

  abbrev pub why_text : List WhyLine → List ℕ
  why_text lines = flat_map why_line lines

-- the text tells how the decisions of a placement came about
pub record IsWhyText (c : Cluster) (es : List Event) (promotions : List Promotion) (placed : Placed) (text : List ℕ) : Type 0 where
  pub is : IsPlaced c es promotions placed
  pub printed : text ≡ why_text c (why_lines c es promotions is.decisions placed)
