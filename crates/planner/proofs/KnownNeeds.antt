-- What cells need, by the states that a journal tells and by what was placed.
use Rattle.std.proofs.Common.{◌≡◌, ◌<◌, ◌+◌, ◌*◌, ℕ, Bool, Option, Some, List, ◌∙◌, ap, length, map}
use Rattle.std.specs.Prelude.{slice_get, unwrap_or}
use Rattle.std.specs.List.{range_with_len}
use Rattle.std.specs.Option.{option_map_or}
use Rattle.cluster_types.specs.declared.cluster.Cluster.{Cluster}
use Rattle.cluster_types.specs.declared.journal.Event.{Event}
use Rattle.cluster_types.specs.declared.journal.Promotion.{Promotion}
use Rattle.cluster_types.specs.declared.placement.Pin.{Pin}
use Rattle.cluster_types.specs.declared.placement.Table.{Table}
use Rattle.cluster_types.specs.declared.states.Cell.{Cell}
use Rattle.cluster_types.specs.Pins.{is_pinned, is_pinned_in, pin_of}
use Rattle.cluster_types.specs.Rights.{may_start}
use Rattle.cluster_types.specs.Tables.{targets_of}
use Rattle.cluster_types.specs.UnpackedStates.{cell_at, states_of}
use Rattle.cluster_types.proofs.PinnedLeaves.{pin_known}
use Rattle.cluster_types.proofs.StatesKept.{cell_kept, slice_get-rows}
use Rattle.planner.specs.Inner.Knowing.{need_by, need_from, needs_by}
use Rattle.planner.specs.Inner.Levels.{AreNeeds, need_at, need_in, no_need}
use Rattle.planner.specs.declared.needed_actions.steps.CellNeed.{CellNeed}

module _ (c : Cluster) (es : List Event) (ps : List Promotion) (cells : List Cell) (pins : List (Option Pin)) (table : Table) (starts : Bool)
    (told : cells ≡ (states_of c es ps).cells) (pinned : pins ≡ map (pin_of c es) (range_with_len 0 (length c.leaves)))
    (allowed : starts ≡ may_start c es) where
  cell_known : (r n : ℕ) → r < length c.leaves → n < length c.nodes → slice_get cells (r * length c.nodes + n) ≡ Some (cell_at c es r n)
  cell_known r n lr ln = ap (λ xs. slice_get xs (r * length c.nodes + n)) told ∙ cell_kept c es ps r n lr ln

  need_known : (r n : ℕ) → r < length c.leaves → n < length c.nodes
      → need_by cells pins table starts (length c.nodes) r n ≡ need_at c es (targets_of table) r n
  need_known r n lr ln =
      ap (λ (o : Option Cell). option_map_or (λ (known : Cell). need_from known (targets_of table r n) (is_pinned_in pins r) starts) o no_need)
      (cell_known r n lr ln)
      ∙ ap (λ b. need_from (cell_at c es r n) (targets_of table r n) b starts) (pin_known c es pins pinned r)
      ∙ ap (λ b. need_from (cell_at c es r n) (targets_of table r n) (is_pinned c es r) b) allowed

  pub needs_known : (needs : List CellNeed) (nodes leaves : ℕ) → nodes ≡ length c.nodes → leaves ≡ length c.leaves
      → needs ≡ needs_by cells pins table starts nodes leaves → AreNeeds c es (targets_of table) needs
  needs_known needs nodes leaves en el made r n lr ln =
      let all : needs ≡ needs_by cells pins table starts (length c.nodes) (length c.leaves)
      = made ∙ ap (λ k. needs_by cells pins table starts k leaves) en ∙ ap (λ k. needs_by cells pins table starts (length c.nodes) k) el in
      ap (λ xs. need_in (length c.nodes) xs r n) all
      ∙ ap (λ (o : Option CellNeed). unwrap_or o no_need)
      (slice_get-rows (need_by cells pins table starts (length c.nodes)) (length c.nodes) (length c.leaves) r n lr ln)
      ∙ need_known r n lr ln
