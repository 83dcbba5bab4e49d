-- Each case in which an action must precede another, alone.
use Rattle.std.proofs.Common.{◌≡◌, ◌||◌, Bool, true}
use Rattle.std.specs.List.{list_any}
use Rattle.std.proofs.lemmas.Bool.{or_left, or_right}
use Rattle.cluster_types.specs.declared.journal.Action.{Action}
use Rattle.cluster_types.specs.Numbers.{is_earlier}
use Rattle.cluster_types.specs.Precedence.{must_precede, probes_first, stops_first, fences_first, comes_first_in_cell, demotes_first, parts_first, is_ordered, is_serialized, migrates_first}
use Rattle.cluster_types.specs.Steps.{Transition}

module _ (t : Transition) (x y : Action) where
  abbrev pub Must : Type 0
  Must = must_precede t.cluster t.actions (is_earlier t.cluster t.actions) x y ≡ true

  abbrev parts : Bool
  parts = list_any (λ col. parts_first col x y) t.cluster.colocations

  abbrev orders : Bool
  orders = list_any (λ o. is_ordered t.actions o x y || is_serialized (is_earlier t.cluster t.actions) o x y) t.cluster.orders

  pub by_probe : probes_first x y ≡ true → Must
  by_probe h = or_left _ _ (or_left _ _ (or_left _ _ (or_left _ _ (or_left _ _ (or_left _ _ (or_left _ _ h))))))

  pub by_stop : stops_first t.cluster x y ≡ true → Must
  by_stop h = or_left _ _ (or_left _ _ (or_left _ _ (or_left _ _ (or_left _ _ (or_left _ _ (or_right (probes_first x y) _ h))))))

  pub by_fence : fences_first x y ≡ true → Must
  by_fence h = or_left _ _ (or_left _ _ (or_left _ _ (or_left _ _ (or_left _ _ (or_right (probes_first x y || stops_first t.cluster x y) _ h)))))

  pub by_cell : comes_first_in_cell x y ≡ true → Must
  by_cell h = or_left _ _ (or_left _ _ (or_left _ _ (or_left _ _ (or_right (probes_first x y || stops_first t.cluster x y || fences_first x y) _ h))))

  pub by_demote : demotes_first x y ≡ true → Must
  by_demote h = or_left _ _ (or_left _ _ (or_left _ _ (or_right (probes_first x y || stops_first t.cluster x y || fences_first x y || comes_first_in_cell x y) _ h)))

  pub by_part : list_any (λ col. parts_first col x y) t.cluster.colocations ≡ true → Must
  by_part h =
      or_left _ _ (or_left _ _ (or_right (probes_first x y || stops_first t.cluster x y || fences_first x y || comes_first_in_cell x y || demotes_first x y) _ h))

  pub by_migration : migrates_first x y ≡ true → Must
  by_migration h =
      or_right (probes_first x y || stops_first t.cluster x y || fences_first x y || comes_first_in_cell x y || demotes_first x y || parts || orders) _ h
