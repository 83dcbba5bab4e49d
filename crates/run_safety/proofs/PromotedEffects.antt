-- How begins and successes change whether a leaf may be promoted on a node.
use Rattle.std.proofs.Common.{arith, ◌≡◌, ◌==◌, ℕ, true, false, List, [], ◌∷◌, ◌++◌, refl, ◌∙◌}
use Rattle.std.proofs.lemmas.Bool.{and_left, or_left}
use Rattle.lemmas.proofs.Booleans.{first_passes}
use Rattle.cluster_types.specs.declared.cluster.Cluster.{Cluster}
use Rattle.cluster_types.specs.declared.journal.Action.{Action}
use Rattle.cluster_types.specs.declared.journal.Action.TheVariants.{Fence, Probe, Operation, MigrateTo, MigrateFrom}
use Rattle.cluster_types.specs.declared.journal.Event.{Event}
use Rattle.cluster_types.specs.declared.journal.Event.TheVariants.{Wait, Begin, Ended}
use Rattle.cluster_types.specs.declared.journal.Outcome.{Outcome}
use Rattle.cluster_types.specs.declared.journal.Outcome.TheVariants.{Code, TimedOut, Gone}
use Rattle.cluster_types.specs.declared.leaf.Op.TheVariants.{Start, Stop, Promote, Demote, Monitor}
use Rattle.cluster_types.specs.declared.leaf.Role.TheVariants as role
use Rattle.cluster_types.specs.May.{is_left_promoted, opens_promoted, closes_promoted}
use Rattle.cluster_types.specs.Outcomes.{is_code_among}
use Rattle.cluster_types.specs.Steps.{is_success}
use Rattle.cluster_types.proofs.MayLaws.{promoted-last}
use Rattle.run_safety.proofs.Effects.{rest_of, second_fails, shows, taken_out, watched}
use Rattle.run_safety.proofs.Touching.{gives_promoted, takes_promoted, is_sure}
use Rattle.run_safety.proofs.Truths.{shut, still_open, still_shut}

started_only : (o : Outcome) → is_code_among (0 ∷ 190 ∷ []) o ≡ true → is_code_among (8 ∷ 9 ∷ 191 ∷ []) o ≡ false
started_only (Code code) h = grind arith
started_only TimedOut h = cc
started_only Gone h = cc

promoted_only : (o : Outcome) → is_code_among (8 ∷ 191 ∷ []) o ≡ true → is_code_among (0 ∷ 190 ∷ 7 ∷ []) o ≡ false
promoted_only (Code code) h = grind arith
promoted_only TimedOut h = cc
promoted_only Gone h = cc

probed_unpromoted : (o : Outcome) → is_code_among (7 ∷ []) o ≡ true → is_code_among (0 ∷ 190 ∷ 7 ∷ 5 ∷ []) o ≡ true
probed_unpromoted (Code code) h = grind arith
probed_unpromoted TimedOut h = cc
probed_unpromoted Gone h = cc

not_promoted : (o : Outcome) → is_code_among (7 ∷ []) o ≡ true → is_code_among (8 ∷ 9 ∷ 191 ∷ []) o ≡ false
not_promoted (Code code) h = grind arith
not_promoted TimedOut h = cc
not_promoted Gone h = cc

module _ (c : Cluster) (r n : ℕ) where
  begins_promote : (k : ℕ) (y : Action) → gives_promoted r n y ≡ false → opens_promoted c r n (Begin k y) ≡ false
  begins_promote k (Operation Promote leaf node interval held) h = and_left _ true h
  begins_promote k (Fence node) h = refl
  begins_promote k (Probe leaf node) h = refl
  begins_promote k (Operation Start leaf node interval held) h = refl
  begins_promote k (Operation Stop leaf node interval held) h = refl
  begins_promote k (Operation Demote leaf node interval held) h = refl
  begins_promote k (Operation Monitor leaf node interval held) h = refl
  begins_promote k (MigrateTo leaf source target) h = refl
  begins_promote k (MigrateFrom leaf source target) h = refl

  ends_promote : (k m : ℕ) (y : Action) (o : Outcome) → is_success c y o ≡ true → gives_promoted r n y ≡ false → opens_promoted c r n (Ended k y o m) ≡ false
  ends_promote k m (Fence node) o ok h = refl
  ends_promote k m (Probe leaf node) o ok h = second_fails _ (is_code_among (8 ∷ 9 ∷ 191 ∷ []) o) true (not_promoted o (first_passes _ false ok refl))
  ends_promote k m (Operation Start leaf node interval held) o ok h = refl
  ends_promote k m (Operation Stop leaf node interval held) o ok h = refl
  ends_promote k m (Operation Promote leaf node interval held) o ok h = and_left _ true h
  ends_promote k m (Operation Demote leaf node interval held) o ok h = refl
  ends_promote k m (Operation Monitor leaf node interval role.Started) o ok h = watched _ _ _ _ ok (started_only o)
  ends_promote k m (Operation Monitor leaf node interval role.Promoted) o ok h = and_left _ _ (and_left _ _ h)
  ends_promote k m (MigrateTo leaf source target) o ok h = refl
  ends_promote k m (MigrateFrom leaf source target) o ok h = refl

  ends_demote : (k m : ℕ) (y : Action) (o : Outcome) → is_success c y o ≡ true → takes_promoted r n y ≡ false → closes_promoted c r n (Ended k y o m) ≡ false
  ends_demote k m (Fence node) o ok h = rest_of (node == n) _ false h
  ends_demote k m (Probe leaf node) o ok h = and_left _ true (and_left _ (is_code_among (0 ∷ 190 ∷ 7 ∷ 5 ∷ []) o) h)
  ends_demote k m (Operation Start leaf node interval held) o ok h = and_left _ true (and_left _ (is_code_among (0 ∷ []) o) h)
  ends_demote k m (Operation Stop leaf node interval held) o ok h = and_left _ true (and_left _ (is_code_among (0 ∷ []) o) h)
  ends_demote k m (Operation Promote leaf node interval held) o ok h = refl
  ends_demote k m (Operation Demote leaf node interval held) o ok h = and_left _ true (and_left _ (is_code_among (0 ∷ []) o) h)
  ends_demote k m (Operation Monitor leaf node interval role.Started) o ok h = and_left _ _ (and_left _ _ h)
  ends_demote k m (Operation Monitor leaf node interval role.Promoted) o ok h = watched _ _ _ _ ok (promoted_only o)
  ends_demote k m (MigrateTo leaf source target) o ok h = refl
  ends_demote k m (MigrateFrom leaf source target) o ok h = refl

  takes_demote : (k m : ℕ) (y : Action) (o : Outcome) → is_success c y o ≡ true → takes_promoted r n y ≡ true → is_sure y ≡ true → closes_promoted c r n (Ended k y o m) ≡ true
  takes_demote k m (Fence node) o ok h sure = taken_out (node == n) _ false h (first_passes _ false ok refl)
  takes_demote k m (Probe leaf node) o ok h sure = shows _ _ h (probed_unpromoted o (first_passes _ false ok refl))
  takes_demote k m (Operation Start leaf node interval held) o ok h sure = shows _ _ h (first_passes _ false ok refl)
  takes_demote k m (Operation Stop leaf node interval held) o ok h sure = shows _ _ h (first_passes _ false ok refl)
  takes_demote k m (Operation Demote leaf node interval held) o ok h sure = shows _ _ h (first_passes _ false ok refl)
  takes_demote k m _ o ok h sure = cc

  takes_give : (y : Action) → takes_promoted r n y ≡ true → gives_promoted r n y ≡ false
  takes_give (Fence node) h = refl
  takes_give (Probe leaf node) h = refl
  takes_give (Operation Start leaf node interval held) h = refl
  takes_give (Operation Stop leaf node interval held) h = refl
  takes_give (Operation Demote leaf node interval held) h = refl
  takes_give (Operation Monitor leaf node interval role.Started) h = refl
  takes_give _ h = cc

  -- So where it may be promoted, event by event.
  abbrev pub IsDown : List Event → Type 0
  IsDown es = is_left_promoted c r n es ≡ false

  abbrev pub IsUp : List Event → Type 0
  IsUp es = is_left_promoted c r n es ≡ true

  pub down_begun : (es : List Event) (k : ℕ) (y : Action) → gives_promoted r n y ≡ false → IsDown es → IsDown (es ++ Begin k y ∷ [])
  down_begun es k y h down = promoted-last c r n (Begin k y) es ∙ still_shut _ _ (closes_promoted c r n (Begin k y)) (begins_promote k y h) down

  pub down_done : (es : List Event) (k m : ℕ) (y : Action) (o : Outcome) → is_success c y o ≡ true → gives_promoted r n y ≡ false → IsDown es → IsDown (es ++ Ended k y o m ∷ [])
  down_done es k m y o ok h down = promoted-last c r n (Ended k y o m) es ∙ still_shut _ _ _ (ends_promote k m y o ok h) down

  pub down_waited : (es : List Event) (s : ℕ) → IsDown es → IsDown (es ++ Wait s ∷ [])
  down_waited es s down = promoted-last c r n (Wait s) es ∙ still_shut false _ (closes_promoted c r n (Wait s)) refl down

  pub down_turned : (es : List Event) (k m : ℕ) (x : Action) (o : Outcome) → is_success c x o ≡ true → takes_promoted r n x ≡ true → is_sure x ≡ true → IsDown (es ++ Ended k x o m ∷ [])
  down_turned es k m x o ok h sure = promoted-last c r n (Ended k x o m) es ∙ shut _ _ _ (ends_promote k m x o ok (takes_give x h)) (takes_demote k m x o ok h sure)

  pub up_begun : (es : List Event) (k : ℕ) (y : Action) → IsUp es → IsUp (es ++ Begin k y ∷ [])
  up_begun es k y up = promoted-last c r n (Begin k y) es ∙ still_open _ _ false refl up

  pub up_done : (es : List Event) (k m : ℕ) (y : Action) (o : Outcome) → is_success c y o ≡ true → takes_promoted r n y ≡ false → IsUp es → IsUp (es ++ Ended k y o m ∷ [])
  up_done es k m y o ok h up = promoted-last c r n (Ended k y o m) es ∙ still_open _ _ _ (ends_demote k m y o ok h) up

  pub up_waited : (es : List Event) (s : ℕ) → IsUp es → IsUp (es ++ Wait s ∷ [])
  up_waited es s up = promoted-last c r n (Wait s) es ∙ still_open false _ false refl up

  pub up_turned : (es : List Event) (k m : ℕ) (x : Action) (o : Outcome) → opens_promoted c r n (Ended k x o m) ≡ true → IsUp (es ++ Ended k x o m ∷ [])
  up_turned es k m x o h = promoted-last c r n (Ended k x o m) es ∙ or_left _ _ h
