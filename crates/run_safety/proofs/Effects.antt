-- How begins and successes change whether a leaf may run on a node.
use Rattle.std.proofs.Common.{arith, ◌≡◌, ◌==◌, ◌&&◌, ◌||◌, not, ℕ, Bool, true, false, List, [], ◌∷◌, ◌++◌, refl, ◌∙◌}
use Rattle.std.proofs.lemmas.Bool.{and_from, and_left, and_right, or_left}
use Rattle.lemmas.proofs.Booleans.{first_passes}
use Rattle.cluster_types.specs.declared.cluster.Cluster.{Cluster}
use Rattle.cluster_types.specs.declared.journal.Action.{Action}
use Rattle.cluster_types.specs.declared.journal.Action.TheVariants.{Fence, Probe, Operation, MigrateTo, MigrateFrom}
use Rattle.cluster_types.specs.declared.journal.Event.{Event}
use Rattle.cluster_types.specs.declared.journal.Event.TheVariants.{Wait, Begin, Ended}
use Rattle.cluster_types.specs.declared.journal.Outcome.{Outcome}
use Rattle.cluster_types.specs.declared.journal.Outcome.TheVariants.{Code, TimedOut, Gone}
use Rattle.cluster_types.specs.declared.leaf.Op.TheVariants.{Start, Stop, Promote, Demote, Monitor}
use Rattle.cluster_types.specs.declared.leaf.Role.TheVariants as role
use Rattle.cluster_types.specs.May.{may_be_running, opens, closes}
use Rattle.cluster_types.specs.Outcomes.{is_code_among}
use Rattle.cluster_types.specs.Steps.{is_success}
use Rattle.cluster_types.proofs.MayLaws.{may-last}
use Rattle.run_safety.proofs.Touching.{gives_run, takes_run}
use Rattle.run_safety.proofs.Truths.{shut, still_open, still_shut}

-- tests that fail by their parts
pub second_fails : (a b c : Bool) → b ≡ false → (a && b) && c ≡ false
second_fails a b c h = and_left (a && b) c (and_right a b h)

pub rest_of : (a b c : Bool) → a ≡ false → (a && b) || c ≡ c
rest_of true b c h = cc
rest_of false b c h = refl

-- a monitor's success that isn't ignored is one of the expected codes
pub watched : (same code ignored expected : Bool) → expected || ignored ≡ true → (expected ≡ true → code ≡ false) → (same && code) && not ignored ≡ false
watched true true true e h f = refl
watched true true false true h f = f refl
watched true true false false h f = cc
watched true false i e h f = refl
watched false d i e h f = refl

started_codes : (o : Outcome) → is_code_among (0 ∷ 190 ∷ []) o ≡ true → is_code_among (7 ∷ []) o ≡ false
started_codes (Code code) h = grind arith
started_codes TimedOut h = cc
started_codes Gone h = cc

promoted_codes : (o : Outcome) → is_code_among (8 ∷ 191 ∷ []) o ≡ true → is_code_among (7 ∷ []) o ≡ false
promoted_codes (Code code) h = grind arith
promoted_codes TimedOut h = cc
promoted_codes Gone h = cc

probed_off : (o : Outcome) → is_code_among (7 ∷ []) o ≡ true → is_code_among (7 ∷ 5 ∷ []) o ≡ true
probed_off (Code code) h = grind arith
probed_off TimedOut h = cc
probed_off Gone h = cc

pub excluded : (same code : Bool) → code ≡ true → (same && not code) && true ≡ false
excluded true true h = refl
excluded true false h = cc
excluded false code h = refl

pub shows : (a b : Bool) → a ≡ true → b ≡ true → (a && b) && true ≡ true
shows a b h g = and_from (a && b) true (and_from a b h g) refl

pub taken_out : (a b rest : Bool) → a ≡ true → b ≡ true → (a && b) || rest ≡ true
taken_out a b rest h g = or_left (a && b) rest (and_from a b h g)

module _ (c : Cluster) (r n : ℕ) where
  -- Where it may run.
  begins_open : (k : ℕ) (y : Action) → gives_run r n y ≡ false → opens c r n (Begin k y) ≡ false
  begins_open k (Fence node) h = refl
  begins_open k (Probe leaf node) h = refl
  begins_open k (Operation Start leaf node interval held) h = and_left _ true h
  begins_open k (Operation Stop leaf node interval held) h = refl
  begins_open k (Operation Promote leaf node interval held) h = and_left _ true h
  begins_open k (Operation Demote leaf node interval held) h = and_left _ true h
  begins_open k (Operation Monitor leaf node interval held) h = refl
  begins_open k (MigrateTo leaf source target) h = and_left _ true h
  begins_open k (MigrateFrom leaf source target) h = and_left _ true h

  ends_open : (k m : ℕ) (y : Action) (o : Outcome) → is_success c y o ≡ true → gives_run r n y ≡ false → opens c r n (Ended k y o m) ≡ false
  ends_open k m (Fence node) o ok h = refl
  ends_open k m (Probe leaf node) o ok h = excluded _ (is_code_among (7 ∷ 5 ∷ []) o) (probed_off o (first_passes _ false ok refl))
  ends_open k m (Operation Start leaf node interval held) o ok h = and_left _ true h
  ends_open k m (Operation Stop leaf node interval held) o ok h = refl
  ends_open k m (Operation Promote leaf node interval held) o ok h = and_left _ true h
  ends_open k m (Operation Demote leaf node interval held) o ok h = and_left _ true h
  ends_open k m (Operation Monitor leaf node interval held) o ok h = and_left _ _ (and_left _ _ h)
  ends_open k m (MigrateTo leaf source target) o ok h = refl
  ends_open k m (MigrateFrom leaf source target) o ok h = and_left _ true h

  ends_close : (k m : ℕ) (y : Action) (o : Outcome) → is_success c y o ≡ true → takes_run r n y ≡ false → closes c r n (Ended k y o m) ≡ false
  ends_close k m (Fence node) o ok h = rest_of (node == n) _ false h
  ends_close k m (Probe leaf node) o ok h = and_left _ true (and_left _ (is_code_among (7 ∷ 5 ∷ []) o) h)
  ends_close k m (Operation Start leaf node interval held) o ok h = refl
  ends_close k m (Operation Stop leaf node interval held) o ok h = and_left _ true (and_left _ (is_code_among (0 ∷ []) o) h)
  ends_close k m (Operation Promote leaf node interval held) o ok h = refl
  ends_close k m (Operation Demote leaf node interval held) o ok h = refl
  ends_close k m (Operation Monitor leaf node interval role.Started) o ok h = watched _ _ _ _ ok (started_codes o)
  ends_close k m (Operation Monitor leaf node interval role.Promoted) o ok h = watched _ _ _ _ ok (promoted_codes o)
  ends_close k m (MigrateTo leaf source target) o ok h = refl
  ends_close k m (MigrateFrom leaf source target) o ok h = refl

  takes_close : (k m : ℕ) (y : Action) (o : Outcome) → is_success c y o ≡ true → takes_run r n y ≡ true → closes c r n (Ended k y o m) ≡ true
  takes_close k m (Fence node) o ok h = taken_out (node == n) _ false h (first_passes _ false ok refl)
  takes_close k m (Probe leaf node) o ok h = shows _ _ h (probed_off o (first_passes _ false ok refl))
  takes_close k m (Operation Stop leaf node interval held) o ok h = shows _ _ h (first_passes _ false ok refl)
  takes_close k m _ o ok h = cc

  takes_give : (y : Action) → takes_run r n y ≡ true → gives_run r n y ≡ false
  takes_give (Fence node) h = refl
  takes_give (Probe leaf node) h = refl
  takes_give (Operation Stop leaf node interval held) h = refl
  takes_give _ h = cc

  -- So where it may run, event by event.
  abbrev pub IsOff : List Event → Type 0
  IsOff es = may_be_running c r n es ≡ false

  abbrev pub IsOn : List Event → Type 0
  IsOn es = may_be_running c r n es ≡ true

  pub off_begun : (es : List Event) (k : ℕ) (y : Action) → gives_run r n y ≡ false → IsOff es → IsOff (es ++ Begin k y ∷ [])
  off_begun es k y h off = may-last c r n (Begin k y) es ∙ still_shut _ _ (closes c r n (Begin k y)) (begins_open k y h) off

  pub off_done : (es : List Event) (k m : ℕ) (y : Action) (o : Outcome) → is_success c y o ≡ true → gives_run r n y ≡ false → IsOff es → IsOff (es ++ Ended k y o m ∷ [])
  off_done es k m y o ok h off = may-last c r n (Ended k y o m) es ∙ still_shut _ _ _ (ends_open k m y o ok h) off

  pub off_waited : (es : List Event) (s : ℕ) → IsOff es → IsOff (es ++ Wait s ∷ [])
  off_waited es s off = may-last c r n (Wait s) es ∙ still_shut false _ (closes c r n (Wait s)) refl off

  pub off_turned : (es : List Event) (k m : ℕ) (x : Action) (o : Outcome) → is_success c x o ≡ true → takes_run r n x ≡ true → IsOff (es ++ Ended k x o m ∷ [])
  off_turned es k m x o ok h = may-last c r n (Ended k x o m) es ∙ shut _ _ _ (ends_open k m x o ok (takes_give x h)) (takes_close k m x o ok h)

  pub on_begun : (es : List Event) (k : ℕ) (y : Action) → IsOn es → IsOn (es ++ Begin k y ∷ [])
  on_begun es k y on = may-last c r n (Begin k y) es ∙ still_open _ _ false refl on

  pub on_done : (es : List Event) (k m : ℕ) (y : Action) (o : Outcome) → is_success c y o ≡ true → takes_run r n y ≡ false → IsOn es → IsOn (es ++ Ended k y o m ∷ [])
  on_done es k m y o ok h on = may-last c r n (Ended k y o m) es ∙ still_open _ _ _ (ends_close k m y o ok h) on

  pub on_waited : (es : List Event) (s : ℕ) → IsOn es → IsOn (es ++ Wait s ∷ [])
  on_waited es s on = may-last c r n (Wait s) es ∙ still_open false _ false refl on

  -- a start, a promote or a taking in that succeeds
  pub on_turned : (es : List Event) (k m : ℕ) (x : Action) (o : Outcome) → opens c r n (Ended k x o m) ≡ true → IsOn (es ++ Ended k x o m ∷ [])
  on_turned es k m x o h = may-last c r n (Ended k x o m) es ∙ or_left _ _ h
