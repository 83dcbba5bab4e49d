-- Of a pair that stands rightly the earlier has the lower number.
use Rattle.std.proofs.Common.{arith, ◌≡◌, if◌then◌else◌, nat_lt, ℕ, Bool, true, false, List, Contains, refl}
use Rattle.lemmas.proofs.Searches.{passes_by}
use Rattle.cluster_types.specs.declared.cluster.Cluster.{Cluster}
use Rattle.cluster_types.specs.declared.journal.Action.{Action}
use Rattle.cluster_types.specs.declared.journal.Action.TheVariants.{MigrateTo}
use Rattle.cluster_types.specs.declared.leaf.Op.{Op}
use Rattle.cluster_types.specs.declared.leaf.Op.TheVariants as op
use Rattle.cluster_types.specs.Numbers.{ActionPlace, is_place_before, is_earlier, is_within_phase, link, place, action_place, rank, step_of}
use Rattle.cluster_types.specs.Precedence.{is_migrating, is_giving, sends}
use Rattle.plan_laws.proofs.Roles.{GivesTo, gives_start, gives_sent, gives_promote, TakesFrom, asks, takes_stop, takes_demote}
use Rattle.plan_laws.proofs.Words.{Earlier, first_start, first_taken_in, first_stop, first_promote, first_demote, Later, then_start, then_sent_to, then_sent_off, then_stop, then_promote, then_demote}

-- of two stops or demotes, and of two starts or promotes, the one of lower rank
pub takes_by_rank : (a b : ℕ) (r s n m i j : ℕ) → nat_lt a b ≡ true → is_place_before (place 2 a r n i) (place 2 b s m j) ≡ true
takes_by_rank a b r s n m i j h = rw h refl

pub gives_by_rank : (a b : ℕ) (r s n m i j : ℕ) → nat_lt a b ≡ true → is_place_before (place 6 a r n i) (place 6 b s m j) ≡ true
gives_by_rank a b r s n m i j h = rw h refl

module _ (c : Cluster) (actions : List Action) where
  -- what makes a pair by two words stand rightly: ranks rise where a link counts, nothing is taken after it was given, and no leaf migrates in the
  -- way of the other
  pub record Rightly (p : Op) (r : ℕ) (q : Op) (s : ℕ) : Type 0 where
    pub linked : is_within_phase (link p r q s) ≡ true → nat_lt (rank c (step_of p r)) (rank c (step_of q s)) ≡ true
    pub rising : is_giving p ≡ true → is_giving q ≡ true
    pub first_stays : is_migrating actions r ≡ true → p ≡ op.Stop → ⊥
    pub then_stays : is_migrating actions s ≡ true → is_giving p ≡ true → q ≡ op.Start → ⊥

  pub sent_is_migrating : (r s t : ℕ) → Contains actions (MigrateTo r s t) → is_migrating actions r ≡ true
  sent_is_migrating r s t k = passes_by (sends r) actions (MigrateTo r s t) k (grind arith)

  never_falls : {X : Type 0} (p q : Op) (r s : ℕ) → Rightly p r q s → is_giving p ≡ true → is_giving q ≡ false → X
  never_falls p q r s w h k = let e = w.rising h in absurd (let f : true ≡ false = cc in cc)

  -- where a stop stands
  abbrev pub stop_place : ℕ → ℕ → Bool → ActionPlace
  stop_place r n b = if b then place 5 0 r n 0 else place 2 (rank c (step_of op.Stop r)) r n 0

  -- a stop as the earlier: its leaf doesn't migrate
  after_stop : (q : Op) (y : Action) (r n s : ℕ) → Rightly op.Stop r q s → Later actions q y s → (b : Bool) → is_migrating actions r ≡ b
      → is_place_before (stop_place r n b) (action_place c actions y) ≡ true
  after_stop q y r n s w l true e = absurd (w.first_stays e refl)
  after_stop _ _ r n _ w (then_start s m i role) false e = refl
  after_stop _ _ r n _ w (then_sent_to s f t) false e = refl
  after_stop _ _ r n _ w (then_sent_off s f t) false e = refl
  after_stop _ _ r n _ w (then_stop s m i role still) false e = rw still (takes_by_rank _ _ r s n m 0 0 (w.linked refl))
  after_stop _ _ r n _ w (then_promote s m i role) false e = refl
  after_stop _ _ r n _ w (then_demote s m i role) false e = takes_by_rank _ _ r s n m 0 0 (w.linked refl)

  pub rightly_upward : (p q : Op) (x y : Action) (r s : ℕ) → Rightly p r q s → Contains actions y → Earlier p x r → Later actions q y s
      → is_earlier c actions x y ≡ true
  rightly_upward _ _ _ _ _ _ w k (first_start r n i role) (then_start s m j other) = gives_by_rank _ _ r s n m 0 0 (w.linked refl)
  rightly_upward _ _ _ _ _ _ w k (first_start r n i role) (then_sent_to s f t) = absurd (w.then_stays (sent_is_migrating s f t k) refl refl)
  rightly_upward _ _ _ _ _ _ w k (first_start r n i role) (then_sent_off s f t) = never_falls op.Start op.Stop r s w refl refl
  rightly_upward _ _ _ _ _ _ w k (first_start r n i role) (then_stop s m j other still) = never_falls op.Start op.Stop r s w refl refl
  rightly_upward _ _ _ _ _ _ w k (first_start r n i role) (then_promote s m j other) = gives_by_rank _ _ r s n m 0 0 (w.linked refl)
  rightly_upward _ _ _ _ _ _ w k (first_start r n i role) (then_demote s m j other) = never_falls op.Start op.Demote r s w refl refl
  rightly_upward _ _ _ _ _ _ w k (first_taken_in r g h) (then_start s m j other) = refl
  rightly_upward _ _ _ _ _ _ w k (first_taken_in r g h) (then_sent_to s f t) = absurd (w.then_stays (sent_is_migrating s f t k) refl refl)
  rightly_upward _ _ _ _ _ _ w k (first_taken_in r g h) (then_sent_off s f t) = never_falls op.Start op.Stop r s w refl refl
  rightly_upward _ _ _ _ _ _ w k (first_taken_in r g h) (then_stop s m j other still) = never_falls op.Start op.Stop r s w refl refl
  rightly_upward _ _ _ _ _ _ w k (first_taken_in r g h) (then_promote s m j other) = refl
  rightly_upward _ _ _ _ _ _ w k (first_taken_in r g h) (then_demote s m j other) = never_falls op.Start op.Demote r s w refl refl
  rightly_upward _ q _ y _ s w k (first_stop r n i role) l = after_stop q y r n s w l (is_migrating actions r) refl
  rightly_upward _ _ _ _ _ _ w k (first_promote r n i role) (then_start s m j other) = gives_by_rank _ _ r s n m 0 0 (w.linked refl)
  rightly_upward _ _ _ _ _ _ w k (first_promote r n i role) (then_sent_to s f t) = absurd (w.then_stays (sent_is_migrating s f t k) refl refl)
  rightly_upward _ _ _ _ _ _ w k (first_promote r n i role) (then_sent_off s f t) = never_falls op.Promote op.Stop r s w refl refl
  rightly_upward _ _ _ _ _ _ w k (first_promote r n i role) (then_stop s m j other still) = never_falls op.Promote op.Stop r s w refl refl
  rightly_upward _ _ _ _ _ _ w k (first_promote r n i role) (then_promote s m j other) = gives_by_rank _ _ r s n m 0 0 (w.linked refl)
  rightly_upward _ _ _ _ _ _ w k (first_promote r n i role) (then_demote s m j other) = never_falls op.Promote op.Demote r s w refl refl
  rightly_upward _ _ _ _ _ _ w k (first_demote r n i role) (then_start s m j other) = refl
  rightly_upward _ _ _ _ _ _ w k (first_demote r n i role) (then_sent_to s f t) = refl
  rightly_upward _ _ _ _ _ _ w k (first_demote r n i role) (then_sent_off s f t) = refl
  rightly_upward _ _ _ _ _ _ w k (first_demote r n i role) (then_stop s m j other still) = rw still (takes_by_rank _ _ r s n m 0 0 (w.linked refl))
  rightly_upward _ _ _ _ _ _ w k (first_demote r n i role) (then_promote s m j other) = refl
  rightly_upward _ _ _ _ _ _ w k (first_demote r n i role) (then_demote s m j other) = takes_by_rank _ _ r s n m 0 0 (w.linked refl)

  -- what takes a role or asks for it comes before what gives one, unless both leaves migrate
  stop_before : (y : Action) (r n s : ℕ) → GivesTo y s → Contains actions y → (is_migrating actions r ≡ true → is_migrating actions s ≡ true → ⊥)
      → (b : Bool) → is_migrating actions r ≡ b → is_place_before (stop_place r n b) (action_place c actions y) ≡ true
  stop_before _ r n _ (gives_start s m i role) k w true e = refl
  stop_before _ r n _ (gives_sent s f t) k w true e = absurd (w e (sent_is_migrating s f t k))
  stop_before _ r n _ (gives_promote s m i role) k w true e = refl
  stop_before _ r n _ (gives_start s m i role) k w false e = refl
  stop_before _ r n _ (gives_sent s f t) k w false e = refl
  stop_before _ r n _ (gives_promote s m i role) k w false e = refl

  pub takes_before_gives : (x y : Action) (r s : ℕ) → TakesFrom x r → GivesTo y s → Contains actions y
      → (is_migrating actions r ≡ true → is_migrating actions s ≡ true → ⊥) → is_earlier c actions x y ≡ true
  takes_before_gives _ _ _ _ (asks r n) (gives_start s m i role) k w = refl
  takes_before_gives _ _ _ _ (asks r n) (gives_sent s f t) k w = refl
  takes_before_gives _ _ _ _ (asks r n) (gives_promote s m i role) k w = refl
  takes_before_gives _ y _ s (takes_stop r n i role) g k w = stop_before y r n s g k w (is_migrating actions r) refl
  takes_before_gives _ _ _ _ (takes_demote r n j other) (gives_start s m i role) k w = refl
  takes_before_gives _ _ _ _ (takes_demote r n j other) (gives_sent s f t) k w = refl
  takes_before_gives _ _ _ _ (takes_demote r n j other) (gives_promote s m i role) k w = refl
