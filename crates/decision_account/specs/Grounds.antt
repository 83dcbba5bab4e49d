-- What is true where a verdict is given, and where a rule is named (follows from the definitions of which nodes a decision chooses).
use Rattle.std.specs.Prelude.{◌≡◌, ◌≢◌, ℕ, ◌<◌, ◌||◌, true, false, pos, int_lt, nat_lt, List, length, Contains}
use Rattle.std.specs.Ordering.{int_eq}
use Rattle.cluster_types.specs.declared.cluster.Cluster.{Cluster}
use Rattle.cluster_types.specs.declared.journal.Event.{Event}
use Rattle.cluster_types.specs.declared.journal.Promotion.{Promotion}
use Rattle.cluster_types.specs.declared.placement.Decision.{Decision}
use Rattle.cluster_types.specs.Choice.{cap_of, is_candidate, is_chosen, is_better, is_dependent, is_mandatory, is_permitted, is_placed_for, is_separation, total_on, would_join_dependent, would_join_primary}
use Rattle.cluster_types.specs.NodeStates.{is_usable}
use Rattle.cluster_types.specs.Tables.{Targets, holds_role, load_of}
use Rattle.decision_account.specs.Verdicts.{Verdict, beside, below, capped, chosen, forbidden, fuller, later, less, unplaced, unusable, without}

module _ (c : Cluster) (es : List Event) (promotions : List Promotion) (table : Targets) (d : Decision) (n : ℕ) where
  -- the node is a candidate that isn't chosen, and m goes before it: the last that is chosen, since each other that is goes before m
  pub record IsPassedBy (m : ℕ) : Type 0 where
    pub candidate : is_candidate c es promotions table d n ≡ true
    pub not_chosen : is_chosen c es promotions table d n ≡ false
    pub within : m < length c.nodes
    pub chosen_there : is_chosen c es promotions table d m ≡ true
    pub before : is_better c es promotions table d m n ≡ true
    pub last : (k : ℕ) → k < length c.nodes → is_chosen c es promotions table d k ≡ true → k ≢ m → is_better c es promotions table d k m ≡ true

  -- what each verdict says of the node
  abbrev pub IsTrueVerdict : Verdict → Type 0
  IsTrueVerdict chosen = is_chosen c es promotions table d n ≡ true
  IsTrueVerdict unusable = is_usable c n es ≡ false
  IsTrueVerdict forbidden = is_permitted c es d n ≡ false
  IsTrueVerdict below = int_lt (total_on c es promotions table d n) (pos 0) ≡ true
  IsTrueVerdict (without col) =
      Contains c.colocations col × (is_mandatory col ≡ true) × (is_dependent d col ≡ true) × (holds_role table col.primary col.primary_role n ≡ false)
  IsTrueVerdict (beside col) =
      Contains c.colocations col × (is_separation col ≡ true) × (would_join_primary table d n col || would_join_dependent table d n col ≡ true)
  IsTrueVerdict unplaced = is_placed_for table d n ≡ false
  IsTrueVerdict capped = (is_candidate c es promotions table d n ≡ true) × (cap_of c es d ≡ 0)
  IsTrueVerdict (less m) = IsPassedBy m × (int_lt (total_on c es promotions table d n) (total_on c es promotions table d m) ≡ true)
  IsTrueVerdict (fuller m) =
      IsPassedBy m × (int_eq (total_on c es promotions table d m) (total_on c es promotions table d n) ≡ true)
      × (nat_lt (load_of c table m) (load_of c table n) ≡ true)
  IsTrueVerdict (later m) =
      IsPassedBy m × (int_eq (total_on c es promotions table d m) (total_on c es promotions table d n) ≡ true)
      × (load_of c table m ≡ load_of c table n) × (m < n)
