-- How one more event changes where a leaf may run and be promoted, and that it may run where it may be promoted.
use Rattle.std.proofs.Common.{◌≡◌, ℕ, Bool, true, false, not, ◌&&◌, ◌||◌, ◌==◌, List, [], ◌∷◌, ◌++◌, refl, arith}
use Rattle.std.specs.List.{list_all}
use Rattle.lemmas.proofs.Booleans.{later, both, one_of, contrary}
use Rattle.cluster_types.specs.declared.cluster.Cluster.{Cluster}
use Rattle.cluster_types.specs.declared.journal.Action.TheVariants.{Probe, Operation}
use Rattle.cluster_types.specs.declared.journal.Event.{Event}
use Rattle.cluster_types.specs.declared.journal.Event.TheVariants.{Up, Begin, Ended}
use Rattle.cluster_types.specs.declared.journal.Outcome.{Outcome}
use Rattle.cluster_types.specs.declared.journal.Outcome.TheVariants.{Code, TimedOut, Gone}
use Rattle.cluster_types.specs.declared.leaf.Op.TheVariants.{Stop, Promote, Monitor}
use Rattle.cluster_types.specs.Outcomes.{is_code_among}
use Rattle.cluster_types.specs.Fields.{is_promotable}
use Rattle.cluster_types.specs.May.{opens_cell, promotes_cell, closes_cell, demotes_cell, opens, opens_promoted, closes, closes_promoted, shows_nothing, takes_out, may_be_running, may_be_promoted, is_left_promoted}

-- an exit code of a promoted copy is none of a stopped one
not_stopped : (o : Outcome) → is_code_among (8 ∷ 9 ∷ 191 ∷ []) o ≡ true → not (is_code_among (7 ∷ 5 ∷ []) o) ≡ true
not_stopped (Code code) h = grind arith
not_stopped TimedOut h = cc
not_stopped Gone h = cc

-- and what shows that a leaf doesn't run shows that it isn't promoted
stopped_probe : (o : Outcome) → is_code_among (7 ∷ 5 ∷ []) o ≡ true → is_code_among (0 ∷ 190 ∷ 7 ∷ 5 ∷ []) o ≡ true
stopped_probe (Code code) h = grind arith
stopped_probe TimedOut h = cc
stopped_probe Gone h = cc

stopped_monitor : (o : Outcome) → is_code_among (7 ∷ []) o ≡ true → is_code_among (0 ∷ 190 ∷ 7 ∷ []) o ≡ true
stopped_monitor (Code code) h = grind arith
stopped_monitor TimedOut h = cc
stopped_monitor Gone h = cc

not_stopped_monitor : (o : Outcome) → is_code_among (8 ∷ 9 ∷ 191 ∷ []) o ≡ true → not (is_code_among (7 ∷ []) o) ≡ true
not_stopped_monitor (Code code) h = grind arith
not_stopped_monitor TimedOut h = cc
not_stopped_monitor Gone h = cc

-- event by event: what promotes opens
promotes_opens : (r n : ℕ) (e : Event) → promotes_cell r n e ≡ true → opens_cell r n e ≡ true
promotes_opens r n (Up node) h = h
promotes_opens r n (Begin k (Operation Promote leaf node interval role)) h = h
promotes_opens r n (Ended k (Operation Promote leaf node interval role) o moment) h = h
promotes_opens r n (Ended k (Probe leaf node) o moment) h = both (leaf == r && node == n) (leaf == r && node == n) _ _ (λ k. k) (not_stopped o) h
promotes_opens r n (Ended k (Operation Monitor leaf node interval role) o moment) h = both (leaf == r && node == n) (leaf == r && node == n) _ _ (λ k. k) (not_stopped_monitor o) h
promotes_opens r n _ h = cc

-- and what closes demotes
closes_demotes : (r n : ℕ) (e : Event) → closes_cell r n e ≡ true → demotes_cell r n e ≡ true
closes_demotes r n (Ended k (Operation Stop leaf node interval role) o moment) h = h
closes_demotes r n (Ended k (Probe leaf node) o moment) h = both (leaf == r && node == n) (leaf == r && node == n) _ _ (λ k. k) (stopped_probe o) h
closes_demotes r n (Ended k (Operation Monitor leaf node interval role) o moment) h = both (leaf == r && node == n) (leaf == r && node == n) _ _ (λ k. k) (stopped_monitor o) h
closes_demotes r n _ h = cc

all_kept : {X : Type 0} (p q : X → Bool) (xs : List X) → ((x : X) → p x ≡ true → q x ≡ true) → list_all p xs ≡ true → list_all q xs ≡ true
all_kept p q [] f h = refl
all_kept p q (x ∷ xs) f h = both (p x) (q x) (list_all p xs) (list_all q xs) (f x) (all_kept p q xs f) h

module _ (c : Cluster) (r n : ℕ) where
  opened : (e : Event) → opens_promoted c r n e ≡ true → opens c r n e ≡ true
  opened e h = both (promotes_cell r n e) (opens_cell r n e) (not (shows_nothing c e)) (not (shows_nothing c e)) (promotes_opens r n e) (λ k. k) h

  closed : (e : Event) → closes c r n e ≡ true → closes_promoted c r n e ≡ true
  closed e h =
      one_of (takes_out c.properties.fencing n e) (takes_out c.properties.fencing n e) (closes_cell r n e && not (shows_nothing c e))
      (demotes_cell r n e && not (shows_nothing c e)) (λ k. k)
      (both (closes_cell r n e) (demotes_cell r n e) (not (shows_nothing c e)) (not (shows_nothing c e)) (closes_demotes r n e) (λ k. k)) h

  still_open : (e : Event) → not (closes_promoted c r n e) ≡ true → not (closes c r n e) ≡ true
  still_open e h = contrary (closes c r n e) (closes_promoted c r n e) (closed e) h

  left_open : (es : List Event) → list_all (λ e. not (closes_promoted c r n e)) es ≡ true → list_all (λ e. not (closes c r n e)) es ≡ true
  left_open es h = all_kept (λ e. not (closes_promoted c r n e)) (λ e. not (closes c r n e)) es still_open h

  left_running : (es : List Event) → is_left_promoted c r n es ≡ true → may_be_running c r n es ≡ true
  left_running [] h = h
  left_running (e ∷ es) h =
      one_of (opens_promoted c r n e && list_all (λ k. not (closes_promoted c r n k)) es) (opens c r n e && list_all (λ k. not (closes c r n k)) es)
      (is_left_promoted c r n es) (may_be_running c r n es)
      (both (opens_promoted c r n e) (opens c r n e) (list_all (λ k. not (closes_promoted c r n k)) es) (list_all (λ k. not (closes c r n k)) es)
      (opened e) (left_open es))
      (left_running es) h

  -- where a leaf may be promoted, it may run
  pub may-promoted : (es : List Event) → may_be_promoted c r n es ≡ true → may_be_running c r n es ≡ true
  may-promoted es h = left_running es (later (is_promotable c r) (is_left_promoted c r n es) h)

-- one more event at the end of a journal: what it opens is open, and what it closes no longer is
none_after : (a y : Bool) → a && true || false ≡ a || false && y
none_after true y = refl
none_after false y = refl

one_more : (a l m o y : Bool) → a && (l && y) || (o || m && y) ≡ o || (a && l || m) && y
one_more true true m true true = refl
one_more true true m true false = refl
one_more true true m false true = refl
one_more true true true false false = refl
one_more true true false false false = refl
one_more true false m o y = refl
one_more false l m o y = refl

kept_to_the_end : {X : Type 0} (p : X → Bool) (xs : List X) (x : X) → list_all p (xs ++ x ∷ []) ≡ list_all p xs && p x
kept_to_the_end p [] x = alone (p x)
  where
    alone : (b : Bool) → b && true ≡ true && b
    alone true = refl
    alone false = refl
kept_to_the_end p (y ∷ xs) x = join (p y) (list_all p xs) (p x) (list_all p (xs ++ x ∷ [])) (kept_to_the_end p xs x)
  where
    join : (a b c d : Bool) → d ≡ b && c → a && d ≡ (a && b) && c
    join true b c d h = h
    join false b c d h = refl

further : (a l m o y later rest : Bool) → later ≡ l && y → rest ≡ o || m && y → a && later || rest ≡ o || (a && l || m) && y
further a l m o y later rest h k = let g = one_more a l m o y in cc

module _ (c : Cluster) (r n : ℕ) (e : Event) where
  pub may-last : (es : List Event) → may_be_running c r n (es ++ e ∷ []) ≡ opens c r n e || may_be_running c r n es && not (closes c r n e)
  may-last [] = none_after (opens c r n e) (not (closes c r n e))
  may-last (d ∷ es) =
      further (opens c r n d) (list_all (λ k. not (closes c r n k)) es) (may_be_running c r n es) (opens c r n e) (not (closes c r n e))
      (list_all (λ k. not (closes c r n k)) (es ++ e ∷ [])) (may_be_running c r n (es ++ e ∷ [])) (kept_to_the_end (λ k. not (closes c r n k)) es e) (may-last es)

  pub promoted-last : (es : List Event)
      → is_left_promoted c r n (es ++ e ∷ []) ≡ opens_promoted c r n e || is_left_promoted c r n es && not (closes_promoted c r n e)
  promoted-last [] = none_after (opens_promoted c r n e) (not (closes_promoted c r n e))
  promoted-last (d ∷ es) =
      further (opens_promoted c r n d) (list_all (λ k. not (closes_promoted c r n k)) es) (is_left_promoted c r n es) (opens_promoted c r n e)
      (not (closes_promoted c r n e)) (list_all (λ k. not (closes_promoted c r n k)) (es ++ e ∷ [])) (is_left_promoted c r n (es ++ e ∷ []))
      (kept_to_the_end (λ k. not (closes_promoted c r n k)) es e) (promoted-last es)
