-- In a journal in order nothing may run on a node that is offline.
use Rattle.std.proofs.Common.{inl, inr, ◌⊎◌, ◌≡◌, ◌==◌, ◌&&◌, not, if◌then◌else◌, ℕ, Bool, true, false, Option, Some, None, List, [], ◌∷◌, ◌++◌, length, append-nil, refl, sym, subst, ap, ◌∙◌}
use Rattle.std.specs.List.{list_any, range_with_len}
use Rattle.std.proofs.lemmas.List.{append_assoc}
use Rattle.std.proofs.lemmas.Bool.{or_left, or_right}
use Rattle.lemmas.proofs.Booleans.{sooner, later}
use Rattle.cluster_types.specs.declared.cluster.Cluster.{Cluster}
use Rattle.cluster_types.specs.declared.journal.Action.TheVariants.{Fence, Probe, Operation, MigrateTo, MigrateFrom}
use Rattle.cluster_types.specs.declared.journal.Event.{Event}
use Rattle.cluster_types.specs.declared.journal.Event.TheVariants.{Up, Down, Lost, Quorum, Wait, Cleanup, Begin, Ended}
use Rattle.cluster_types.specs.declared.leaf.OnFail.{OnFail}
use Rattle.cluster_types.specs.declared.leaf.OnFail.TheVariants as on_fail
use Rattle.cluster_types.specs.declared.leaf.Op.TheVariants.{Start, Promote, Demote, Monitor}
use Rattle.cluster_types.specs.Failures.{failures_in_force}
use Rattle.cluster_types.specs.Journals.{NodeSign, joined, went_down, was_lost, was_fenced, Orderly, last_sign, sign_of, needs_node}
use Rattle.cluster_types.specs.May.{may_be_running, opens, closes, opens_cell}
use Rattle.cluster_types.specs.NodeStates.{is_online, is_online_state, is_unclean, has_failure_to_fence, state_by, asks_for_fence}
use Rattle.cluster_types.specs.Outcomes.{effective, is_code_among, is_fence, on_fail_of_action}
use Rattle.cluster_types.proofs.MayLaws.{may-last}
use Rattle.cluster_types.proofs.LastSigns.{signed}
use Rattle.run_safety.proofs.Each.{more, none}
use Rattle.run_safety.proofs.Signs.{still}
use Rattle.run_safety.proofs.Truths.{still_shut, shut, refuse}

-- A list seen from its end.
pub data FromEnd : List Event → Type 0 where
  empty : FromEnd []
  one_more : (es : List Event) (e : Event) → FromEnd es → FromEnd (es ++ e ∷ [])

go_on : (es : List Event) → FromEnd es → (later : List Event) → FromEnd (es ++ later)
go_on es seen [] = subst FromEnd (sym (append-nil es)) seen
go_on es seen (e ∷ later) = subst FromEnd (append_assoc es (e ∷ []) later) (go_on (es ++ e ∷ []) (one_more es e seen) later)

pub from_end : (es : List Event) → FromEnd es
from_end es = go_on [] empty es

-- the sign of a node on which nothing may run
abbrev pub is_out : Bool → Option NodeSign → Bool
is_out fencing None = true
is_out fencing (Some joined) = false
is_out fencing (Some went_down) = true
is_out fencing (Some was_lost) = not fencing
is_out fencing (Some was_fenced) = true

orderly_front : (es : List Event) (e : Event) → Orderly (es ++ e ∷ []) → Orderly es
orderly_front es e h before after d n q w = h before (after ++ e ∷ []) d n (ap (λ xs. xs ++ e ∷ []) q ∙ append_assoc before (d ∷ after) (e ∷ [])) w

-- what opens a cell wants its node, or the node joins by it
opens_wants : (r n : ℕ) (e : Event) → opens_cell r n e ≡ true → (needs_node n e ≡ true) ⊎ (sign_of n e ≡ Some joined)
opens_wants r n (Up node) h = inr (rw h refl)
opens_wants r n (Begin k (Operation Start leaf node interval role)) h = inl (later (leaf == r) (node == n) h)
opens_wants r n (Begin k (Operation Promote leaf node interval role)) h = inl (later (leaf == r) (node == n) h)
opens_wants r n (Begin k (Operation Demote leaf node interval role)) h = inl (later (leaf == r) (node == n) h)
opens_wants r n (Begin k (MigrateTo leaf source target)) h = inl (or_right (source == n) (target == n) (later (leaf == r) (target == n) h))
opens_wants r n (Begin k (MigrateFrom leaf source target)) h = inl (later (leaf == r) (target == n) h)
opens_wants r n (Ended k (Operation Start leaf node interval role) o moment) h = inl (later (leaf == r) (node == n) h)
opens_wants r n (Ended k (Operation Promote leaf node interval role) o moment) h = inl (later (leaf == r) (node == n) h)
opens_wants r n (Ended k (Operation Demote leaf node interval role) o moment) h = inl (later (leaf == r) (node == n) h)
opens_wants r n (Ended k (MigrateFrom leaf source target) o moment) h = inl (later (leaf == r) (target == n) h)
opens_wants r n (Ended k (Probe leaf node) o moment) h = inl (later (leaf == r) (node == n) (sooner _ (not (is_code_among (7 ∷ 5 ∷ []) o)) h))
opens_wants r n (Ended k (Operation Monitor leaf node interval role) o moment) h = inl (later (leaf == r) (node == n) (sooner _ (not (is_code_among (7 ∷ []) o)) h))
opens_wants r n _ h = cc

-- a sign by which a node is out closes its cells
record Closes (c : Cluster) (r n : ℕ) (e : Event) : Type 0 where
  pub closes_it : closes c r n e ≡ true
  pub opens_none : opens c r n e ≡ false

signs_close : (c : Cluster) (r n : ℕ) (e : Event) (s : NodeSign) → sign_of n e ≡ Some s → is_out c.properties.fencing (Some s) ≡ true → Closes c r n e
signs_close c r n (Up node) s h out = by (node == n) h
  where
    by : (b : Bool) → (if b then Some joined else None) ≡ Some s → Closes c r n (Up node)
    by true h = let same : s ≡ joined = cc in refuse (is_out c.properties.fencing (Some s)) (rw same refl) out
    by false h = absurd (let f : ⊥ = cc in f)
signs_close c r n (Down node) s h out = by (node == n) refl h
  where
    by : (b : Bool) → (node == n) ≡ b → (if b then Some went_down else None) ≡ Some s → Closes c r n (Down node)
    by true e h = record { closes_it = rw e refl; opens_none = refl }
    by false e h = absurd (let f : ⊥ = cc in f)
signs_close c r n (Lost node) s h out = by (node == n) refl h
  where
    by : (b : Bool) → (node == n) ≡ b → (if b then Some was_lost else None) ≡ Some s → Closes c r n (Lost node)
    by true e h =
        let same : s ≡ was_lost = cc in
        let unfenced : not c.properties.fencing ≡ true = subst (λ z. is_out c.properties.fencing (Some z) ≡ true) same out in
        record { closes_it = rw e (rw unfenced refl); opens_none = refl }
    by false e h = absurd (let f : ⊥ = cc in f)
signs_close c r n (Ended k (Fence node) o moment) s h out = by (node == n && is_code_among (0 ∷ []) o) refl h
  where
    by : (b : Bool) → (node == n && is_code_among (0 ∷ []) o) ≡ b → (if b then Some was_fenced else None) ≡ Some s → Closes c r n (Ended k (Fence node) o moment)
    by true e h = record { closes_it = or_left _ _ e; opens_none = refl }
    by false e h = absurd (let f : ⊥ = cc in f)
signs_close c r n _ s h out = absurd (let f : ⊥ = cc in f)

module _ (c : Cluster) (r n : ℕ) where
  out_closed : (es : List Event) → FromEnd es → Orderly es → is_out c.properties.fencing (last_sign n es) ≡ true → may_be_running c r n es ≡ false
  out_closed _ empty orderly out = refl
  out_closed _ (one_more es e seen) orderly out = by (sign_of n e) refl (out_closed es seen (orderly_front es e orderly))
    where
      by : (s : Option NodeSign) → sign_of n e ≡ s → (is_out c.properties.fencing (last_sign n es) ≡ true → may_be_running c r n es ≡ false) → may_be_running c r n (es ++ e ∷ []) ≡ false
      by None h before =
          let was : is_out c.properties.fencing (last_sign n es) ≡ true =
          subst (λ z. is_out c.properties.fencing z ≡ true) (still n es (e ∷ []) (more e [] h none)) out in
          may-last c r n e es ∙ still_shut (opens c r n e) (may_be_running c r n es) (closes c r n e) (unopened was (opens_cell r n e) refl) (before was)
        where
          unopened : is_out c.properties.fencing (last_sign n es) ≡ true → (b : Bool) → opens_cell r n e ≡ b → opens c r n e ≡ false
          unopened was false g = rw g refl
          unopened was true g = wanted (opens_wants r n e g)
            where
              wanted : (needs_node n e ≡ true) ⊎ (sign_of n e ≡ Some joined) → opens c r n e ≡ false
              wanted (inl w) =
                  let there = orderly es [] e n refl w in
                  refuse (is_out c.properties.fencing (last_sign n es)) (rw there refl) was
              wanted (inr j) = absurd (let f : ⊥ = cc in f)
      by (Some s) h before =
          let closing = signs_close c r n e s h (subst (λ z. is_out c.properties.fencing z ≡ true) (signed n es e s h) out) in
          may-last c r n e es ∙ shut _ _ _ closing.opens_none closing.closes_it

  pub out_closes : (es : List Event) → Orderly es → is_out c.properties.fencing (last_sign n es) ≡ true → may_be_running c r n es ≡ false
  out_closes es orderly out = out_closed es (from_end es) orderly out

-- A node that isn't online is unclean, and then the cluster has fencing, or it is out.
any_none : {X : Type 0} (p : X → Bool) → ((x : X) → p x ≡ false) → (xs : List X) → list_any p xs ≡ false
any_none p h [] = refl
any_none p h (x ∷ xs) = rw (h x) (any_none p h xs)

unfenced : (o : OnFail) → is_fence (effective false o) ≡ false
unfenced on_fail.Fence = refl
unfenced on_fail.Ignore = refl
unfenced on_fail.Restart = refl
unfenced on_fail.Stop = refl
unfenced on_fail.Block = refl

module _ (c : Cluster) (n : ℕ) (es : List Event) where
  blames_no_one : c.properties.fencing ≡ false → has_failure_to_fence c n es ≡ false
  blames_no_one off = any_none _ (λ r. any_none (asks_for_fence c) none_wants (failures_in_force c r n es)) (range_with_len 0 (length c.leaves))
    where
      none_wants : (e : Event) → asks_for_fence c e ≡ false
      none_wants (Ended k a o moment) = rw off (unfenced (on_fail_of_action c a))
      none_wants (Up node) = refl
      none_wants (Down node) = refl
      none_wants (Lost node) = refl
      none_wants (Quorum now) = refl
      none_wants (Wait s) = refl
      none_wants (Cleanup leaf node) = refl
      none_wants (Begin k a) = refl

  abbrev pub IsOut : Type 0
  IsOut = ((is_unclean c n es ≡ true) × (c.properties.fencing ≡ true)) ⊎ (is_out c.properties.fencing (last_sign n es) ≡ true)

  pub not_online : is_online c n es ≡ false → IsOut
  not_online h = by (last_sign n es) refl h
    where
      by : (s : Option NodeSign) → last_sign n es ≡ s → is_online_state (state_by c n es s) ≡ false → IsOut
      by None e h = inr (rw e refl)
      by (Some went_down) e h = inr (rw e refl)
      by (Some was_fenced) e h = inr (rw e refl)
      by (Some was_lost) e h = lost c.properties.fencing refl
        where
          lost : (f : Bool) → c.properties.fencing ≡ f → IsOut
          lost true g = inl (rw e (rw g refl), g)
          lost false g = inr (rw e (rw g refl))
      by (Some joined) e h = blamed (has_failure_to_fence c n es) refl c.properties.fencing refl
        where
          blamed : (b : Bool) → has_failure_to_fence c n es ≡ b → (f : Bool) → c.properties.fencing ≡ f → IsOut
          blamed true g true k = inl (rw e (rw g refl), k)
          blamed true g false k = refuse (has_failure_to_fence c n es) (blames_no_one k) g
          blamed false g f k = refuse (is_online_state (state_by c n es (Some joined))) h (rw g refl)
