-- Chains of so many needs at most, by their first need and by their last.
use Rattle.std.proofs.Common.{◌≡◌, ◌&&◌, ◌||◌, ℕ, suc, zero, Bool, true, false, List, refl, subst, Contains, Any}
use Rattle.std.proofs.lemmas.Bool.{and_from, or_left, or_right}
use Rattle.std.proofs.lemmas.List.Folds.{Any-from_list_any}
use Rattle.lemmas.proofs.Booleans.{later, one_of, sooner}
use Rattle.lemmas.proofs.Searches.{passes_by}
use Rattle.loops.proofs.Needs.{is_itself, same_decision}
use Rattle.cluster_types.specs.declared.cluster.Cluster.{Cluster}
use Rattle.cluster_types.specs.declared.placement.Decision.{Decision}
use Rattle.cluster_types.specs.Decisions.{is_same_decision, needs}
use Rattle.placement.specs.Inner.Lending.{needs_within}

module _ (c : Cluster) (ds : List Decision) where
  -- e needs d through a first need
  pub record FirstNeed (n : ℕ) (e d : Decision) : Type 0 where
    pub via : Decision
    pub among : Contains ds via
    pub wanted : needs c e via ≡ true
    pub on : is_same_decision via d || needs_within c ds n via d ≡ true

  pub first_need : (n : ℕ) (e d : Decision) → needs_within c ds (suc n) e d ≡ true → FirstNeed n e d
  first_need n e d h = at (Any-from_list_any (λ f. needs c e f && (is_same_decision f d || needs_within c ds n f d)) ds h)
    where
      at : Any (λ f. needs c e f && (is_same_decision f d || needs_within c ds n f d) ≡ true) ds → FirstNeed n e d
      at (k, f, lt, is, g) = record { via = f; among = (k, lt, is); wanted = sooner (needs c e f) _ g; on = later (needs c e f) _ g }

  pub by_first : (n : ℕ) (e f d : Decision) → Contains ds f → needs c e f ≡ true → is_same_decision f d || needs_within c ds n f d ≡ true
      → needs_within c ds (suc n) e d ≡ true
  by_first n e f d there wants on =
      passes_by (λ g. needs c e g && (is_same_decision g d || needs_within c ds n g d)) ds f there (and_from (needs c e f) _ wants on)

  -- a chain may be longer
  pub more_needs : (n : ℕ) (e d : Decision) → needs_within c ds n e d ≡ true → needs_within c ds (suc n) e d ≡ true
  more_needs zero e d h = cc
  more_needs (suc n) e d h =
      let f : FirstNeed n e d = first_need n e d h in
      by_first (suc n) e f.via d f.among f.wanted (one_of (is_same_decision f.via d) (is_same_decision f.via d) (needs_within c ds n f.via d) (needs_within c ds (suc n) f.via d) (λ same. same) (more_needs n f.via d) f.on)

  -- d is what a decision needs that is e, or that e needs through one need less
  pub record LastNeed (n : ℕ) (e d : Decision) : Type 0 where
    pub via : Decision
    pub among : Contains ds via
    pub wanted : needs c via d ≡ true
    pub reached : is_same_decision e via || needs_within c ds n e via ≡ true

  first_is_last : (n : ℕ) (e d : Decision) → Contains ds e → (w : FirstNeed n e d) → (same : Bool) → is_same_decision w.via d ≡ same
      → same || needs_within c ds n w.via d ≡ true → (needs_within c ds n w.via d ≡ true → LastNeed n e d) → LastNeed n e d
  first_is_last n e d there w true is h next = record {
    via = e;
    among = there;
    wanted = subst (λ x. needs c e x ≡ true) (same_decision w.via d is) w.wanted;
    reached = or_left (is_same_decision e e) _ (is_itself e);
  }
  first_is_last n e d there w false is h next = next h

  pub last_need : (n : ℕ) (e d : Decision) → Contains ds e → needs_within c ds (suc n) e d ≡ true → LastNeed n e d
  last_need zero e d there h =
      let w : FirstNeed zero e d = first_need zero e d h in
      first_is_last zero e d there w (is_same_decision w.via d) refl w.on (λ (g : false ≡ true). cc)
  last_need (suc n) e d there h =
      let w : FirstNeed (suc n) e d = first_need (suc n) e d h in
      first_is_last (suc n) e d there w (is_same_decision w.via d) refl w.on (λ g.
      let l : LastNeed n w.via d = last_need n w.via d w.among g in
      record {
        via = l.via;
        among = l.among;
        wanted = l.wanted;
        reached = or_right (is_same_decision e l.via) _ (by_first n e w.via l.via w.among w.wanted l.reached);
      })
