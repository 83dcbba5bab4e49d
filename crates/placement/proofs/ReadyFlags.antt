-- Which decisions are ready, by flags.
use Rattle.std.proofs.Common.{◌≡◌, ℕ, ◌<◌, Bool, true, false, not, ◌&&◌, ◌||◌, List, [], ◌∷◌, ◌++◌, count_by, refl, sym, ap, ◌∙◌, Contains}
use Rattle.std.specs.List.{list_all, list_any}
use Rattle.std.proofs.lemmas.Bool.{or_left}
use Rattle.lemmas.proofs.Booleans.{contrary, later, sooner}
use Rattle.lemmas.proofs.Counts.{count_one_more}
use Rattle.lemmas.proofs.Searches.{any-more, any_last, passes_by}
use Rattle.loops.proofs.Needs.{is_itself}
use Rattle.cluster_types.specs.declared.cluster.Cluster.{Cluster}
use Rattle.cluster_types.specs.declared.placement.Decision.{Decision}
use Rattle.cluster_types.specs.Decisions.{Key, is_among, is_same_decision}
use Rattle.placement.specs.Inner.Flags.{AreFlags}
use Rattle.placement.specs.Inner.Turns.{IsFirstReady, is_ready_in}
use Rattle.placement.proofs.FlagLaws.{flags-same}
use Rattle.placement.proofs.SameDecisions.{same-turned}

one-met : (n w r : Bool) → not ((n && not w) || r) ≡ ((not n || w) && not r)
one-met true true r = refl
one-met true false r = refl
one-met false w r = refl

-- no need is unmet where each is met
pub all-met : (n w : Decision → Bool) (ds : List Decision) → not (list_any (λ f. n f && not (w f)) ds) ≡ list_all (λ f. not (n f) || w f) ds
all-met n w [] = refl
all-met n w (d ∷ ds) = one-met (n d) (w d) (list_any (λ f. n f && not (w f)) ds) ∙ ap (λ b. (not (n d) || w d) && b) (all-met n w ds)

pub among-is : (ds : List Decision) (d : Decision) → Contains ds d → is_among ds d ≡ true
among-is ds d h = passes_by (is_same_decision d) ds d h (is_itself d)

-- one more was made
pub among-more : (leaves : ℕ) (made : List Decision) (d : Decision) (flags : List Bool) → AreFlags leaves (λ e. is_among made e || (true && is_same_decision d e)) flags
    → AreFlags leaves (is_among (made ++ d ∷ [])) flags
among-more leaves made d flags are =
    flags-same leaves (λ e. is_among made e || (true && is_same_decision d e)) flags are (is_among (made ++ d ∷ []))
    (λ e low. ap (λ b. is_among made e || b) (same-turned d e) ∙ sym (any-more (is_same_decision e) made d))

module _ (c : Cluster) (ds made : List Decision) where
  -- one that is ready leaves fewer that aren't made
  pub fewer-left : (key : Decision → Key) (d : Decision) → IsFirstReady (is_ready_in c ds made) key ds d
      → count_by (λ e. not (is_among (made ++ d ∷ []) e)) ds < count_by (λ e. not (is_among made e)) ds
  fewer-left key d best = at best.among
    where
      new : not (is_among made d) ≡ true
      new = later (is_among ds d) (not (is_among made d)) (sooner (is_among ds d && not (is_among made d)) _ best.ready_now)

      now : is_among (made ++ d ∷ []) d ≡ true
      now = any_last (is_same_decision d) made d (is_itself d)

      still : (e : Decision) → not (is_among (made ++ d ∷ []) e) ≡ true → not (is_among made e) ≡ true
      still e h =
          contrary (is_among made e) (is_among made e || is_same_decision e d) (or_left (is_among made e) (is_same_decision e d))
          (sym (ap not (any-more (is_same_decision e) made d)) ∙ h)

      at : Contains ds d → count_by (λ e. not (is_among (made ++ d ∷ []) e)) ds < count_by (λ e. not (is_among made e)) ds
      at (k, lt, is) = count_one_more (λ e. not (is_among (made ++ d ∷ []) e)) (λ e. not (is_among made e)) still ds k d lt is (rw now refl) new
