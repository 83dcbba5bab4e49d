-- What is told as held back is held back, and a rule that is named holds it.
use Rattle.std.proofs.Common.{arith, ◌≡◌, ◌<◌, ◌&&◌, ◌||◌, ℕ, Bool, true, false, not, cond, if◌then◌else◌, Option, Some, None, List, [], ◌∷◌, length, refl, sym, subst, Contains, Any, ◌⊎◌, inl, inr}
use Rattle.std.specs.Prelude.{find, is_some, option_map}
use Rattle.std.specs.List.{range_with_len}
use Rattle.std.specs.Option.{option_or}
use Rattle.std.proofs.lemmas.Bool.{and_from, false_from_ne_true}
use Rattle.std.proofs.lemmas.List.Folds.{Any-from_list_any}
use Rattle.lemmas.proofs.Booleans.{later, sooner, unless}
use Rattle.lemmas.proofs.Members.{in_none, head_or_rest, of_range}
use Rattle.lemmas.proofs.Ranges.{some_in_range}
use Rattle.loops.proofs.FromValid.{valid_join, valid_order}
use Rattle.loops.proofs.Needs.{is_itself, placed_by, same_decision}
use Rattle.cluster_types.specs.declared.cluster.Cluster.{Cluster}
use Rattle.cluster_types.specs.declared.journal.Event.{Event}
use Rattle.cluster_types.specs.declared.leaf.Role.{Role}
use Rattle.cluster_types.specs.declared.leaf.Role.TheVariants as role
use Rattle.cluster_types.specs.declared.placement.Decision.{Decision}
use Rattle.cluster_types.specs.declared.placement.Decision.TheVariants.{Place, Promote}
use Rattle.cluster_types.specs.declared.rules.Colocation.{Colocation}
use Rattle.cluster_types.specs.declared.rules.Order.{Order}
use Rattle.cluster_types.specs.Choice.{is_dependent, is_mandatory}
use Rattle.cluster_types.specs.Decisions.{decision_of, is_same_decision}
use Rattle.cluster_types.specs.Held.{AreTargets, Held, LacksFirst, LacksPrimary, by_colocation, by_order, by_place}
use Rattle.cluster_types.specs.Precedence.{is_mandatory_order, is_giving, role_given}
use Rattle.cluster_types.specs.Reasons.{IsHeldByColocation, IsHeldByOrder}
use Rattle.cluster_types.specs.Tables.{Targets, holds_role, is_in_scope}
use Rattle.cluster_types.specs.Valid.{IsValid}
use Rattle.cluster_types.proofs.OpLaws.{of_kind, start_of}
use Rattle.cluster_types.proofs.TableCells.{promoted_somewhere}
use Rattle.plan_laws.proofs.KeptTargets as kept
use Rattle.plan_laws.proofs.MadeOnes.{never_both}
use Rattle.decision_account.specs.Holders.{has_first_left, held_decision, holder_of, is_held_role, misses_first, missed_order}
use Rattle.decision_account.specs.Verdicts.{misses_primary, missed_colocation}
use Rattle.decision_account.proofs.TrueVerdicts.{fails}

-- where one passes, one is found
some_found : {X : Type 0} (p : X → Bool) (xs : List X) (x : X) → Contains xs x → p x ≡ true → is_some (find p xs) ≡ true
some_found p [] x there h = absurd (in_none x there)
some_found {X} p (y ∷ ys) x there h = go (p y) refl (head_or_rest y ys x there) (λ rest. some_found p ys x rest h)
  where
    go : (b : Bool) → p y ≡ b → (y ≡ x) ⊎ Contains ys x → (Contains ys x → is_some (find p ys) ≡ true) → is_some (cond b (Some y) (find p ys)) ≡ true
    go true e at rest = refl
    go false e (inl same) rest = absurd (never_both (p y) (subst (λ (z : X). p z ≡ true) (sym same) h) e)
    go false e (inr there) rest = rest there

either_some : (a b : Option (List ℕ)) → is_some a || is_some b ≡ true → is_some (option_or a b) ≡ true
either_some (Some x) b h = refl
either_some None b h = h

module _ {X : Type 0} (f : X → List ℕ) where
  first_some : (a : Option X) (b : Option (List ℕ)) → is_some a ≡ true → is_some (option_or (option_map f a) b) ≡ true
  first_some (Some x) b h = refl
  first_some None b h = cc

  second_some : (a : Option (List ℕ)) (b : Option X) → is_some b ≡ true → is_some (option_or a (option_map f b)) ≡ true
  second_some (Some x) b h = refl
  second_some None (Some x) h = refl
  second_some None None h = cc

-- one decision gives one leaf one role
same_sides : (s r : ℕ) (g h : Role) → decision_of s g ≡ decision_of r h → (s ≡ r) × (g ≡ h)
same_sides s r role.Started role.Started e = (cc, refl)
same_sides s r role.Promoted role.Promoted e = (cc, refl)
same_sides s r role.Started role.Promoted e = cc
same_sides s r role.Promoted role.Started e = cc

module _ (c : Cluster) (es : List Event) (chosen targets : Targets) (valid : IsValid c) (are : AreTargets c es chosen targets) (n : ℕ) (within : n < length c.nodes) where
  -- what is held has no target in the end
  primary_gone : (col : Colocation) → Contains c.colocations col → LacksPrimary c es chosen (Held c es chosen) col n → holds_role targets col.primary col.primary_role n ≡ false
  primary_gone col present lacks =
      let ends = valid_join c valid.colocations col present in
      let keeps = are col.primary n ends.primary within in
      false_from_ne_true (holds_role targets col.primary col.primary_role n) (λ has.
      kept.free c es chosen targets col.primary n col.primary_role keeps has (lacks (kept.chosen c es chosen targets col.primary n col.primary_role keeps has)))

  first_gone : (o : Order) → Contains c.orders o → LacksFirst c es chosen (Held c es chosen) o n → has_first_left c targets o n ≡ false
  first_gone o present lacks = false_from_ne_true (has_first_left c targets o n) (λ some. at (Any-from_list_any there (range_with_len 0 (length c.nodes)) some))
    where
      there : ℕ → Bool
      there m = is_in_scope o n m && holds_role targets o.first (role_given o.first_op) m

      at : Any (λ m. is_in_scope o n m && holds_role targets o.first (role_given o.first_op) m ≡ true) (range_with_len 0 (length c.nodes)) → ⊥
      at (k, m, lt, is, h) =
          let words = valid_order c valid.orders o present in
          let low = of_range 0 (length c.nodes) m (k, lt, is) in
          let inside : m < length c.nodes = omega arith in
          let keeps = are o.first m words.first inside in
          let has = later (is_in_scope o n m) (holds_role targets o.first (role_given o.first_op) m) h in
          kept.free c es chosen targets o.first m (role_given o.first_op) keeps has
          (lacks m inside (sooner (is_in_scope o n m) (holds_role targets o.first (role_given o.first_op) m) h)
          (kept.chosen c es chosen targets o.first m (role_given o.first_op) keeps has))

  module _ (r : ℕ) where
    pub colocation_yes : (col : Colocation) → Contains c.colocations col → misses_primary targets (Place r) n col ≡ true → IsHeldByColocation c es chosen r n col
    colocation_yes col present h =
        let ends = valid_join c valid.colocations col present in
        let two = sooner (is_mandatory col && is_dependent (Place r) col) (not (holds_role targets col.primary col.primary_role n)) h in
        let gone = fails (holds_role targets col.primary col.primary_role n)
        (later (is_mandatory col && is_dependent (Place r) col) (not (holds_role targets col.primary col.primary_role n)) h) in
        record {
          mandatory = sooner (is_mandatory col) (is_dependent (Place r) col) two;
          dependent = later (is_mandatory col) (is_dependent (Place r) col) two;
          lacking = λ was. kept.back c es chosen targets col.primary n col.primary_role (are col.primary n ends.primary within) was gone;
        }

    pub colocation_no : (col : Colocation) → Contains c.colocations col → IsHeldByColocation c es chosen r n col → misses_primary targets (Place r) n col ≡ true
    colocation_no col present h = rw (h.mandatory, h.dependent, primary_gone col present h.lacking) refl

    pub order_yes : (o : Order) → Contains c.orders o → misses_first c targets (Place r) n o ≡ true → IsHeldByOrder c es chosen r n o
    order_yes o present h =
        let words = valid_order c valid.orders o present in
        let its = is_same_decision (Place r) (decision_of o.then_leaf (role_given o.then_op)) in
        let gone = fails (has_first_left c targets o n) (later (is_mandatory_order o.kind && is_giving o.first_op && is_giving o.then_op && its) (not (has_first_left c targets o n)) h) in
        let four = sooner (is_mandatory_order o.kind && is_giving o.first_op && is_giving o.then_op && its) (not (has_first_left c targets o n)) h in
        let three = sooner (is_mandatory_order o.kind && is_giving o.first_op && is_giving o.then_op) its four in
        let two = sooner (is_mandatory_order o.kind && is_giving o.first_op) (is_giving o.then_op) three in
        let same : Place r ≡ decision_of o.then_leaf (role_given o.then_op)
        = same_decision (Place r) (decision_of o.then_leaf (role_given o.then_op)) (later (is_mandatory_order o.kind && is_giving o.first_op && is_giving o.then_op) its four) in
        let (leaf, starts) = placed_by r o.then_leaf (role_given o.then_op) same in
        record {
          mandatory = of_kind o.kind (sooner (is_mandatory_order o.kind) (is_giving o.first_op) two);
          later = leaf;
          starts = start_of o.then_op (later (is_mandatory_order o.kind && is_giving o.first_op) (is_giving o.then_op) three) starts;
          first_gives = later (is_mandatory_order o.kind) (is_giving o.first_op) two;
          lacking = λ m low scope was.
              kept.back c es chosen targets o.first m (role_given o.first_op) (are o.first m words.first low) was
              (false_from_ne_true (holds_role targets o.first (role_given o.first_op) m) (λ has.
              never_both (has_first_left c targets o n)
              (some_in_range (λ m. is_in_scope o n m && holds_role targets o.first (role_given o.first_op) m) 0 (length c.nodes) m (omega arith) (omega (arith, low))
              (and_from (is_in_scope o n m) (holds_role targets o.first (role_given o.first_op) m) scope has)) gone));
        }

    pub order_no : (o : Order) → Contains c.orders o → IsHeldByOrder c es chosen r n o → misses_first c targets (Place r) n o ≡ true
    order_no o present h =
        let kind_is : is_mandatory_order o.kind ≡ true = rw h.mandatory refl in
        let other : is_giving o.then_op ≡ true = rw h.starts refl in
        let role_is : role_given o.then_op ≡ role.Started = rw h.starts refl in
        let same : is_same_decision (Place r) (decision_of o.then_leaf (role_given o.then_op)) ≡ true = rw (role_is, h.later) (is_itself (Place r)) in
        rw (kind_is, h.first_gives, other, same, first_gone o present h.lacking) refl

  -- a decision that is held by no place is held by a rule, which is found
  some_holder : (d e : Decision) → e ≡ d → Held c es chosen e n → ((s : ℕ) → Promote s ≡ d → Held c es chosen (Place s) n → ⊥)
      → is_some (holder_of c targets d n) ≡ true
  some_holder d _ same (by_order o _ may lacks) by_no_place =
      let kind_is : is_mandatory_order o.kind ≡ true = rw may.mandatory refl in
      let its : is_same_decision d (decision_of o.then_leaf (role_given o.then_op)) ≡ true = rw (← same) (is_itself (decision_of o.then_leaf (role_given o.then_op))) in
      let passes : misses_first c targets d n o ≡ true = rw (kind_is, may.first_gives, may.then_gives, its, first_gone o may.present (λ m low scope was. lacks m low scope was)) refl in
      second_some (λ (o : Order). o.id) (option_map (λ (col : Colocation). col.id) (missed_colocation c targets d n)) (missed_order c targets d n)
      (some_found (misses_first c targets d n) c.orders o may.present passes)
  some_holder d _ same (by_colocation col _ may lacks) by_no_place =
      let its : is_dependent d col ≡ true = rw (← same) (is_itself (decision_of col.dependent col.dependent_role)) in
      let passes : misses_primary targets d n col ≡ true = rw (may.mandatory, its, primary_gone col may.present (λ was. lacks was)) refl in
      first_some (λ (col : Colocation). col.id) (missed_colocation c targets d n) (option_map (λ (o : Order). o.id) (missed_order c targets d n))
      (some_found (misses_primary targets d n) c.colocations col may.present passes)
  some_holder d _ same (by_place s _ promoted held) by_no_place = absurd (by_no_place s same held)

  module _ (r : ℕ) (low : r < length c.leaves) where
    is_back : (given : Role) → is_held_role chosen targets r given n ≡ true → Held c es chosen (decision_of r given) n
    is_back given h =
        kept.back c es chosen targets r n given (are r n low within) (sooner (holds_role chosen r given n) (not (holds_role targets r given n)) h)
        (fails (holds_role targets r given n) (later (holds_role chosen r given n) (not (holds_role targets r given n)) h))

    pub is_held : (d : Decision) → held_decision chosen targets r n ≡ Some d → Held c es chosen d n
    is_held d h = go (is_held_role chosen targets r role.Started n) refl (is_held_role chosen targets r role.Promoted n) refl h
      where
        go : (a : Bool) → is_held_role chosen targets r role.Started n ≡ a → (b : Bool) → is_held_role chosen targets r role.Promoted n ≡ b
            → (if a then Some (Place r) else (if b then Some (Promote r) else None)) ≡ Some d → Held c es chosen d n
        go true e b f h = let same : Place r ≡ d = cc in subst (λ (x : Decision). Held c es chosen x n) same (is_back role.Started e)
        go false e true f h = let same : Promote r ≡ d = cc in subst (λ (x : Decision). Held c es chosen x n) same (is_back role.Promoted f)
        go false e false f h = cc

    pub has_holder : (d : Decision) → held_decision chosen targets r n ≡ Some d → is_some (holder_of c targets d n) ≡ true
    has_holder d h = some_holder d d refl (is_held d h) (λ s same held. go s same held (is_held_role chosen targets r role.Started n) refl (is_held_role chosen targets r role.Promoted n) refl h)
      where
        go : (s : ℕ) → Promote s ≡ d → Held c es chosen (Place s) n → (a : Bool) → is_held_role chosen targets r role.Started n ≡ a
            → (b : Bool) → is_held_role chosen targets r role.Promoted n ≡ b → (if a then Some (Place r) else (if b then Some (Promote r) else None)) ≡ Some d → ⊥
        go s same held true e b f h = let wrong : Place r ≡ Promote s = cc in cc
        go s same held false e false f h = cc
        go s same held false e true f h =
            let is : r ≡ s = cc in
            let was = sooner (holds_role chosen r role.Promoted n) (not (holds_role targets r role.Promoted n)) f in
            let has = unless (holds_role chosen r role.Started n) (holds_role targets r role.Started n) (promoted_somewhere (chosen r n) was) e in
            kept.free c es chosen targets r n role.Started (are r n low within) has (subst (λ (x : ℕ). Held c es chosen (Place x) n) (sym is) held)

    -- and all that is held back is told
    was_chosen : (given : Role) (e : Decision) → e ≡ decision_of r given → Held c es chosen e n → holds_role chosen r given n ≡ true
    was_chosen given _ same (by_order o _ may lacks) =
        let (leaf, its) = same_sides o.then_leaf r (role_given o.then_op) given same in
        subst (λ (x : ℕ). holds_role chosen x given n ≡ true) leaf (subst (λ (g : Role). holds_role chosen o.then_leaf g n ≡ true) its may.chosen)
    was_chosen given _ same (by_colocation col _ may lacks) =
        let (leaf, its) = same_sides col.dependent r col.dependent_role given same in
        subst (λ (x : ℕ). holds_role chosen x given n ≡ true) leaf (subst (λ (g : Role). holds_role chosen col.dependent g n ≡ true) its may.chosen)
    was_chosen given _ same (by_place s _ promoted held) =
        let (leaf, its) = same_sides s r role.Promoted given same in
        subst (λ (x : ℕ). holds_role chosen x given n ≡ true) leaf (subst (λ (g : Role). holds_role chosen s g n ≡ true) its promoted)

    is_told : (given : Role) → Held c es chosen (decision_of r given) n → is_held_role chosen targets r given n ≡ true
    is_told given held =
        let gone = false_from_ne_true (holds_role targets r given n) (λ has. kept.free c es chosen targets r n given (are r n low within) has held) in
        and_from (holds_role chosen r given n) (not (holds_role targets r given n)) (was_chosen given (decision_of r given) refl held) (rw gone refl)

    pub told_place : Held c es chosen (Place r) n → held_decision chosen targets r n ≡ Some (Place r)
    told_place held = rw (is_told role.Started held) refl

    pub told_promote : Held c es chosen (Promote r) n → (Held c es chosen (Place r) n → ⊥) → held_decision chosen targets r n ≡ Some (Promote r)
    told_promote held free =
        let not_place = false_from_ne_true (is_held_role chosen targets r role.Started n) (λ h. free (is_back role.Started h)) in
        rw (not_place, is_told role.Promoted held) refl
