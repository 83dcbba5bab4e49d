-- Each leaf gets the reason that it has.
use Rattle.std.proofs.Common.{arith, ◌≡◌, ◌<◌, ◌==◌, ◌&&◌, not, ℕ, Bool, true, false, if◌then◌else◌, Option, Some, None, List, inl, inr, refl, sym, ◌∙◌, ap, length, map, Any}
use Rattle.std.specs.Prelude.{is_some}
use Rattle.std.specs.List.{AllByRecursion, range_with_len}
use Rattle.std.specs.Option.{option_map}
use Rattle.std.proofs.lemmas.Bool.{false_from_ne_true}
use Rattle.std.proofs.lemmas.List.Folds.{Any-from_list_any}
use Rattle.lemmas.proofs.Members.{of_range}
use Rattle.lemmas.proofs.Ranges.{some_in_range}
use Rattle.cluster_types.specs.declared.cluster.Cluster.{Cluster}
use Rattle.cluster_types.specs.declared.journal.Event.{Event}
use Rattle.cluster_types.specs.declared.leaf.Role.TheVariants as role
use Rattle.cluster_types.specs.declared.placement.Decision.TheVariants.{Place}
use Rattle.cluster_types.specs.declared.placement.NoReason.{NoReason}
use Rattle.cluster_types.specs.declared.placement.NoReason.TheVariants as none
use Rattle.cluster_types.specs.declared.placement.Pin.{Pin}
use Rattle.cluster_types.specs.declared.rules.Colocation.{Colocation}
use Rattle.cluster_types.specs.declared.rules.Order.{Order}
use Rattle.cluster_types.specs.declared.states.States.{States}
use Rattle.cluster_types.specs.Choice.{is_stopped_role}
use Rattle.cluster_types.specs.Failures.{is_fail_stopped}
use Rattle.cluster_types.specs.Fields.{copies, target_role_of}
use Rattle.cluster_types.specs.Held.{AreTargets, Held}
use Rattle.cluster_types.specs.Pins.{is_pinned, is_pinned_in, pin_of}
use Rattle.cluster_types.specs.Reasons.{HasReason, IsHeldByColocation, IsHeldByOrder, IsReason, is_chosen_nowhere, plain_reason}
use Rattle.cluster_types.specs.Rights.{may_start}
use Rattle.cluster_types.specs.Tables.{Targets, is_somewhere}
use Rattle.plan_laws.proofs.Firsts.{none_holds}
use Rattle.plan_laws.proofs.HeldReason as held_rule
use Rattle.plan_laws.proofs.MadeOnes.{never_both}
use Rattle.plan_laws.proofs.TablesWithin.{StaysWithin}
use Rattle.placement.specs.Inner.Dependencies.{of_colocation, of_order}
use Rattle.placement.specs.Inner.Reads.{is_fail_stopped_in}
use Rattle.placement.specs.Inner.Reasoning.{first_colocation, first_target_node, first_order, has_target, held_by, holds_back, id_of, or_held, plain_by, reason_by, reason_in}
use Rattle.placement.proofs.EndedCells.{ended, held_gone, rule_of}
use Rattle.placement.proofs.FirstFound.{Least, finds_none, found_first, found_least, found_none}
use Rattle.placement.proofs.HeldBack.{colocation_no, colocation_yes, order_no, order_yes}
use Rattle.cluster_types.proofs.PinnedLeaves.{pin_known}
use Rattle.placement.proofs.PlainReasons.{no_rule, some_node}

module _ (c : Cluster) (es : List Event) (chosen targets : Targets) (inside : StaysWithin c chosen) (also : StaysWithin c targets)
    (are : AreTargets c es chosen targets) (r : ℕ) where
  module _ (free : is_pinned c es r ≡ false) (nowhere : (n : ℕ) → n < length c.nodes → is_somewhere (targets r n) ≡ false) where
    as_plain : (reason : NoReason) → plain_reason c es chosen r ≡ Some reason → IsReason c es chosen r reason
    as_plain none.NoCopies h = h
    as_plain none.Stopped h = h
    as_plain none.OnFail h = h
    as_plain none.StopAll h = h
    as_plain none.NoQuorum h = h
    as_plain none.NoNode h = h
    as_plain (none.Held id) h =
        absurd (no_rule (copies c r == 0) (is_stopped_role (target_role_of c r)) (is_fail_stopped c r es) c.properties.stop_all (may_start c es)
        (is_chosen_nowhere c es chosen r) id h)

    module _ (plainly : plain_reason c es chosen r ≡ None) (n : ℕ) (first : Least (λ m. is_somewhere (chosen r m)) 0 (length c.nodes) n) where
      in_cluster : n < length c.nodes
      in_cluster = let high = first.within in omega arith

      held : Held c es chosen (Place r) n
      held = (ended c es chosen targets inside also are).held r role.Started n first.passes (nowhere n in_cluster)

      by_one : (col : Colocation) → IsHeldByColocation c es chosen r n col → holds_back (length c.nodes) targets r n (of_colocation col) ≡ true
      by_one = colocation_no c es chosen targets (ended c es chosen targets inside also are) (held_gone c es chosen targets inside also are) r n in_cluster

      by_other : (o : Order) → IsHeldByOrder c es chosen r n o → holds_back (length c.nodes) targets r n (of_order o) ≡ true
      by_other = order_no c es chosen targets (ended c es chosen targets inside also are) (held_gone c es chosen targets inside also are) r n in_cluster

      one_holds : (col : Colocation) → holds_back (length c.nodes) targets r n (of_colocation col) ≡ true → IsHeldByColocation c es chosen r n col
      one_holds = colocation_yes c es chosen targets (ended c es chosen targets inside also are) (held_gone c es chosen targets inside also are) r n in_cluster

      other_holds : (o : Order) → holds_back (length c.nodes) targets r n (of_order o) ≡ true → IsHeldByOrder c es chosen r n o
      other_holds = order_yes c es chosen targets (ended c es chosen targets inside also are) (held_gone c es chosen targets inside also are) r n in_cluster

      abbrev colocation_test : Colocation → Bool
      colocation_test col = holds_back (length c.nodes) targets r n (of_colocation col)

      abbrev order_test : Order → Bool
      order_test o = holds_back (length c.nodes) targets r n (of_order o)

      no_colocation : first_colocation (length c.nodes) targets c r n ≡ None → AllByRecursion (λ col. ¬ IsHeldByColocation c es chosen r n col) c.colocations
      no_colocation is = found_none colocation_test (IsHeldByColocation c es chosen r n) one_holds by_one c.colocations is

      no_order : first_order (length c.nodes) targets c r n ≡ None → AllByRecursion (λ o. ¬ IsHeldByOrder c es chosen r n o) c.orders
      no_order is = found_none order_test (IsHeldByOrder c es chosen r n) other_holds by_other c.orders is

      no_rule_at_all : first_colocation (length c.nodes) targets c r n ≡ None → first_order (length c.nodes) targets c r n ≡ None → ⊥
      no_rule_at_all is too = elim (rule_of c es chosen targets inside also are r n held) [
        | held_rule.a_colocation col among h ↦
            none_holds colocation_test (IsHeldByColocation c es chosen r n) one_holds by_one c.colocations col (no_colocation is) among h
        | held_rule.an_order o among h ↦
            none_holds order_test (IsHeldByOrder c es chosen r n) other_holds by_other c.orders o (no_order too) among h
      ]

      by_rule : (a : Option Colocation) → first_colocation (length c.nodes) targets c r n ≡ a → (b : Option Order)
          → first_order (length c.nodes) targets c r n ≡ b → HasReason c es chosen targets r (option_map none.Held (id_of a b))
      by_rule (Some col) is b too = (
        free,
        nowhere,
        (
          plainly,
          record {
            node = n;
            chosen = first.passes;
            earliest = λ m less. first.none_before m (omega arith) less;
            rule = inl (col, found_first colocation_test (IsHeldByColocation c es chosen r n) one_holds by_one c.colocations col is, refl);
          },
        ),
      )
      by_rule None is (Some o) too = (
        free,
        nowhere,
        (
          plainly,
          record {
            node = n;
            chosen = first.passes;
            earliest = λ m less. first.none_before m (omega arith) less;
            rule = inr (no_colocation is, (o, found_first order_test (IsHeldByOrder c es chosen r n) other_holds by_other c.orders o too, refl));
          },
        ),
      )
      by_rule None is None too = absurd (no_rule_at_all is too)

    from_node : plain_reason c es chosen r ≡ None → (o : Option ℕ) → first_target_node (length c.nodes) chosen r ≡ o
        → HasReason c es chosen targets r (held_by c (length c.nodes) targets r o)
    from_node plainly (Some n) is =
        by_rule plainly n (found_least (λ m. is_somewhere (chosen r m)) 0 (length c.nodes) n is)
        (first_colocation (length c.nodes) targets c r n) refl (first_order (length c.nodes) targets c r n) refl
    from_node plainly None is =
        let some : is_chosen_nowhere c es chosen r ≡ false
        = some_node (copies c r == 0) (is_stopped_role (target_role_of c r)) (is_fail_stopped c r es) c.properties.stop_all (may_start c es)
        (is_chosen_nowhere c es chosen r) plainly in
        let none_found : not (is_some (first_target_node (length c.nodes) chosen r)) ≡ true = ap (λ (o : Option ℕ). not (is_some o)) is in
        absurd (never_both (is_chosen_nowhere c es chosen r)
        (sym (finds_none (λ m. is_somewhere (chosen r m)) (range_with_len 0 (length c.nodes))) ∙ none_found) some)

    by_plain : (o : Option NoReason) → plain_reason c es chosen r ≡ o
        → HasReason c es chosen targets r (or_held o (held_by c (length c.nodes) targets r (first_target_node (length c.nodes) chosen r)))
    by_plain (Some reason) is = (free, nowhere, as_plain reason is)
    by_plain None is = from_node is (first_target_node (length c.nodes) chosen r) refl

  module _ (states : States) (starts : Bool) (pins : List (Option Pin)) (pinned : pins ≡ map (pin_of c es) (range_with_len 0 (length c.leaves)))
      (stopped : is_fail_stopped_in states r ≡ is_fail_stopped c r es) (rights : starts ≡ may_start c es) where
    same_plain : plain_by c r (is_fail_stopped_in states r) starts (not (is_some (first_target_node (length c.nodes) chosen r))) ≡ plain_reason c es chosen r
    same_plain =
        ap (λ (b : Bool). plain_by c r b starts (not (is_some (first_target_node (length c.nodes) chosen r)))) stopped
        ∙ ap (λ (b : Bool). plain_by c r (is_fail_stopped c r es) b (not (is_some (first_target_node (length c.nodes) chosen r)))) rights
        ∙ ap (plain_by c r (is_fail_stopped c r es) (may_start c es)) (finds_none (λ m. is_somewhere (chosen r m)) (range_with_len 0 (length c.nodes)))

    without_target : is_pinned c es r ≡ false → has_target (length c.nodes) targets r ≡ false
        → HasReason c es chosen targets r (reason_by c states starts (length c.nodes) chosen targets r)
    without_target free none_there =
        by_plain free nowhere (plain_by c r (is_fail_stopped_in states r) starts (not (is_some (first_target_node (length c.nodes) chosen r)))) (sym same_plain)
      where
        nowhere : (n : ℕ) → n < length c.nodes → is_somewhere (targets r n) ≡ false
        nowhere n lt =
            false_from_ne_true (is_somewhere (targets r n)) (λ h.
            never_both (has_target (length c.nodes) targets r)
            (some_in_range (λ m. is_somewhere (targets r m)) 0 (length c.nodes) n (omega arith) (omega arith) h) none_there)

    with_target : has_target (length c.nodes) targets r ≡ true → HasReason c es chosen targets r None
    with_target h = at (Any-from_list_any (λ n. is_somewhere (targets r n)) (range_with_len 0 (length c.nodes)) h)
      where
        at : Any (λ n. is_somewhere (targets r n) ≡ true) (range_with_len 0 (length c.nodes)) → HasReason c es chosen targets r None
        at (k, n, lt, there, h) = let low = of_range 0 (length c.nodes) n (k, lt, there) in inr (n, omega arith, h)

    pub leaf_reason : HasReason c es chosen targets r (reason_in c states starts (length c.nodes) chosen targets pins r)
    leaf_reason = go (is_pinned_in pins r) refl (has_target (length c.nodes) targets r) refl
      where
        go : (a : Bool) → is_pinned_in pins r ≡ a → (b : Bool) → has_target (length c.nodes) targets r ≡ b
            → HasReason c es chosen targets r (if not a && not b then reason_by c states starts (length c.nodes) chosen targets r else None)
        go true e b f = inl (sym (pin_known c es pins pinned r) ∙ e)
        go false e true f = with_target f
        go false e false f = without_target (sym (pin_known c es pins pinned r) ∙ e) f
