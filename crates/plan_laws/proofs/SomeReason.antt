-- Each leaf has its reason, or needs none: it is pinned or has a target, or a plain reason holds, or its earliest chosen cell is held, by a rule.
use Rattle.std.proofs.Common.{arith, ◌≡◌, ◌<◌, ◌==◌, not, ℕ, Bool, true, false, if◌then◌else◌, Option, Some, None, List, inl, inr, refl, length, Any}
use Rattle.std.specs.List.{list_any, range_with_len}
use Rattle.std.proofs.lemmas.List.Folds.{Any-from_list_any}
use Rattle.std.proofs.lemmas.Bool.{false_from_ne_true, not-false}
use Rattle.lemmas.proofs.Searches.{passes_by}
use Rattle.lemmas.proofs.Members.{in_range, of_range}
use Rattle.cluster_types.specs.declared.cluster.Cluster.{Cluster}
use Rattle.cluster_types.specs.declared.journal.Event.{Event}
use Rattle.cluster_types.specs.declared.placement.Decision.{Decision}
use Rattle.cluster_types.specs.declared.placement.Decision.TheVariants.{Place}
use Rattle.cluster_types.specs.declared.placement.NoReason.{NoReason}
use Rattle.cluster_types.specs.declared.placement.NoReason.TheVariants as none
use Rattle.cluster_types.specs.declared.placement.Target.{Target}
use Rattle.cluster_types.specs.declared.placement.Target.TheVariants as target
use Rattle.cluster_types.specs.Choice.{is_stopped_role}
use Rattle.cluster_types.specs.Failures.{is_fail_stopped}
use Rattle.cluster_types.specs.Fields.{copies, target_role_of}
use Rattle.cluster_types.specs.Held.{AreTargets, Held, IsFinalTarget}
use Rattle.cluster_types.specs.Pins.{is_pinned}
use Rattle.cluster_types.specs.Reasons.{HasReason, is_chosen_nowhere, plain_reason}
use Rattle.cluster_types.specs.Rights.{may_start}
use Rattle.cluster_types.specs.Tables.{Targets, is_somewhere}
use Rattle.plan_laws.specs.Inner.HeldMarks.{MarkedDecisions}
use Rattle.plan_laws.proofs.Firsts.{LeastOf, least_of}
use Rattle.plan_laws.proofs.HeldReason.{FirstRule, first_rule}
use Rattle.plan_laws.proofs.MadeOnes.{never_both}
use Rattle.plan_laws.proofs.SomeReady.{Fails, some_fails}

is_nowhere : (t : Target) → is_somewhere t ≡ false → t ≡ target.Nowhere
is_nowhere target.Nowhere h = refl
is_nowhere target.Started h = cc
is_nowhere target.Promoted h = cc

module _ (c : Cluster) (es : List Event) (table targets : Targets) (are : AreTargets c es table targets) (marks : MarkedDecisions)
    (sound : (d : Decision) (n : ℕ) → marks d n ≡ true → Held c es table d n) (marked : (d : Decision) (n : ℕ) → Held c es table d n → marks d n ≡ true)
    (r : ℕ) (low : r < length c.leaves) where
  -- no plain reason is a rule's
  data Plain : Option NoReason → Type 0 where
    no_plain : is_chosen_nowhere c es table r ≡ false → Plain None
    no_copies : Plain (Some none.NoCopies)
    stopped : Plain (Some none.Stopped)
    on_fail : Plain (Some none.OnFail)
    stop_all : Plain (Some none.StopAll)
    no_quorum : Plain (Some none.NoQuorum)
    no_node : Plain (Some none.NoNode)

  plain : Plain (plain_reason c es table r)
  plain =
      go (copies c r == 0) (is_stopped_role (target_role_of c r)) (is_fail_stopped c r es) c.properties.stop_all (may_start c es) (is_chosen_nowhere c es table r) refl
    where
      go : (a b d e f g : Bool) → is_chosen_nowhere c es table r ≡ g
          → Plain (if a then Some none.NoCopies
          else (if b then Some none.Stopped
          else (if d then Some none.OnFail
          else (if e then Some none.StopAll
          else (if not f then Some none.NoQuorum
          else (if g then Some none.NoNode else None))))))
      go true b d e f g l = no_copies
      go false true d e f g l = stopped
      go false false true e f g l = on_fail
      go false false false true f g l = stop_all
      go false false false false false g l = no_quorum
      go false false false false true true l = no_node
      go false false false false true false l = no_plain l

  -- a reason, as it is asked of a placement
  pub record SomeReason : Type 0 where
    pub reason : Option NoReason
    pub holds : HasReason c es table targets r reason

  module _ (free : is_pinned c es r ≡ false) (nowhere : (n : ℕ) → n < length c.nodes → is_somewhere (targets r n) ≡ false) where
    -- the earliest node that was chosen
    pub record Earliest : Type 0 where
      pub node : ℕ
      pub within : node < length c.nodes
      pub chosen : is_somewhere (table r node) ≡ true
      pub none_before : (m : ℕ) → m < node → is_somewhere (table r m) ≡ false

    earliest : is_chosen_nowhere c es table r ≡ false → Earliest
    earliest e = at (some_fails (λ n. not (is_somewhere (table r n))) (range_with_len 0 (length c.nodes)) e)
      where
        at : Fails (λ n. not (is_somewhere (table r n))) (range_with_len 0 (length c.nodes)) → Earliest
        at f =
            let l : LeastOf (λ n. is_somewhere (table r n)) f.one = least_of (λ n. is_somewhere (table r n)) f.one (not-false (is_somewhere (table r f.one)) f.fails) in
            let lt = of_range 0 (length c.nodes) f.one f.among in
            let le = l.within in
            record { node = l.found.least; within = omega arith; chosen = l.found.passes; none_before = l.found.none_before }

    held_at : (n : ℕ) → n < length c.nodes → is_somewhere (table r n) ≡ true → Held c es table (Place r) n
    held_at n within chosen = go (targets r n) (is_nowhere (targets r n) (nowhere n within)) (are r n low within)
      where
        go : (t : Target) → t ≡ target.Nowhere → IsFinalTarget c es table r n t → Held c es table (Place r) n
        go target.Nowhere e kept = kept chosen
        go target.Started e kept = cc
        go target.Promoted e kept = cc

    held_first : is_chosen_nowhere c es table r ≡ false → plain_reason c es table r ≡ None → SomeReason
    held_first e plainly =
        let first : Earliest = earliest e in
        let rule : FirstRule c es table marks sound marked r first.node
        = first_rule c es table marks sound marked r first.node (held_at first.node first.within first.chosen) in
        record {
          reason = Some (none.Held rule.id);
          holds = (free, nowhere, (plainly, record { node = first.node; chosen = first.chosen; earliest = first.none_before; rule = rule.rule }));
        }

    of_plain : (o : Option NoReason) → Plain o → plain_reason c es table r ≡ o → SomeReason
    of_plain _ (no_plain e) is = held_first e is
    of_plain _ no_copies is = record { reason = Some none.NoCopies; holds = (free, nowhere, is) }
    of_plain _ stopped is = record { reason = Some none.Stopped; holds = (free, nowhere, is) }
    of_plain _ on_fail is = record { reason = Some none.OnFail; holds = (free, nowhere, is) }
    of_plain _ stop_all is = record { reason = Some none.StopAll; holds = (free, nowhere, is) }
    of_plain _ no_quorum is = record { reason = Some none.NoQuorum; holds = (free, nowhere, is) }
    of_plain _ no_node is = record { reason = Some none.NoNode; holds = (free, nowhere, is) }

  with_target : Any (λ n. is_somewhere (targets r n) ≡ true) (range_with_len 0 (length c.nodes)) → SomeReason
  with_target (k, n, lt, there, h) =
      let low_too = of_range 0 (length c.nodes) n (k, lt, there) in
      record { reason = None; holds = inr (n, omega arith, h) }

  none_there : list_any (λ n. is_somewhere (targets r n)) (range_with_len 0 (length c.nodes)) ≡ false → (n : ℕ) → n < length c.nodes → is_somewhere (targets r n) ≡ false
  none_there e n within =
      false_from_ne_true (is_somewhere (targets r n)) (λ there.
      never_both (list_any (λ n. is_somewhere (targets r n)) (range_with_len 0 (length c.nodes)))
      (passes_by (λ n. is_somewhere (targets r n)) (range_with_len 0 (length c.nodes)) n (in_range 0 (length c.nodes) n (omega arith) (omega arith)) there) e)

  pub some_reason : SomeReason
  some_reason = go (is_pinned c es r) refl (list_any (λ n. is_somewhere (targets r n)) (range_with_len 0 (length c.nodes))) refl
    where
      go : (a : Bool) → is_pinned c es r ≡ a → (b : Bool) → list_any (λ n. is_somewhere (targets r n)) (range_with_len 0 (length c.nodes)) ≡ b → SomeReason
      go true e b f = record { reason = None; holds = inl e }
      go false e true f = with_target (Any-from_list_any (λ n. is_somewhere (targets r n)) (range_with_len 0 (length c.nodes)) f)
      go false e false f = of_plain e (none_there f) (plain_reason c es table r) plain refl
