-- The pairs of an order that isn't Serialize stand rightly, so the earlier has the lower number.
use Rattle.std.proofs.Common.{arith, inl, inr, ◌≡◌, ◌≢◌, ◌<◌, ◌==◌, ◌&&◌, ◌||◌, not, if◌then◌else◌, ℕ, Bool, true, false, List, Contains, refl, sym, subst}
use Rattle.std.specs.List.{list_any}
use Rattle.std.proofs.lemmas.Bool.{and_parts, both_ways, eqb-true, eqb-false, not-true, lt-ltb}
use Rattle.lemmas.proofs.Booleans.{either}
use Rattle.cluster_types.specs.declared.cluster.Cluster.{Cluster}
use Rattle.cluster_types.specs.declared.journal.Action.{Action}
use Rattle.cluster_types.specs.declared.journal.Event.{Event}
use Rattle.cluster_types.specs.declared.leaf.Op.{Op}
use Rattle.cluster_types.specs.declared.leaf.Op.TheVariants as op
use Rattle.cluster_types.specs.declared.rules.Order.{Order}
use Rattle.cluster_types.specs.Fields.{is_promotable}
use Rattle.cluster_types.specs.NeededActions.{GetsStepAnywhere, Needed}
use Rattle.cluster_types.specs.Numbers.{Link, is_earlier, is_step, is_within_phase, link, links, order_links, rank, step_of}
use Rattle.cluster_types.specs.Precedence.{as_earlier, as_later, inverse, is_inverse_pair, is_migrating, is_ordered, is_ordered_pair, is_serialize, is_taken_back, is_giving, takers}
use Rattle.cluster_types.specs.Tables.{Targets, is_in_scope}
use Rattle.cluster_types.specs.Valid.{IsValidOrder, MayHaveWord}
use Rattle.cluster_types.proofs.OpLaws.{stop_takes}
use Rattle.cluster_types.specs.Precedes.{PutsFirst, forth, back, turned}
use Rattle.cluster_types.proofs.OrderLinks.{link_of}
use Rattle.plan_laws.proofs.Links.{inverse_by_word, link_of_order, step_by_word, taker_by_word}
use Rattle.plan_laws.proofs.NeededActions.{found, Migrant, disturbed_by, is_monitor, migrant_disturbed, migrates_by_sent, migrates_by_taken, migrating}
use Rattle.plan_laws.proofs.OrderWords.{inverse_is_step, not_start, taker_takes, turned_up, word_is_step}
use Rattle.plan_laws.proofs.Phases.{Rightly, rightly_upward}
use Rattle.plan_laws.proofs.Words.{both_there, Earlier, first_start, first_taken_in, first_stop, first_promote, first_demote, earlier, Later, then_start, then_sent_to, then_sent_off, then_stop, then_promote, then_demote, later}

module _ (c : Cluster) (es : List Event) (targets : Targets) (actions : List Action) (rise : (l : Link) → Contains (links c) l → rank c l.before < rank c l.after)
    (needed : (a : Action) → Contains actions a → Needed c es targets a) where
  earlier_disturbs : (p : Op) (x : Action) (r : ℕ) → Earlier p x r → Needed c es targets x → GetsStepAnywhere c es targets r
  earlier_disturbs _ _ _ (first_start r n i role) h = disturbed_by c es targets op.Start r n i role refl h
  earlier_disturbs _ _ _ (first_taken_in r s t) h = migrant_disturbed c es targets r s t (migrates_by_taken c es targets r s t h)
  earlier_disturbs _ _ _ (first_stop r n i role) h = disturbed_by c es targets op.Stop r n i role refl h
  earlier_disturbs _ _ _ (first_promote r n i role) h = disturbed_by c es targets op.Promote r n i role refl h
  earlier_disturbs _ _ _ (first_demote r n i role) h = disturbed_by c es targets op.Demote r n i role refl h

  later_disturbs : (q : Op) (y : Action) (s : ℕ) → Later actions q y s → Needed c es targets y → GetsStepAnywhere c es targets s
  later_disturbs _ _ _ (then_start s n i role) h = disturbed_by c es targets op.Start s n i role refl h
  later_disturbs _ _ _ (then_sent_to s f t) h = migrant_disturbed c es targets s f t (migrates_by_sent c es targets s f t h)
  later_disturbs _ _ _ (then_sent_off s f t) h = migrant_disturbed c es targets s f t (migrates_by_sent c es targets s f t h)
  later_disturbs _ _ _ (then_stop s n i role still) h = disturbed_by c es targets op.Stop s n i role refl h
  later_disturbs _ _ _ (then_promote s n i role) h = disturbed_by c es targets op.Promote s n i role refl h
  later_disturbs _ _ _ (then_demote s n i role) h = disturbed_by c es targets op.Demote s n i role refl h

  -- a pair by two words in an order goes upward where it stands rightly, given that both its leaves are disturbed
  pair_upward : (o : Order) (p q : Op) (r s : ℕ) (x y : Action) → Contains actions x → Contains actions y → is_monitor p ≡ false → is_monitor q ≡ false
      → (GetsStepAnywhere c es targets r → GetsStepAnywhere c es targets s → Rightly c actions p r q s) → is_ordered_pair actions o p r q s x y ≡ true
      → is_earlier c actions x y ≡ true
  pair_upward o p q r s x y inx iny mp mq w h =
      let b = both_there (λ a b. a.leaf == r && b.leaf == s && is_in_scope o a.node b.node) (as_earlier p x) (as_later actions q y) h in
      let leaves = (and_parts (b.one.leaf == r && b.other.leaf == s) (is_in_scope o b.one.node b.other.node) b.passes).0 in
      let (left, right) = and_parts (b.one.leaf == r) (b.other.leaf == s) leaves in
      let e : Earlier p x r = subst (Earlier p x) (eqb-true b.one.leaf r left) (earlier p x b.one mp b.is_one) in
      let l : Later actions q y s = subst (Later actions q y) (eqb-true b.other.leaf s right) (later actions q y b.other mq b.is_other) in
      rightly_upward c actions p q x y r s (w (earlier_disturbs p x r e (needed x inx)) (later_disturbs q y s l (needed y iny))) iny e l

  module _ (o : Order) (present : Contains c.orders o) (valid : IsValidOrder c o) (kind : is_serialize o.kind ≡ false) where
    -- a link of the order that counts
    rises : (p q : Op) (r s : ℕ) → is_step c (step_of p r) ≡ true → is_step c (step_of q s) ≡ true → PutsFirst o p r q s
        → is_within_phase (link p r q s) ≡ true → rank c (step_of p r) < rank c (step_of q s)
    rises p q r s a b k w = rise (link p r q s) (link_of_order c o (link p r q s) present w a b (link_of o p q r s kind k))

    -- the first migrates, by a word that isn't start: the then isn't disturbed
    first_moves : is_migrating actions o.first ≡ true → o.first_op ≢ op.Start → GetsStepAnywhere c es targets o.then_leaf → ⊥
    first_moves h other d =
        elim (((migrating c es targets actions needed o.first h).migrates.orders o present).as_first refl) [
          | inl k ↦ other k.1
          | inr k ↦ k d
        ]

    -- the then migrates, and is another leaf: the first isn't disturbed
    then_moves : is_migrating actions o.then_leaf ≡ true → o.first ≢ o.then_leaf → GetsStepAnywhere c es targets o.first → ⊥
    then_moves h other d =
        ((migrating c es targets actions needed o.then_leaf h).migrates.orders o present).as_then refl other d

    same_or_not : {X : Type 0} → (o.first ≡ o.then_leaf → X) → (o.first ≢ o.then_leaf → X) → X
    same_or_not {X} f g = go (o.first == o.then_leaf) refl
      where
        go : (b : Bool) → (o.first == o.then_leaf) ≡ b → X
        go true e = f (eqb-true o.first o.then_leaf e)
        go false e = g (eqb-false o.first o.then_leaf e)

    no_self : (p q : Op) (r s : ℕ) → p ≡ q → r ≡ s → rank c (step_of p r) < rank c (step_of q s) → ⊥
    no_self p q r s e f h = let same : rank c (step_of p r) ≡ rank c (step_of q s) = rw e (rw f refl) in omega arith

    -- the order's own pair
    own_self : (p : Op) → o.first_op ≡ p → is_giving p ≡ true → is_migrating actions o.then_leaf ≡ true → o.then_op ≡ op.Start → o.first ≡ o.then_leaf → ⊥
    own_self op.Start e up h q same =
        no_self o.first_op o.then_op o.first o.then_leaf (rw e (sym q)) same
        (rises o.first_op o.then_op o.first o.then_leaf (step_by_word c o.first o.first_op valid.first) (step_by_word c o.then_leaf o.then_op valid.later) forth
        (rw e (rw q refl)))
    own_self op.Promote e up h q same =
        let one : Migrant c es targets o.then_leaf = migrating c es targets actions needed o.then_leaf h in
        let may : MayHaveWord c o.first op.Promote = subst (MayHaveWord c o.first) e valid.first in
        both_ways (is_promotable c o.then_leaf) one.migrates.not_promotable (subst (λ v. is_promotable c v ≡ true) same may.1)
    own_self op.Stop e up h q same = cc
    own_self op.Demote e up h q same = cc
    own_self op.Monitor e up h q same = cc

    own_rightly : GetsStepAnywhere c es targets o.first → GetsStepAnywhere c es targets o.then_leaf → Rightly c actions o.first_op o.first o.then_op o.then_leaf
    own_rightly d later_d = record {
      linked = λ w. lt-ltb (rank c (step_of o.first_op o.first)) (rank c (step_of o.then_op o.then_leaf)) (rises o.first_op o.then_op o.first o.then_leaf (step_by_word c o.first o.first_op valid.first) (step_by_word c o.then_leaf o.then_op valid.later) forth w);
      rising = valid.upward;
      first_stays = λ h e. first_moves h (λ k. let f : op.Stop ≡ op.Start = cc in cc) later_d;
      then_stays = λ h up q. same_or_not (own_self o.first_op refl up h q) (λ other. then_moves h other d);
    }

    -- what takes the then's role before what takes the first's
    module _ (both_ways : o.symmetrical ≡ true) where
      taken_rises : (p q : Op) → is_giving o.first_op && is_giving o.then_op ≡ true → Contains (takers o.then_op) p → Contains (takers o.first_op) q
          → is_within_phase (link p o.then_leaf q o.first) ≡ true → rank c (step_of p o.then_leaf) < rank c (step_of q o.first)
      taken_rises p q up inp inq =
          rises p q o.then_leaf o.first (taker_by_word c o.then_leaf o.then_op p valid.later inp) (taker_by_word c o.first o.first_op q valid.first inq)
          (back p q both_ways up inp inq)

      taken_rightly : (p q : Op) → is_giving o.first_op && is_giving o.then_op ≡ true → Contains (takers o.then_op) p → Contains (takers o.first_op) q
          → GetsStepAnywhere c es targets o.then_leaf → GetsStepAnywhere c es targets o.first → Rightly c actions p o.then_leaf q o.first
      taken_rightly p q up inp inq d first_d =
          let ups = and_parts (is_giving o.first_op) (is_giving o.then_op) up in
          record {
            linked = λ w. lt-ltb (rank c (step_of p o.then_leaf)) (rank c (step_of q o.first)) (taken_rises p q up inp inq w);
            rising = λ h. let k = (taker_takes o.then_op p inp).1 in absurd (let f : true ≡ false = cc in cc);
            first_stays = λ h e. same_or_not
                (λ same. no_self op.Stop op.Stop o.then_leaf o.first refl (sym same) (taken_rises op.Stop op.Stop up (stop_takes o.then_op ups.1) (stop_takes o.first_op ups.0) refl))
                (λ other. then_moves h other first_d);
            then_stays = λ h k e. let f = (taker_takes o.then_op p inp).1 in absurd (let f : true ≡ false = cc in cc);
          }

      -- the inverse of an order of which the first is a stop or a demote
      first_takes : is_giving o.first_op && is_giving o.then_op ≡ false → is_giving o.first_op ≡ false
      first_takes e = go (is_giving o.first_op) refl e
        where
          go : (b : Bool) → is_giving o.first_op ≡ b → b && is_giving o.then_op ≡ false → is_giving o.first_op ≡ false
          go true h k = let up = valid.upward h in absurd (let f : true ≡ false = cc in cc)
          go false h k = h

      turned_rightly : is_giving o.first_op && is_giving o.then_op ≡ false → GetsStepAnywhere c es targets o.then_leaf → GetsStepAnywhere c es targets o.first
          → Rightly c actions (inverse o.then_op) o.then_leaf (inverse o.first_op) o.first
      turned_rightly e d first_d =
          let other = not_start o.first_op (first_takes e) in
          record {
            linked = λ w. lt-ltb (rank c (step_of (inverse o.then_op) o.then_leaf)) (rank c (step_of (inverse o.first_op) o.first))
                (rises (inverse o.then_op) (inverse o.first_op) o.then_leaf o.first (inverse_by_word c o.then_leaf o.then_op valid.later) (inverse_by_word c o.first o.first_op valid.first)
                (turned both_ways e) w);
            rising = λ h. turned_up o.first_op (word_is_step c o.first o.first_op valid.first) (first_takes e);
            first_stays = λ h q. same_or_not (λ same. first_moves (subst (λ v. is_migrating actions v ≡ true) (sym same) h) other d) (λ apart. then_moves h apart first_d);
            then_stays = λ h up q. first_moves h other d;
          }

      module _ (x y : Action) (inx : Contains actions x) (iny : Contains actions y) where
        taken_back_upward : is_giving o.first_op && is_giving o.then_op ≡ true → is_taken_back actions o x y ≡ true → is_earlier c actions x y ≡ true
        taken_back_upward up h =
            let p = found (λ p. list_any (λ q. is_ordered_pair actions o p o.then_leaf q o.first x y) (takers o.first_op)) (takers o.then_op) h in
            let q = found (λ q. is_ordered_pair actions o p.element o.then_leaf q o.first x y) (takers o.first_op) p.passes in
            pair_upward o p.element q.element o.then_leaf o.first x y inx iny (taker_takes o.then_op p.element p.among).0 (taker_takes o.first_op q.element q.among).0
            (taken_rightly p.element q.element up p.among q.among) q.passes

        inverse_upward : is_inverse_pair actions o x y ≡ true → is_earlier c actions x y ≡ true
        inverse_upward h = go (is_giving o.first_op && is_giving o.then_op) refl h
          where
            go : (b : Bool) → is_giving o.first_op && is_giving o.then_op ≡ b
                → (if b then is_taken_back actions o x y else is_ordered_pair actions o (inverse o.then_op) o.then_leaf (inverse o.first_op) o.first x y) ≡ true
                → is_earlier c actions x y ≡ true
            go true e k = taken_back_upward e k
            go false e k =
                pair_upward o (inverse o.then_op) (inverse o.first_op) o.then_leaf o.first x y inx iny (inverse_is_step c o.then_leaf o.then_op valid.later)
                (inverse_is_step c o.first o.first_op valid.first) (turned_rightly e) k

  pub ordered_upward : (o : Order) → Contains c.orders o → IsValidOrder c o → (x y : Action) → Contains actions x → Contains actions y → is_ordered actions o x y ≡ true
      → is_earlier c actions x y ≡ true
  ordered_upward o present valid x y inx iny h =
      let (plain, one) = and_parts (not (is_serialize o.kind)) (is_ordered_pair actions o o.first_op o.first o.then_op o.then_leaf x y || o.symmetrical && is_inverse_pair actions o x y) h in
      let kind = not-true (is_serialize o.kind) plain in
      either (is_ordered_pair actions o o.first_op o.first o.then_op o.then_leaf x y) (o.symmetrical && is_inverse_pair actions o x y) one
      (λ k. pair_upward o o.first_op o.then_op o.first o.then_leaf x y inx iny (word_is_step c o.first o.first_op valid.first) (word_is_step c o.then_leaf o.then_op valid.later)
      (own_rightly o present valid kind) k)
      (λ k. let (both_ways, inverted) = and_parts o.symmetrical (is_inverse_pair actions o x y) k in inverse_upward o present valid kind both_ways x y inx iny inverted)
