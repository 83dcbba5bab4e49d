-- What must precede, case by case, is what `must_precede` computes.
use Rattle.std.proofs.Common.{◌≡◌, ◌≢◌, ◌⊎◌, inl, inr, ◌↔◌, ◌<◌, ◌==◌, ◌&&◌, ◌||◌, if◌then◌else◌, nat_lt, not, ℕ, Bool, true, false, Option, Some, None, List, [], ◌∷◌, length, Contains, refl, sym, subst, ap, ◌∙◌}
use Rattle.std.specs.List.{list_any}
use Rattle.std.proofs.lemmas.Bool.{and_from, and_parts, eq-eqb, eqb-true, lt-ltb, ltb-true, or_left, or_right}
use Rattle.std.proofs.lemmas.List.Folds.{Any-from_list_any}
use Rattle.lemmas.proofs.Booleans.{either}
use Rattle.lemmas.proofs.Members.{at_head, in_rest}
use Rattle.lemmas.proofs.Searches.{passes_by}
use Rattle.cluster_types.specs.declared.cluster.Cluster.{Cluster}
use Rattle.cluster_types.specs.declared.journal.Action.{Action}
use Rattle.cluster_types.specs.declared.journal.Action.TheVariants.{Fence, Probe, Operation, MigrateTo, MigrateFrom}
use Rattle.cluster_types.specs.declared.leaf.Op.{Op}
use Rattle.cluster_types.specs.declared.leaf.Op.TheVariants as op
use Rattle.cluster_types.specs.declared.leaf.Role.{Role}
use Rattle.cluster_types.specs.declared.rules.Colocation.{Colocation}
use Rattle.cluster_types.specs.declared.rules.Order.{Order}
use Rattle.cluster_types.specs.Choice.{is_separation}
use Rattle.cluster_types.specs.Fields.{copies}
use Rattle.cluster_types.specs.Precedence.{LeafOnNode, as_earlier, as_later, both, cell_of, step_cell, comes_first_in_cell, demotes_first, fences_first, gives_any, gives_role, inverse, is_across, is_inverse_pair, is_one_cell, is_one_leaf, is_ordered, is_ordered_pair, is_parted, is_serialize, is_serialized, is_some_cell, is_taken_back, is_giving, migrates_first, must_precede, op_cell, parts_first, probe_cell, probes_first, stops_first, takers, takes_or_probes}
use Rattle.cluster_types.specs.Precedes as precedes
use Rattle.cluster_types.specs.Precedes.{IsOperation, CountsAsFirst, CountsAsLater, GivesRole, TakesOrProbes, ComesFirstOnCell, demote_stop, start_promote, change_monitor, AreSides, dependent_first, primary_first, PutsFirst, forth, back, turned, AreEnds, first_and_then, then_and_first}
use Rattle.cluster_types.specs.Tables.{is_in_scope}
use Rattle.cluster_types.proofs.Few.{of_two}
use Rattle.cluster_types.proofs.Operations.{two_cells, cells_pass, some_given, role_gives, changed_by, change_of}

itself : (n : ℕ) → (n == n) ≡ true
itself n = eq-eqb n n refl

-- an element of the list that passes
record Passing {X : Type 0} (p : X → Bool) (xs : List X) : Type 0 where
  pub element : X
  pub among : Contains xs element
  pub passes : p element ≡ true

passing : {X : Type 0} (p : X → Bool) (xs : List X) → list_any p xs ≡ true → Passing p xs
passing p xs h = let (k, a, lt, is, e) = Any-from_list_any p xs h in record { element = a; among = (k, lt, is); passes = e }

-- one node is in scope of another from both ends
scope_turned : (o : Order) (n m : ℕ) → is_in_scope o n m ≡ true → is_in_scope o m n ≡ true
scope_turned o n m h =
    either (not o.local) (n == m) h (λ k. or_left (not o.local) (m == n) k) (λ k. or_right (not o.local) (m == n) (eq-eqb m n (sym (eqb-true n m k))))

module _ (c : Cluster) (actions : List Action) (is_earlier : Action → Action → Bool) where
  abbrev Before : Action → Action → Type 0
  Before = precedes.Precedes c actions is_earlier

  -- From each test its case.

  leaf_is : (r n s m : ℕ) → cell_of r n ≡ cell_of s m → r ≡ s
  leaf_is r n s m h = let e : record { leaf = r; node = n } ≡ record { leaf = s; node = m } = cc in ap (λ (v : LeafOnNode). v.leaf) e

  probe_case : (x y : Action) (r n s m : ℕ) → probe_cell x ≡ cell_of r n → gives_any y ≡ cell_of s m → (r == s) ≡ true → Before x y
  probe_case (Probe q k) y r n s m h gives e =
      let g = some_given y s m gives in
      precedes.probe q k m g.given y (subst (λ v. GivesRole g.given y v m) (sym (leaf_is q k r n h ∙ eqb-true r s e)) g.gives)
  probe_case (Fence n) y r k s m h gives e = cc
  probe_case (Operation o q k i played) y r n s m h gives e = cc
  probe_case (MigrateTo q f u) y r n s m h gives e = cc
  probe_case (MigrateFrom q f u) y r n s m h gives e = cc

  probes_case : (x y : Action) → probes_first x y ≡ true → Before x y
  probes_case x y h =
      let b = two_cells is_one_leaf (probe_cell x) (gives_any y) h in
      probe_case x y b.one.leaf b.one.node b.other.leaf b.other.node b.is_one b.is_other b.passes

  stops_case : (x y : Action) → stops_first c x y ≡ true → Before x y
  stops_case x y h =
      let b = two_cells (λ a b. is_one_leaf a b && (a.node == b.node || nat_lt (copies c a.leaf) (length c.nodes))) (op_cell op.Stop x) (op_cell op.Start y) h in
      let (leaf, node) = and_parts (b.one.leaf == b.other.leaf) (b.one.node == b.other.node || nat_lt (copies c b.one.leaf) (length c.nodes)) b.passes in
      let few : (b.one.node ≡ b.other.node) ⊎ (copies c b.one.leaf < length c.nodes)
      = either (b.one.node == b.other.node) (nat_lt (copies c b.one.leaf) (length c.nodes)) node
      (λ e. inl (eqb-true b.one.node b.other.node e)) (λ e. inr (ltb-true (copies c b.one.leaf) (length c.nodes) e)) in
      precedes.stop b.one.leaf b.one.node b.other.node x y b.is_one
      (subst (λ v. IsOperation op.Start y v b.other.node) (sym (eqb-true b.one.leaf b.other.leaf leaf)) b.is_other) few

  fence_case : (n : ℕ) (y : Action) (v : Option LeafOnNode) → gives_any y ≡ v → is_some_cell v ≡ true → Before (Fence n) y
  fence_case n y (Some a) e h = let g = some_given y a.leaf a.node e in precedes.fence n a.leaf a.node g.given y g.gives
  fence_case n y None e h = cc

  fences_case : (x y : Action) → fences_first x y ≡ true → Before x y
  fences_case (Fence n) y h = fence_case n y (gives_any y) refl h
  fences_case (Probe r n) y h = cc
  fences_case (Operation o r n i given) y h = cc
  fences_case (MigrateTo r s t) y h = cc
  fences_case (MigrateFrom r s t) y h = cc

  -- on one cell
  cell_case : (o p : Op) (x y : Action) (r n s m : ℕ) → ComesFirstOnCell o p → IsOperation o x r n → IsOperation p y s m → (r == s && n == m) ≡ true → Before x y
  cell_case o p x y r n s m first k l e =
      let (leaf, node) = and_parts (r == s) (n == m) e in
      precedes.same_cell r n o p x y first k
      (subst (λ v. IsOperation p y v n) (sym (eqb-true r s leaf)) (subst (λ v. IsOperation p y s v) (sym (eqb-true n m node)) l))

  cells_case : (x y : Action) → comes_first_in_cell x y ≡ true → Before x y
  cells_case x y h =
      either (both is_one_cell (op_cell op.Demote x) (op_cell op.Stop y) || both is_one_cell (op_cell op.Start x) (op_cell op.Promote y))
      (both is_one_cell (step_cell x) (op_cell op.Monitor y)) h
      (λ h. either (both is_one_cell (op_cell op.Demote x) (op_cell op.Stop y)) (both is_one_cell (op_cell op.Start x) (op_cell op.Promote y)) h
      (λ h. let b = two_cells is_one_cell (op_cell op.Demote x) (op_cell op.Stop y) h in
      cell_case op.Demote op.Stop x y b.one.leaf b.one.node b.other.leaf b.other.node demote_stop b.is_one b.is_other b.passes)
      (λ h. let b = two_cells is_one_cell (op_cell op.Start x) (op_cell op.Promote y) h in
      cell_case op.Start op.Promote x y b.one.leaf b.one.node b.other.leaf b.other.node start_promote b.is_one b.is_other b.passes))
      (λ h. let b = two_cells is_one_cell (step_cell x) (op_cell op.Monitor y) h in
      let k = changed_by x b.one.leaf b.one.node b.is_one in
      cell_case k.what op.Monitor x y b.one.leaf b.one.node b.other.leaf b.other.node (change_monitor k.what k.changes) k.is b.is_other b.passes)

  demote_case : (p : Op) (x y : Action) → Contains (takers op.Promote) p → both is_one_leaf (op_cell p x) (op_cell op.Promote y) ≡ true → Before x y
  demote_case p x y takes h =
      let b = two_cells is_one_leaf (op_cell p x) (op_cell op.Promote y) h in
      precedes.demote b.one.leaf b.one.node b.other.node p x y takes b.is_one
      (subst (λ v. IsOperation op.Promote y v b.other.node) (sym (eqb-true b.one.leaf b.other.leaf b.passes)) b.is_other)

  demotes_case : (x y : Action) → demotes_first x y ≡ true → Before x y
  demotes_case x y h =
      either (both is_one_leaf (op_cell op.Demote x) (op_cell op.Promote y)) (both is_one_leaf (op_cell op.Stop x) (op_cell op.Promote y)) h
      (demote_case op.Demote x y (at_head op.Demote (op.Stop ∷ []) op.Demote refl))
      (demote_case op.Stop x y (in_rest op.Demote (op.Stop ∷ []) op.Stop (at_head op.Stop [] op.Stop refl)))

  -- by a separation
  parted_case : (col : Colocation) (r s : ℕ) (held given : Role) (x y : Action) → Contains c.colocations col → is_separation col ≡ true
      → AreSides col r held s given → is_parted r held s given x y ≡ true → Before x y
  parted_case col r s held given x y present separate sides h =
      let b = two_cells (λ a b. a.leaf == r && b.leaf == s && a.node == b.node) (takes_or_probes held x) (gives_role given y) h in
      let (leaves, node) = and_parts (b.one.leaf == r && b.other.leaf == s) (b.one.node == b.other.node) b.passes in
      let (left, right) = and_parts (b.one.leaf == r) (b.other.leaf == s) leaves in
      precedes.apart col r s b.one.node held given x y present separate sides
      (subst (λ v. TakesOrProbes held x v b.one.node) (eqb-true b.one.leaf r left) b.is_one)
      (subst (λ v. GivesRole given y s v) (sym (eqb-true b.one.node b.other.node node))
      (subst (λ v. GivesRole given y v b.other.node) (eqb-true b.other.leaf s right) b.is_other))

  parts_case : (x y : Action) → list_any (λ col. parts_first col x y) c.colocations ≡ true → Before x y
  parts_case x y h =
      let f = passing (λ col. parts_first col x y) c.colocations h in
      let col = f.element in
      let (separate, one) = and_parts (is_separation col)
      (is_parted col.dependent col.dependent_role col.primary col.primary_role x y || is_parted col.primary col.primary_role col.dependent col.dependent_role x y) f.passes in
      either (is_parted col.dependent col.dependent_role col.primary col.primary_role x y) (is_parted col.primary col.primary_role col.dependent col.dependent_role x y) one
      (parted_case col col.dependent col.primary col.dependent_role col.primary_role x y f.among separate dependent_first)
      (parted_case col col.primary col.dependent col.primary_role col.dependent_role x y f.among separate primary_first)

  -- by an order
  pair_case : (o : Order) (p : Op) (r : ℕ) (q : Op) (s : ℕ) (x y : Action) → Contains c.orders o → is_serialize o.kind ≡ false → PutsFirst o p r q s
      → is_ordered_pair actions o p r q s x y ≡ true → Before x y
  pair_case o p r q s x y present kind puts h =
      let b = two_cells (λ a b. a.leaf == r && b.leaf == s && is_in_scope o a.node b.node) (as_earlier p x) (as_later actions q y) h in
      let (leaves, scope) = and_parts (b.one.leaf == r && b.other.leaf == s) (is_in_scope o b.one.node b.other.node) b.passes in
      let (left, right) = and_parts (b.one.leaf == r) (b.other.leaf == s) leaves in
      precedes.order o p q r s b.one.node b.other.node x y present kind puts
      (subst (λ v. CountsAsFirst p x v b.one.node) (eqb-true b.one.leaf r left) b.is_one)
      (subst (λ v. CountsAsLater actions q y v b.other.node) (eqb-true b.other.leaf s right) b.is_other) scope

  back_case : (o : Order) (x y : Action) → Contains c.orders o → is_serialize o.kind ≡ false → o.symmetrical ≡ true → is_giving o.first_op && is_giving o.then_op ≡ true
      → is_taken_back actions o x y ≡ true → Before x y
  back_case o x y present kind symmetrical up h =
      let p = passing (λ p. list_any (λ q. is_ordered_pair actions o p o.then_leaf q o.first x y) (takers o.first_op)) (takers o.then_op) h in
      let q = passing (λ q. is_ordered_pair actions o p.element o.then_leaf q o.first x y) (takers o.first_op) p.passes in
      pair_case o p.element o.then_leaf q.element o.first x y present kind (back p.element q.element symmetrical up p.among q.among) q.passes

  inverse_case : (o : Order) (x y : Action) (b : Bool) → Contains c.orders o → is_serialize o.kind ≡ false → o.symmetrical ≡ true
      → is_giving o.first_op && is_giving o.then_op ≡ b
      → (if b then is_taken_back actions o x y else is_ordered_pair actions o (inverse o.then_op) o.then_leaf (inverse o.first_op) o.first x y) ≡ true → Before x y
  inverse_case o x y true present kind symmetrical up h = back_case o x y present kind symmetrical up h
  inverse_case o x y false present kind symmetrical up h =
      pair_case o (inverse o.then_op) o.then_leaf (inverse o.first_op) o.first x y present kind (turned symmetrical up) h

  denied : (b : Bool) → not b ≡ true → b ≡ false
  denied true h = cc
  denied false h = refl

  ordered_case : (o : Order) (x y : Action) → Contains c.orders o → is_ordered actions o x y ≡ true → Before x y
  ordered_case o x y present h =
      let forward = is_ordered_pair actions o o.first_op o.first o.then_op o.then_leaf x y in
      let (kind, pair) = and_parts (not (is_serialize o.kind)) (forward || o.symmetrical && is_inverse_pair actions o x y) h in
      either forward (o.symmetrical && is_inverse_pair actions o x y) pair
      (pair_case o o.first_op o.first o.then_op o.then_leaf x y present (denied (is_serialize o.kind) kind) forth)
      (λ k. let (symmetrical, turn) = and_parts o.symmetrical (is_inverse_pair actions o x y) k in
      inverse_case o x y (is_giving o.first_op && is_giving o.then_op) present (denied (is_serialize o.kind) kind) symmetrical refl turn)

  serialized_case : (o : Order) (x y : Action) → Contains c.orders o → is_serialized is_earlier o x y ≡ true → Before x y
  serialized_case o x y present h =
      let (both_of, sooner) = and_parts (is_serialize o.kind && (is_across o x y || is_across o y x)) (is_earlier x y) h in
      let (kind, across) = and_parts (is_serialize o.kind) (is_across o x y || is_across o y x) both_of in
      either (is_across o x y) (is_across o y x) across
      (λ k. let b = two_cells (λ a b. a.leaf == o.first && b.leaf == o.then_leaf && is_in_scope o a.node b.node) (step_cell x) (step_cell y) k in
      let (leaves, scope) = and_parts (b.one.leaf == o.first && b.other.leaf == o.then_leaf) (is_in_scope o b.one.node b.other.node) b.passes in
      let (left, right) = and_parts (b.one.leaf == o.first) (b.other.leaf == o.then_leaf) leaves in
      let u = changed_by x b.one.leaf b.one.node b.is_one in
      let v = changed_by y b.other.leaf b.other.node b.is_other in
      precedes.serialize o u.what v.what o.first o.then_leaf b.one.node b.other.node x y present kind first_and_then u.changes v.changes
      (subst (λ w. IsOperation u.what x w b.one.node) (eqb-true b.one.leaf o.first left) u.is)
      (subst (λ w. IsOperation v.what y w b.other.node) (eqb-true b.other.leaf o.then_leaf right) v.is) scope sooner)
      (λ k. let b = two_cells (λ a b. a.leaf == o.first && b.leaf == o.then_leaf && is_in_scope o a.node b.node) (step_cell y) (step_cell x) k in
      let (leaves, scope) = and_parts (b.one.leaf == o.first && b.other.leaf == o.then_leaf) (is_in_scope o b.one.node b.other.node) b.passes in
      let (left, right) = and_parts (b.one.leaf == o.first) (b.other.leaf == o.then_leaf) leaves in
      let u = changed_by y b.one.leaf b.one.node b.is_one in
      let v = changed_by x b.other.leaf b.other.node b.is_other in
      precedes.serialize o v.what u.what o.then_leaf o.first b.other.node b.one.node x y present kind then_and_first v.changes u.changes
      (subst (λ w. IsOperation v.what x w b.other.node) (eqb-true b.other.leaf o.then_leaf right) v.is)
      (subst (λ w. IsOperation u.what y w b.one.node) (eqb-true b.one.leaf o.first left) u.is) (scope_turned o b.one.node b.other.node scope) sooner)

  orders_case : (x y : Action) → list_any (λ o. is_ordered actions o x y || is_serialized is_earlier o x y) c.orders ≡ true → Before x y
  orders_case x y h =
      let f = passing (λ o. is_ordered actions o x y || is_serialized is_earlier o x y) c.orders h in
      either (is_ordered actions f.element x y) (is_serialized is_earlier f.element x y) f.passes
      (ordered_case f.element x y f.among) (serialized_case f.element x y f.among)

  module _ (x y : Action) where
    abbrev by_separation : Bool
    by_separation = list_any (λ col. parts_first col x y) c.colocations

    abbrev by_order : Bool
    by_order = list_any (λ o. is_ordered actions o x y || is_serialized is_earlier o x y) c.orders

    pub from_test : must_precede c actions is_earlier x y ≡ true → Before x y
    from_test h =
        let a = probes_first x y in let b = stops_first c x y in let d = fences_first x y in let e = comes_first_in_cell x y in let f = demotes_first x y in
        either (a || b || d || e || f || by_separation || by_order) (migrates_first x y) h
        (λ h. either (a || b || d || e || f || by_separation) by_order h
        (λ h. either (a || b || d || e || f) by_separation h
        (λ h. either (a || b || d || e) f h
        (λ h. either (a || b || d) e h
        (λ h. either (a || b) d h
        (λ h. either a b h (probes_case x y) (stops_case x y))
        (fences_case x y)) (cells_case x y)) (demotes_case x y)) (parts_case x y)) (orders_case x y)) (precedes.migration x y)

    -- From each case its test.

    abbrev Must : Type 0
    Must = must_precede c actions is_earlier x y ≡ true

    abbrev upto_fence : Bool
    upto_fence = probes_first x y || stops_first c x y || fences_first x y

    abbrev upto_demote : Bool
    upto_demote = upto_fence || comes_first_in_cell x y || demotes_first x y

    of_demotes : upto_demote ≡ true → Must
    of_demotes h =
        or_left (upto_demote || by_separation || by_order) (migrates_first x y)
        (or_left (upto_demote || by_separation) by_order (or_left upto_demote by_separation h))

    of_fences : upto_fence ≡ true → Must
    of_fences h = of_demotes (or_left (upto_fence || comes_first_in_cell x y) (demotes_first x y) (or_left upto_fence (comes_first_in_cell x y) h))

    by_probe : probes_first x y ≡ true → Must
    by_probe h = of_fences (or_left (probes_first x y || stops_first c x y) (fences_first x y) (or_left (probes_first x y) (stops_first c x y) h))

    by_stop : stops_first c x y ≡ true → Must
    by_stop h = of_fences (or_left (probes_first x y || stops_first c x y) (fences_first x y) (or_right (probes_first x y) (stops_first c x y) h))

    by_fence : fences_first x y ≡ true → Must
    by_fence h = of_fences (or_right (probes_first x y || stops_first c x y) (fences_first x y) h)

    by_cell : comes_first_in_cell x y ≡ true → Must
    by_cell h = of_demotes (or_left (upto_fence || comes_first_in_cell x y) (demotes_first x y) (or_right upto_fence (comes_first_in_cell x y) h))

    by_demote : demotes_first x y ≡ true → Must
    by_demote h = of_demotes (or_right (upto_fence || comes_first_in_cell x y) (demotes_first x y) h)

    by_parts : by_separation ≡ true → Must
    by_parts h =
        or_left (upto_demote || by_separation || by_order) (migrates_first x y)
        (or_left (upto_demote || by_separation) by_order (or_right upto_demote by_separation h))

    by_orders : by_order ≡ true → Must
    by_orders h = or_left (upto_demote || by_separation || by_order) (migrates_first x y) (or_right (upto_demote || by_separation) by_order h)

    by_migration : migrates_first x y ≡ true → Must
    by_migration h = or_right (upto_demote || by_separation || by_order) (migrates_first x y) h

  cell_test : (o p : Op) (x y : Action) (r n : ℕ) → ComesFirstOnCell o p → IsOperation o x r n → IsOperation p y r n → comes_first_in_cell x y ≡ true
  cell_test _ _ x y r n demote_stop k l =
      or_left _ _ (or_left _ _ (cells_pass is_one_cell (op_cell op.Demote x) (op_cell op.Stop y) r n r n k l
      (and_from (r == r) (n == n) (itself r) (itself n))))
  cell_test _ _ x y r n start_promote k l =
      or_left _ _ (or_right (both is_one_cell (op_cell op.Demote x) (op_cell op.Stop y)) _ (cells_pass is_one_cell (op_cell op.Start x) (op_cell op.Promote y) r n r n k l
      (and_from (r == r) (n == n) (itself r) (itself n))))
  cell_test _ _ x y r n (change_monitor o changes) k l =
      or_right (both is_one_cell (op_cell op.Demote x) (op_cell op.Stop y) || both is_one_cell (op_cell op.Start x) (op_cell op.Promote y)) _
      (cells_pass is_one_cell (step_cell x) (op_cell op.Monitor y) r n r n
      (change_of o x r n changes k) l (and_from (r == r) (n == n) (itself r) (itself n)))

  demote_test : (p : Op) (x y : Action) (r n m : ℕ) → Contains (takers op.Promote) p → IsOperation p x r n → IsOperation op.Promote y r m → demotes_first x y ≡ true
  demote_test p x y r n m takes k l =
      of_two (λ v. IsOperation v x r n → demotes_first x y ≡ true) op.Demote op.Stop p
      (λ k. or_left (both is_one_leaf (op_cell op.Demote x) (op_cell op.Promote y)) (both is_one_leaf (op_cell op.Stop x) (op_cell op.Promote y))
      (cells_pass is_one_leaf (op_cell op.Demote x) (op_cell op.Promote y) r n r m k l (itself r)))
      (λ k. or_right (both is_one_leaf (op_cell op.Demote x) (op_cell op.Promote y)) (both is_one_leaf (op_cell op.Stop x) (op_cell op.Promote y))
      (cells_pass is_one_leaf (op_cell op.Stop x) (op_cell op.Promote y) r n r m k l (itself r)))
      takes k

  parted_test : (r s n : ℕ) (held given : Role) (x y : Action) → TakesOrProbes held x r n → GivesRole given y s n → is_parted r held s given x y ≡ true
  parted_test r s n held given x y k l =
      cells_pass (λ a b. a.leaf == r && b.leaf == s && a.node == b.node) (takes_or_probes held x) (gives_role given y) r n s n k l
      (and_from (r == r && s == s) (n == n) (and_from (r == r) (s == s) (itself r) (itself s)) (itself n))

  side_test : (col : Colocation) (r s n : ℕ) (held given : Role) (x y : Action) → AreSides col r held s given → TakesOrProbes held x r n
      → GivesRole given y s n
      → (is_parted col.dependent col.dependent_role col.primary col.primary_role x y || is_parted col.primary col.primary_role col.dependent col.dependent_role x y) ≡ true
  side_test col _ _ n _ _ x y dependent_first k l =
      or_left _ _ (parted_test col.dependent col.primary n col.dependent_role col.primary_role x y k l)
  side_test col _ _ n _ _ x y primary_first k l =
      or_right (is_parted col.dependent col.dependent_role col.primary col.primary_role x y) _
      (parted_test col.primary col.dependent n col.primary_role col.dependent_role x y k l)

  pair_test : (o : Order) (p q : Op) (r s n m : ℕ) (x y : Action) → CountsAsFirst p x r n → CountsAsLater actions q y s m → is_in_scope o n m ≡ true
      → is_ordered_pair actions o p r q s x y ≡ true
  pair_test o p q r s n m x y k l scope =
      cells_pass (λ a b. a.leaf == r && b.leaf == s && is_in_scope o a.node b.node) (as_earlier p x) (as_later actions q y) r n s m k l
      (and_from (r == r && s == s) (is_in_scope o n m) (and_from (r == r) (s == s) (itself r) (itself s)) scope)

  allowed : (b : Bool) → b ≡ false → not b ≡ true
  allowed true h = cc
  allowed false h = refl

  inverse_test : (o : Order) (x y : Action) → is_serialize o.kind ≡ false → o.symmetrical ≡ true → is_inverse_pair actions o x y ≡ true → is_ordered actions o x y ≡ true
  inverse_test o x y kind symmetrical h =
      and_from (not (is_serialize o.kind)) _ (allowed (is_serialize o.kind) kind)
      (or_right (is_ordered_pair actions o o.first_op o.first o.then_op o.then_leaf x y) _ (and_from o.symmetrical (is_inverse_pair actions o x y) symmetrical h))

  ordered_test : (o : Order) (p q : Op) (r s n m : ℕ) (x y : Action) → is_serialize o.kind ≡ false → PutsFirst o p r q s → CountsAsFirst p x r n
      → CountsAsLater actions q y s m → is_in_scope o n m ≡ true → is_ordered actions o x y ≡ true
  ordered_test o _ _ _ _ n m x y kind forth k l scope =
      and_from (not (is_serialize o.kind)) _ (allowed (is_serialize o.kind) kind)
      (or_left (is_ordered_pair actions o o.first_op o.first o.then_op o.then_leaf x y) _ (pair_test o o.first_op o.then_op o.first o.then_leaf n m x y k l scope))
  ordered_test o _ _ _ _ n m x y kind (back p q symmetrical up taker other) k l scope =
      inverse_test o x y kind symmetrical (rw up (passes_by (λ p. list_any (λ q. is_ordered_pair actions o p o.then_leaf q o.first x y) (takers o.first_op)) (takers o.then_op) p taker
      (passes_by (λ q. is_ordered_pair actions o p o.then_leaf q o.first x y) (takers o.first_op) q other (pair_test o p q o.then_leaf o.first n m x y k l scope))))
  ordered_test o _ _ _ _ n m x y kind (turned symmetrical up) k l scope =
      inverse_test o x y kind symmetrical (rw up (pair_test o (inverse o.then_op) (inverse o.first_op) o.then_leaf o.first n m x y k l scope))

  across_test : (o : Order) (p q : Op) (n m : ℕ) (x y : Action) → p ≢ op.Monitor → q ≢ op.Monitor → IsOperation p x o.first n → IsOperation q y o.then_leaf m
      → is_in_scope o n m ≡ true → is_across o x y ≡ true
  across_test o p q n m x y p_changes q_changes k l scope =
      cells_pass (λ a b. a.leaf == o.first && b.leaf == o.then_leaf && is_in_scope o a.node b.node) (step_cell x) (step_cell y) o.first n o.then_leaf m
      (change_of p x o.first n p_changes k) (change_of q y o.then_leaf m q_changes l)
      (and_from (o.first == o.first && o.then_leaf == o.then_leaf) (is_in_scope o n m)
      (and_from (o.first == o.first) (o.then_leaf == o.then_leaf) (itself o.first) (itself o.then_leaf)) scope)

  ends_test : (o : Order) (p q : Op) (r s n m : ℕ) (x y : Action) → AreEnds o r s → p ≢ op.Monitor → q ≢ op.Monitor → IsOperation p x r n → IsOperation q y s m
      → is_in_scope o n m ≡ true → (is_across o x y || is_across o y x) ≡ true
  ends_test o p q _ _ n m x y first_and_then p_changes q_changes k l scope = or_left (is_across o x y) (is_across o y x) (across_test o p q n m x y p_changes q_changes k l scope)
  ends_test o p q _ _ n m x y then_and_first p_changes q_changes k l scope =
      or_right (is_across o x y) (is_across o y x) (across_test o q p m n y x q_changes p_changes l k (scope_turned o n m scope))

  some_cell : (v : Option LeafOnNode) (r n : ℕ) → v ≡ cell_of r n → is_some_cell v ≡ true
  some_cell v r n e = rw e refl

  few_test : (r n m : ℕ) → (n ≡ m) ⊎ (copies c r < length c.nodes) → (n == m || nat_lt (copies c r) (length c.nodes)) ≡ true
  few_test r n m (inl same) = or_left (n == m) (nat_lt (copies c r) (length c.nodes)) (eq-eqb n m same)
  few_test r n m (inr few) = or_right (n == m) (nat_lt (copies c r) (length c.nodes)) (lt-ltb (copies c r) (length c.nodes) few)

  pub to_test : (x y : Action) → Before x y → must_precede c actions is_earlier x y ≡ true
  to_test _ _ (precedes.probe r n m given y k) =
      by_probe (Probe r n) y (cells_pass is_one_leaf (probe_cell (Probe r n)) (gives_any y) r n r m refl (role_gives given y (record { leaf = r; node = m }) k) (itself r))
  to_test _ _ (precedes.stop r n m x y k l few) =
      by_stop x y (cells_pass (λ a b. is_one_leaf a b && (a.node == b.node || nat_lt (copies c a.leaf) (length c.nodes))) (op_cell op.Stop x) (op_cell op.Start y) r n r m k l
      (and_from (r == r) (n == m || nat_lt (copies c r) (length c.nodes)) (itself r) (few_test r n m few)))
  to_test _ _ (precedes.fence n r m given y k) = by_fence (Fence n) y (some_cell (gives_any y) r m (role_gives given y (record { leaf = r; node = m }) k))
  to_test _ _ (precedes.same_cell r n o p x y first k l) = by_cell x y (cell_test o p x y r n first k l)
  to_test _ _ (precedes.demote r n m p x y takes k l) = by_demote x y (demote_test p x y r n m takes k l)
  to_test _ _ (precedes.apart col r s n held given x y present separate sides k l) =
      by_parts x y (passes_by (λ col. parts_first col x y) c.colocations col present
      (and_from (is_separation col) _ separate (side_test col r s n held given x y sides k l)))
  to_test _ _ (precedes.order o p q r s n m x y present kind puts k l scope) =
      by_orders x y (passes_by (λ o. is_ordered actions o x y || is_serialized is_earlier o x y) c.orders o present
      (or_left (is_ordered actions o x y) (is_serialized is_earlier o x y) (ordered_test o p q r s n m x y kind puts k l scope)))
  to_test _ _ (precedes.serialize o p q r s n m x y present kind ends p_changes q_changes k l scope sooner) =
      by_orders x y (passes_by (λ o. is_ordered actions o x y || is_serialized is_earlier o x y) c.orders o present
      (or_right (is_ordered actions o x y) (is_serialized is_earlier o x y)
      (and_from (is_serialize o.kind && (is_across o x y || is_across o y x)) (is_earlier x y)
      (and_from (is_serialize o.kind) (is_across o x y || is_across o y x) kind (ends_test o p q r s n m x y ends p_changes q_changes k l scope)) sooner)))
  to_test _ _ (precedes.migration x y turn) = by_migration x y turn

pub precedence : (c : Cluster) (actions : List Action) (is_earlier : Action → Action → Bool) (x y : Action)
    → must_precede c actions is_earlier x y ≡ true ↔ precedes.Precedes c actions is_earlier x y
precedence c actions is_earlier x y = (from_test c actions is_earlier x y, to_test c actions is_earlier x y)
