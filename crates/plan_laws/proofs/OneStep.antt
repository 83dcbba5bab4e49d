-- What one decision changes in a table.
use Rattle.std.proofs.Common.{◌≡◌, ◌<◌, ◌==◌, ◌&&◌, nat_lt, ℕ, Bool, true, false, if◌then◌else◌, List, ◌⊎◌, inl, inr, refl, length}
use Rattle.lemmas.proofs.Booleans.{sooner, later}
use Rattle.std.specs.Prelude.{pos, int_le}
use Rattle.std.proofs.lemmas.Bool.{eqb-true, ltb-true}
use Rattle.cluster_types.specs.declared.cluster.Cluster.{Cluster}
use Rattle.cluster_types.specs.declared.journal.Event.{Event}
use Rattle.cluster_types.specs.declared.journal.Promotion.{Promotion}
use Rattle.cluster_types.specs.declared.leaf.Role.{Role}
use Rattle.cluster_types.specs.declared.leaf.Role.TheVariants as role
use Rattle.cluster_types.specs.declared.placement.Decision.{Decision}
use Rattle.cluster_types.specs.declared.placement.Decision.TheVariants.{Place, Promote}
use Rattle.cluster_types.specs.declared.placement.Target.{Target}
use Rattle.cluster_types.specs.Choice.{after_decision, has_primaries, is_apart, is_candidate, is_chosen, is_permitted, is_placed_for, target_by, total_on}
use Rattle.cluster_types.specs.Decisions.{decision_of, leaf_of}
use Rattle.cluster_types.specs.NodeStates.{is_usable}
use Rattle.cluster_types.specs.Tables.{Targets, holds_role, is_somewhere, is_promoted_target}

module _ (c : Cluster) (es : List Event) (ps : List Promotion) (table : Targets) where
  -- what holds of a node that may be chosen
  pub record Fits (d : Decision) (n : ℕ) : Type 0 where
    pub usable : is_usable c n es ≡ true
    pub permitted : is_permitted c es d n ≡ true
    pub wanted : int_le (pos 0) (total_on c es ps table d n) ≡ true
    pub with_primaries : has_primaries c table d n ≡ true
    pub apart : is_apart c table d n ≡ true
    pub placed : is_placed_for table d n ≡ true

  pub fits : (d : Decision) (n : ℕ) → is_candidate c es ps table d n ≡ true → Fits d n
  fits d n h =
      let five = sooner _ (is_placed_for table d n) h in
      let four = sooner _ (is_apart c table d n) five in
      let three = sooner _ (has_primaries c table d n) four in
      let two = sooner _ (int_le (pos 0) (total_on c es ps table d n)) three in
      record {
        usable = sooner _ (is_permitted c es d n) two;
        permitted = later (is_usable c n es) (is_permitted c es d n) two;
        wanted = later _ (int_le (pos 0) (total_on c es ps table d n)) three;
        with_primaries = later _ (has_primaries c table d n) four;
        apart = later _ (is_apart c table d n) five;
        placed = later _ (is_placed_for table d n) h;
      }

  -- the decision gave the leaf its role on the node
  pub record GaveRole (d : Decision) (r : ℕ) (given : Role) (n : ℕ) : Type 0 where
    pub by : d ≡ decision_of r given
    pub within : n < length c.nodes
    pub chosen : is_chosen c es ps table d n ≡ true

  abbrev changed : Bool → Bool → Bool → Decision → ℕ → ℕ → Target
  changed a b k d r n = if a && b && k then target_by d else table r n

  chosen_fits : (d : Decision) (n : ℕ) → is_chosen c es ps table d n ≡ true → Fits d n
  chosen_fits d n h = fits d n (sooner (is_candidate c es ps table d n) _ h)

  started_by : (d : Decision) (r n : ℕ) → is_somewhere (after_decision c es ps table d r n) ≡ true → (is_somewhere (table r n) ≡ true) ⊎ GaveRole d r role.Started n
  started_by d r n h = go (r == leaf_of d) refl (nat_lt n (length c.nodes)) refl (is_chosen c es ps table d n) refl h
    where
      by : (d : Decision) → r ≡ leaf_of d → n < length c.nodes → is_chosen c es ps table d n ≡ true → (is_somewhere (table r n) ≡ true) ⊎ GaveRole d r role.Started n
      by (Place s) same low k = inr (record { by = rw same refl; within = low; chosen = k })
      by (Promote s) same low k = let f : Fits (Promote s) n = chosen_fits (Promote s) n k in inl (rw same f.placed)

      go : (a : Bool) → (r == leaf_of d) ≡ a → (b : Bool) → nat_lt n (length c.nodes) ≡ b → (k : Bool) → is_chosen c es ps table d n ≡ k
          → is_somewhere (changed a b k d r n) ≡ true → (is_somewhere (table r n) ≡ true) ⊎ GaveRole d r role.Started n
      go true e true f true g h = by d (eqb-true r (leaf_of d) e) (ltb-true n (length c.nodes) f) g
      go true e true f false g h = inl h
      go true e false f k g h = inl h
      go false e b f k g h = inl h

  promoted_by : (d : Decision) (r n : ℕ) → is_promoted_target (after_decision c es ps table d r n) ≡ true
      → (is_promoted_target (table r n) ≡ true) ⊎ GaveRole d r role.Promoted n
  promoted_by d r n h = go (r == leaf_of d) refl (nat_lt n (length c.nodes)) refl (is_chosen c es ps table d n) refl h
    where
      by : (d : Decision) → r ≡ leaf_of d → n < length c.nodes → is_chosen c es ps table d n ≡ true → is_promoted_target (target_by d) ≡ true
          → (is_promoted_target (table r n) ≡ true) ⊎ GaveRole d r role.Promoted n
      by (Place s) same low k h = cc
      by (Promote s) same low k h = inr (record { by = rw same refl; within = low; chosen = k })

      go : (a : Bool) → (r == leaf_of d) ≡ a → (b : Bool) → nat_lt n (length c.nodes) ≡ b → (k : Bool) → is_chosen c es ps table d n ≡ k
          → is_promoted_target (changed a b k d r n) ≡ true → (is_promoted_target (table r n) ≡ true) ⊎ GaveRole d r role.Promoted n
      go true e true f true g h = by d (eqb-true r (leaf_of d) e) (ltb-true n (length c.nodes) f) g h
      go true e true f false g h = inl h
      go true e false f k g h = inl h
      go false e b f k g h = inl h

  -- a role that is held after one more decision was held before it, or the decision gave it
  pub held_by : (d : Decision) (r n : ℕ) (given : Role) → holds_role (after_decision c es ps table d) r given n ≡ true
      → (holds_role table r given n ≡ true) ⊎ GaveRole d r given n
  held_by d r n role.Started h = started_by d r n h
  held_by d r n role.Promoted h = promoted_by d r n h
