-- The leaves that the code makes are those that the statements say.
use Rattle.std.proofs.Common.{◌≡◌, ℕ, ℤ, pos, Bool, true, false, cond, not, ◌&&◌, ◌||◌, List, [], ◌∷◌, ◌++◌, map, Option, Some, None, unwrap_or, refl, sym, ap, ◌∙◌}
use Rattle.std.specs.Prelude.{codes, is_some}
use Rattle.std.specs.List.{find, flat_map, list_any}
use Rattle.std.specs.Option.{option_map, option_map_or, option_or}
use Rattle.std.proofs.lemmas.List.{map-append}
use Rattle.score.specs.ScoreText.{read_score}
use Rattle.score.specs.Total.{infinity}
use Rattle.crm_lex.specs.Names.{is}
use Rattle.crm_parse.specs.declared.form.Form.{Form}
use Rattle.crm_parse.specs.declared.form.Form.TheVariants as form
use Rattle.crm_parse.specs.declared.pair.Kv.{Kv}
use Rattle.crm_parse.specs.declared.statement.Statement.{Statement}
use Rattle.crm_parse.specs.declared.values.RoleName.{RoleName}
use Rattle.crm_parse.specs.declared.values.RoleName.TheVariants as named
use Rattle.crm_parse.specs.Statements.{says_promotable}
use Rattle.crm_parse.specs.Values.{bool_of, role_of, time_of}
use Rattle.cluster_types.specs.declared.leaf.Leaf.{Leaf}
use Rattle.cluster_types.specs.declared.leaf.OnFail.TheVariants.{Restart}
use Rattle.cluster_model.specs.declared.expansion.clones.InClone.{InClone}
use Rattle.cluster_model.specs.declared.expansion.groups.InGroup.{InGroup}
use Rattle.cluster_model.specs.declared.expansion.meta.Meta.{Meta}
use Rattle.cluster_model.specs.Inner.Clones.{cloned_by, cloned_in, in_clone, uncloned}
use Rattle.cluster_model.specs.Clones.{copies_in, promoted_in}
use Rattle.cluster_model.specs.Inner.Groups.{grouped_by, grouped_in, members_of, membership_of}
use Rattle.cluster_model.specs.Inner.Leaves.{around, leaf_in, leaves_of, primitive_leaf, surroundings_of}
use Rattle.cluster_model.specs.Leaves.{plain_stickiness, target_role_named, leaf_said, leaves_said}
use Rattle.cluster_model.specs.Inner.Metas.{meta_of, no_meta, or_meta}
use Rattle.cluster_model.specs.Metas.{read_as, first_given}
use Rattle.cluster_model.specs.Operations.{after_a_stop, fail_of, monitors_of}
use Rattle.cluster_model.specs.Settings.{option_given, count_nodes, defaults_in}
use Rattle.cluster_model.specs.Resources.{Clone, Group, Primitive, all_clones, all_groups, all_primitives, clone_around, clone_with, group_with, is_later_member, its_clone, its_group, its_primitive}
use Rattle.cluster_model.specs.Inner.Settings.{defaults_from, defaults_of}
use Rattle.cluster_model.specs.Inner.Tables.{lookup}

module _ {V : Type 0} where
  pub or-none : (o : Option V) → option_or o None ≡ o
  or-none None = refl
  or-none (Some x) = refl

  pub or-joined : (a b c : Option V) → option_or (option_or a b) c ≡ option_or a (option_or b c)
  or-joined None b c = refl
  or-joined (Some x) b c = refl

  -- what a name stands for in some rows and more
  pub lookup-append : (rows more : List (List ℕ × V)) (name : List ℕ) → lookup (rows ++ more) name ≡ option_or (lookup rows name) (lookup more name)
  lookup-append [] more name = refl
  lookup-append (row ∷ rows) more name = on (is name row.0) (lookup-append rows more name) where
    on : (b : Bool) → lookup (rows ++ more) name ≡ option_or (lookup rows name) (lookup more name)
        → cond b (Some row.1) (lookup (rows ++ more) name) ≡ option_or (cond b (Some row.1) (lookup rows name)) (lookup more name)
    on true e = refl
    on false e = e

  -- what stands beside each of some names
  pub beside_all : (value : V) (names : List (List ℕ)) (name : List ℕ)
      → lookup (map (λ other. (other, value)) names) name ≡ cond (list_any (is name) names) (Some value) None
  beside_all value [] name = refl
  beside_all value (each ∷ names) name = on (is name each) (beside_all value names name) where
    on : (b : Bool) → lookup (map (λ other. (other, value)) names) name ≡ cond (list_any (is name) names) (Some value) None
        → cond b (Some value) (lookup (map (λ other. (other, value)) names) name) ≡ cond (b || list_any (is name) names) (Some value) None
    on true e = refl
    on false e = e

module _ (name : List ℕ) where
  -- the row of a member
  member_found : (meta : Meta) (clone : Option InClone) (members : List (List ℕ))
      → lookup (members_of meta clone members) name ≡ cond (list_any (is name) members) (Some (membership_of meta clone (is_later_member members name))) None
  member_found meta clone [] = refl
  member_found meta clone (first ∷ others) = on (is name first) (beside_all (membership_of meta clone true) others name) where
    on : (b : Bool) → lookup (map (λ other. (other, membership_of meta clone true)) others) name
        ≡ cond (list_any (is name) others) (Some (membership_of meta clone true)) None
        → cond b (Some (membership_of meta clone false)) (lookup (map (λ other. (other, membership_of meta clone true)) others) name)
        ≡ cond (b || list_any (is name) others) (Some (membership_of meta clone (not b))) None
    on true e = refl
    on false e = e

  module _ (cloned : List (List ℕ × InClone)) where
    -- what its group gives to a member
    abbrev given_by : Group → InGroup
    given_by group = membership_of (meta_of group.meta) (lookup cloned group.id) (is_later_member group.members name)

    group_found : (f : Form) (rest : List (List ℕ × InGroup)) (groups : List Group)
        → lookup rest name ≡ option_map given_by (find (λ group. list_any (is name) group.members) groups)
        → lookup (grouped_in cloned f ++ rest) name ≡ option_map given_by (find (λ group. list_any (is name) group.members) (its_group f ++ groups))
    group_found (form.Group id members description params meta) rest groups e =
        lookup-append (members_of (meta_of meta) (lookup cloned id) members) rest name
        ∙ (ap (λ found. option_or found (lookup rest name)) (member_found (meta_of meta) (lookup cloned id) members) ∙ on (list_any (is name) members)) where
          on : (b : Bool) → option_or (cond b (Some (membership_of (meta_of meta) (lookup cloned id) (is_later_member members name))) None) (lookup rest name)
              ≡ option_map given_by (cond b (Some (record { id = id; members = members; meta = meta })) (find (λ group. list_any (is name) group.members) groups))
          on true = refl
          on false = e
    group_found _ rest groups e = e

    pub grouped_found : (statements : List Statement) → lookup (grouped_by cloned statements) name ≡ option_map given_by (group_with statements name)
    grouped_found [] = refl
    grouped_found (s ∷ statements) = group_found s.form (grouped_by cloned statements) (all_groups statements) (grouped_found statements)

  -- what its clone gives to a child
  abbrev clone_gives : ℕ → Clone → InClone
  clone_gives n clone = in_clone n clone.ms clone.meta

  clone_found : (n : ℕ) (f : Form) (rest : List (List ℕ × InClone)) (clones : List Clone)
      → lookup rest name ≡ option_map (clone_gives n) (find (λ clone. is name clone.child) clones)
      → lookup (cloned_in n f ++ rest) name ≡ option_map (clone_gives n) (find (λ clone. is name clone.child) (its_clone f ++ clones))
  clone_found n (form.Cloned id child ms description params meta) rest clones e = on (is name child) where
    on : (b : Bool) → cond b (Some (in_clone n ms meta)) (lookup rest name)
        ≡ option_map (clone_gives n) (cond b (Some (record { id = id; child = child; ms = ms; meta = meta })) (find (λ clone. is name clone.child) clones))
    on true = refl
    on false = e
  clone_found n _ rest clones e = e

  pub cloned_found : (n : ℕ) (statements : List Statement) → lookup (cloned_by n statements) name ≡ option_map (clone_gives n) (clone_with statements name)
  cloned_found n [] = refl
  cloned_found n (s ∷ statements) = clone_found n s.form (cloned_by n statements) (all_clones statements) (cloned_found n statements)

-- one of the meta attributes
module _ {V : Type 0} (get : Meta → Option V) (reader : List ℕ → Option V) (key : List ℕ)
    (joins : (one other : Meta) → get (or_meta one other) ≡ option_or (get one) (get other))
    (reads : (pairs : List Kv) → get (meta_of pairs) ≡ read_as reader key pairs) (none : get no_meta ≡ None) where
  default_goes_on : (found : Meta) (statements : List Statement)
      → get (defaults_from found statements) ≡ option_or (get found) (first_given reader key (map (λ s. defaults_in s.form) statements))
  default_goes_on found [] = sym (or-none (get found))
  default_goes_on found (s ∷ statements) =
      default_goes_on (or_meta found (meta_of (defaults_in s.form))) statements
      ∙ (ap (λ one. option_or one (first_given reader key (map (λ s. defaults_in s.form) statements)))
      (joins found (meta_of (defaults_in s.form)) ∙ ap (option_or (get found)) (reads (defaults_in s.form)))
      ∙ or-joined (get found) (read_as reader key (defaults_in s.form)) (first_given reader key (map (λ s. defaults_in s.form) statements)))

  of_group : (g : Option Group) → get (option_map_or (λ (g : Group). meta_of g.meta) g no_meta) ≡ read_as reader key (option_map_or (λ (g : Group). g.meta) g [])
  of_group None = none
  of_group (Some g) = reads g.meta

  of_clone : (c : Option Clone) → get (option_map_or (λ (c : Clone). meta_of c.meta) c no_meta) ≡ read_as reader key (option_map_or (λ (c : Clone). c.meta) c [])
  of_clone None = none
  of_clone (Some c) = reads c.meta

  pub attribute_is : (statements : List Statement) (pairs : List Kv) (g : Option Group) (c : Option Clone)
      → get (or_meta (or_meta (or_meta (meta_of pairs) (option_map_or (λ (g : Group). meta_of g.meta) g no_meta))
      (option_map_or (λ (c : Clone). meta_of c.meta) c no_meta)) (defaults_of statements))
      ≡ first_given reader key
      (pairs ∷ option_map_or (λ (g : Group). g.meta) g [] ∷ option_map_or (λ (c : Clone). c.meta) c [] ∷ map (λ s. defaults_in s.form) statements)
  attribute_is statements pairs g c =
      let own = meta_of pairs in
      let group = option_map_or (λ (g : Group). meta_of g.meta) g no_meta in
      let clone = option_map_or (λ (c : Clone). meta_of c.meta) c no_meta in
      let last : get (defaults_of statements) ≡ first_given reader key (map (λ s. defaults_in s.form) statements)
      = default_goes_on no_meta statements ∙ ap (λ one. option_or one (first_given reader key (map (λ s. defaults_in s.form) statements))) none in
      let one = joins (or_meta (or_meta own group) clone) (defaults_of statements) in
      let two = joins (or_meta own group) clone in
      let three = joins own group in
      rw (one, two, three, reads pairs, of_group g, of_clone c, last)
      (or-joined (option_or (read_as reader key pairs) (read_as reader key (option_map_or (λ (g : Group). g.meta) g [])))
      (read_as reader key (option_map_or (λ (c : Clone). c.meta) c [])) _
      ∙ or-joined (read_as reader key pairs) (read_as reader key (option_map_or (λ (g : Group). g.meta) g [])) _)

same_meta : (a aa b bb c cc : Option ℤ) (d dd : Option ℕ) (e ee : Option RoleName) (f ff g gg : Option Bool)
    → a ≡ aa → b ≡ bb → c ≡ cc → d ≡ dd → e ≡ ee → f ≡ ff → g ≡ gg
    → (let m : Meta = record { priority = a; stickiness = b; threshold = c; timeout_ms = d; target_role = e; managed = f; migrates = g } in m)
    ≡ record { priority = aa; stickiness = bb; threshold = cc; timeout_ms = dd; target_role = ee; managed = ff; migrates = gg }
same_meta a aa b bb c cc d dd e ee f ff g gg one two three four five six seven = rw (one, two, three, four, five, six, seven) refl

module _ (statements : List Statement) where
  abbrev nodes : ℕ
  nodes = count_nodes statements

  -- what is around a primitive
  around_is : (p : Primitive)
      → around (surroundings_of statements) p.id
      ≡ record {
        meta = option_map_or (λ (g : Group). meta_of g.meta) (group_with statements p.id) no_meta;
        follower = option_map_or (λ (g : Group). is_later_member g.members p.id) (group_with statements p.id) false;
        clone = option_map (clone_gives p.id nodes) (clone_around statements p.id);
      }
  unfolding surroundings_of
  around_is p =
      ap (λ (found : Option InGroup). unwrap_or found (record { meta = no_meta; follower = false; clone = lookup (cloned_by nodes statements) p.id }))
      (grouped_found p.id (cloned_by nodes statements) statements)
      ∙ on (group_with statements p.id) where
        on : (g : Option Group)
            → unwrap_or (option_map (given_by p.id (cloned_by nodes statements)) g)
            (record { meta = no_meta; follower = false; clone = lookup (cloned_by nodes statements) p.id })
            ≡ record {
              meta = option_map_or (λ (g : Group). meta_of g.meta) g no_meta;
              follower = option_map_or (λ (g : Group). is_later_member g.members p.id) g false;
              clone = option_map (clone_gives p.id nodes) (clone_with statements (option_map_or (λ (g : Group). g.id) g p.id));
            }
        on None = let e = cloned_found p.id nodes statements in rw e refl
        on (Some g) = let e = cloned_found g.id nodes statements in rw e refl

  -- a leaf by the meta attributes, and by what its group and clone are
  abbrev leaf_by : Bool → Bool → Primitive → Meta → Bool → Option InClone → Leaf
  leaf_by fencing maintenance p meta follower in_one =
      let clone = unwrap_or in_one uncloned in
      record {
        name = p.id;
        copies = clone.copies;
        promoted_copies = clone.promoted_copies;
        cloned = is_some in_one;
        interleave = clone.interleave;
        promotable = clone.promotable;
        follower = follower;
        priority = unwrap_or meta.priority (pos 0);
        stickiness = unwrap_or meta.stickiness (plain_stickiness (is_some in_one));
        threshold = unwrap_or meta.threshold infinity;
        timeout_ms = unwrap_or meta.timeout_ms 0;
        target_role = target_role_named (unwrap_or meta.target_role named.Started);
        managed = unwrap_or meta.managed true && not maintenance;
        migrates = unwrap_or meta.migrates false;
        start_fail = unwrap_or (fail_of (codes "start") p.ops) Restart;
        stop_fail = unwrap_or (fail_of (codes "stop") p.ops) (after_a_stop fencing);
        promote_fail = unwrap_or (fail_of (codes "promote") p.ops) Restart;
        demote_fail = unwrap_or (fail_of (codes "demote") p.ops) Restart;
        monitors = monitors_of p.ops;
      }

  -- the meta attributes by where they are looked for
  abbrev meta_given : List (List Kv) → Meta
  meta_given attributes = record {
    priority = first_given read_score (codes "priority") attributes;
    stickiness = first_given read_score (codes "resource-stickiness") attributes;
    threshold = first_given read_score (codes "migration-threshold") attributes;
    timeout_ms = first_given time_of (codes "failure-timeout") attributes;
    target_role = first_given role_of (codes "target-role") attributes;
    managed = first_given bool_of (codes "is-managed") attributes;
    migrates = first_given bool_of (codes "allow-migrate") attributes;
  }

  meta_is : (pairs : List Kv) (g : Option Group) (c : Option Clone)
      → or_meta (or_meta (or_meta (meta_of pairs) (option_map_or (λ (g : Group). meta_of g.meta) g no_meta))
      (option_map_or (λ (c : Clone). meta_of c.meta) c no_meta)) (defaults_of statements)
      ≡ meta_given (pairs ∷ option_map_or (λ (g : Group). g.meta) g [] ∷ option_map_or (λ (c : Clone). c.meta) c [] ∷ map (λ s. defaults_in s.form) statements)
  unfolding or_meta meta_of
  meta_is pairs g c =
      let priority = attribute_is (λ m. m.priority) read_score (codes "priority") (λ a b. refl) (λ p. refl) refl statements pairs g c in
      let stickiness = attribute_is (λ m. m.stickiness) read_score (codes "resource-stickiness") (λ a b. refl) (λ p. refl) refl statements pairs g c in
      let threshold = attribute_is (λ m. m.threshold) read_score (codes "migration-threshold") (λ a b. refl) (λ p. refl) refl statements pairs g c in
      let timeout = attribute_is (λ m. m.timeout_ms) time_of (codes "failure-timeout") (λ a b. refl) (λ p. refl) refl statements pairs g c in
      let target = attribute_is (λ m. m.target_role) role_of (codes "target-role") (λ a b. refl) (λ p. refl) refl statements pairs g c in
      let managed = attribute_is (λ m. m.managed) bool_of (codes "is-managed") (λ a b. refl) (λ p. refl) refl statements pairs g c in
      let migrates = attribute_is (λ m. m.migrates) bool_of (codes "allow-migrate") (λ a b. refl) (λ p. refl) refl statements pairs g c in
      same_meta _ _ _ _ _ _ _ _ _ _ _ _ _ _ priority stickiness threshold timeout target managed migrates

  -- a leaf as the statements say, by its group and its clone and by where its attributes are looked for
  abbrev leaf_from : Bool → Bool → Primitive → Option Group → Option Clone → List (List Kv) → Leaf
  leaf_from fencing maintenance p group clone attributes = record {
    name = p.id;
    copies = option_map_or (λ (c : Clone). copies_in (count_nodes statements) c.meta) clone 1;
    promoted_copies = option_map_or (λ (c : Clone). promoted_in c.meta) clone 1;
    cloned = is_some clone;
    interleave = option_map_or (λ (c : Clone). unwrap_or (read_as bool_of (codes "interleave") c.meta) false) clone false;
    promotable = option_map_or (λ (c : Clone). says_promotable c.ms c.meta) clone false;
    follower = option_map_or (λ (g : Group). is_later_member g.members p.id) group false;
    priority = unwrap_or (first_given read_score (codes "priority") attributes) (pos 0);
    stickiness = unwrap_or (first_given read_score (codes "resource-stickiness") attributes) (plain_stickiness (is_some clone));
    threshold = unwrap_or (first_given read_score (codes "migration-threshold") attributes) infinity;
    timeout_ms = unwrap_or (first_given time_of (codes "failure-timeout") attributes) 0;
    target_role = target_role_named (unwrap_or (first_given role_of (codes "target-role") attributes) named.Started);
    managed = unwrap_or (first_given bool_of (codes "is-managed") attributes) true && not maintenance;
    migrates = unwrap_or (first_given bool_of (codes "allow-migrate") attributes) false;
    start_fail = unwrap_or (fail_of (codes "start") p.ops) Restart;
    stop_fail = unwrap_or (fail_of (codes "stop") p.ops) (after_a_stop fencing);
    promote_fail = unwrap_or (fail_of (codes "promote") p.ops) Restart;
    demote_fail = unwrap_or (fail_of (codes "demote") p.ops) Restart;
    monitors = monitors_of p.ops;
  }

  leaf_by_cases : (fencing maintenance : Bool) (p : Primitive) (g : Option Group) (c : Option Clone)
      → leaf_by fencing maintenance p
      (or_meta (or_meta (or_meta (meta_of p.meta) (option_map_or (λ (g : Group). meta_of g.meta) g no_meta))
      (unwrap_or (option_map (clone_gives p.id nodes) c) uncloned).meta) (defaults_of statements))
      (option_map_or (λ (g : Group). is_later_member g.members p.id) g false) (option_map (clone_gives p.id nodes) c)
      ≡ leaf_from fencing maintenance p g c
      (p.meta ∷ option_map_or (λ (g : Group). g.meta) g [] ∷ option_map_or (λ (c : Clone). c.meta) c [] ∷ map (λ s. defaults_in s.form) statements)
  unfolding in_clone
  leaf_by_cases fencing maintenance p g None =
      ap (λ (m : Meta). leaf_by fencing maintenance p m (option_map_or (λ (g : Group). is_later_member g.members p.id) g false) None) (meta_is p.meta g None)
  leaf_by_cases fencing maintenance p g (Some c) =
      ap (λ (m : Meta). leaf_by fencing maintenance p m (option_map_or (λ (g : Group). is_later_member g.members p.id) g false) (Some (clone_gives p.id nodes c)))
      (meta_is p.meta g (Some c))

  -- the leaf of a primitive
  pub leaf_is : (p : Primitive) → primitive_leaf (surroundings_of statements) p.id p.meta p.ops ≡ leaf_said statements p
  unfolding primitive_leaf surroundings_of leaf_said
  leaf_is p =
      ap (λ (group : InGroup). leaf_by (option_given (codes "stonith-enabled") true statements) (option_given (codes "maintenance-mode") false statements) p
      (or_meta (or_meta (or_meta (meta_of p.meta) group.meta) (unwrap_or group.clone uncloned).meta) (defaults_of statements)) group.follower group.clone)
      (around_is p)
      ∙ leaf_by_cases _ _ p (group_with statements p.id) (clone_around statements p.id)

  -- all leaves
  its_leaf : (f : Form) → leaf_in (surroundings_of statements) f ≡ map (leaf_said statements) (its_primitive f)
  its_leaf (form.Primitive id agent description params meta utilization operations ops) =
      ap (λ leaf. leaf ∷ []) (leaf_is (record { id = id; meta = meta; ops = ops }))
  its_leaf _ = refl

  leaves_from : (some : List Statement)
      → flat_map (λ (s : Statement). leaf_in (surroundings_of statements) s.form) some ≡ map (leaf_said statements) (all_primitives some)
  leaves_from [] = refl
  leaves_from (s ∷ some) =
      let one = its_leaf s.form in
      let more = leaves_from some in
      rw (one, more) (sym (map-append (leaf_said statements) (its_primitive s.form) (all_primitives some)))

  pub leaves_are : leaves_of statements ≡ leaves_said statements
  unfolding leaves_of leaves_said
  leaves_are = leaves_from statements
