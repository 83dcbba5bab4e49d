-- The roles and words of rules that aren't at fault.
use Rattle.std.proofs.Common.{◌≡◌, ◌<◌, ℕ, ◌&&◌, not, Bool, true, false, List, [], ◌∷◌, length, refl, ap, sym, ◌∙◌, inl, inr, ◌⊎◌, Contains, slice_get}
use Rattle.std.specs.Prelude.{Option, Some, None}
use Rattle.std.specs.List.{list_any}
use Rattle.std.specs.Option.{option_map, option_map_or, option_or}
use Rattle.std.proofs.lemmas.Option.{slice_get-map}
use Rattle.std.proofs.lemmas.Bool.{not-false, or_parts}
use Rattle.cluster_types.specs.declared.cluster.Cluster.{Cluster}
use Rattle.cluster_types.specs.declared.leaf.Leaf.{Leaf}
use Rattle.cluster_types.specs.declared.leaf.Role.{Role}
use Rattle.cluster_types.specs.declared.leaf.Role.TheVariants as role
use Rattle.cluster_types.specs.declared.rules.Colocation.{Colocation}
use Rattle.cluster_types.specs.declared.rules.Location.{Location}
use Rattle.cluster_types.specs.declared.rules.Order.{Order}
use Rattle.cluster_types.specs.declared.rules.RuleLocation.{RuleLocation}
use Rattle.cluster_types.specs.Fields.{is_promotable}
use Rattle.cluster_types.specs.Precedence.{is_giving}
use Rattle.cluster_types.specs.Valid.{FitsRole, MayHaveWord}
use Rattle.crm_parse.specs.declared.form.Form.{Form}
use Rattle.crm_parse.specs.declared.form.Form.TheVariants as form
use Rattle.crm_parse.specs.declared.words.ActionWord.{ActionWord}
use Rattle.crm_parse.specs.declared.words.ActionWord.TheVariants as action
use Rattle.crm_parse.specs.declared.statement.Statement.{Statement}
use Rattle.cluster_model.specs.declared.expansion.leaves.Leaves.{Leaves}
use Rattle.lemmas.proofs.Members.{head_or_rest, in_none, of_map}
use Rattle.cluster_model.specs.declared.resolution.colocations.Bearer.{Bearer}
use Rattle.cluster_model.specs.declared.resolution.directory.Directory.{Directory}
use Rattle.cluster_model.specs.declared.resolution.directory.Traits.{Traits}
use Rattle.cluster_model.specs.declared.resolution.orders.Point.{Point}
use Rattle.cluster_model.specs.SuccessivePairs.{successive}
use Rattle.cluster_model.specs.Inner.Checks.{lacks_action, lacks_in_pair, lacks_role, side_lacks}
use Rattle.cluster_model.specs.Checks.{turns_down}
use Rattle.cluster_model.specs.Inner.Colocations.{colocation_of, colocations_in, dependent_at, member_colocation, primary_at}
use Rattle.cluster_model.specs.Inner.Directories.{directory_of, first_named, groups_of, is_unknown, is_unknown_node, last_named, may_promote, node_named, traits_of}
use Rattle.cluster_model.specs.Inner.Locations.{location_in, rule_location_of, rule_locations_in}
use Rattle.cluster_model.specs.Locations.{role_of_word, role_written}
use Rattle.cluster_model.specs.Inner.Orders.{first_point, member_order, orders_in, step_order, then_point}
use Rattle.cluster_model.specs.Orders.{is_down, kind_of_word, op_of}
use Rattle.cluster_model.proofs.Known.{first-there, last-there, pairs-none}
use Rattle.cluster_model.proofs.Sound.{IsSound, first-point-there, then-point-there}

-- no element passes the test
none-of : {X : Type 0} (p : X → Bool) (xs : List X) (x : X) → list_any p xs ≡ false → Contains xs x → p x ≡ false
none-of p [] x h k = absurd (in_none x k)
none-of p (y ∷ ys) x h k = on (head_or_rest y ys x k) (none-of p ys x (or_parts (p y) (list_any p ys) h).1) where
  on : (y ≡ x) ⊎ Contains ys x → (Contains ys x → p x ≡ false) → p x ≡ false
  on (inl e) next = sym (ap p e) ∙ (or_parts (p y) (list_any p ys) h).0
  on (inr r) next = next r

-- the directory says of the leaves what the cluster says
pub record Agrees (d : Directory) (c : Cluster) : Type 0 where
  pub many : length d.leaves ≡ length c.leaves
  pub promotes : (leaf : ℕ) → may_promote d leaf ≡ is_promotable c leaf

traits-told : (groups : List (List ℕ × ℕ)) (leaf : Option Leaf)
    → option_map_or (λ (traits : Traits). traits.promotable) (option_map (traits_of groups) leaf) false
    ≡ option_map_or (λ (leaf : Leaf). leaf.promotable) leaf false
traits-told groups None = refl
traits-told groups (Some leaf) = refl

pub promotes-alike : (d : Directory) (c : Cluster) (leaves : Leaves) (statements : List Statement) → d ≡ directory_of leaves statements
    → c.leaves ≡ leaves.leaves → (leaf : ℕ) → may_promote d leaf ≡ is_promotable c leaf
unfolding directory_of
promotes-alike d c leaves statements e f leaf =
    ap (λ (d : Directory). may_promote d leaf) e
    ∙ ap (λ found. option_map_or (λ (traits : Traits). traits.promotable) found false) (slice_get-map (traits_of (groups_of statements)) leaves.leaves leaf)
    ∙ traits-told (groups_of statements) (slice_get leaves.leaves leaf)
    ∙ ap (λ all. option_map_or (λ (leaf : Leaf). leaf.promotable) (slice_get all leaf) false) (sym f)

module _ (d : Directory) (c : Cluster) (agrees : Agrees d c) where
  pub role-may : (leaf : ℕ) (r : Role) → leaf < length d.leaves → lacks_role d leaf r ≡ false → FitsRole c leaf r
  role-may leaf role.Started l h = let m = agrees.many in rw m at l
  role-may leaf role.Promoted l h =
      let m = agrees.many in
      (rw m at l, sym (agrees.promotes leaf) ∙ not-false (may_promote d leaf) h)

  pub word-may : (leaf : ℕ) (a : ActionWord) → leaf < length d.leaves → lacks_action d (record { leaf = leaf; what = op_of a }) ≡ false
      → MayHaveWord c leaf (op_of a)
  word-may leaf action.Start l h = let m = agrees.many in rw m at l
  word-may leaf action.Stop l h = let m = agrees.many in rw m at l
  word-may leaf action.Promote l h =
      let m = agrees.many in
      (rw m at l, sym (agrees.promotes leaf) ∙ not-false (may_promote d leaf) h)
  word-may leaf action.Demote l h =
      let m = agrees.many in
      (rw m at l, sym (agrees.promotes leaf) ∙ not-false (may_promote d leaf) h)

  pub record HasRoles (col : Colocation) : Type 0 where
    pub dependent : FitsRole c col.dependent col.dependent_role
    pub primary : FitsRole c col.primary col.primary_role

  roles-same : (one other : Colocation) → one ≡ other → HasRoles one → HasRoles other
  roles-same one other e h = rw e at h

  pub colocation-roles : (f : Form) → IsSound d f → (col : Colocation) → Contains (colocations_in d f) col → HasRoles col
  colocation-roles (form.Node id name attributes utilization) s col k = absurd (in_none col k)
  colocation-roles (form.Primitive id agent description params meta utilization operations ops) s col k = absurd (in_none col k)
  colocation-roles (form.Group id members description params meta) s col k =
      let m = of_map (member_colocation d id) (successive members) col k in
      let t = pairs-none (is_unknown d) members s.known m.source m.among in
      roles-same (member_colocation d id m.source) col m.gives (record {
        dependent = role-may (first_named d m.source.1) role.Started (first-there d m.source.1 t.after) refl;
        primary = role-may (last_named d m.source.0) role.Started (last-there d m.source.0 t.before) refl;
      })
  colocation-roles (form.Cloned id child ms description params meta) s col k = absurd (in_none col k)
  colocation-roles (form.Location id resource role discovery score node) s col k = absurd (in_none col k)
  colocation-roles (form.RuledLocation id resource role discovery rules) s col k = absurd (in_none col k)
  colocation-roles (form.Colocation id score dependent primary) s col k =
      on (head_or_rest (colocation_of id score one other) [] col k) where
        one : Bearer
        one = dependent_at d dependent.resource (role_of_word dependent.role)

        other : Bearer
        other = primary_at d primary.resource (role_of_word primary.role)

        on : (colocation_of id score one other ≡ col) ⊎ Contains [] col → HasRoles col
        on (inl same) =
            roles-same (colocation_of id score one other) col same (record {
              dependent = role-may one.leaf one.role
                  (first-there d dependent.resource (or_parts (is_unknown d dependent.resource) (is_unknown d primary.resource) s.known).0)
                  (or_parts (side_lacks d one) (side_lacks d other) s.promotable).0;
              primary = role-may other.leaf other.role
                  (last-there d primary.resource (or_parts (is_unknown d dependent.resource) (is_unknown d primary.resource) s.known).1)
                  (or_parts (side_lacks d one) (side_lacks d other) s.promotable).1;
            })
        on (inr r) = absurd (in_none col r)
  colocation-roles (form.Order id kind steps symmetrical) s col k = absurd (in_none col k)
  colocation-roles (form.Settings what set pairs) s col k = absurd (in_none col k)
  colocation-roles (form.Kept words) s col k = absurd (in_none col k)

  pub record HasWords (o : Order) : Type 0 where
    pub first : MayHaveWord c o.first o.first_op
    pub later : MayHaveWord c o.then_leaf o.then_op
    pub upward : is_giving o.first_op ≡ true → is_giving o.then_op ≡ true

  words-same : (one other : Order) → one ≡ other → HasWords one → HasWords other
  words-same one other e h = rw e at h

  -- an order of two actions that don't turn down
  goes-up : (a b : ActionWord) → not (is_down a) && is_down b ≡ false → is_giving (op_of a) ≡ true → is_giving (op_of b) ≡ true
  goes-up a action.Start h u = refl
  goes-up a action.Promote h u = refl
  goes-up action.Start action.Stop h u = cc
  goes-up action.Promote action.Stop h u = cc
  goes-up action.Stop action.Stop h u = cc
  goes-up action.Demote action.Stop h u = cc
  goes-up action.Start action.Demote h u = cc
  goes-up action.Promote action.Demote h u = cc
  goes-up action.Stop action.Demote h u = cc
  goes-up action.Demote action.Demote h u = cc

  pub order-words : (f : Form) → IsSound d f → (o : Order) → Contains (orders_in d f) o → HasWords o
  order-words (form.Node id name attributes utilization) s o k = absurd (in_none o k)
  order-words (form.Primitive id agent description params meta utilization operations ops) s o k = absurd (in_none o k)
  order-words (form.Group id members description params meta) s o k =
      let m = of_map (member_order d id) (successive members) o k in
      let t = pairs-none (is_unknown d) members s.known m.source m.among in
      words-same (member_order d id m.source) o m.gives (record {
        first = word-may (first_point d m.source.0 action.Start).leaf action.Start (first-point-there d m.source.0 action.Start t.before) refl;
        later = word-may (then_point d m.source.1 action.Start).leaf action.Start (then-point-there d m.source.1 action.Start t.after) refl;
        upward = λ u. refl;
      })
  order-words (form.Cloned id child ms description params meta) s o k = absurd (in_none o k)
  order-words (form.Location id resource role discovery score node) s o k = absurd (in_none o k)
  order-words (form.RuledLocation id resource role discovery rules) s o k = absurd (in_none o k)
  order-words (form.Colocation id score dependent primary) s o k = absurd (in_none o k)
  order-words (form.Order id kind steps symmetrical) s o k =
      let m = of_map (step_order d id (kind_of_word kind) symmetrical) (successive steps) o k in
      let t = pairs-none (λ step. is_unknown d step.resource) steps s.known m.source m.among in
      let one : Point = first_point d m.source.0.resource m.source.0.action in
      let other : Point = then_point d m.source.1.resource m.source.1.action in
      let able = none-of (lacks_in_pair d) (successive steps) m.source s.promotable m.among in
      let turned = none-of turns_down (successive steps) m.source s.supported m.among in
      words-same (step_order d id (kind_of_word kind) symmetrical m.source) o m.gives (record {
        first = word-may one.leaf m.source.0.action (first-point-there d m.source.0.resource m.source.0.action t.before)
            (or_parts (lacks_action d one) (lacks_action d other) able).0;
        later = word-may other.leaf m.source.1.action (then-point-there d m.source.1.resource m.source.1.action t.after)
            (or_parts (lacks_action d one) (lacks_action d other) able).1;
        upward = goes-up m.source.0.action m.source.1.action turned;
      })
  order-words (form.Settings what set pairs) s o k = absurd (in_none o k)
  order-words (form.Kept words) s o k = absurd (in_none o k)

  location-same : (one other : Location) → one ≡ other → FitsRole c one.leaf one.role → FitsRole c other.leaf other.role
  location-same one other e h = rw e at h

  pub location-role : (f : Form) → IsSound d f → (l : Location) → Contains (location_in d f) l → FitsRole c l.leaf l.role
  location-role (form.Node id name attributes utilization) s l k = absurd (in_none l k)
  location-role (form.Primitive id agent description params meta utilization operations ops) s l k = absurd (in_none l k)
  location-role (form.Group id members description params meta) s l k = absurd (in_none l k)
  location-role (form.Cloned id child ms description params meta) s l k = absurd (in_none l k)
  location-role (form.Location id resource written discovery score node) s l k = on (head_or_rest one [] l k) where
    one : Location
    one = record { id = id; leaf = first_named d resource; role = role_written written; score = score; node = node_named d node }

    on : (one ≡ l) ⊎ Contains [] l → FitsRole c l.leaf l.role
    on (inl same) =
        location-same one l same
        (role-may one.leaf one.role (first-there d resource (or_parts (is_unknown d resource) (is_unknown_node d node) s.known).0) s.promotable)
    on (inr r) = absurd (in_none l r)
  location-role (form.RuledLocation id resource written discovery rules) s l k = absurd (in_none l k)
  location-role (form.Colocation id score dependent primary) s l k = absurd (in_none l k)
  location-role (form.Order id kind steps symmetrical) s l k = absurd (in_none l k)
  location-role (form.Settings what set pairs) s l k = absurd (in_none l k)
  location-role (form.Kept words) s l k = absurd (in_none l k)

  rule-same : (one other : RuleLocation) → one ≡ other → FitsRole c one.leaf one.role → FitsRole c other.leaf other.role
  rule-same one other e h = rw e at h

  pub rule-role : (f : Form) → IsSound d f → (l : RuleLocation) → Contains (rule_locations_in d f) l → FitsRole c l.leaf l.role
  rule-role (form.Node id name attributes utilization) s l k = absurd (in_none l k)
  rule-role (form.Primitive id agent description params meta utilization operations ops) s l k = absurd (in_none l k)
  rule-role (form.Group id members description params meta) s l k = absurd (in_none l k)
  rule-role (form.Cloned id child ms description params meta) s l k = absurd (in_none l k)
  rule-role (form.Location id resource written discovery score node) s l k = absurd (in_none l k)
  rule-role (form.RuledLocation id resource written discovery rules) s l k =
      let m = of_map (rule_location_of d id resource written) rules l k in
      let able = none-of (λ rule. lacks_role d (first_named d resource) (role_written (option_or rule.role written))) rules m.source s.promotable m.among in
      rule-same (rule_location_of d id resource written m.source) l m.gives
      (role-may (first_named d resource) (role_written (option_or m.source.role written)) (first-there d resource s.known) able)
  rule-role (form.Colocation id score dependent primary) s l k = absurd (in_none l k)
  rule-role (form.Order id kind steps symmetrical) s l k = absurd (in_none l k)
  rule-role (form.Settings what set pairs) s l k = absurd (in_none l k)
  rule-role (form.Kept words) s l k = absurd (in_none l k)
