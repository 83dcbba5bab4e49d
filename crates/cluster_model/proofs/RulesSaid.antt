-- The cluster that the code makes, and the fault that it finds, are those that the statements say.
use Rattle.std.proofs.Common.{arith, ◌≡◌, ℕ, ℤ, ◌+◌, Bool, true, not, ◌||◌, List, [], ◌∷◌, ◌++◌, length, map, Option, refl, ap, ◌∙◌}
use Rattle.std.specs.List.{flat_map, sum_by}
use Rattle.std.specs.Option.{option_or}
use Rattle.std.proofs.lemmas.List.Sums.{sum_by-append}
use Rattle.std.proofs.lemmas.List.{length-append}
use Rattle.score.specs.Total.{infinity}
use Rattle.crm_parse.specs.declared.form.Form.{Form}
use Rattle.crm_parse.specs.declared.form.Form.TheVariants as form
use Rattle.crm_parse.specs.declared.form.OrderStep.{OrderStep}
use Rattle.crm_parse.specs.declared.rule_form.RuleForm.{RuleForm}
use Rattle.crm_parse.specs.declared.statement.Statement.{Statement}
use Rattle.crm_parse.specs.declared.words.ActionWord.{ActionWord}
use Rattle.crm_parse.specs.declared.words.ActionWord.TheVariants as action
use Rattle.cluster_types.specs.declared.leaf.Role.{Role}
use Rattle.cluster_types.specs.declared.leaf.Role.TheVariants as role
use Rattle.cluster_types.specs.declared.rules.OrderKind.{OrderKind}
use Rattle.cluster_types.specs.declared.rules.OrderKind.TheVariants as kind
use Rattle.cluster_types.specs.declared.rules.RuleLocation.{RuleLocation}
use Rattle.cluster_model.specs.declared.expansion.leaves.Leaves.{Leaves}
use Rattle.cluster_model.specs.declared.resolution.counts.Counts.{Counts}
use Rattle.cluster_model.specs.declared.resolution.directory.Directory.{Directory}
use Rattle.cluster_model.specs.declared.resolution.fault.ModelCause.{ModelCause}
use Rattle.cluster_model.specs.SuccessivePairs.{successive}
use Rattle.cluster_model.specs.Inner.Checks.{cause_of, excess_of, has_unknown, has_unpromotable, lacks_action, lacks_in_pair, lacks_role}
use Rattle.cluster_model.specs.Inner.Colocations.{colocation_of, colocations_in, dependent_at, primary_at}
use Rattle.cluster_model.specs.Inner.Counting.{all_counted, counted_with, counts_of, leaf_count, node_count, nothing_counted}
use Rattle.cluster_model.specs.Counting.{rule_count}
use Rattle.cluster_model.specs.Inner.Directories.{last_named}
use Rattle.cluster_model.specs.FirstFaults.{first_fault}
use Rattle.cluster_model.specs.Inner.Locations.{location_in, rule_locations_in}
use Rattle.cluster_model.specs.Locations.{role_of_word, role_written, its_locations, its_rule_locations}
use Rattle.cluster_model.specs.NamesInRules.{first_leaf, last_leaf}
use Rattle.cluster_model.specs.Inner.Orders.{first_point, order_of, orders_in, then_point}
use Rattle.cluster_model.specs.Orders.{kind_of_word, op_of, its_orders, leaf_begun, leaf_done, order_said}
use Rattle.cluster_model.specs.Inner.Resolution.{cause_after, cluster_of, own_cause, resolution_by}
use Rattle.cluster_model.specs.Resolution.{cause_said, cluster_said, resolution_of}
use Rattle.cluster_model.specs.Resources.{all_primitives, its_primitive}
use Rattle.cluster_model.specs.Checks.{cant_have, cant_take, names_missing, promotes_plain, rule_cause, too_many}
use Rattle.cluster_model.specs.Colocations.{colocation_said, its_colocations}
use Rattle.cluster_model.specs.Settings.{count_nodes, node_names_in}
use Rattle.cluster_model.proofs.FaultsSaid.{any_same}
use Rattle.cluster_model.proofs.NamedSaid.{directory, first_is, last_is, local_is, node_is, promotes_is, unknown_is, unknown_node_is}

map_same : {X Y : Type 0} (one other : X → Y) → ((x : X) → one x ≡ other x) → (xs : List X) → map one xs ≡ map other xs
map_same one other same [] = refl
map_same one other same (x ∷ xs) = let here = same x in let more = map_same one other same xs in rw (here, more) refl

flat_same : {X Y : Type 0} (one other : X → List Y) → ((x : X) → one x ≡ other x) → (xs : List X) → flat_map one xs ≡ flat_map other xs
flat_same one other same [] = refl
flat_same one other same (x ∷ xs) = let here = same x in let more = flat_same one other same xs in rw (here, more) refl

module _ (leaves : Leaves) (statements : List Statement) where
  abbrev d : Directory
  d = directory leaves statements

  locations_are : (f : Form) → location_in d f ≡ its_locations leaves statements f
  locations_are (form.Location id resource written discovery score node) =
      let leaf = first_is leaves statements resource in
      let place = node_is leaves statements node in
      rw (leaf, place) refl
  locations_are _ = refl

  rule_locations_are : (f : Form) → rule_locations_in d f ≡ its_rule_locations leaves statements f
  rule_locations_are (form.RuledLocation id resource written discovery rules) =
      let leaf = first_is leaves statements resource in
      map_same _ _ (λ (rule : RuleForm). ap (λ (n : ℕ).
      (let l : RuleLocation = record { id = id; leaf = n; role = role_written (option_or rule.role written); score = rule.score; rule = rule.rule } in l)) leaf) rules
  rule_locations_are _ = refl

  colocation_is : (id : List ℕ) (score : ℤ) (dependent : List ℕ) (dependent_role : Role) (primary : List ℕ) (primary_role : Role)
      → colocation_of id score (dependent_at d dependent dependent_role) (primary_at d primary primary_role)
      ≡ colocation_said leaves id score dependent dependent_role primary primary_role
  colocation_is id score dependent dependent_role primary primary_role =
      let first = first_is leaves statements dependent in
      let last = last_is leaves statements primary in
      rw (first, last) refl

  colocations_are : (f : Form) → colocations_in d f ≡ its_colocations leaves f
  colocations_are (form.Colocation id score dependent primary) =
      ap (λ one. one ∷ []) (colocation_is id score dependent.resource (role_of_word dependent.role) primary.resource (role_of_word primary.role))
  colocations_are (form.Group id members description params meta) =
      map_same _ _ (λ (pair : List ℕ × List ℕ). colocation_is id infinity pair.1 role.Started pair.0 role.Started) (successive members)
  colocations_are _ = refl

  done_is : (resource : List ℕ) (what : ActionWord) → (first_point d resource what).leaf ≡ leaf_done leaves resource what
  done_is resource what = let first = first_is leaves statements resource in let last = last_is leaves statements resource in rw (first, last) refl

  begun_is : (resource : List ℕ) (what : ActionWord) → (then_point d resource what).leaf ≡ leaf_begun leaves resource what
  begun_is resource what = let first = first_is leaves statements resource in let last = last_is leaves statements resource in rw (first, last) refl

  order_is : (id : List ℕ) (k : OrderKind) (symmetrical : Bool) (one : List ℕ) (what : ActionWord) (other : List ℕ) (then_what : ActionWord)
      → order_of d id k symmetrical (first_point d one what) (then_point d other then_what)
      ≡ order_said leaves statements id k symmetrical one what other then_what
  order_is id k symmetrical one what other then_what =
      let first = done_is one what in
      let later = begun_is other then_what in
      let local = local_is leaves statements (leaf_done leaves one what) (leaf_begun leaves other then_what) in
      rw (first, later, local) refl

  orders_are : (f : Form) → orders_in d f ≡ its_orders leaves statements f
  orders_are (form.Order id kind steps symmetrical) =
      map_same _ _
      (λ (pair : OrderStep × OrderStep). order_is id (kind_of_word kind) symmetrical pair.0.resource pair.0.action pair.1.resource pair.1.action)
      (successive steps)
  orders_are (form.Group id members description params meta) =
      map_same _ _ (λ (pair : List ℕ × List ℕ). order_is id kind.Mandatory true pair.0 action.Start pair.1 action.Start) (successive members)
  orders_are _ = refl

  cluster_is : (some : List Statement) → cluster_of d leaves.leaves some ≡ cluster_said leaves statements some
  unfolding cluster_of cluster_said
  cluster_is some =
      let locations = flat_same _ _ (λ (s : Statement). locations_are s.form) some in
      let rules = flat_same _ _ (λ (s : Statement). rule_locations_are s.form) some in
      let colocations = flat_same _ _ (λ (s : Statement). colocations_are s.form) some in
      let orders = flat_same _ _ (λ (s : Statement). orders_are s.form) some in
      rw (locations, rules, colocations, orders) refl

  -- faults
  missing_is : (f : Form) → has_unknown d f ≡ names_missing leaves statements f
  missing_is (form.Location id resource role discovery score node) =
      let one = unknown_is leaves statements resource in let other = unknown_node_is leaves statements node in rw (one, other) refl
  missing_is (form.RuledLocation id resource role discovery rules) = unknown_is leaves statements resource
  missing_is (form.Colocation id score dependent primary) =
      let one = unknown_is leaves statements dependent.resource in let other = unknown_is leaves statements primary.resource in rw (one, other) refl
  missing_is (form.Order id kind steps symmetrical) = any_same _ _ (λ (step : OrderStep). unknown_is leaves statements step.resource) steps
  missing_is (form.Group id members description params meta) = any_same _ _ (unknown_is leaves statements) members
  missing_is _ = refl

  role_is : (n : ℕ) (r : Role) → lacks_role d n r ≡ cant_have leaves n r
  role_is n role.Started = refl
  role_is n role.Promoted = ap not (promotes_is leaves statements n)

  action_is : (n : ℕ) (what : ActionWord) → lacks_action d (record { leaf = n; what = op_of what }) ≡ cant_take leaves n what
  action_is n action.Start = refl
  action_is n action.Stop = refl
  action_is n action.Promote = ap not (promotes_is leaves statements n)
  action_is n action.Demote = ap not (promotes_is leaves statements n)

  pair_is : (pair : OrderStep × OrderStep)
      → lacks_in_pair d pair
      ≡ (cant_take leaves (leaf_done leaves pair.0.resource pair.0.action) pair.0.action
      || cant_take leaves (leaf_begun leaves pair.1.resource pair.1.action) pair.1.action)
  pair_is pair =
      let first = ap (λ (n : ℕ). lacks_action d (record { leaf = n; what = op_of pair.0.action })) (done_is pair.0.resource pair.0.action)
      ∙ action_is (leaf_done leaves pair.0.resource pair.0.action) pair.0.action in
      let later = ap (λ (n : ℕ). lacks_action d (record { leaf = n; what = op_of pair.1.action })) (begun_is pair.1.resource pair.1.action)
      ∙ action_is (leaf_begun leaves pair.1.resource pair.1.action) pair.1.action in
      ap (λ (b : Bool). b || lacks_action d (then_point d pair.1.resource pair.1.action)) first
      ∙ ap (λ (b : Bool). cant_take leaves (leaf_done leaves pair.0.resource pair.0.action) pair.0.action || b) later

  plain_is : (f : Form) → has_unpromotable d f ≡ promotes_plain leaves f
  plain_is (form.Location id resource written discovery score node) =
      ap (λ (n : ℕ). lacks_role d n (role_written written)) (first_is leaves statements resource)
      ∙ role_is (first_leaf leaves resource) (role_written written)
  plain_is (form.RuledLocation id resource written discovery rules) =
      any_same _ _
      (λ (rule : RuleForm). ap (λ (n : ℕ). lacks_role d n (role_written (option_or rule.role written))) (first_is leaves statements resource)
      ∙ role_is (first_leaf leaves resource) (role_written (option_or rule.role written))) rules
  plain_is (form.Colocation id score dependent primary) =
      let first = ap (λ (n : ℕ). lacks_role d n (role_of_word dependent.role)) (first_is leaves statements dependent.resource)
      ∙ role_is (first_leaf leaves dependent.resource) (role_of_word dependent.role) in
      let last = ap (λ (n : ℕ). lacks_role d n (role_of_word primary.role)) (last_is leaves statements primary.resource)
      ∙ role_is (last_leaf leaves primary.resource) (role_of_word primary.role) in
      ap (λ (b : Bool). b || lacks_role d (last_named d primary.resource) (role_of_word primary.role)) first
      ∙ ap (λ (b : Bool). cant_have leaves (first_leaf leaves dependent.resource) (role_of_word dependent.role) || b) last
  plain_is (form.Order id kind steps symmetrical) = any_same _ _ pair_is (successive steps)
  plain_is _ = refl

-- how much some statements have
nodes_are : (f : Form) → node_count f ≡ length (node_names_in f)
nodes_are (form.Node id name attributes utilization) = refl
nodes_are _ = refl

leaves_are : (f : Form) → leaf_count f ≡ length (its_primitive f)
leaves_are (form.Primitive id agent description params meta utilization operations ops) = refl
leaves_are _ = refl

same_counts : (n m l k r t : ℕ) → n ≡ m → l ≡ k → r ≡ t → (let c : Counts = record { nodes = n; leaves = l; rules = r } in c) ≡ record { nodes = m; leaves = k; rules = t }
same_counts n m l k r t one two three = rw (one, two, three) refl

counted_is : (counts : Counts) (some : List Statement)
    → all_counted counts some
    ≡ record {
      nodes = counts.nodes + count_nodes some;
      leaves = counts.leaves + length (all_primitives some);
      rules = counts.rules + sum_by (λ s. rule_count s.form) some;
    }
unfolding counted_with
counted_is counts [] = same_counts _ _ _ _ _ _ (omega arith) (omega arith) (omega arith)
counted_is counts (s ∷ some) =
    let nodes = length-append (node_names_in s.form) (flat_map (λ (s : Statement). node_names_in s.form) some) in
    let leaves = length-append (its_primitive s.form) (all_primitives some) in
    let node = nodes_are s.form in
    let leaf = leaves_are s.form in
    let rules = sum_by-append (λ (s : Statement). rule_count s.form) (s ∷ []) some in
    counted_is (counted_with counts s.form) some
    ∙ same_counts _ _ _ _ _ _ (omega (arith, nodes, node)) (omega (arith, leaves, leaf)) (omega (arith, rules))

excess_is : (some : List Statement) → excess_of (counts_of some) ≡ too_many some
excess_is some =
    ap excess_of
    (counted_is nothing_counted some
    ∙ same_counts (0 + count_nodes some) (count_nodes some) (0 + length (all_primitives some)) (length (all_primitives some))
    (0 + sum_by (λ s. rule_count s.form) some) (sum_by (λ s. rule_count s.form) some) (omega arith) (omega arith) (omega arith))

-- causes that are the same find the same fault
first_same : (one other : List Statement → Statement → Option ModelCause) → ((before : List Statement) (s : Statement) → one before s ≡ other before s)
    → (before some : List Statement) → first_fault one before some ≡ first_fault other before some
first_same one other same before [] = refl
first_same one other same before (s ∷ some) =
    let here = same before s in let more = first_same one other same (before ++ s ∷ []) some in rw (here, more) refl

module _ (leaves : Leaves) (statements : List Statement) where
  own_is : (before : List Statement) (s : Statement) → own_cause (directory leaves statements) before s ≡ rule_cause leaves statements before s
  unfolding cause_of rule_cause
  own_is before s =
      let missing = missing_is leaves statements s.form in
      let plain = plain_is leaves statements s.form in
      let excess = excess_is (before ++ s ∷ []) in
      rw (missing, plain, excess) refl

  cause_is : (before : List Statement) (s : Statement) → cause_after (directory leaves statements) leaves.leaves before s ≡ cause_said leaves statements before s
  cause_is before s =
      let own = own_is before s in
      let cluster = cluster_is leaves statements (before ++ s ∷ []) in
      rw (own, cluster) refl

  pub resolution_is : resolution_of leaves statements ≡ resolution_by leaves statements
  unfolding resolution_of resolution_by
  resolution_is =
      let fault = first_same _ _ cause_is [] statements in
      let cluster = cluster_is leaves statements statements in
      rw (fault, cluster) refl
