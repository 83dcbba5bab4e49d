-- The cluster of a configuration keeps the limits.
use Rattle.std.proofs.Common.{◌≡◌, ℕ, suc, ◌+◌, ◌-◌, ◌≤◌, nat_lt, Bool, true, false, if◌then◌else◌, Option, Some, None, List, [], ◌∷◌, length, Ok, refl, sym, ap, ◌∙◌, subst, arith}
use Rattle.std.specs.List.{flat_map}
use Rattle.std.proofs.lemmas.Bool.Decides.{nat_tests}
use Rattle.std.proofs.lemmas.List.{length-append, length-map}
use Rattle.crm_parse.specs.declared.form.Form.{Form}
use Rattle.crm_parse.specs.declared.form.Form.TheVariants as form
use Rattle.crm_parse.specs.declared.statement.Statement.{Statement}
use Rattle.cluster_types.specs.declared.cluster.Cluster.{Cluster}
use Rattle.cluster_types.specs.declared.leaf.Leaf.{Leaf}
use Rattle.cluster_types.specs.Valid.{KeepsLimits}
use Rattle.cluster_model.specs.declared.expansion.expand_fault.ExpandCause.{ExpandCause}
use Rattle.cluster_model.specs.declared.expansion.leaves.Leaves.{Leaves}
use Rattle.cluster_model.specs.Expansion.{expansion_of}
use Rattle.cluster_model.specs.Inner.Expansion.{leaves_with_spans}
use Rattle.cluster_model.specs.Inner.Faults.{fault_of}
use Rattle.cluster_model.specs.Inner.Leaves.{leaf_in, leaves_of, surroundings_of}
use Rattle.cluster_model.specs.declared.resolution.checks.Checked.{Checked}
use Rattle.cluster_model.specs.declared.resolution.counts.Counts.{Counts}
use Rattle.cluster_model.specs.declared.resolution.directory.Directory.{Directory}
use Rattle.cluster_model.specs.declared.resolution.fault.ModelCause.{ModelCause}
use Rattle.cluster_model.specs.declared.resolution.fault.ModelCause.TheVariants.{UnknownName, NotPromotable, UnsupportedOrder, TooManyNodes, TooManyLeaves, TooManyRules}
use Rattle.faults.specs.declared.fault.Fault.{Fault}
use Rattle.cluster_model.specs.SuccessivePairs.{pairs_after, successive}
use Rattle.cluster_model.specs.Inner.Checks.{cause_of, excess_of, has_unknown, has_unpromotable}
use Rattle.cluster_model.specs.Checks.{has_unsupported_pair}
use Rattle.cluster_model.specs.Inner.Colocations.{colocations_in, colocations_of}
use Rattle.cluster_model.specs.Inner.Counting.{all_counted, counted_with, counts_of, leaf_count, node_count, nothing_counted}
use Rattle.cluster_model.specs.Counting.{colocation_count, location_count, order_count}
use Rattle.cluster_model.specs.Inner.Directories.{directory_of}
use Rattle.cluster_model.specs.Inner.Locations.{location_in, locations_of, rule_location_of, rule_locations_in, rule_locations_of}
use Rattle.cluster_model.specs.Nodes.{node_in, nodes_by}
use Rattle.cluster_model.specs.Inner.Orders.{orders_in, orders_of}
use Rattle.cluster_model.specs.Inner.Resolution.{cluster_of}
use Rattle.cluster_model.specs.Resolution.{resolution_of}
use Rattle.cluster_model.proofs.Outcome.{clean, none-own}
use Rattle.cluster_model.proofs.Passes.{fault_after, passes, unless_cause}
use Rattle.faults.specs.Reading.{unless}
use Rattle.cluster_model.proofs.ExpansionSaid.{expansion_is}

-- so much there may be
pub record Within (counts : Counts) : Type 0 where
  pub nodes : counts.nodes ≤ 256
  pub leaves : counts.leaves ≤ 1000
  pub rules : counts.rules ≤ 2000

within : (counts : Counts) → excess_of counts ≡ None → Within counts
within counts e = split (nat_lt 256 counts.nodes) (nat_lt 1000 counts.leaves) (nat_lt 2000 counts.rules) refl refl refl e
  where
    split : (a b c : Bool) → nat_lt 256 counts.nodes ≡ a → nat_lt 1000 counts.leaves ≡ b → nat_lt 2000 counts.rules ≡ c
        → (if a then Some TooManyNodes else if b then Some TooManyLeaves else if c then Some TooManyRules else None) ≡ None → Within counts
    split true b c x y z e = absurd cc
    split false true c x y z e = absurd cc
    split false false true x y z e = absurd cc
    split false false false x y z e =
        record { nodes = grind (arith, nat_tests); leaves = grind (arith, nat_tests); rules = grind (arith, nat_tests) }

no_excess : (d : Directory) (counts : Counts) (f : Form) → cause_of d counts f ≡ None → excess_of counts ≡ None
unfolding cause_of
no_excess d counts f e = split (has_unknown d f) (has_unpromotable d f) (has_unsupported_pair f) e
  where
    split : (a b c : Bool) → (if a then Some UnknownName else if b then Some NotPromotable else if c then Some UnsupportedOrder else excess_of counts) ≡ None
        → excess_of counts ≡ None
    split true b c e = absurd cc
    split false true c e = absurd cc
    split false false true e = absurd cc
    split false false false e = e

sound_counts : (d : Directory) (n : ℕ) (counts : Counts) (statements : List Statement) → Within counts
    → (fault_after d n counts statements).fault ≡ None → Within (all_counted counts statements)
sound_counts d n counts [] w e = w
sound_counts d n counts (s ∷ statements) w e =
    split (cause_of d counted s.form) refl e (λ more rest. sound_counts d (n + 1) counted statements more rest)
  where
    counted : Counts
    counted = counted_with counts s.form

    split : (found : Option ModelCause) → cause_of d counted s.form ≡ found
        → (unless_cause found n s.line (fault_after d (n + 1) counted statements)).fault ≡ None
        → (Within counted → (fault_after d (n + 1) counted statements).fault ≡ None → Within (all_counted counted statements))
        → Within (all_counted counted statements)
    split None same e more = more (within counted (no_excess d counted s.form same)) e
    split (Some cause) same e more = absurd cc

length-pairs_after : {A : Type 0} (x : A) (xs : List A) → length (pairs_after x xs) ≡ length xs
length-pairs_after x [] = refl
length-pairs_after x (y ∷ ys) = ap (λ n. suc n) (length-pairs_after y ys)

length-successive : {A : Type 0} (xs : List A) → length (successive xs) ≡ length xs - 1
length-successive [] = refl
length-successive (x ∷ xs) = let same = length-pairs_after x xs in omega (arith, same)

node_is : (f : Form) → node_count f ≡ length (node_in f)
node_is (form.Node id name attributes utilization) = refl
node_is _ = refl

leaf_is : (statements : List Statement) (f : Form) → leaf_count f ≡ length (leaf_in (surroundings_of statements) f)
leaf_is statements (form.Primitive id agent description params meta utilization operations ops) = refl
leaf_is statements _ = refl

locations_are : (d : Directory) (f : Form) → location_count f ≡ length (location_in d f) + length (rule_locations_in d f)
locations_are d (form.Location id resource role discovery score node) = refl
locations_are d (form.RuledLocation id resource role discovery rules) =
    let same = length-map rules (rule_location_of d id resource role) in omega (arith, same)
locations_are d _ = refl

pub colocations_are : (d : Directory) (f : Form) → colocation_count f ≡ length (colocations_in d f)
colocations_are d (form.Colocation id score dependent primary) = refl
colocations_are d (form.Group id members description params meta) = sym (length-map (successive members) _ ∙ length-successive members)
colocations_are d _ = refl

pub orders_are : (d : Directory) (f : Form) → order_count f ≡ length (orders_in d f)
orders_are d (form.Order id kind steps symmetrical) = sym (length-map (successive steps) _ ∙ length-successive steps)
orders_are d (form.Group id members description params meta) = sym (length-map (successive members) _ ∙ length-successive members)
orders_are d _ = refl

nodes_counted : (counts : Counts) (statements : List Statement) → (all_counted counts statements).nodes ≡ counts.nodes + length (nodes_by statements)
unfolding counted_with
nodes_counted counts [] = omega arith
nodes_counted counts (s ∷ statements) =
    let more = nodes_counted (counted_with counts s.form) statements in
    let joint = length-append (node_in s.form) (nodes_by statements) in
    omega (arith, more, joint, node_is s.form)

leaves_counted : (leaf : Form → List Leaf) → ((f : Form) → leaf_count f ≡ length (leaf f)) → (counts : Counts) (statements : List Statement)
    → (all_counted counts statements).leaves ≡ counts.leaves + length (flat_map (λ s. leaf s.form) statements)
unfolding counted_with
leaves_counted leaf same counts [] = omega arith
leaves_counted leaf same counts (s ∷ statements) =
    let more = leaves_counted leaf same (counted_with counts s.form) statements in
    let joint = length-append (leaf s.form) (flat_map (λ s. leaf s.form) statements) in
    omega (arith, more, joint, same s.form)

-- the rules of some statements
abbrev pub rules_of : Directory → List Statement → ℕ
rules_of d statements =
    length (locations_of d statements) + length (rule_locations_of d statements) + length (colocations_of d statements) + length (orders_of d statements)

rules_counted : (d : Directory) (counts : Counts) (statements : List Statement) → (all_counted counts statements).rules ≡ counts.rules + rules_of d statements
unfolding counted_with
rules_counted d counts [] = omega arith
rules_counted d counts (s ∷ statements) =
    let more = rules_counted d (counted_with counts s.form) statements in
    let one = length-append (location_in d s.form) (locations_of d statements) in
    let two = length-append (rule_locations_in d s.form) (rule_locations_of d statements) in
    let three = length-append (colocations_in d s.form) (colocations_of d statements) in
    let four = length-append (orders_in d s.form) (orders_of d statements) in
    omega (arith, more, one, two, three, four, locations_are d s.form, colocations_are d s.form, orders_are d s.form)

-- the counts of a configuration that is resolved are within the limits
pub resolved_within : (leaves : Leaves) (statements : List Statement) (cluster : Cluster) → resolution_of leaves statements ≡ Ok cluster
    → (cluster_of (directory_of leaves statements) leaves.leaves statements ≡ cluster) × Within (counts_of statements)
resolved_within leaves statements cluster r =
    let d = directory_of leaves statements in
    let ok = clean leaves statements cluster r in
    let sound = ap (λ (found : Checked). found.fault) (passes d statements) ∙ none-own d leaves.leaves statements cluster ok in
    (sym ok.is_whole, sound_counts d 0 nothing_counted statements (record { nodes = omega arith; leaves = omega arith; rules = omega arith }) sound)

expanded : (fault : Option (Fault ExpandCause)) (statements : List Statement) (leaves : Leaves) → unless fault (leaves_with_spans statements) ≡ Ok leaves
    → leaves ≡ leaves_with_spans statements
expanded None statements leaves e = cc
expanded (Some fault) statements leaves e = absurd cc

leaves_within : (statements : List Statement) → Within (counts_of statements) → length (leaves_of statements) ≤ 1000
unfolding leaves_of
leaves_within statements w = let counted = leaves_counted (leaf_in (surroundings_of statements)) (leaf_is statements) nothing_counted statements in omega (arith, counted, w.leaves)

cluster_within : (d : Directory) (leaves : List Leaf) (statements : List Statement) → Within (counts_of statements) → length leaves ≤ 1000
    → KeepsLimits (cluster_of d leaves statements)
unfolding cluster_of
cluster_within d leaves statements w few =
    let nodes = nodes_counted nothing_counted statements in
    let rules = rules_counted d nothing_counted statements in
    record { nodes = omega (arith, nodes, w.nodes); leaves = few; rules = omega (arith, rules, w.rules) }

-- the cluster of the leaves of a configuration keeps the limits
pub limits_kept : (statements : List Statement) (leaves : Leaves) (cluster : Cluster) → expansion_of statements ≡ Ok leaves
    → resolution_of leaves statements ≡ Ok cluster → KeepsLimits cluster
limits_kept statements leaves cluster e r =
    let made = expanded (fault_of statements) statements leaves (sym (expansion_is statements) ∙ e) in
    let (same, w) = resolved_within leaves statements cluster r in
    let are : leaves.leaves ≡ leaves_of statements = ap (λ (l : Leaves). l.leaves) made in
    let few : length leaves.leaves ≤ 1000 = rw are (leaves_within statements w) in
    subst (λ (c : Cluster). KeepsLimits c) same (cluster_within (directory_of leaves statements) leaves.leaves statements w few)
