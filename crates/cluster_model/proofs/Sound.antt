-- What holds of the rules of statements that aren't at fault.
use Rattle.std.proofs.Common.{arith, ◌≡◌, ◌≢◌, ◌<◌, ◌+◌, ℕ, zero, suc, Bool, true, false, List, [], ◌∷◌, length, take, cond, refl, ap, sym, ◌∙◌, inl, inr, ◌⊎◌, Contains}
use Rattle.std.specs.Prelude.{Option, Some, None, Result, Ok, Err}
use Rattle.std.specs.Option.{option_or}
use Rattle.std.proofs.lemmas.Bool.{or_parts}
use Rattle.std.proofs.lemmas.List.{length-map}
use Rattle.std.proofs.Math.Seq.{take-length}
use Rattle.faults.specs.Carry.{IsDone}
use Rattle.cluster_types.specs.declared.leaf.Leaf.{Leaf}
use Rattle.cluster_types.specs.declared.cluster.Cluster.{Cluster}
use Rattle.cluster_types.specs.declared.leaf.Op.TheVariants.{Monitor}
use Rattle.cluster_types.specs.declared.rules.Colocation.{Colocation}
use Rattle.cluster_types.specs.declared.rules.Order.{Order}
use Rattle.crm_parse.specs.declared.form.Form.{Form}
use Rattle.crm_parse.specs.declared.form.Form.TheVariants as form
use Rattle.crm_parse.specs.declared.statement.Statement.{Statement}
use Rattle.crm_parse.specs.declared.words.ActionWord.{ActionWord}
use Rattle.crm_parse.specs.declared.words.ActionWord.TheVariants as action
use Rattle.cluster_model.specs.declared.expansion.leaves.Leaves.{Leaves}
use Rattle.loops.specs.FirstLoops.{JoinsLeaves, OrdersSteps}
use Rattle.lemmas.proofs.Members.{head_or_rest, in_none, of_flat, of_map}
use Rattle.cluster_model.specs.declared.resolution.checks.Checked.{Checked}
use Rattle.cluster_model.specs.declared.resolution.counts.Counts.{Counts}
use Rattle.cluster_model.specs.declared.resolution.directory.Directory.{Directory}
use Rattle.faults.specs.declared.fault.Fault.{Fault}
use Rattle.faults.specs.declared.fault.Fault.TheVariants.{At, NoMemory}
use Rattle.cluster_model.specs.declared.resolution.fault.ModelCause.{ModelCause}
use Rattle.cluster_model.specs.declared.resolution.fault.ModelCause.TheVariants.{UnknownName, NotPromotable, UnsupportedOrder}
use Rattle.cluster_model.specs.SuccessivePairs.{successive}
use Rattle.cluster_model.specs.Inner.Checks.{cause_of, excess_of, has_unknown, has_unpromotable}
use Rattle.cluster_model.specs.Checks.{has_unsupported_pair}
use Rattle.cluster_model.specs.Inner.Colocations.{colocation_of, colocations_in, colocations_of, dependent_at, member_colocation, primary_at}
use Rattle.cluster_model.specs.Inner.Counting.{counted_with, nothing_counted}
use Rattle.cluster_model.specs.Inner.Directories.{directory_of, groups_of, is_unknown, traits_of}
use Rattle.cluster_model.specs.Locations.{role_of_word}
use Rattle.cluster_model.specs.Inner.Orders.{first_point, member_order, orders_in, orders_of, step_order, then_point}
use Rattle.cluster_model.specs.Orders.{kind_of_word, op_of}
use Rattle.cluster_model.specs.FirstFaults.{first_fault}
use Rattle.cluster_model.specs.Inner.Resolution.{cause_after, cluster_of, loop_cause, own_cause, resolution_by}
use Rattle.cluster_model.specs.Resolution.{resolution_of}
use Rattle.cluster_model.specs.Inner.Search.{sound_count}
use Rattle.faults.specs.Reading.{Gives, UnlessMemory, unless}
use Rattle.cluster_model.proofs.Passes.{check_all, fault_after, passes, unless_cause}
use Rattle.cluster_model.proofs.Split.{none_all, split}
use Rattle.cluster_model.proofs.Known.{first-there, last-there, pairs-none}
use Rattle.cluster_model.proofs.RulesSaid.{resolution_is}

-- a statement without these faults
pub record IsSound (d : Directory) (form : Form) : Type 0 where
  pub known : has_unknown d form ≡ false
  pub promotable : has_unpromotable d form ≡ false
  pub supported : has_unsupported_pair form ≡ false

pub none-sound : (d : Directory) (counts : Counts) (f : Form) → cause_of d counts f ≡ None → IsSound d f
unfolding cause_of
none-sound d counts f h = on (has_unknown d f) (has_unpromotable d f) (has_unsupported_pair f) refl refl refl h where
  on : (a b c : Bool) → has_unknown d f ≡ a → has_unpromotable d f ≡ b → has_unsupported_pair f ≡ c
      → cond a (Some UnknownName) (cond b (Some NotPromotable) (cond c (Some UnsupportedOrder) (excess_of counts))) ≡ None → IsSound d f
  on true b c e f g h = cc
  on false true c e f g h = cc
  on false false true e f g h = cc
  on false false false e f g h = record { known = e; promotable = f; supported = g }

-- the statements before the first that is at fault are sound
pub all-sound : (d : Directory) (n : ℕ) (counts : Counts) (statements : List Statement) (k : ℕ) → n + k ≡ (fault_after d n counts statements).sound
    → (s : Statement) → Contains (take k statements) s → IsSound d s.form
all-sound d n counts [] zero e s h = absurd (in_none s h)
all-sound d n counts [] (suc k) e s h = absurd (in_none s h)
all-sound d n counts (x ∷ statements) zero e s h = absurd (in_none s h)
all-sound d n counts (x ∷ statements) (suc k) e s h =
    on (cause_of d counted x.form) refl e (head_or_rest x (take k statements) s h) (λ f. all-sound d (n + 1) counted statements k f s) where
      counted : Counts
      counted = counted_with counts x.form

      on : (cause : Option ModelCause) → cause_of d counted x.form ≡ cause
          → n + suc k ≡ (unless_cause cause n x.line (fault_after d (n + 1) counted statements)).sound → (x ≡ s) ⊎ Contains (take k statements) s
          → (n + 1 + k ≡ (fault_after d (n + 1) counted statements).sound → Contains (take k statements) s → IsSound d s.form) → IsSound d s.form
      on (Some cause) c e h next = absurd (let f : ⊥ = omega arith in f)
      on None c e (inl same) next = rw same at (none-sound d counted x.form c)
      on None c e (inr r) next = next (omega arith) r

record Joins (d : Directory) (col : Colocation) : Type 0 where
  pub dependent : col.dependent < length d.leaves
  pub primary : col.primary < length d.leaves

joins-same : (d : Directory) (one other : Colocation) → one ≡ other → Joins d one → Joins d other
joins-same d one other e j = rw e at j

colocations-join : (d : Directory) (f : Form) → has_unknown d f ≡ false → (col : Colocation) → Contains (colocations_in d f) col → Joins d col
colocations-join d (form.Node id name attributes utilization) h col k = absurd (in_none col k)
colocations-join d (form.Primitive id agent description params meta utilization operations ops) h col k = absurd (in_none col k)
colocations-join d (form.Group id members description params meta) h col k =
    let m = of_map (member_colocation d id) (successive members) col k in
    let t = pairs-none (is_unknown d) members h m.source m.among in
    joins-same d (member_colocation d id m.source) col m.gives
    (record { dependent = first-there d m.source.1 t.after; primary = last-there d m.source.0 t.before })
colocations-join d (form.Cloned id child ms description params meta) h col k = absurd (in_none col k)
colocations-join d (form.Location id resource role discovery score node) h col k = absurd (in_none col k)
colocations-join d (form.RuledLocation id resource role discovery rules) h col k = absurd (in_none col k)
colocations-join d (form.Colocation id score dependent primary) h col k =
    on (head_or_rest (colocation_of id score (dependent_at d dependent.resource (role_of_word dependent.role))
    (primary_at d primary.resource (role_of_word primary.role))) [] col k) where
      on : (colocation_of id score (dependent_at d dependent.resource (role_of_word dependent.role))
          (primary_at d primary.resource (role_of_word primary.role)) ≡ col) ⊎ Contains [] col → Joins d col
      on (inl same) =
          joins-same d _ col same (record {
            dependent = first-there d dependent.resource (or_parts (is_unknown d dependent.resource) (is_unknown d primary.resource) h).0;
            primary = last-there d primary.resource (or_parts (is_unknown d dependent.resource) (is_unknown d primary.resource) h).1;
          })
      on (inr r) = absurd (in_none col r)
colocations-join d (form.Order id kind steps symmetrical) h col k = absurd (in_none col k)
colocations-join d (form.Settings what set pairs) h col k = absurd (in_none col k)
colocations-join d (form.Kept words) h col k = absurd (in_none col k)

record Steps (d : Directory) (o : Order) : Type 0 where
  pub first : o.first < length d.leaves
  pub later : o.then_leaf < length d.leaves
  pub first_word : o.first_op ≢ Monitor
  pub later_word : o.then_op ≢ Monitor

steps-same : (d : Directory) (one other : Order) → one ≡ other → Steps d one → Steps d other
steps-same d one other e j = rw e at j

no-monitor : (a : ActionWord) → op_of a ≢ Monitor
no-monitor action.Start h = cc
no-monitor action.Stop h = cc
no-monitor action.Promote h = cc
no-monitor action.Demote h = cc

pub first-point-there : (d : Directory) (name : List ℕ) (a : ActionWord) → is_unknown d name ≡ false → (first_point d name a).leaf < length d.leaves
first-point-there d name action.Start h = last-there d name h
first-point-there d name action.Stop h = first-there d name h
first-point-there d name action.Promote h = last-there d name h
first-point-there d name action.Demote h = first-there d name h

pub then-point-there : (d : Directory) (name : List ℕ) (a : ActionWord) → is_unknown d name ≡ false → (then_point d name a).leaf < length d.leaves
then-point-there d name action.Start h = first-there d name h
then-point-there d name action.Stop h = last-there d name h
then-point-there d name action.Promote h = first-there d name h
then-point-there d name action.Demote h = last-there d name h

orders-step : (d : Directory) (f : Form) → has_unknown d f ≡ false → (o : Order) → Contains (orders_in d f) o → Steps d o
orders-step d (form.Node id name attributes utilization) h o k = absurd (in_none o k)
orders-step d (form.Primitive id agent description params meta utilization operations ops) h o k = absurd (in_none o k)
orders-step d (form.Group id members description params meta) h o k =
    let m = of_map (member_order d id) (successive members) o k in
    let t = pairs-none (is_unknown d) members h m.source m.among in
    steps-same d (member_order d id m.source) o m.gives (record {
      first = first-point-there d m.source.0 action.Start t.before;
      later = then-point-there d m.source.1 action.Start t.after;
      first_word = no-monitor action.Start;
      later_word = no-monitor action.Start;
    })
orders-step d (form.Cloned id child ms description params meta) h o k = absurd (in_none o k)
orders-step d (form.Location id resource role discovery score node) h o k = absurd (in_none o k)
orders-step d (form.RuledLocation id resource role discovery rules) h o k = absurd (in_none o k)
orders-step d (form.Colocation id score dependent primary) h o k = absurd (in_none o k)
orders-step d (form.Order id kind steps symmetrical) h o k =
    let m = of_map (step_order d id (kind_of_word kind) symmetrical) (successive steps) o k in
    let t = pairs-none (λ step. is_unknown d step.resource) steps h m.source m.among in
    steps-same d (step_order d id (kind_of_word kind) symmetrical m.source) o m.gives (record {
      first = first-point-there d m.source.0.resource m.source.0.action t.before;
      later = then-point-there d m.source.1.resource m.source.1.action t.after;
      first_word = no-monitor m.source.0.action;
      later_word = no-monitor m.source.1.action;
    })
orders-step d (form.Settings what set pairs) h o k = absurd (in_none o k)
orders-step d (form.Kept words) h o k = absurd (in_none o k)

pub as-many : (d : Directory) (leaves : Leaves) (statements : List Statement) → d ≡ directory_of leaves statements → length d.leaves ≡ length leaves.leaves
unfolding directory_of
as-many d leaves statements e =
    ap (λ (d : Directory). length d.leaves) e ∙ length-map leaves.leaves (traits_of (groups_of statements))

from-none : (k n : ℕ) → k ≡ n → 0 + k ≡ n
from-none k n e = omega arith

all-join : (d : Directory) (statements : List Statement) (k : ℕ) → k ≡ (check_all d statements).sound → (col : Colocation)
    → Contains (colocations_of d (take k statements)) col → Joins d col
all-join d statements k e col h =
    let m = of_flat (λ s. colocations_in d s.form) (take k statements) col h in
    let t = all-sound d 0 nothing_counted statements k (from-none k (check_all d statements).sound e) m.source m.among in
    colocations-join d m.source.form t.known col m.gives

all-step : (d : Directory) (statements : List Statement) (k : ℕ) → k ≡ (check_all d statements).sound → (o : Order)
    → Contains (orders_of d (take k statements)) o → Steps d o
all-step d statements k e o h =
    let m = of_flat (λ s. orders_in d s.form) (take k statements) o h in
    let t = all-sound d 0 nothing_counted statements k (from-none k (check_all d statements).sound e) m.source m.among in
    orders-step d m.source.form t.known o m.gives

pub second-none : (one other : Option (Fault ModelCause)) → option_or one other ≡ None → other ≡ None
second-none None other h = h
second-none (Some fault) other h = cc

-- what is returned where a cluster is carried past a step that answers with the fault found, if there is one
pub done-gives : (c : Cluster) (found : Option (Fault ModelCause)) (step : Result (Unit {0}) (Fault ModelCause)) (result resolution : Result Cluster (Fault ModelCause))
    → Gives (λ passed. passed) step (unless found tt) → IsDone c step result → (found ≡ None → resolution ≡ Ok c)
    → ((fault : Fault ModelCause) → found ≡ Some fault → resolution ≡ Err fault) → Gives (λ cluster. cluster) result resolution
done-gives c found step (Err NoMemory) resolution g is ok err = tt
done-gives c None (Ok passed) (Ok same) resolution g is ok err = ok refl ∙ ap Ok (sym is.0)
done-gives c (Some fault) (Ok passed) (Ok same) resolution g is ok err = cc
done-gives c found (Err fault) (Ok same) resolution g is ok err = let failed = is.1 in cc
done-gives c found (Ok passed) (Err (At line cause)) resolution g is ok err = cc
done-gives c found (Err NoMemory) (Err (At line cause)) resolution g is ok err = cc
done-gives c None (Err (At other why)) (Err (At line cause)) resolution g is ok err = cc
done-gives c (Some fault) (Err (At other why)) (Err (At line cause)) resolution g is ok err = err (At line cause) cc

-- unless memory ran out, as it is
pub is-answer : (fault : Fault ModelCause) (P : Type 0) → P → UnlessMemory fault P
is-answer (At line cause) P h = h
is-answer NoMemory P h = tt

module _ (leaves : Leaves) (all : List Leaf) (statements part : List Statement) (d : Directory) (count : ℕ) (c : Cluster)
    (is_all : all ≡ leaves.leaves) (is_directory : d ≡ directory_of leaves statements) (is_count : count ≡ sound_count (own_cause d) [] statements)
    (is_part : part ≡ take count statements) (is_cluster : c ≡ cluster_of d all part) where
  has_leaves : c.leaves ≡ leaves.leaves
  unfolding cluster_of
  has_leaves = ap (λ (c : Cluster). c.leaves) is_cluster ∙ is_all

  has_colocations : c.colocations ≡ colocations_of d (take count statements)
  unfolding cluster_of
  has_colocations = ap (λ (c : Cluster). c.colocations) is_cluster ∙ ap (colocations_of d) is_part

  has_orders : c.orders ≡ orders_of d (take count statements)
  unfolding cluster_of
  has_orders = ap (λ (c : Cluster). c.orders) is_cluster ∙ ap (orders_of d) is_part

  as-many-leaves : length d.leaves ≡ length c.leaves
  as-many-leaves = as-many d leaves statements is_directory ∙ ap length (sym has_leaves)

  sound-found : count ≡ (check_all d statements).sound
  sound-found = is_count ∙ sym (ap (λ (found : Checked). found.sound) (passes d statements))

  pub joined : (col : Colocation) → Contains c.colocations col → JoinsLeaves c col
  joined col h =
      let many = as-many-leaves in
      let j = all-join d statements count sound-found col (rw has_colocations at h) in
      record { dependent = rw many at j.dependent; primary = rw many at j.primary }

  pub ordered : (o : Order) → Contains c.orders o → OrdersSteps c o
  ordered o h =
      let many = as-many-leaves in
      let j = all-step d statements count sound-found o (rw has_orders at h) in
      record { first = rw many at j.first; later = rw many at j.later; first_word = j.first_word; later_word = j.later_word }

  pub is_sound : c ≡ cluster_of d leaves.leaves part
  is_sound = is_cluster ∙ ap (λ all. cluster_of d all part) is_all

  module _ (loop fault : Option (Fault ModelCause)) (is_loop : loop ≡ first_fault (loop_cause d leaves.leaves) [] part)
      (is_fault : fault ≡ first_fault (own_cause d) [] statements) where
    -- the first loop among the statements before the first fault otherwise, and else that fault
    resolved-by : resolution_of leaves statements ≡ unless (option_or loop fault) (cluster_of d leaves.leaves statements)
    unfolding resolution_by
    resolved-by =
        let found = split (own_cause d) (loop_cause d leaves.leaves) [] statements in
        let first : first_fault (loop_cause d leaves.leaves) [] (take (sound_count (own_cause d) [] statements) statements) ≡ loop
        = ap (first_fault (loop_cause d leaves.leaves) []) (ap (λ k. take k statements) (sym is_count) ∙ sym is_part) ∙ sym is_loop in
        let both : first_fault (cause_after d leaves.leaves) [] statements ≡ option_or loop fault
        = found ∙ ap (λ one. option_or one (first_fault (own_cause d) [] statements)) first ∙ ap (option_or loop) (sym is_fault) in
        let resolution : resolution_by leaves statements ≡ unless (first_fault (cause_after d leaves.leaves) [] statements) (cluster_of d leaves.leaves statements)
        = ap (λ (d : Directory). unless (first_fault (cause_after d leaves.leaves) [] statements) (cluster_of d leaves.leaves statements)) (sym is_directory) in
        resolution_is leaves statements ∙ (resolution ∙ ap (λ found. unless found (cluster_of d leaves.leaves statements)) both)

    -- where there is neither, the cluster is that of all statements
    pub resolves : option_or loop fault ≡ None → resolution_of leaves statements ≡ Ok c
    resolves none =
        let whole = none_all (own_cause d) [] statements (sym is_fault ∙ second-none loop fault none) in
        let all_of : part ≡ statements = is_part ∙ ap (λ k. take k statements) (is_count ∙ whole) ∙ take-length statements in
        resolved-by ∙ ap (λ found. unless found (cluster_of d leaves.leaves statements)) none ∙ ap Ok (sym (is_sound ∙ ap (cluster_of d leaves.leaves) all_of))

    pub refuses : (found : Fault ModelCause) → option_or loop fault ≡ Some found → resolution_of leaves statements ≡ Err found
    refuses found some = resolved-by ∙ ap (λ found. unless found (cluster_of d leaves.leaves statements)) some
