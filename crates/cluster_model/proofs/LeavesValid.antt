-- The leaves of statements that were read are valid.
use Rattle.std.proofs.Common.{arith, ◌≡◌, ◌≢◌, ◌<◌, ◌≤◌, ℕ, Bool, true, false, cond, List, [], ◌∷◌, ◌++◌, length, map, refl, sym, ap, ◌∙◌, subst, AllPairs, Contains}
use Rattle.std.specs.Prelude.{Option, Some, None, is_some, unwrap_or}
use Rattle.std.specs.List.{AllByRecursion}
use Rattle.std.proofs.lemmas.List.{length-map}
use Rattle.crm_parse.specs.declared.form.Form.{Form}
use Rattle.crm_parse.specs.declared.form.Form.TheVariants as form
use Rattle.crm_parse.specs.declared.pair.Kv.{Kv}
use Rattle.crm_parse.specs.declared.pair.Operation.{Operation}
use Rattle.crm_parse.specs.declared.statement.Statement.{Statement}
use Rattle.crm_lex.specs.Names.{is_name}
use Rattle.crm_parse.specs.Monitors.{MayStandTogether, recurring}
use Rattle.crm_parse.specs.Operations.{interval_of, recurs}
use Rattle.crm_parse.specs.Inner.ReadForms.{IsRead}
use Rattle.cluster_types.specs.declared.leaf.Monitor.{Monitor as MonitorOf}
use Rattle.cluster_types.specs.Valid.{IsValidLeaf}
use Rattle.cluster_model.specs.Inner.Clones.{uncloned}
use Rattle.cluster_model.specs.Inner.Leaves.{around, leaf_in, primitive_leaf, leaves_of, surroundings_of}
use Rattle.cluster_model.specs.Operations.{monitor_of, monitors_of}
use Rattle.cluster_model.proofs.EachOf.{all_flat, of_all, of_map_all, pairs_map}
use Rattle.cluster_model.proofs.ReadNames.{AreRead}

-- the intervals of the monitors of some operations

interval-case : (b : Bool) (pairs : List Kv) (monitors : List MonitorOf) (intervals : List ℕ) → map (λ m. m.interval_ms) monitors ≡ intervals
    → map (λ m. m.interval_ms) (cond b (monitor_of pairs ∷ []) [] ++ monitors) ≡ cond b (interval_of pairs ∷ []) [] ++ intervals
unfolding monitor_of
interval-case true pairs monitors intervals e = ap (λ rest. interval_of pairs ∷ rest) e
interval-case false pairs monitors intervals e = e

monitor_intervals : (ops : List Operation) → map (λ m. m.interval_ms) (monitors_of ops) ≡ recurring ops
monitor_intervals [] = refl
monitor_intervals (op ∷ ops) = interval-case (recurs op) op.pairs (monitors_of ops) (recurring ops) (monitor_intervals ops)

-- what is valid of some monitors
record AreValid (monitors : List MonitorOf) : Type 0 where
  few : length monitors ≤ 8
  intervals : (m : MonitorOf) → Contains monitors m → 0 < m.interval_ms
  all_differ : AllPairs (λ (one other : MonitorOf). one.interval_ms ≢ other.interval_ms) monitors

valid-by : (monitors : List MonitorOf) (intervals : List ℕ) → map (λ m. m.interval_ms) monitors ≡ intervals → MayStandTogether intervals → AreValid monitors
valid-by monitors intervals e h =
    let interval : MonitorOf → ℕ = λ m. m.interval_ms in
    let many : length monitors ≡ length intervals = sym (length-map monitors interval) ∙ ap length e in
    let above : AllByRecursion (λ n. 0 < n) (map interval monitors) = subst (AllByRecursion (λ n. 0 < n)) (sym e) h.above in
    let apart : AllPairs (λ (one other : ℕ). one ≢ other) (map interval monitors) = subst (AllPairs (λ (one other : ℕ). one ≢ other)) (sym e) h.apart in
    record {
      few = omega (arith, many, h.few);
      intervals = λ m k. of_all (λ (m : MonitorOf). 0 < m.interval_ms) monitors m (of_map_all (λ n. 0 < n) interval monitors above) k;
      all_differ = pairs_map interval (λ (one other : ℕ). one ≢ other) monitors apart;
    }

-- what isn't cloned has one copy
one-copy : {C : Type 0} (none : C) (clone : Option C) (copies : C → ℕ) → copies none ≡ 1 → is_some clone ≡ false → copies (unwrap_or clone none) ≡ 1
one-copy none None copies h e = h
one-copy none (Some clone) copies h e = cc

leaf-valid : (statements : List Statement) (id : List ℕ) (meta : List Kv) (ops : List Operation) → is_name id ≡ true → MayStandTogether (recurring ops)
    → IsValidLeaf (primitive_leaf (surroundings_of statements) id meta ops)
unfolding primitive_leaf
leaf-valid statements id meta ops n h =
    let v = valid-by (monitors_of ops) (recurring ops) (monitor_intervals ops) h in
    let group = around (surroundings_of statements) id in
    record {
      name = n;
      copies = one-copy uncloned group.clone (λ clone. clone.copies) refl;
      few_monitors = v.few;
      intervals = v.intervals;
      all_differ = v.all_differ;
    }

form-valid : (statements : List Statement) (f : Form) → IsRead f → AllByRecursion IsValidLeaf (leaf_in (surroundings_of statements) f)
form-valid statements (form.Primitive id agent description params meta utilization operations ops) h =
    (leaf-valid statements id meta ops h.names.0 h.monitors, tt)
form-valid statements _ h = tt

-- each leaf of statements that were read is valid
pub leaves-valid : (statements : List Statement) → AreRead statements → AllByRecursion IsValidLeaf (leaves_of statements)
unfolding leaves_of
leaves-valid statements h =
    all_flat IsValidLeaf (λ (s : Statement). IsRead s.form) (λ s. leaf_in (surroundings_of statements) s.form) statements
    (λ s r. form-valid statements s.form r) h
