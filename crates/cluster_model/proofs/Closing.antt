-- Where loops are closed, statement by statement.
use Rattle.std.proofs.Common.{◌≡◌, ℕ, ◌+◌, ◌≤◌, if◌then◌else◌, List, [], ◌∷◌, ◌++◌, length, take, Option, Some, None, refl, sym, ap, ◌∙◌, arith}
use Rattle.std.specs.List.{flat_map, sum_by}
use Rattle.std.proofs.Math.Seq.{take-append_seam}
use Rattle.std.proofs.lemmas.Grind.{flat_map-append}
use Rattle.std.proofs.lemmas.List.Sums.{sum_by-append, sum_by_push}
use Rattle.std.proofs.lemmas.List.{append_assoc, length-append}
use Rattle.faults.specs.declared.fault.Fault.{Fault}
use Rattle.faults.specs.Reading.{fault_at}
use Rattle.crm_parse.specs.declared.statement.Statement.{Statement}
use Rattle.cluster_types.specs.declared.cluster.Cluster.{Cluster}
use Rattle.cluster_types.specs.declared.leaf.Leaf.{Leaf}
use Rattle.loops.specs.FirstLoops.{AllJoin, AllOrder, IsFirstColocation, IsFirstOrder, has_need_loop, has_step_loop, is_closed_by}
use Rattle.loops.proofs.LoopTests.{needs_closed, steps_closed}
use Rattle.cluster_model.specs.declared.resolution.directory.Directory.{Directory}
use Rattle.cluster_model.specs.declared.resolution.fault.ModelCause.{ModelCause}
use Rattle.cluster_model.specs.declared.resolution.fault.ModelCause.TheVariants.{ColocationLoop, OrderLoop}
use Rattle.cluster_model.specs.Inner.Colocations.{colocations_in, colocations_of}
use Rattle.cluster_model.specs.Counting.{colocation_count, order_count}
use Rattle.cluster_model.specs.FirstFaults.{first_fault}
use Rattle.cluster_model.specs.Inner.Orders.{orders_in, orders_of}
use Rattle.cluster_model.specs.Resolution.{cause_of_loops}
use Rattle.cluster_model.specs.Inner.Resolution.{cluster_of, loop_cause}
use Rattle.cluster_model.specs.Inner.Search.{closed_by, closing_cause, colocations_in_all, orders_in_all}
use Rattle.cluster_model.proofs.Limits.{colocations_are, orders_are}

-- the pass that looks for the statements of two places
abbrev pub fault_from : Option ℕ → Option ℕ → ℕ → ℕ → List Statement → Option (Fault ModelCause)
fault_from colocation order colocations orders [] = None
fault_from colocation order colocations orders (s ∷ statements) =
    fault_at s.line (closed_by colocation order (colocations + colocation_count s.form) (orders + order_count s.form))
    (fault_from colocation order (colocations + colocation_count s.form) (orders + order_count s.form) statements)

module _ (colocation order : Option ℕ) where
  same_from : (colocations orders : ℕ) (before statements : List Statement) → colocations ≡ colocations_in_all before → orders ≡ orders_in_all before
      → fault_from colocation order colocations orders statements ≡ first_fault (closing_cause colocation order) before statements
  same_from colocations orders before [] c o = refl
  same_from colocations orders before (s ∷ statements) c o =
      let more : colocations + colocation_count s.form ≡ colocations_in_all (before ++ s ∷ [])
      = ap (λ (n : ℕ). n + colocation_count s.form) c ∙ sym (sum_by_push (λ (x : Statement). colocation_count x.form) before s) in
      let others : orders + order_count s.form ≡ orders_in_all (before ++ s ∷ [])
      = ap (λ (n : ℕ). n + order_count s.form) o ∙ sym (sum_by_push (λ (x : Statement). order_count x.form) before s) in
      let next = same_from (colocations + colocation_count s.form) (orders + order_count s.form) (before ++ s ∷ []) statements more others in
      rw next (rw more (rw others refl))

  pub closing_from : (statements : List Statement)
      → first_fault (closing_cause colocation order) [] statements ≡ fault_from colocation order 0 0 statements
  closing_from statements = sym (same_from 0 0 [] statements refl refl)

-- causes that are the same at each statement find the same fault
pub same_first : (one other : List Statement → Statement → Option ModelCause) (before statements : List Statement)
    → ((front : List Statement) (s : Statement) (rest : List Statement) → before ++ statements ≡ front ++ s ∷ rest → one front s ≡ other front s)
    → first_fault one before statements ≡ first_fault other before statements
same_first one other before [] same = refl
same_first one other before (s ∷ statements) same =
    let here = same before s statements refl in
    let next = same_first one other (before ++ s ∷ []) statements (λ front x rest e. same front x rest (sym (append_assoc before (s ∷ []) statements) ∙ e)) in
    rw here (rw next refl)

-- what a list of statements gives is as much as is counted
flat_length : {B : Type 0} (f : Statement → List B) (count : Statement → ℕ) → ((s : Statement) → count s ≡ length (f s)) → (statements : List Statement)
    → sum_by count statements ≡ length (flat_map f statements)
flat_length f count are [] = refl
flat_length f count are (s ∷ statements) =
    let both = sum_by-append count (s ∷ []) statements in
    let more = flat_length f count are statements in
    let joint = length-append (f s) (flat_map f statements) in
    let one = are s in
    omega (arith, both, more, joint, one)

-- what the first statements give are the first of what all give
record IsFront {B : Type 0} (front whole : List B) : Type 0 where
  pub few : length front ≤ length whole
  pub same : front ≡ take (length front) whole

front_of : {B : Type 0} (f : Statement → List B) (xs ys all : List Statement) → all ≡ xs ++ ys → IsFront (flat_map f xs) (flat_map f all)
front_of f xs ys all e =
    let whole = ap (flat_map f) e ∙ flat_map-append f xs ys in
    let long = length-append (flat_map f xs) (flat_map f ys) in
    rw whole (record { few = omega arith; same = sym (take-append_seam (flat_map f xs) (flat_map f ys)) })

module _ (d : Directory) (leaves : List Leaf) (statements : List Statement) (c : Cluster) (is : c ≡ cluster_of d leaves statements)
    (joined : AllJoin c) (ordered : AllOrder c) (colocation order : Option ℕ) (needs : IsFirstColocation c colocation) (steps : IsFirstOrder c order) where
  same_leaves : (front : List Statement) → (cluster_of d leaves front).leaves ≡ c.leaves
  unfolding cluster_of
  same_leaves front = sym (ap (λ (c : Cluster). c.leaves) is)

  has_colocations : c.colocations ≡ colocations_of d statements
  unfolding cluster_of
  has_colocations = ap (λ (c : Cluster). c.colocations) is

  has_orders : c.orders ≡ orders_of d statements
  unfolding cluster_of
  has_orders = ap (λ (c : Cluster). c.orders) is

  module _ (front rest : List Statement) (e : statements ≡ front ++ rest) where
    need_test : has_need_loop (cluster_of d leaves front) ≡ is_closed_by colocation (colocations_in_all front)
    unfolding cluster_of
    need_test =
        let count = flat_length (λ s. colocations_in d s.form) (λ s. colocation_count s.form) (λ s. colocations_are d s.form) front in
        let f = front_of (λ s. colocations_in d s.form) front rest statements e in
        let few : length (colocations_of d front) ≤ length c.colocations = rw has_colocations f.few in
        let same : colocations_of d front ≡ take (length (colocations_of d front)) c.colocations = rw has_colocations f.same in
        needs_closed c (cluster_of d leaves front) joined (length (colocations_of d front)) few (same_leaves front) same colocation needs
        ∙ ap (is_closed_by colocation) (sym count)

    step_test : has_step_loop (cluster_of d leaves front) ≡ is_closed_by order (orders_in_all front)
    unfolding cluster_of
    step_test =
        let count = flat_length (λ s. orders_in d s.form) (λ s. order_count s.form) (λ s. orders_are d s.form) front in
        let f = front_of (λ s. orders_in d s.form) front rest statements e in
        let few : length (orders_of d front) ≤ length c.orders = rw has_orders f.few in
        let same : orders_of d front ≡ take (length (orders_of d front)) c.orders = rw has_orders f.same in
        steps_closed c (cluster_of d leaves front) ordered (length (orders_of d front)) few (same_leaves front) same order steps
        ∙ ap (is_closed_by order) (sym count)

    loops_closed : cause_of_loops (cluster_of d leaves front)
        ≡ (if is_closed_by colocation (colocations_in_all front) then Some ColocationLoop
        else if is_closed_by order (orders_in_all front) then Some OrderLoop else None)
    loops_closed = rw need_test (rw step_test refl)

  -- the first statement of the two is the first with which there is a loop
  pub closing_is_first : first_fault (closing_cause colocation order) [] statements ≡ first_fault (loop_cause d leaves) [] statements
  closing_is_first =
      same_first (closing_cause colocation order) (loop_cause d leaves) [] statements
      (λ front s rest e. sym (loops_closed (front ++ s ∷ []) rest (e ∙ sym (append_assoc front (s ∷ []) rest))))

-- what the search by places returned
pub found_by_places : (statements : List Statement) (c : Cluster) (joined : AllJoin c) (ordered : AllOrder c) (colocation order : Option ℕ)
    → IsFirstColocation c colocation → IsFirstOrder c order → (found : Option (Fault ModelCause))
    → found ≡ first_fault (closing_cause colocation order) [] statements
    → (d : Directory) (leaves : List Leaf) → c ≡ cluster_of d leaves statements → found ≡ first_fault (loop_cause d leaves) [] statements
found_by_places statements c joined ordered colocation order needs steps found h d leaves is =
    h ∙ closing_is_first d leaves statements c is joined ordered colocation order needs steps
