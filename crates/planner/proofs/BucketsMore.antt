-- One position more in the buckets of the nodes.
use Rattle.std.proofs.Common.{arith, ◌≡◌, ◌<◌, ◌+◌, ◌==◌, ◌++◌, ℕ, Bool, true, false, cond, List, [], ◌∷◌, Option, Some, None, length, filter, replicate, unwrap_or, IfSome, Contains, get_or, take, refl, sym, ap, subst, ◌∙◌}
use Rattle.std.specs.List.{slice_get}
use Rattle.std.specs.Option.{option_map_or}
use Rattle.std.proofs.lemmas.Bool.{eqb-true}
use Rattle.std.proofs.lemmas.List.{append-nil, take_more}
use Rattle.std.proofs.lemmas.List.Elements.{Contains-get_or}
use Rattle.std.proofs.lemmas.Option.{slice_get-get_or, unwrap_or-slice_get}
use Rattle.cluster_types.specs.declared.cluster.Cluster.{Cluster}
use Rattle.cluster_types.specs.declared.journal.Action.{Action}
use Rattle.cluster_types.specs.declared.journal.Action.TheVariants.{Fence, Probe, Operation, MigrateTo, MigrateFrom}
use Rattle.cluster_types.specs.declared.leaf.Op.TheVariants as op
use Rattle.cluster_types.specs.Precedence.{step_cell}
use Rattle.planner.specs.Inner.Chains.{changed_node, is_at, changed_node_at}
use Rattle.planner.specs.Inner.Index.{with_place}
use Rattle.planner.specs.ActionNames.{IsActionWithin}
use Rattle.planner.proofs.IndexMore.{filter_last, set_on}

abbrev AreAt : (ℕ → Option ℕ) → ℕ → List (List ℕ) → List ℕ → Type 0
AreAt key nodes buckets xs = (m : ℕ) → m < nodes → unwrap_or (slice_get buckets m) [] ≡ filter (λ i. is_at m (key i)) xs

-- the place where a position is added, and the others
one_more_at : (buckets : List (List ℕ)) (q m p : ℕ) (old : List ℕ) → q < length buckets → unwrap_or (slice_get buckets m) [] ≡ old
    → unwrap_or (slice_get (with_place buckets (Some q) p) m) [] ≡ old ++ cond (q == m) (p ∷ []) []
one_more_at buckets q m p old l is = on (q == m) refl
  where
    on : (b : Bool) → (q == m) ≡ b → unwrap_or (slice_get (with_place buckets (Some q) p) m) [] ≡ old ++ cond b (p ∷ []) []
    on true f =
        let same : q ≡ m = eqb-true q m f in
        set_on buckets m q (unwrap_or (slice_get buckets q) [] ++ p ∷ []) true l f ∙ ap (λ v. v ++ p ∷ []) (ap (λ n. unwrap_or (slice_get buckets n) []) same ∙ is)
    on false f = set_on buckets m q (unwrap_or (slice_get buckets q) [] ++ p ∷ []) false l f ∙ (is ∙ sym (append-nil old))

more_at : (buckets : List (List ℕ)) (nodes m p : ℕ) (v : Option ℕ) (old : List ℕ) → length buckets ≡ nodes → IfSome v (λ m. m < nodes)
    → unwrap_or (slice_get buckets m) [] ≡ old → unwrap_or (slice_get (with_place buckets v p) m) [] ≡ old ++ cond (is_at m v) (p ∷ []) []
more_at buckets nodes m p (Some q) old long inside is = one_more_at buckets q m p old (omega arith) is
more_at buckets nodes m p None old long inside is = is ∙ sym (append-nil old)

pub buckets_more : (key : ℕ → Option ℕ) (nodes : ℕ) (buckets more : List (List ℕ)) (xs : List ℕ) (i d : ℕ) (v : Option ℕ) → i < length xs → length buckets ≡ nodes
    → v ≡ key (get_or xs i d) → IfSome v (λ m. m < nodes) → AreAt key nodes buckets (take i xs) → more ≡ with_place buckets v (get_or xs i d)
    → AreAt key nodes more (take (i + 1) xs)
buckets_more key nodes buckets more xs i d v l long at inside are e m within =
    ap (λ w. unwrap_or (slice_get w m) []) e
    ∙ (more_at buckets nodes m (get_or xs i d) v (filter (λ j. is_at m (key j)) (take i xs)) long inside (are m within)
    ∙ (ap (λ w. filter (λ j. is_at m (key j)) (take i xs) ++ cond (is_at m w) (get_or xs i d ∷ []) []) at
    ∙ sym (ap (filter (λ j. is_at m (key j))) (take_more xs i d l) ∙ filter_last (λ j. is_at m (key j)) (take i xs) (get_or xs i d))))

-- a cell that an action changes is on a node of the cluster
changed_within : (c : Cluster) (a : Action) → IsActionWithin c a → IfSome (changed_node (step_cell a)) (λ m. m < length c.nodes)
changed_within c (Fence n) h = tt
changed_within c (Probe r n) h = tt
changed_within c (Operation op.Start r n i role) h = h.1
changed_within c (Operation op.Stop r n i role) h = h.1
changed_within c (Operation op.Promote r n i role) h = h.1
changed_within c (Operation op.Demote r n i role) h = h.1
changed_within c (Operation op.Monitor r n i role) h = tt
changed_within c (MigrateTo r s t) h = tt
changed_within c (MigrateFrom r s t) h = tt

pub node_within : (c : Cluster) (actions : List Action) → ((a : Action) → Contains actions a → IsActionWithin c a) → (place : ℕ) (v : Option ℕ) → place < length actions
    → v ≡ changed_node_at actions place → IfSome v (λ m. m < length c.nodes)
node_within c actions inside place v l e =
    let d = Fence 0 in
    let at = slice_get-get_or actions place d l in
    subst (λ w. IfSome w (λ m. m < length c.nodes)) (sym (e ∙ ap (λ w. option_map_or (λ a. changed_node (step_cell a)) w None) at))
    (changed_within c (get_or actions place d) (inside (get_or actions place d) (Contains-get_or actions place d l)))
