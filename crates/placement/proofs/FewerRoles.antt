-- Where a role is held the table has the cell, and without the role the table has fewer.
use Rattle.std.proofs.Common.{arith, ◌≡◌, ◌<◌, ◌≤◌, ◌+◌, ◌*◌, nat_lt, ℕ, Bool, true, false, if◌then◌else◌, inl, inr, refl, sym, ◌∙◌, ap, length, get_or, set}
use Rattle.std.specs.Prelude.{◌/◌, ◌%◌, slice_get, unwrap_or}
use Rattle.std.proofs.lemmas.Bool.{cases_lt, le-ltb, lt-ltb}
use Rattle.std.proofs.lemmas.List.{get_or_default, length-set, same_lists}
use Rattle.std.proofs.lemmas.List.Sums.{sum_by-set}
use Rattle.std.proofs.lemmas.Nat.{div-add-mod', mod_below}
use Rattle.std.proofs.lemmas.Option.{slice_get_past, unwrap_or-slice_get}
use Rattle.cluster_types.specs.declared.leaf.Role.{Role}
use Rattle.cluster_types.specs.declared.leaf.Role.TheVariants as role
use Rattle.cluster_types.specs.declared.placement.Table.{Table}
use Rattle.cluster_types.specs.declared.placement.Target.{Target}
use Rattle.cluster_types.specs.declared.placement.Target.TheVariants as target
use Rattle.cluster_types.specs.Tables.{holds_role, targets_of}
use Rattle.cluster_types.proofs.TableCells.{after_setting}
use Rattle.plan_laws.proofs.MadeOnes.{never_both}
use Rattle.plan_laws.proofs.StayHeld.{has, holds_is, nowhere_has_none}
use Rattle.placement.specs.Inner.Taking.{below, roles_in, roles_of, without}

module _ (table : Table) where
  past_nodes : (r n : ℕ) → table.nodes ≤ n → targets_of table r n ≡ target.Nowhere
  past_nodes r n le = let t : nat_lt n table.nodes ≡ false = le-ltb n table.nodes le in rw t refl

  past_cells : (r n : ℕ) → n < table.nodes → length table.targets ≤ r * table.nodes + n → targets_of table r n ≡ target.Nowhere
  past_cells r n on past =
      let t : nat_lt n table.nodes ≡ true = lt-ltb n table.nodes on in
      rw (t, slice_get_past table.targets (r * table.nodes + n) past) refl

  none_there : (r : ℕ) (given : Role) (n : ℕ) → holds_role (targets_of table) r given n ≡ true → targets_of table r n ≡ target.Nowhere → ⊥
  none_there r given n h e =
      never_both (has given target.Nowhere) (ap (has given) (sym e) ∙ (sym (holds_is (targets_of table) r given n) ∙ h)) (nowhere_has_none given)

  pub on_node : (r : ℕ) (given : Role) (n : ℕ) → holds_role (targets_of table) r given n ≡ true → n < table.nodes
  on_node r given n h = elim (cases_lt n table.nodes) [
    | inl lt ↦ lt
    | inr le ↦ absurd (none_there r given n h (past_nodes r n le))
  ]

  pub in_table : (r : ℕ) (given : Role) (n : ℕ) → holds_role (targets_of table) r given n ≡ true → r * table.nodes + n < length table.targets
  in_table r given n h = elim (cases_lt (r * table.nodes + n) (length table.targets)) [
    | inl lt ↦ lt
    | inr le ↦ absurd (none_there r given n h (past_cells r n (on_node r given n h) le))
  ]

-- what a table has at a place
at_place : (table : Table) (k : ℕ) (d : Target) → 0 < table.nodes → k < length table.targets
    → get_or table.targets k d ≡ targets_of table (k / table.nodes) (k % table.nodes)
at_place table k d some within =
    let e : k / table.nodes * table.nodes + k % table.nodes ≡ k = div-add-mod' k table.nodes in
    let t : nat_lt (k % table.nodes) table.nodes ≡ true = lt-ltb (k % table.nodes) table.nodes (mod_below k table.nodes some) in
    get_or_default table.targets k d target.Nowhere within
    ∙ sym (unwrap_or-slice_get table.targets k target.Nowhere)
    ∙ ap (λ (place : ℕ). unwrap_or (slice_get table.targets place) target.Nowhere) (sym e)
    ∙ ap (λ (b : Bool). if b then unwrap_or (slice_get table.targets (k / table.nodes * table.nodes + k % table.nodes)) target.Nowhere else target.Nowhere) (sym t)

-- two tables of one size that have the same targets have the same list
same_targets : (p q : Table) → p.nodes ≡ q.nodes → 0 < p.nodes → length p.targets ≡ length q.targets
    → ((r n : ℕ) → targets_of p r n ≡ targets_of q r n) → p.targets ≡ q.targets
same_targets p q nodes some size same =
    same_lists p.targets q.targets size (λ k d within.
    let also : 0 < q.nodes = omega arith in
    let within_too : k < length q.targets = omega arith in
    at_place p k d some within
    ∙ (same (k / p.nodes) (k % p.nodes) ∙ ap (λ (w : ℕ). targets_of q (k / w) (k % w)) nodes)
    ∙ sym (at_place q k d also within_too))

less_of : (t : Target) (given : Role) → has given t ≡ true → roles_of (below given) < roles_of t
less_of target.Nowhere role.Started h = cc
less_of target.Nowhere role.Promoted h = cc
less_of target.Started role.Started h = omega arith
less_of target.Started role.Promoted h = cc
less_of target.Promoted role.Started h = omega arith
less_of target.Promoted role.Promoted h = omega arith

pub fewer : (table left : Table) (r : ℕ) (given : Role) (n : ℕ) → holds_role (targets_of table) r given n ≡ true → left.nodes ≡ table.nodes
    → length left.targets ≡ length table.targets → ((s m : ℕ) → targets_of left s m ≡ without (targets_of table) r given n s m)
    → roles_in left.targets < roles_in table.targets
fewer table left r given n holds nodes size is =
    let on = on_node table r given n holds in
    let within = in_table table r given n holds in
    let place : ℕ = r * table.nodes + n in
    let made : Table = record { nodes = table.nodes; targets = set table.targets place (below given) } in
    let long : length left.targets ≡ length made.targets = size ∙ sym (length-set table.targets place (below given)) in
    let same : left.targets ≡ made.targets
    = same_targets left made nodes (omega arith) long (λ s m. is s m ∙ sym (after_setting table s m r n (below given) on within)) in
    let one = sum_by-set roles_of table.targets place (below given) target.Nowhere within in
    let was : targets_of table r n ≡ get_or table.targets place target.Nowhere = cell_there on within in
    let less : roles_of (below given) < roles_of (targets_of table r n)
    = less_of (targets_of table r n) given (sym (holds_is (targets_of table) r given n) ∙ holds) in
    rw same (omega (arith, one, ap roles_of was, less))
  where
    cell_there : n < table.nodes → r * table.nodes + n < length table.targets
        → targets_of table r n ≡ get_or table.targets (r * table.nodes + n) target.Nowhere
    cell_there on within =
        let t : nat_lt n table.nodes ≡ true = lt-ltb n table.nodes on in
        rw t (unwrap_or-slice_get table.targets (r * table.nodes + n) target.Nowhere)
