use Rattle.std.proofs.Common.{rules, ℕ, List, Contains, sym, subst}
use Rattle.std.specs.List.Sorted.{IsPermutation}
use Rattle.std.proofs.lemmas.List.Sorted.{Contains-permutation, IsPermutation-sym}
use Rattle.cluster_types.specs.Tables.{targets_of}
use Rattle.placement.specs.declared.held_targets.dependencies.Dependency.{Dependency}
use Rattle.placement.specs.Inner.Taking.{IsRuleSettled, TakenAway}
use Rattle.placement.proofs.TakenSteps.{taken_among, taken_on}
use Rattle.placement.proofs.held_targets.final_targets.rest_of.Goals as goal

pub returns-clause-taken : goal.returns-clause-taken
returns-clause-taken c =
    let all = c.args.rules.items in
    let sorted = c.sort_by_primary.new.rules.items in
    let same : IsPermutation all sorted = search rules in
    let first = c.args.table in
    let middle = c.in_ok-left.left in
    let last = c.settled.result in
    let spread : TakenAway sorted first.nodes (targets_of first) (targets_of middle)
    = subst (λ (xs : List Dependency). TakenAway xs first.nodes (targets_of first) (targets_of middle)) c.as_slice.ensures.value c.in_ok-left.ensures.taken in
    let more : TakenAway sorted middle.nodes (targets_of middle) (targets_of last)
    = subst (λ (xs : List Dependency). TakenAway xs middle.nodes (targets_of middle) (targets_of last)) c.as_slice-2.ensures.value c.settled.ensures.taken in
    taken_among sorted all (λ rule among. Contains-permutation sorted all rule (IsPermutation-sym all sorted same) among) first.nodes (targets_of first) (targets_of last)
    (taken_on sorted first.nodes (targets_of first) (targets_of middle) (targets_of last) spread
    (subst (λ (n : ℕ). TakenAway sorted n (targets_of middle) (targets_of last)) c.in_ok-left.ensures.nodes more))

pub returns-clause-settled : goal.returns-clause-settled
returns-clause-settled c = λ rule among.
    let all = c.args.rules.items in
    let sorted = c.sort_by_primary.new.rules.items in
    let same : IsPermutation all sorted = search rules in
    subst (λ (n : ℕ). IsRuleSettled n (targets_of c.settled.result) rule) c.in_ok-left.ensures.nodes
    (c.settled.ensures.settled rule (subst (λ (xs : List Dependency). Contains xs rule) (sym c.as_slice-2.ensures.value) (Contains-permutation all sorted rule same among)))
