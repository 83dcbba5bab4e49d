use Rattle.std.proofs.Common.{rules, ◌≡◌, ◌<◌, All, IfSome, length, subst, sym}
use Rattle.std.specs.List.Sorted.{IsPermutation}
use Rattle.std.proofs.lemmas.Fn.{always_returns_same}
use Rattle.cluster_types.specs.Numbers.{action_place}
use Rattle.planner.specs.Inner.Flags.{send_if}
use Rattle.planner.proofs.ValidRules.{sent_leaves}
use Rattle.loops.specs.Ranks.{AreMigrating}
use Rattle.planner.proofs.Sorted.{in_order, still_migrating}
use Rattle.planner.proofs.WholeOrder.{planned_within}
use Rattle.planner.proofs.by_number.in_number_order.Goals as goal

pub migrating_flags-requires : goal.migrating_flags-requires
migrating_flags-requires c =
    let long : c.len.result ≡ length c.args.cluster.now.leaves = search rules in
    let is : c.as_slice.result.now ≡ c.args.actions.items = search rules in record {
      inside =
          subst (λ n. All (λ a. IfSome (send_if a) (λ r. r < n)) c.as_slice.result.now) (sym long)
          (subst (λ v. All (λ a. IfSome (send_if a) (λ r. r < length c.args.cluster.now.leaves)) v) (sym is)
          (sent_leaves c.args.cluster.now c.args.actions.items (planned_within c.args.cluster.now c.args.actions.items c.requires.planned)));
    }

pub returns-clause-in_order : goal.returns-clause-in_order
returns-clause-in_order c =
    let xs = c.args.actions.items in
    let ys = c.sort_by_cached_key.new.self.items in
    let moved : IsPermutation xs ys = search rules in
    let flagged : AreMigrating xs c.as_slice-flags.result.now = search rules in
    let flags = still_migrating xs ys c.as_slice-flags.result.now moved flagged in
    in_order c.args.cluster.now c.requires.valid xs ys c.requires.planned moved
    (c.in_ok-sort_by_cached_key.ensures.sorted (action_place c.args.cluster.now ys) (always_returns_same _ _ _ (λ a r f' k. search rules)))
