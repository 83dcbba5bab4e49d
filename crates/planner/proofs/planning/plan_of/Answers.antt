use Rattle.std.proofs.Common.{rules, ◌≡◌, sym, subst, ◌∙◌}
use Rattle.std.proofs.lemmas.Result.{IfOk-at_ok}
use Rattle.cluster_types.specs.declared.placement.Placed.{Placed}
use Rattle.cluster_types.specs.NeededActions.{Needed}
use Rattle.cluster_types.specs.Numbers.{AreNumbered}
use Rattle.cluster_types.specs.Plans.{IsPlaced}
use Rattle.cluster_types.specs.Tables.{targets_of}
use Rattle.planner.proofs.planning.plan_of.Goals as goal

pub number-graph-requires-clause-planned : goal.number-graph-requires-clause-planned
number-graph-requires-clause-planned c =
    let t = c.requires.told in
    let placed = c.in_ok-states.placed in
    let is = IfOk-at_ok _ c.in_ok-states.ensures.1 c.placement_of-placed.ensures t.events t.promotions t.told in
    let told = c.in_ok-states.ensures.0 ∙ t.told in
    record {
      events = t.events;
      promotions = t.promotions;
      placed = placed;
      goals = is;
      needed = IfOk-at_ok _ c.in_ok-states-2.ensures.1 c.actions-actions.ensures t.events t.promotions told (c.rights-rights.ensures t.events t.promotions told) is.pins;
    }

pub returns : goal.returns
returns c = λ events promotions told.
    let cl = c.args.cluster.now in
    let first = c.in_ok-states in
    let last = c.in_ok-states-3 in
    let same : last.states ≡ c.args.states = search rules in
    let placed : last.placed ≡ first.placed = search rules in
    let told_1 = first.ensures.0 ∙ told in
    let allowed = c.rights-rights.ensures events promotions told_1 in
    let is = IfOk-at_ok _ first.ensures.1 c.placement_of-placed.ensures events promotions told in
    let needed = IfOk-at_ok _ c.in_ok-states-2.ensures.1 c.actions-actions.ensures events promotions told_1 allowed is.pins in
    let numbered = IfOk-at_ok _ last.ensures.1 c.number-graph.ensures.numbered events (targets_of first.placed.table) needed in
    record {
      states = same ∙ told;
      rights = allowed;
      carries_out = record {
        plan = record {
          goals = subst (IsPlaced cl events promotions) (sym placed) is;
          numbered = subst (λ (p : Placed). AreNumbered cl (Needed cl events (targets_of p.table)) last.graph.actions) (sym placed) numbered;
        };
        pairs = IfOk-at_ok _ last.ensures.1 c.number-graph.ensures.pairs;
        few = IfOk-at_ok _ last.ensures.1 c.number-graph.ensures.few;
      };
    }
