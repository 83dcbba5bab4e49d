-- Examples of what is in flight, what an answer adds, and which lines are printed.
use Rattle.std.proofs.Common.{◌≡◌, List, [], ◌∷◌, refl}
use Rattle.std.specs.Prelude.{codes}
use Rattle.cluster_types.specs.declared.cluster.Cluster.{Cluster}
use Rattle.cluster_types.specs.declared.journal.Action.TheVariants.{Fence, Probe, Operation}
use Rattle.cluster_types.specs.declared.journal.Answer.TheVariants as answer
use Rattle.cluster_types.specs.declared.journal.Event.{Event}
use Rattle.cluster_types.specs.declared.journal.Event.TheVariants.{Up, Lost, Begin, Ended}
use Rattle.cluster_types.specs.declared.journal.Outcome.TheVariants.{Code, Gone}
use Rattle.cluster_types.specs.declared.leaf.Op.TheVariants.{Start, Monitor}
use Rattle.cluster_types.specs.declared.leaf.Role.TheVariants as role
use Rattle.cluster_types.specs.declared.run.Passed.{Passed}
use Rattle.cluster_types.specs.declared.run.PassedEnd.TheVariants.{Complete}
use Rattle.cluster_types.specs.declared.run.RunLine.TheVariants as line
use Rattle.cluster_types.specs.Journals.{in_flight_by_begin}
use Rattle.cluster_types.specs.Safety.{without_gone}
use Rattle.cluster_types.specs.Steps.{Transition, answer_events, idling}
use Rattle.cluster_types.specs.Texts.{all_passed_lines, between, event_lines}
use Rattle.cluster_types.proofs.SmallClusters.{plain_leaf, two_nodes, online, step}
use Rattle.cluster_types.proofs.SmallRuns.{transition}

-- Actions are in flight in the order in which they began, and not of their numbers.

began_later : in_flight_by_begin (Begin 1 (Probe 0 0) ∷ Begin 2 (Probe 1 0) ∷ Ended 2 (Probe 1 0) (Code 7) 0 ∷ Begin 4 (step Start 1 0) ∷ Ended 1 (Probe 0 0) (Code 7) 0 ∷ Begin 3 (step Start 0 0) ∷ [])
    ≡ (4, step Start 1 0) ∷ (3, step Start 0 0) ∷ []
began_later = refl

-- A node is lost while it is probed and another is fenced: the probe is gone with it, and the fence stays in flight.

abbrev one : Cluster
one = two_nodes (plain_leaf (codes "vip") ∷ [])

abbrev watched : Transition
watched = transition one (Fence 0 ∷ Probe 0 1 ∷ []) (online [] 1000)

abbrev both_begun : List Event
both_begun = Begin 1 (Fence 0) ∷ Begin 2 (Probe 0 1) ∷ []

lost_with_its_probe : answer_events watched both_begun (answer.Lost 1) ≡ Ended 2 (Probe 0 1) Gone 1000 ∷ Lost 1 ∷ []
lost_with_its_probe = refl

fence_goes_on : answer_events watched both_begun (answer.Lost 0) ≡ Lost 0 ∷ []
fence_goes_on = refl

lost_while_idle : answer_events (idling one (online [] 1000)) [] (answer.Lost 1) ≡ Lost 1 ∷ []
lost_while_idle = refl

before_the_loss : without_gone (Up 1 ∷ Ended 2 (Probe 0 1) Gone 1000 ∷ []) ≡ Up 1 ∷ []
before_the_loss = refl

-- What is gone prints nothing, a report prints as it was given, and an end with its number.

gone_prints_nothing : event_lines (Ended 2 (Probe 0 1) Gone 1000) ≡ []
gone_prints_nothing = refl

report_prints : event_lines (Ended 0 (Operation Monitor 0 1 10 role.Started) (Code 7) 5) ≡ line.Taken (answer.Report 1 0 10 7) ∷ []
report_prints = refl

end_prints : event_lines (Ended 3 (Operation Monitor 0 1 10 role.Started) (Code 7) 5) ≡ line.Taken (answer.End 3 7) ∷ []
end_prints = refl

middle : between 1 3 (Up 0 ∷ Up 1 ∷ Up 2 ∷ Up 3 ∷ []) ≡ Up 1 ∷ Up 2 ∷ []
middle = refl

-- A loss while nothing is to be done prints behind the transition that is complete.

abbrev nothing_done : Passed
nothing_done = record { pins = []; table = record { nodes = 2; targets = [] }; none = []; begins_at = 2; ends_at = 2; end = Complete }

loss_at_the_end : all_passed_lines one (Up 0 ∷ Up 1 ∷ Lost 1 ∷ []) 1 (nothing_done ∷ [])
    ≡ line.Transition 1 ∷ line.Complete 1 ∷ line.Taken (answer.Lost 1) ∷ []
loss_at_the_end = refl
