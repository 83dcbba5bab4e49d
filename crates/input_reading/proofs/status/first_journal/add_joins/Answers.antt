use Rattle.std.proofs.Common.{◌≡◌, ◌+◌, ◌++◌, ◌∷◌, [], map, arith, append_assoc}
use Rattle.std.proofs.lemmas.List.FromFn.{map-range_with_len_more}
use Rattle.std.specs.List.{range_with_len}
use Rattle.cluster_types.specs.declared.journal.Event.TheVariants.{Up}
use Rattle.input_reading.proofs.status.first_journal.add_joins.Goals as goal

pub loop-node-preserved : goal.loop-node-preserved
loop-node-preserved c =
    let n = c.loop-node.node in
    let step : map Up (range_with_len 0 (n + 1)) ≡ map Up (range_with_len 0 n) ++ Up n ∷ [] = map-range_with_len_more Up 0 n n (omega arith) in
    let added : c.add.new.events ≡ c.loop-node.events ++ Up n ∷ [] = c.in_ok-add.ensures in
    let grouped = append_assoc c.args.events.now (map Up (range_with_len 0 n)) (Up n ∷ []) in
    cc
