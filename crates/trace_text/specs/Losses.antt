-- The printed lines of what the loss of each node does (rule of this project).
use Rattle.std.specs.Prelude.{ℕ, List, ◌++◌, codes}
use Rattle.std.specs.List.{flat_map}
use Rattle.cluster_types.specs.declared.cluster.Cluster.{Cluster}
use Rattle.cluster_types.specs.Tables.{targets_of}
use Rattle.cluster_types.specs.Texts.{node_name, run_line, target_lines}
use Rattle.cluster_types.specs.declared.report.Loss.{Loss}
use Rattle.cluster_types.specs.declared.report.Report.{Report}

-- `loss NODE`, and the target lines once that node is lost
abbrev pub loss_lines : Cluster → Loss → List ℕ
loss_lines c loss =
    codes "loss " ++ node_name c loss.node ++ codes "\n" ++ flat_map (run_line c) (target_lines c loss.pins (targets_of loss.table) loss.none)

-- the lines of each node of which the loss is told
abbrev pub survive_text : Cluster → Report → List ℕ
survive_text c report = flat_map (loss_lines c) report.losses
