use Rattle.cluster_model.proofs.ValidCluster.{resolved_valid}
use Rattle.cluster_model.proofs.laws.resolved_clusters_are_valid.Goals as goal

pub returns : goal.returns
returns c lines crm leaves cluster parsed expanded resolved = resolved_valid lines crm leaves cluster parsed expanded resolved
