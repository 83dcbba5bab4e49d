-- The names of the causes for which a configuration says no cluster: each is that of its variant (rule of this project).
use Rattle.std.specs.Prelude.{ℕ, List, codes}
use Rattle.cluster_model.specs.declared.expansion.expand_fault.ExpandCause.{ExpandCause}
use Rattle.cluster_model.specs.declared.expansion.expand_fault.ExpandCause.TheVariants as expand
use Rattle.cluster_model.specs.declared.resolution.fault.ModelCause.{ModelCause}
use Rattle.cluster_model.specs.declared.resolution.fault.ModelCause.TheVariants as model

abbrev pub expand_name : ExpandCause → List ℕ
expand_name expand.DuplicateName = codes "DuplicateName"
expand_name expand.UnknownName = codes "UnknownName"
expand_name expand.NestedTwice = codes "NestedTwice"
expand_name expand.EmptyGroup = codes "EmptyGroup"
expand_name expand.MemberTwice = codes "MemberTwice"
expand_name expand.UnsupportedMeta = codes "UnsupportedMeta"

abbrev pub model_name : ModelCause → List ℕ
model_name model.UnknownName = codes "UnknownName"
model_name model.NotPromotable = codes "NotPromotable"
model_name model.UnsupportedOrder = codes "UnsupportedOrder"
model_name model.TooManyNodes = codes "TooManyNodes"
model_name model.TooManyLeaves = codes "TooManyLeaves"
model_name model.TooManyRules = codes "TooManyRules"
model_name model.ColocationLoop = codes "ColocationLoop"
model_name model.OrderLoop = codes "OrderLoop"
