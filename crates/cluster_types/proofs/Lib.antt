pub mod SmallClusters
mod StateExamples
mod PlaceExamples
mod PrecedenceExamples
pub mod Booleans
pub mod MayLaws
pub mod JournalLaws
pub mod Paths
pub mod TableCells
pub mod LeafReasons
pub mod LeastSets
pub mod NumberLaws
pub mod RisingEdges
pub mod StepLaws
pub mod EagerLaws
pub mod NeverStuck
pub mod SafetyLaws
pub mod Few
pub mod NeededLaws
pub mod SmallRuns
mod RunExamples
mod FencingExamples
mod HistoryExamples
mod PromotionExamples
mod HeldExamples
mod TermExamples
mod MigrationExamples
mod LineExamples
mod ValidExamples
pub mod Walks
pub mod StatesKept
pub mod PinnedLeaves
pub mod Loads
pub mod Moments
pub mod SilentEnds
pub mod GateGroups
pub mod OpLaws
pub mod RuleLeaves
pub mod Operations
pub mod PrecedesLaws
pub mod OrderLinks
pub mod LastSigns
pub mod SourceLaws
mod GuardExamples
mod MigrationGuards
mod RecoveryGuards
mod AnswerGuards
mod PlacementGuards
