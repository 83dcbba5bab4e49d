pub mod OfPlans
pub mod OnePlan
pub mod TwoRuns
pub mod KeptLines
