-- What no public clause rests on: what the code of this crate keeps and counts on the way, for its proofs alone.
pub mod ComingSteps
pub mod Fronts
pub mod HeadSteps
pub mod PlainLines
pub mod ReadLaws
pub mod ReadSteps
pub mod RunEnds
pub mod LineFits
pub mod WriteResults
pub mod SourceFollowedLaws
