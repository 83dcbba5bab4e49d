-- What no public clause rests on: what the code of this crate keeps and counts on the way, for its proofs alone.
pub mod AccountSoFar
pub mod AskedVerdicts
pub mod HeldTexts
pub mod JoinedLeaves
pub mod Journal
pub mod VerdictsByStates
pub mod LentParts
pub mod AccountInputs
pub mod Sides
pub mod Sources
pub mod PartsByStates
