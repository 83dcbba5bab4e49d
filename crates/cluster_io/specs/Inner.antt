-- What no public clause rests on: what the code of this crate keeps and counts on the way, for its proofs alone.
pub mod Reads
pub mod FoundLines
pub mod ReaderTurns
pub mod Scanning
pub mod HeldLines
pub mod Windows
pub mod Attempts
