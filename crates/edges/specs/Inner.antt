-- What no public clause rests on: what the code of this crate keeps and counts on the way, for its proofs alone.
pub mod Clearing
pub mod Rows
pub mod ShortWays
