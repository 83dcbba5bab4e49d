-- What no public clause rests on: what the code of this crate keeps and counts on the way, for its proofs alone.
pub mod Room
pub mod TargetWalk
pub mod Walk
