-- What no public clause rests on: what functions of the crates above say within a line, for their proofs alone.
pub mod Reading
