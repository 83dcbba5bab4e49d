-- What no public clause rests on: what the code of this crate keeps and counts on the way, for its proofs alone.
pub mod Flights
pub mod ClearedPositions
pub mod KeptTransitions
pub mod Logs
pub mod Rounds
pub mod ExecutorFields
pub mod Turns
