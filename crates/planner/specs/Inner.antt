-- What no public clause rests on: what the code of this crate keeps and counts on the way, for its proofs alone.
pub mod Actions
pub mod ByNeeds
pub mod Chains
pub mod Flags
pub mod Gates
pub mod Groups
pub mod Index
pub mod Joins
pub mod Knowing
pub mod Leaves
pub mod Levels
pub mod OnlineBefore
pub mod Places
pub mod Rooms
pub mod Serials
pub mod Works
