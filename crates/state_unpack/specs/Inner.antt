-- What no public clause rests on: what the code of this crate keeps and counts on the way, for its proofs alone.
pub mod CellsKept
pub mod Facts
pub mod ToldCells
pub mod LeafFields
pub mod Operations
pub mod Signs
pub mod Tally
pub mod Touching
pub mod Unclean
