pub mod Inner
pub mod FirstLoops
pub mod Ranks
