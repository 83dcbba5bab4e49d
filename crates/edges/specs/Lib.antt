pub mod Inner
pub mod Chains
pub mod Loops
pub mod Sources
pub mod LongestChains
pub mod Rows
