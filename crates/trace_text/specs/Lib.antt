pub mod Inner
pub mod Losses
pub mod RunLines
