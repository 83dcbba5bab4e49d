pub mod Inner
pub mod Facts
pub mod KeptCells
pub mod Signs
pub mod KeptKnowledge
pub mod Tally
pub mod Knowledge
