pub mod Trees
pub mod Blocks
pub mod PlacesOfTrees
