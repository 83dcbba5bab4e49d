pub mod Case
pub mod Draws
