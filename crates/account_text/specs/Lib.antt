pub mod Inner
pub mod Journal
