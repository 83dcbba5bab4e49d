pub mod Inner
pub mod Attribute
pub mod WholeNumber
pub mod Compare
pub mod Rule
pub mod Calendar
pub mod Digits
pub mod Instant
