pub mod Inner
pub mod Quoting
pub mod Items
pub mod Text
pub mod PrintedAgain
