pub mod Parts
pub mod Verdicts
pub mod Holders
pub mod Accounts
pub mod Grounds
pub mod BetterNodes
