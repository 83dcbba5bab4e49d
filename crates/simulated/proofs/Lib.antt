pub mod Agreeing
pub mod Moments
mod Hearing
mod Firsts
mod Quiet
mod Running
mod Promoting
mod NextTurn
pub mod Within
pub mod Applying
pub mod Counting
mod Holding
mod Showing
mod Turned
pub mod Lived
pub mod FirstEvents
pub mod OneLife
pub mod Together
pub mod OneEnd
