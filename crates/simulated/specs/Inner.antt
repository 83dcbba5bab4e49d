-- What no public clause rests on: what the code of this crate keeps and counts on the way, for its proofs alone.
pub mod Firsts
pub mod RealityLists
pub mod NodeTurns
pub mod Turns
pub mod WorldTexts
pub mod WorldLaws
