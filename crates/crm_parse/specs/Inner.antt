-- What no public clause rests on: what the code of this crate keeps and counts on the way, for its proofs alone.
pub mod GivenKeys
pub mod KeySets
pub mod Monitors
pub mod StatementNames
pub mod ReadForms
