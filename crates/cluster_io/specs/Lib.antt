pub mod Inner
pub mod LineReaders
pub mod Memory
pub mod NextLine
pub mod Readings
pub mod Standard
pub mod Streams
