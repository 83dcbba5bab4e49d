pub mod Ends
pub mod PhysicalLines
pub mod Groups
pub mod Joints
pub mod Faults
pub mod Words
pub mod PlainLines
pub mod Answered
pub mod WordRoom
pub mod LineFaults
pub mod Pieces
pub mod FaultOrder
mod Orders
