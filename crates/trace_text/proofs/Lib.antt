pub mod MoreLines
pub mod ShortNames
-- A line has room.
pub mod ShortLines
-- From where edges lead to a position.
pub mod TurnedEdges
-- What a walk back finds.
pub mod Places
pub mod Backward
-- The next target line.
pub mod WalkOn
