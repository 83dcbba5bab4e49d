pub mod LineLaws
pub mod ShortLines
pub mod DrawLaws
