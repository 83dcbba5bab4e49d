pub mod Fitting
pub mod OverLines
pub mod SomeEnds
