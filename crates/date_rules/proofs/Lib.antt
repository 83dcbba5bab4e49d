pub mod WholeNumberLemmas
pub mod FormLemmas
pub mod DayLemmas
pub mod MomentLemmas
