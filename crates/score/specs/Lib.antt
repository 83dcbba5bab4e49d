pub mod Inner
pub mod Total
pub mod ScoreText
pub mod Choice
pub mod NodeSet
pub mod Row
pub mod StoredRows
