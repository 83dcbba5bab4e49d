mod AccountExamples
pub mod Totals
pub mod ScoresLines
pub mod TrueVerdicts
pub mod BestChosen
pub mod TrueHolders
pub mod OneAccount
