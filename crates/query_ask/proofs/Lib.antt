mod RowCounts
mod Lamps
pub mod Reading
pub mod TrueAnswers
