pub mod GroundLines
pub mod GroundTexts
pub mod UnitCounts
