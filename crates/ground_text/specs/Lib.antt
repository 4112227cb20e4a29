pub mod GroundText
pub mod Examples
