pub mod Spacing
pub mod Drawings
