pub mod Rising
pub mod Borders
pub mod Gathered
