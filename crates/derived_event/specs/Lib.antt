pub mod Happening
pub mod Borders
pub mod Examples
