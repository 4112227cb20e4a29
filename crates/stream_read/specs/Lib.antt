pub mod Fields
pub mod Gathering
pub mod Left
pub mod Looked
pub mod Records
pub mod Scripts
pub mod Examples
