pub mod Lookups
pub mod Turning
pub mod Wording
pub mod Merged
pub mod Reading
