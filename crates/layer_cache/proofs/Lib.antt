pub mod Shaping
pub mod Emptying
