pub mod Trees
pub mod Copies
