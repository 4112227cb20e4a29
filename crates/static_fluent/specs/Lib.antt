pub mod Constructs
pub mod Evaluated
