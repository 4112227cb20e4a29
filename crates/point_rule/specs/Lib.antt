pub mod Known
pub mod Sides
pub mod Examples
