pub mod Walks
pub mod Table
pub mod Grows
