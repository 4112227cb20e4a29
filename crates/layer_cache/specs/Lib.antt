pub mod Rows
pub mod Shapes
pub mod Cached
pub mod Told
pub mod Examples
