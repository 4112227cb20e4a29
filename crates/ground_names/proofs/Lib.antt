mod InputEvents
pub mod EventBounds
pub mod Led
pub mod Caps
pub mod FirstFound
pub mod Ordered
pub mod Ranks
pub mod SmallNumbers
