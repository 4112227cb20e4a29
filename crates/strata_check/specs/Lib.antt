pub use Rattle.decl_known.specs.Occurrences
pub use Rattle.decl_known.specs.Layers
pub mod Rows
pub mod Walks
pub mod Searches
pub mod Ranks
