pub mod Counts
pub mod Workload
pub mod Spaced
pub mod Examples
