pub mod Congruence
pub mod Layers
pub mod Members
pub mod Points
pub mod Rows
pub mod Runs
pub mod Inertia
pub mod Legal
