pub mod Merging
pub mod Inertia
pub mod Fronts
pub mod Swept
pub mod Normal
pub mod Sweeping
