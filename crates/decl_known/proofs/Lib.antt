pub mod Gathering
pub mod LookUps
pub mod Anys
pub mod Greatest
pub mod ComputedKinds
pub mod Faultless
