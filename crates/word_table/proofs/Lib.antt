pub mod WordLists
pub mod LookUps
