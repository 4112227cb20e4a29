pub mod Standing
pub mod Words
pub mod Occurring
pub mod Turned
pub mod Left
