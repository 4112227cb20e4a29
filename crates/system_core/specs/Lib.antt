pub mod Core
pub mod Claiming
pub mod Holding
pub mod Examples
