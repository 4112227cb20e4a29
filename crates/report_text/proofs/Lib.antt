pub mod Legal
mod Counts
pub mod Wholes
mod Leads
mod Answering
mod Ports
