pub mod Numbers
pub mod Counted
pub mod Found
pub mod EventAtoms
-- For private functions alone.
pub mod EventNames
pub mod Noted
pub mod Reached
