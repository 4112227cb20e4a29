pub mod Right
pub mod Answers
pub mod Examples
