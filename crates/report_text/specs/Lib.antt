pub mod Report
pub mod Printed
pub mod EventLines
-- For tests alone.
pub mod Examples
