pub mod Named
pub mod Inside
pub mod Bodies
