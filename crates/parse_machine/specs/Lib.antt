pub mod Grammar
pub mod Plan
pub mod Rows
pub mod Planned
pub mod Stopped
