pub mod Runs
pub mod RunEnd
pub mod Steps
pub mod Given
pub mod Told
pub mod View
pub mod Lines
