pub mod Whole
pub mod Tasks
