pub mod Formed
pub mod Linked
pub mod Steps
pub mod Parts
pub mod Chains
pub mod Reading
