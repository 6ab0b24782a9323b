pub mod Examples
pub mod Paths
pub mod Project
pub mod View
