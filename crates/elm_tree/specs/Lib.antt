pub mod Tree
pub mod Words
pub mod View
pub mod Regroup
pub mod Turns
pub mod Examples
pub mod Written
