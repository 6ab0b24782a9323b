pub mod Answers
pub mod Host
pub mod Memory
pub mod States
pub mod Texts
pub mod Tree
