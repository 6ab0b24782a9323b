pub mod Tree
pub mod Text
pub mod Subset
pub mod Faults
pub mod Postorder
pub mod Insides
pub mod NameReader
pub mod Automaton
