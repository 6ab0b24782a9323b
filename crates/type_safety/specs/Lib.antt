pub mod Binding
pub mod Expressions
pub mod Modules
pub mod Sample
pub mod Matches
pub mod Resolved
