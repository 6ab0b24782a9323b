pub mod Once
pub mod View
pub mod Matches
pub mod Scopes
pub mod Shapes
