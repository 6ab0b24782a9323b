-- each field once
pub mod Once
-- names that patterns bind
pub mod Binding
-- patterns without parts
pub mod Leaves
-- constructors
pub mod Beginning
-- patterns in turn
pub mod Turns
-- the items of a list
pub mod Listing
-- names of patterns in scope
pub mod Entering
-- names before those that were bound
pub mod Adding
-- variables of constructors
pub mod Shaping
