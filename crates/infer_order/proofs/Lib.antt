-- the uses of expressions, and of those with which things are done
pub mod Using
-- names that patterns bind
pub mod Binding
-- what a table has of names
pub mod Owning
-- definitions one after another, and what they use
pub mod Rows
-- definitions in written order
pub mod Written
-- definitions of the program in turn
pub mod Listing
-- lists side by side
pub mod Zips
-- where definitions stand
pub mod Placing
-- the definitions of a group
pub mod Standing
-- the order of groups of definitions
pub mod Grouping
