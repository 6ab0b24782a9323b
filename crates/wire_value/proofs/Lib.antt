-- a value, level by level
pub mod Views
-- what bytes spell, by whether they are UTF-8
pub mod Reading
-- items and members, one on
pub mod Converting
-- room for so many levels is a bound on the depth
pub mod Depths
-- what a step of the printer leaves
pub mod Printing
