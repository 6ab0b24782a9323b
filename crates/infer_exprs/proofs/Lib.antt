-- the sizes of groups
mod Measure
-- lets
mod Letting
-- the definitions of groups
mod Defining
-- type groups in turn
mod Grouped
-- constructors with all their fields
mod Building
-- the titles of definitions, and what is listed for them
pub mod Titles
-- annotations that are read, one after the other
pub mod Reading
-- definitions in turn
pub mod Looping
-- the names that come into scope
pub mod Scoping
-- the variables of an annotation inside its definition
pub mod Opening
-- an annotation inside its definition
pub mod Fixing
-- a pattern with its value: where it stops
pub mod Stopping
-- before and after its value
pub mod Around
-- definitions of a type group
pub mod Grouping
-- type groups that are closed
pub mod Closed
-- kinds of type groups
pub mod Sorts
