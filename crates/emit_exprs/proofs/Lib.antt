-- lists of parts
pub mod Lists
-- one thing that is done with an expression
pub mod Done
-- definitions, choices and loops
pub mod Blocks
-- the next turn of a loop
pub mod Turning
-- what is added for a form
pub mod Kept
-- what is read of an expression, by its form
pub mod Forms
-- fields of a value, and what is done with it
pub mod Steps
-- rows that a loop goes through
pub mod Rows
-- turns are the calls among the values of a body
pub mod Exact
-- one part more
mod EmitFramesSteps
