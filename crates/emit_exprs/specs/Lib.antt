-- what is done with an expression, and lists of parts
pub mod Chains
-- where a return position stands
pub mod Turns
-- the values of an expression
pub mod Tails
-- fields, tests and constants
pub mod Frames
