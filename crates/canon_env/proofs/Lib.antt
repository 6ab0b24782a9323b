-- the operators of the language are those whose level is below 10
pub mod Operators
-- environments to which names are added
pub mod Envs
-- more rows
pub mod Rows
-- lists and filters, one item after the other
pub mod Filtering
-- names that are added one after the other
pub mod Adding
-- faults in order
pub mod Ordering
-- names that stand twice
pub mod Repeating
-- one expression, branch, group or function more
pub mod CanonUsesAdding
pub mod Linking
