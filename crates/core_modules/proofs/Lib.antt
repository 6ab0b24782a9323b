-- signs, one after another
pub mod Left
-- whether one of a list is such
pub mod Any
-- the titles of functions
pub mod Titles
-- one part more
pub mod Adding
-- what is done with an expression
pub mod Linking
-- how many parts there are
pub mod Counting
-- types that are shared
mod Shared
-- one module more
mod Modules
