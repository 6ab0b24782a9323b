-- expressions
mod Forming
-- modules
mod Modules
-- names that an expression uses
mod Using
-- definitions that have a name
mod Counting
-- which definitions use which
mod Levels
-- type groups
mod Grouping
-- each `let`
pub mod Simple
-- names of fields, each once
mod Distinct
-- types with others in the place of parameters
mod Filling
-- written types
mod Written
-- expressions
pub mod Exprs
-- modules
pub mod AnnotationProperModules
-- what has no body
mod Declared
-- the groups of a module
mod InferReadyGrouping
-- what a module is compiled in
pub mod Around
-- what holds of each element of a list
mod Lists
-- the scope that a module stands in
pub mod Scope
-- what a text says of a module
pub mod Named
-- types that can be written into a store
pub mod Writing
-- what a module offers
pub mod Offered
-- the module
pub mod ModuleReadyModules
