-- names of declarations, and their numbers
pub mod Numbers
-- groups of values and ports
pub mod Groups
-- what each declaration means
pub mod Values
-- the constructors of a module
pub mod Makers
-- first letters
pub mod Cases
-- rows of what modules show
pub mod Rows
-- the unions of a module
pub mod Unions
-- what a module shows
pub mod Showing
-- the whole module
pub mod Whole
-- declarations where all is in scope
pub mod Inside
-- the resolved module
pub mod Resolved
pub mod Parts
pub mod Calls
pub mod Blocks
pub mod Exprs
pub mod Modules
-- the names that patterns bind
mod Binding
-- expressions that bind no name of some
mod Clear
-- calls and chains of operators
mod CanonLetsCalls
-- the definitions of a block
mod CanonLetsBlocks
-- expressions without faults
pub mod CanonLetsExprs
-- modules without faults
pub mod CanonLetsModules
-- what a text guarantees of its declarations
pub mod Read
-- what crosses a port, by its type
pub mod Payloads
-- names of fields, each once
pub mod Once
-- parameters of aliases
pub mod Filling
-- written types
pub mod Written
-- the aliases of a module, each after those that it uses
pub mod Aliases
-- the ports of a module
pub mod Ports
-- the resolved module
pub mod PortProperResolved
