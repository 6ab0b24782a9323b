pub mod Names
pub mod Uses
pub mod Lets
pub mod Resolved
pub mod Forms
mod Inferred
pub mod Placed
-- constructors
pub mod Makers
-- what crosses ports
pub mod Payloads
-- ports
pub mod Ports
-- types and unions that are spelled alike
pub mod Spelled
-- what a module has that lacks nothing
pub mod Facts
-- the unions of the core library
pub mod Unions
-- what holds of each element of a list
pub mod Lists
-- parameters of aliases
pub mod Filling
-- written types
pub mod Types
-- the aliases of a module, each after those that it uses
pub mod Aliases
-- the module
pub mod Modules
pub mod Parts
pub mod Calls
pub mod Blocks
pub mod Exprs
pub mod CanonFieldsModules
-- how often names stand in lists
pub mod Counts
-- the names that a module declares
pub mod Once
-- each declaration of a module
pub mod Each
-- the names that a module defines
pub mod Defined
-- what holds of each element of a list
pub mod ToldOffersLists
-- what a module offers
pub mod Offers
