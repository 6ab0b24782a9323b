-- parts of the items of a module
pub mod Parts
mod Lists
pub mod Patterns
pub mod Groups
pub mod Expressions
pub mod Modules
-- constants that stand nowhere else
pub mod Fresh
-- fields of records that are renamed, and that types are put in
pub mod Rows
-- types of which each is an instance of the other
pub mod Matching
-- principal types
pub mod Sizes
-- the order in which variables appear
pub mod Orders
-- principal types with their variables in order
pub mod Ordered
-- first bad items
pub mod Faults
-- modules
pub mod PrincipalTypesModules
-- the variables that appear
pub mod Members
-- schemes with their variables in order
pub mod Renaming
-- their instances
pub mod Instances
-- lacked fields in order
pub mod Lacked
-- principal types
pub mod Principal
-- what is told of a module
pub mod Told
