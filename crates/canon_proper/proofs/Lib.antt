-- names in scopes
pub mod Scopes
-- sites without faults
pub mod Quiet
-- patterns without faults
pub mod Patterns
-- calls and chains of operators
pub mod Calls
-- where expressions stand
pub mod Stands
-- lists of names with none in common
pub mod Apart
-- what the definitions of a block become
pub mod Made
-- groups of definitions that use each other
pub mod Steps
-- the groups of a block
pub mod Blocks
-- expressions without faults
pub mod Exprs
-- narrower scopes
pub mod Narrowing
-- what the rows of names say
pub mod Rows
-- words and literals as units of UTF-16
pub mod Units
-- which names name modules
pub mod Homes
-- the names of modules by their paths
pub mod Paths
-- what the pieces of a text are
pub mod Pieces
-- where tokens stand
pub mod Order
-- how many tokens a text has
pub mod Counts
-- what each symbol of the grammar guarantees of words
pub mod Roles
-- what tokens guarantee by their classes
pub mod Classes
-- where the words of a value stand
pub mod Ranges
-- what is shown of each value
pub mod Values
-- what each action makes is spelled
pub mod Making
-- what each action makes has its words in order
pub mod Standing
-- along a derivation
pub mod Walking
-- what is shown of each value
pub mod ParsedFieldsValues
-- what each action makes
pub mod ParsedFieldsMaking
-- along a derivation
pub mod ParsedFieldsWalking
