-- lists of parts
pub mod Lists
-- where the walk stands
pub mod Places
-- the constructs
pub mod Constructs
-- types use no local names
pub mod Unused
pub mod Chains
pub mod Linking
-- names that come into scope and go out of it
pub mod Scoping
-- logs that grow
pub mod Growing
-- one item more
pub mod Steps
-- lists of patterns
pub mod CanonPatternForms
-- tokens with values
pub mod CanonPatternValues
-- each number among the tokens of a text is safe
pub mod Lexed
-- what is neither a wildcard nor a literal is a name
pub mod NamedTokens
-- what a pattern means by what its parts mean
pub mod Meaning
-- what the name of a constructor means
pub mod Finding
-- which definition binds a name at a place
pub mod CanonBlocksBinding
-- what holds of lists of definitions
pub mod Listing
-- definitions that are taken out, one after the other
pub mod Taking
-- which definitions reach themselves
pub mod Marking
-- forms of expressions and patterns
pub mod CanonBlocksForms
-- what uses of values, constructors and operators mean, and their faults
pub mod Using
-- fields of records
pub mod Fielding
