-- what a filter lets through is what is exposed
pub mod Offering
-- the constructor of an alias
pub mod Records
-- a module with its types, its ports and its values
pub mod Whole
-- names of one declaration more
pub mod Joining
-- the number of a name, one declaration after the other
pub mod Numbering
-- what declarations mean, one after the other
pub mod Meaning
-- groups of declarations
pub mod Grouping
-- what holds of a value that is made by steps
pub mod Outcome
