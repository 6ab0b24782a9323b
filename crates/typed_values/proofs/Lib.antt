-- names and tests
pub mod Names
-- environments that fit a scope
pub mod Envs
-- substitution, and what it keeps
pub mod Rows
pub mod Keeping
pub mod Numbers
-- uses of names
pub mod Uses
-- patterns
pub mod Patterns
-- which values there are of a type, and the steps of evaluation
pub mod Forms
pub mod Fields
pub mod Unions
pub mod Makers
-- what goes out at ports
pub mod Sent
pub mod Comparing
pub mod Ported
pub mod Truths
pub mod Written
pub mod Calls
pub mod Operations
-- a world that holds together
pub mod SampleWorld
pub mod SampleFrame
