-- types of their parts
pub mod OfParts
-- other variables in the place of variables, as a substitution
pub mod Substituting
-- classes that meet
pub mod Meeting
-- places of numbers in an order that grows
pub mod Places
-- what is said of a type, by its nodes
pub mod ByNodes
-- what is written is read again
pub mod Reading
pub mod Counting
pub mod Halving
-- names that are given in turn
pub mod Names
-- a walk over the nodes of a type
pub mod Walking
-- frames
pub mod Framing
mod EveryKind
-- names in ascending order
pub mod Ascending
-- what insertion gives
pub mod Inserted
